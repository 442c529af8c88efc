-- Acts, events and plans of a script, by their words.
use Rattle.spec_ideal.specs.VnodeImage.{most_contents}
use Rattle.std.specs.Prelude.{ℕ, Bool, true, false, List, Result, Ok, Err}
use Rattle.std.specs.Option.{ok_or}
use Rattle.afs_num.specs.declared.types.Node.{Node}
use Rattle.afs_num.specs.declared.types.Node.TheVariants as nodes
use Rattle.afs_num.specs.declared.scripts.Reason.{Reason}
use Rattle.afs_num.specs.declared.scripts.Reason.TheVariants as reasons
use Rattle.spec_model.specs.ScriptWords.{◌>>=◌, word_at, no_word_left, number_at}
use Rattle.spec_history.specs.declared.acts.Act.{Act}
use Rattle.spec_history.specs.declared.acts.Act.TheVariants as acts
use Rattle.spec_history.specs.declared.scripts.AdminAct.{AdminAct}
use Rattle.spec_history.specs.declared.scripts.AdminAct.TheVariants as admin_acts
use Rattle.spec_history.specs.declared.scripts.Task.{Task}
use Rattle.spec_history.specs.declared.scripts.Task.TheVariants as tasks
use Rattle.spec_history.specs.declared.scripts.Plan.{Plan}
use Rattle.spec_history.specs.declared.scripts.Plan.TheVariants as plans
use Rattle.spec_history.specs.declared.scripts.Event.{Event}
use Rattle.spec_history.specs.declared.scripts.Event.TheVariants as events
use Rattle.afs_words.specs.declared.nodes.Counts.{Counts}
use Rattle.afs_grammar.specs.declared.spellings.FirstWord.{FirstWord}
use Rattle.afs_grammar.specs.declared.spellings.FirstWord.TheVariants as firsts
use Rattle.afs_grammar.specs.declared.spellings.ActWord.{ActWord}
use Rattle.afs_grammar.specs.declared.spellings.ActWord.TheVariants as words
use Rattle.afs_grammar.specs.declared.spellings.AdminWord.{AdminWord}
use Rattle.afs_grammar.specs.declared.spellings.AdminWord.TheVariants as admin_words
use Rattle.afs_grammar.specs.declared.spellings.PlanWord.{PlanWord}
use Rattle.afs_grammar.specs.declared.spellings.PlanWord.TheVariants as plan_words
use Rattle.afs_grammar.specs.Spellings.{act_spelled, admin_spelled, plan_spelled}
use Rattle.afs_words.specs.Words.{actors, all_nodes, callees, callers, disk_nodes, node_at, server_at, name_at, label_at, act_path_at, operand_at, written_at, mode_at}

-- ---- acts of clients

-- of a link's text, and of an access list
abbrev pub most_text : ℕ
most_text = 1024

abbrev pub Words : Type 0
Words = List (List ℕ)

unfoldable pub act_parts : ActWord → Words → Result (Act × Words) Reason
act_parts words.Open ws = do
  o ← operand_at ws
  Ok (acts.Open o.0, o.1)
act_parts words.List ws = do
  o ← operand_at ws
  Ok (acts.ListNames o.0, o.1)
act_parts words.ReadLink ws = do
  o ← operand_at ws
  Ok (acts.ReadLink o.0, o.1)
act_parts words.Stat ws = do
  o ← operand_at ws
  Ok (acts.Stat o.0, o.1)
act_parts words.StatAll ws = do
  o ← operand_at ws
  Ok (acts.StatAll o.0, o.1)
act_parts words.Close ws = do
  o ← operand_at ws
  bytes ← written_at most_contents o.1
  Ok (acts.Close o.0 bytes.0, bytes.1)
act_parts words.Make ws = do
  p ← act_path_at ws
  Ok (acts.Make p.0, p.1)
act_parts words.MkDir ws = do
  p ← act_path_at ws
  Ok (acts.MakeDirectory p.0, p.1)
act_parts words.Rm ws = do
  p ← act_path_at ws
  Ok (acts.Remove p.0, p.1)
act_parts words.RmDir ws = do
  p ← act_path_at ws
  Ok (acts.RemoveDirectory p.0, p.1)
act_parts words.Mv ws = do
  from ← act_path_at ws
  to ← act_path_at from.1
  Ok (acts.Move from.0 to.0, to.1)
act_parts words.Ln ws = do
  target ← act_path_at ws
  p ← act_path_at target.1
  Ok (acts.Link target.0 p.0, p.1)
act_parts words.Symlink ws = do
  p ← act_path_at ws
  target ← written_at most_text p.1
  Ok (acts.Symlink p.0 target.0, target.1)
act_parts words.ChMod ws = do
  o ← operand_at ws
  mode ← mode_at o.1
  Ok (acts.SetMode o.0 mode.0, mode.1)
act_parts words.SetAcl ws = do
  o ← operand_at ws
  text ← written_at most_text o.1
  Ok (acts.SetAccessList o.0 text.0, text.1)
act_parts words.GetAcl ws = do
  o ← operand_at ws
  Ok (acts.GetAccessList o.0, o.1)
act_parts words.GiveUp ws = Ok (acts.GiveUp, ws)

unfoldable pub client_act_read : Words → Result Act Reason
client_act_read ws = do
  word ← word_at ws
  named ← ok_or (act_spelled word.0) reasons.Word
  act ← act_parts named word.1
  done ← no_word_left act.1
  Ok act.0

-- ---- acts of administrators

unfoldable pub dump_act_in : List ℕ → Words → Result (AdminAct × Words) Reason
dump_act_in name ws = do
  label ← label_at ws
  from ← number_at 0 4294967295 label.1
  Ok (admin_acts.Dump name label.0 from.0, from.1)

unfoldable pub admin_parts : Counts → AdminWord → List ℕ → Words → Result (AdminAct × Words) Reason
admin_parts c admin_words.Create name ws = do
  server ← server_at c ws
  quota ← number_at 1 16384 server.1
  Ok (admin_acts.Create name server.0 quota.0, quota.1)
admin_parts c admin_words.Restore name ws = do
  server ← server_at c ws
  label ← label_at server.1
  Ok (admin_acts.Restore name server.0 label.0, label.1)
admin_parts c admin_words.AddSite name ws = do
  server ← server_at c ws
  Ok (admin_acts.AddSite name server.0, server.1)
admin_parts c admin_words.Backup name ws = Ok (admin_acts.Backup name, ws)
admin_parts c admin_words.Release name ws = Ok (admin_acts.Release name, ws)
admin_parts c admin_words.Move name ws = do
  server ← server_at c ws
  Ok (admin_acts.Move name server.0, server.1)
admin_parts c admin_words.Dump name ws = dump_act_in name ws
admin_parts c admin_words.Remove name ws = Ok (admin_acts.Remove name, ws)
admin_parts c admin_words.Recover name ws = Ok (admin_acts.Recover name, ws)

-- each act names its volume first
unfoldable pub admin_act_read : Counts → Words → Result AdminAct Reason
admin_act_read c ws = do
  word ← word_at ws
  named ← ok_or (admin_spelled word.0) reasons.Word
  name ← name_at 32 word.1
  act ← admin_parts c named name.0 name.1
  done ← no_word_left act.1
  Ok act.0

-- a client or an administrator
unfoldable pub task_of : Counts → Node → Words → Result Task Reason
task_of c (nodes.Client n) ws = do
  act ← client_act_read ws
  Ok (tasks.Client n act)
task_of c (nodes.Admin n) ws = do
  act ← admin_act_read c ws
  Ok (tasks.Admin n act)
task_of c node ws = Err reasons.Node

unfoldable pub task_at : Counts → Words → Result Task Reason
task_at c ws = do
  node ← node_at actors c ws
  task_of c node.0 node.1

-- ---- plans

unfoldable pub plan_parts : Counts → PlanWord → Words → Result (Plan × Words) Reason
plan_parts c plan_words.Lose ws = do
  from ← node_at all_nodes c ws
  to ← node_at all_nodes c from.1
  nth ← number_at 1 4294967295 to.1
  Ok (plans.Lose from.0 to.0 nth.0, nth.1)
plan_parts c plan_words.Repeat ws = do
  from ← node_at all_nodes c ws
  to ← node_at all_nodes c from.1
  nth ← number_at 1 4294967295 to.1
  Ok (plans.Repeat from.0 to.0 nth.0, nth.1)
plan_parts c plan_words.Crash ws = do
  server ← server_at c ws
  nth ← number_at 1 4294967295 server.1
  Ok (plans.Crash server.0 nth.0, nth.1)

unfoldable pub plan_at : Counts → Words → Result Plan Reason
plan_at c ws = do
  word ← word_at ws
  named ← ok_or (plan_spelled word.0) reasons.Word
  plan ← plan_parts c named word.1
  done ← no_word_left plan.1
  Ok plan.0

-- ---- events: each behind its word

unfoldable pub act_event : Counts → Words → Result (Event × Words) Reason
act_event c ws = do
  node ← node_at actors c ws
  Ok (events.Act node.0, node.1)

unfoldable pub deliver_event : Words → Result (Event × Words) Reason
deliver_event ws = do
  place ← number_at 1 18446744073709551615 ws
  Ok (events.Deliver place.0, place.1)

unfoldable pub timeout_event : Counts → Words → Result (Event × Words) Reason
timeout_event c ws = do
  node ← node_at callers c ws
  callee ← node_at (callees node.0) c node.1
  Ok (events.Timeout node.0 callee.0, callee.1)

unfoldable pub wake_event : Counts → Words → Result (Event × Words) Reason
wake_event c ws = do
  server ← server_at c ws
  Ok (events.Wake server.0, server.1)

unfoldable pub tick_event : Words → Result (Event × Words) Reason
tick_event ws = do
  ticks ← number_at 1 4294967295 ws
  Ok (events.Tick ticks.0, ticks.1)

-- what has a disk falls with a pick
abbrev pub has_disk : Node → Bool
has_disk nodes.Loc = true
has_disk (nodes.Server n) = true
has_disk node = false

unfoldable pub crash_of : Node → Bool → Words → Result (Event × Words) Reason
crash_of node true ws = do
  pick ← number_at 0 3 ws
  Ok (events.CrashDisk node pick.0, pick.1)
crash_of node false ws = Ok (events.Crash node, ws)

unfoldable pub crash_event : Counts → Words → Result (Event × Words) Reason
crash_event c ws = do
  node ← node_at all_nodes c ws
  crash_of node.0 (has_disk node.0) node.1

unfoldable pub restart_event : Counts → Words → Result (Event × Words) Reason
restart_event c ws = do
  node ← node_at all_nodes c ws
  Ok (events.Restart node.0, node.1)

unfoldable pub stop_event : Counts → Words → Result (Event × Words) Reason
stop_event c ws = do
  node ← node_at disk_nodes c ws
  calls ← number_at 0 4294967295 node.1
  pick ← number_at 0 3 calls.1
  Ok (events.Stop node.0 calls.0 pick.0, pick.1)

unfoldable pub fail_event : Counts → Words → Result (Event × Words) Reason
fail_event c ws = do
  node ← node_at disk_nodes c ws
  call ← number_at 1 4294967295 node.1
  Ok (events.Fail node.0 call.0, call.1)

-- the event of a line that begins with this word; no other word begins one
abbrev pub event_at : FirstWord → Counts → Words → Result (Event × Words) Reason
event_at firsts.Act c ws = act_event c ws
event_at firsts.Deliver c ws = deliver_event ws
event_at firsts.Drain c ws = Ok (events.Drain, ws)
event_at firsts.Timeout c ws = timeout_event c ws
event_at firsts.Wake c ws = wake_event c ws
event_at firsts.Tick c ws = tick_event ws
event_at firsts.Crash c ws = crash_event c ws
event_at firsts.Restart c ws = restart_event c ws
event_at firsts.Stop c ws = stop_event c ws
event_at firsts.Fail c ws = fail_event c ws
event_at first c ws = Err reasons.Word
