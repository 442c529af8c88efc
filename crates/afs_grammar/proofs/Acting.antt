-- Acts, plans and events that are read are of nodes of the cell, and within their limits.
use Rattle.spec_ideal.specs.VnodeImage.{most_contents}
use Rattle.std.proofs.Common.{◌≡◌, ℕ, Bool, true, false, List, Ok, subst}
use Rattle.std.specs.Option.{ok_or}
use Rattle.afs_num.specs.declared.types.Node.{Node}
use Rattle.afs_num.specs.declared.types.Node.TheVariants as nodes
use Rattle.afs_num.specs.declared.scripts.Reason.{Reason}
use Rattle.afs_num.specs.declared.scripts.Reason.TheVariants as reasons
use Rattle.spec_history.specs.declared.acts.Act.{Act}
use Rattle.spec_history.specs.declared.acts.Operand.{Operand}
use Rattle.spec_history.specs.declared.acts.Path.{Path}
use Rattle.spec_history.specs.declared.acts.Written.{Written}
use Rattle.spec_history.specs.declared.scripts.AdminAct.{AdminAct}
use Rattle.spec_history.specs.declared.scripts.Event.{Event}
use Rattle.spec_history.specs.declared.scripts.Plan.{Plan}
use Rattle.spec_history.specs.declared.scripts.Task.{Task}
use Rattle.spec_model.specs.ScriptWords.{no_word_left, number_at, word_at}
use Rattle.spec_model.proofs.ScriptReaders.{bound, ok_of}
use Rattle.afs_words.specs.declared.nodes.Counts.{Counts}
use Rattle.afs_words.specs.Words.{act_path_at, actors, all_nodes, callees, callers, disk_nodes, label_at, mode_at, name_at, node_at, operand_at, server_at, written_at}
use Rattle.afs_grammar.specs.declared.spellings.ActWord.{ActWord}
use Rattle.afs_grammar.specs.declared.spellings.ActWord.TheVariants as words
use Rattle.afs_grammar.specs.declared.spellings.AdminWord.{AdminWord}
use Rattle.afs_grammar.specs.declared.spellings.AdminWord.TheVariants as admin_words
use Rattle.afs_grammar.specs.declared.spellings.FirstWord.{FirstWord}
use Rattle.afs_grammar.specs.declared.spellings.FirstWord.TheVariants as firsts
use Rattle.afs_grammar.specs.declared.spellings.PlanWord.{PlanWord}
use Rattle.afs_grammar.specs.declared.spellings.PlanWord.TheVariants as plan_words
use Rattle.afs_grammar.specs.Acts.{act_event, act_parts, admin_act_read, admin_parts, client_act_read, crash_event, crash_of, deliver_event, dump_act_in, event_at, fail_event, has_disk, most_text, plan_at, plan_parts, restart_event, stop_event, task_at, task_of, tick_event, timeout_event, wake_event}
use Rattle.afs_grammar.specs.CellScripts.{FitsAdminAct, FitsEvent, FitsPlan, FitsTask, IsInCell, IsName, IsShortAct}
use Rattle.afs_grammar.specs.Spellings.{act_spelled, admin_spelled, plan_spelled}
use Rattle.afs_grammar.proofs.Readers.{act_path_in, label_in, name_in, node_in, node_number_in, number_in, operand_in, written_in}

-- ---- acts of clients

parts_in : (named : ActWord) (ws : List (List ℕ)) (x : Act × List (List ℕ)) → act_parts named ws ≡ Ok x → IsShortAct x.0
unfolding act_parts
parts_in words.Open ws x e =
    let a = bound (Operand × List (List ℕ)) _ Reason (operand_at ws) _ _ e in
    subst (λ (y : Act × List (List ℕ)). IsShortAct y.0) (ok_of _ _ _ _ a.rest) (operand_in ws a.value a.first)
parts_in words.List ws x e =
    let a = bound (Operand × List (List ℕ)) _ Reason (operand_at ws) _ _ e in
    subst (λ (y : Act × List (List ℕ)). IsShortAct y.0) (ok_of _ _ _ _ a.rest) (operand_in ws a.value a.first)
parts_in words.ReadLink ws x e =
    let a = bound (Operand × List (List ℕ)) _ Reason (operand_at ws) _ _ e in
    subst (λ (y : Act × List (List ℕ)). IsShortAct y.0) (ok_of _ _ _ _ a.rest) (operand_in ws a.value a.first)
parts_in words.Stat ws x e =
    let a = bound (Operand × List (List ℕ)) _ Reason (operand_at ws) _ _ e in
    subst (λ (y : Act × List (List ℕ)). IsShortAct y.0) (ok_of _ _ _ _ a.rest) (operand_in ws a.value a.first)
parts_in words.StatAll ws x e =
    let a = bound (Operand × List (List ℕ)) _ Reason (operand_at ws) _ _ e in
    subst (λ (y : Act × List (List ℕ)). IsShortAct y.0) (ok_of _ _ _ _ a.rest) (operand_in ws a.value a.first)
parts_in words.Close ws x e =
    let a = bound (Operand × List (List ℕ)) _ Reason (operand_at ws) _ _ e in
    let b = bound (Written × List (List ℕ)) _ Reason (written_at most_contents a.value.1) _ _ a.rest in
    subst (λ (y : Act × List (List ℕ)). IsShortAct y.0) (ok_of _ _ _ _ b.rest) ((operand_in ws a.value a.first), (written_in most_contents a.value.1 b.value b.first))
parts_in words.Make ws x e =
    let a = bound (Path × List (List ℕ)) _ Reason (act_path_at ws) _ _ e in
    subst (λ (y : Act × List (List ℕ)). IsShortAct y.0) (ok_of _ _ _ _ a.rest) (act_path_in ws a.value a.first)
parts_in words.MkDir ws x e =
    let a = bound (Path × List (List ℕ)) _ Reason (act_path_at ws) _ _ e in
    subst (λ (y : Act × List (List ℕ)). IsShortAct y.0) (ok_of _ _ _ _ a.rest) (act_path_in ws a.value a.first)
parts_in words.Rm ws x e =
    let a = bound (Path × List (List ℕ)) _ Reason (act_path_at ws) _ _ e in
    subst (λ (y : Act × List (List ℕ)). IsShortAct y.0) (ok_of _ _ _ _ a.rest) (act_path_in ws a.value a.first)
parts_in words.RmDir ws x e =
    let a = bound (Path × List (List ℕ)) _ Reason (act_path_at ws) _ _ e in
    subst (λ (y : Act × List (List ℕ)). IsShortAct y.0) (ok_of _ _ _ _ a.rest) (act_path_in ws a.value a.first)
parts_in words.Mv ws x e =
    let a = bound (Path × List (List ℕ)) _ Reason (act_path_at ws) _ _ e in
    let b = bound (Path × List (List ℕ)) _ Reason (act_path_at a.value.1) _ _ a.rest in
    subst (λ (y : Act × List (List ℕ)). IsShortAct y.0) (ok_of _ _ _ _ b.rest) ((act_path_in ws a.value a.first), (act_path_in a.value.1 b.value b.first))
parts_in words.Ln ws x e =
    let a = bound (Path × List (List ℕ)) _ Reason (act_path_at ws) _ _ e in
    let b = bound (Path × List (List ℕ)) _ Reason (act_path_at a.value.1) _ _ a.rest in
    subst (λ (y : Act × List (List ℕ)). IsShortAct y.0) (ok_of _ _ _ _ b.rest) ((act_path_in ws a.value a.first), (act_path_in a.value.1 b.value b.first))
parts_in words.Symlink ws x e =
    let a = bound (Path × List (List ℕ)) _ Reason (act_path_at ws) _ _ e in
    let b = bound (Written × List (List ℕ)) _ Reason (written_at most_text a.value.1) _ _ a.rest in
    subst (λ (y : Act × List (List ℕ)). IsShortAct y.0) (ok_of _ _ _ _ b.rest) ((act_path_in ws a.value a.first), (written_in most_text a.value.1 b.value b.first))
parts_in words.ChMod ws x e =
    let a = bound (Operand × List (List ℕ)) _ Reason (operand_at ws) _ _ e in
    let b = bound (ℕ × List (List ℕ)) _ Reason (mode_at a.value.1) _ _ a.rest in
    subst (λ (y : Act × List (List ℕ)). IsShortAct y.0) (ok_of _ _ _ _ b.rest) (operand_in ws a.value a.first)
parts_in words.SetAcl ws x e =
    let a = bound (Operand × List (List ℕ)) _ Reason (operand_at ws) _ _ e in
    let b = bound (Written × List (List ℕ)) _ Reason (written_at most_text a.value.1) _ _ a.rest in
    subst (λ (y : Act × List (List ℕ)). IsShortAct y.0) (ok_of _ _ _ _ b.rest) ((operand_in ws a.value a.first), (written_in most_text a.value.1 b.value b.first))
parts_in words.GetAcl ws x e =
    let a = bound (Operand × List (List ℕ)) _ Reason (operand_at ws) _ _ e in
    subst (λ (y : Act × List (List ℕ)). IsShortAct y.0) (ok_of _ _ _ _ a.rest) (operand_in ws a.value a.first)
parts_in words.GiveUp ws x e = subst (λ (y : Act × List (List ℕ)). IsShortAct y.0) (ok_of _ _ _ _ e) tt

client_act_in : (ws : List (List ℕ)) (a : Act) → client_act_read ws ≡ Ok a → IsShortAct a
unfolding client_act_read
client_act_in ws a e =
    let word = bound (List ℕ × List (List ℕ)) _ Reason (word_at ws) _ _ e in
    let named = bound ActWord _ Reason (ok_or (act_spelled word.value.0) reasons.Word) _ _ word.rest in
    let act = bound (Act × List (List ℕ)) _ Reason (act_parts named.value word.value.1) _ _ named.rest in
    let done = bound (Unit {0}) _ Reason (no_word_left act.value.1) _ _ act.rest in
    subst IsShortAct (ok_of _ _ _ _ done.rest) (parts_in named.value word.value.1 act.value act.first)

-- ---- acts of administrators

dump_in : (c : Counts) (name : List ℕ) (ws : List (List ℕ)) (x : AdminAct × List (List ℕ)) → IsName 32 name → dump_act_in name ws ≡ Ok x → FitsAdminAct c x.0
unfolding dump_act_in
dump_in c name ws x named e =
    let a = bound (List ℕ × List (List ℕ)) _ Reason (label_at ws) _ _ e in
    let b = bound (ℕ × List (List ℕ)) _ Reason (number_at 0 4294967295 a.value.1) _ _ a.rest in
    subst (λ (y : AdminAct × List (List ℕ)). FitsAdminAct c y.0) (ok_of _ _ _ _ b.rest) (named, label_in ws a.value a.first)

admin_parts_in : (c : Counts) (named : AdminWord) (name : List ℕ) (ws : List (List ℕ)) (x : AdminAct × List (List ℕ)) → IsName 32 name → admin_parts c named name ws ≡ Ok x → FitsAdminAct c x.0
unfolding admin_parts
admin_parts_in c admin_words.Create name ws x named e =
    let a = bound (ℕ × List (List ℕ)) _ Reason (server_at c ws) _ _ e in
    let b = bound (ℕ × List (List ℕ)) _ Reason (number_at 1 16384 a.value.1) _ _ a.rest in
    subst (λ (y : AdminAct × List (List ℕ)). FitsAdminAct c y.0) (ok_of _ _ _ _ b.rest) (named, ((node_number_in 115 c.servers ws a.value a.first), (number_in 1 16384 a.value.1 b.value b.first)))
admin_parts_in c admin_words.Restore name ws x named e =
    let a = bound (ℕ × List (List ℕ)) _ Reason (server_at c ws) _ _ e in
    let b = bound (List ℕ × List (List ℕ)) _ Reason (label_at a.value.1) _ _ a.rest in
    subst (λ (y : AdminAct × List (List ℕ)). FitsAdminAct c y.0) (ok_of _ _ _ _ b.rest) (named, ((node_number_in 115 c.servers ws a.value a.first), (label_in a.value.1 b.value b.first)))
admin_parts_in c admin_words.AddSite name ws x named e =
    let a = bound (ℕ × List (List ℕ)) _ Reason (server_at c ws) _ _ e in
    subst (λ (y : AdminAct × List (List ℕ)). FitsAdminAct c y.0) (ok_of _ _ _ _ a.rest) (named, (node_number_in 115 c.servers ws a.value a.first))
admin_parts_in c admin_words.Backup name ws x named e = subst (λ (y : AdminAct × List (List ℕ)). FitsAdminAct c y.0) (ok_of _ _ _ _ e) named
admin_parts_in c admin_words.Release name ws x named e = subst (λ (y : AdminAct × List (List ℕ)). FitsAdminAct c y.0) (ok_of _ _ _ _ e) named
admin_parts_in c admin_words.Move name ws x named e =
    let a = bound (ℕ × List (List ℕ)) _ Reason (server_at c ws) _ _ e in
    subst (λ (y : AdminAct × List (List ℕ)). FitsAdminAct c y.0) (ok_of _ _ _ _ a.rest) (named, (node_number_in 115 c.servers ws a.value a.first))
admin_parts_in c admin_words.Dump name ws x named e = dump_in c name ws x named e
admin_parts_in c admin_words.Remove name ws x named e = subst (λ (y : AdminAct × List (List ℕ)). FitsAdminAct c y.0) (ok_of _ _ _ _ e) named
admin_parts_in c admin_words.Recover name ws x named e = subst (λ (y : AdminAct × List (List ℕ)). FitsAdminAct c y.0) (ok_of _ _ _ _ e) named

admin_act_in : (c : Counts) (ws : List (List ℕ)) (a : AdminAct) → admin_act_read c ws ≡ Ok a → FitsAdminAct c a
unfolding admin_act_read
admin_act_in c ws a e =
    let word = bound (List ℕ × List (List ℕ)) _ Reason (word_at ws) _ _ e in
    let named = bound AdminWord _ Reason (ok_or (admin_spelled word.value.0) reasons.Word) _ _ word.rest in
    let name = bound (List ℕ × List (List ℕ)) _ Reason (name_at 32 word.value.1) _ _ named.rest in
    let act = bound (AdminAct × List (List ℕ)) _ Reason (admin_parts c named.value name.value.0 name.value.1) _ _ name.rest in
    let done = bound (Unit {0}) _ Reason (no_word_left act.value.1) _ _ act.rest in
    subst (FitsAdminAct c) (ok_of _ _ _ _ done.rest) (admin_parts_in c named.value name.value.0 name.value.1 act.value (name_in 32 word.value.1 name.value name.first) act.first)

-- ---- tasks

task_of_in : (c : Counts) (n : Node) (ws : List (List ℕ)) (t : Task) → IsInCell c n → task_of c n ws ≡ Ok t → FitsTask c t
unfolding task_of
task_of_in c nodes.Loc ws t h e = absurd cc
task_of_in c (nodes.Server n) ws t h e = absurd cc
task_of_in c (nodes.Client n) ws t h e =
    let act = bound Act _ Reason (client_act_read ws) _ _ e in
    subst (FitsTask c) (ok_of _ _ _ _ act.rest) (h, client_act_in ws act.value act.first)
task_of_in c (nodes.Admin n) ws t h e =
    let act = bound AdminAct _ Reason (admin_act_read c ws) _ _ e in
    subst (FitsTask c) (ok_of _ _ _ _ act.rest) (h, admin_act_in c ws act.value act.first)

pub task_in : (c : Counts) (ws : List (List ℕ)) (t : Task) → task_at c ws ≡ Ok t → FitsTask c t
unfolding task_at
task_in c ws t e =
    let node = bound (Node × List (List ℕ)) _ Reason (node_at actors c ws) _ _ e in
    task_of_in c node.value.0 node.value.1 t (node_in actors c ws node.value node.first) node.rest

-- ---- plans

plan_parts_in : (c : Counts) (named : PlanWord) (ws : List (List ℕ)) (x : Plan × List (List ℕ)) → plan_parts c named ws ≡ Ok x → FitsPlan c x.0
unfolding plan_parts
plan_parts_in c plan_words.Lose ws x e =
    let a = bound (Node × List (List ℕ)) _ Reason (node_at all_nodes c ws) _ _ e in
    let b = bound (Node × List (List ℕ)) _ Reason (node_at all_nodes c a.value.1) _ _ a.rest in
    let n = bound (ℕ × List (List ℕ)) _ Reason (number_at 1 4294967295 b.value.1) _ _ b.rest in
    subst (λ (y : Plan × List (List ℕ)). FitsPlan c y.0) (ok_of _ _ _ _ n.rest) ((node_in all_nodes c ws a.value a.first), ((node_in all_nodes c a.value.1 b.value b.first), (number_in 1 4294967295 b.value.1 n.value n.first).0))
plan_parts_in c plan_words.Repeat ws x e =
    let a = bound (Node × List (List ℕ)) _ Reason (node_at all_nodes c ws) _ _ e in
    let b = bound (Node × List (List ℕ)) _ Reason (node_at all_nodes c a.value.1) _ _ a.rest in
    let n = bound (ℕ × List (List ℕ)) _ Reason (number_at 1 4294967295 b.value.1) _ _ b.rest in
    subst (λ (y : Plan × List (List ℕ)). FitsPlan c y.0) (ok_of _ _ _ _ n.rest) ((node_in all_nodes c ws a.value a.first), ((node_in all_nodes c a.value.1 b.value b.first), (number_in 1 4294967295 b.value.1 n.value n.first).0))
plan_parts_in c plan_words.Crash ws x e =
    let a = bound (ℕ × List (List ℕ)) _ Reason (server_at c ws) _ _ e in
    let n = bound (ℕ × List (List ℕ)) _ Reason (number_at 1 4294967295 a.value.1) _ _ a.rest in
    subst (λ (y : Plan × List (List ℕ)). FitsPlan c y.0) (ok_of _ _ _ _ n.rest) ((node_number_in 115 c.servers ws a.value a.first), (number_in 1 4294967295 a.value.1 n.value n.first).0)

pub plan_in : (c : Counts) (ws : List (List ℕ)) (p : Plan) → plan_at c ws ≡ Ok p → FitsPlan c p
unfolding plan_at
plan_in c ws p e =
    let word = bound (List ℕ × List (List ℕ)) _ Reason (word_at ws) _ _ e in
    let named = bound PlanWord _ Reason (ok_or (plan_spelled word.value.0) reasons.Word) _ _ word.rest in
    let plan = bound (Plan × List (List ℕ)) _ Reason (plan_parts c named.value word.value.1) _ _ named.rest in
    let done = bound (Unit {0}) _ Reason (no_word_left plan.value.1) _ _ plan.rest in
    subst (FitsPlan c) (ok_of _ _ _ _ done.rest) (plan_parts_in c named.value word.value.1 plan.value plan.first)

-- ---- events

act_in : (c : Counts) (ws : List (List ℕ)) (x : Event × List (List ℕ)) → act_event c ws ≡ Ok x → FitsEvent c x.0
unfolding act_event
act_in c ws x e =
    let a = bound (Node × List (List ℕ)) _ Reason (node_at actors c ws) _ _ e in
    subst (λ (y : Event × List (List ℕ)). FitsEvent c y.0) (ok_of _ _ _ _ a.rest) (node_in actors c ws a.value a.first)

deliver_in : (c : Counts) (ws : List (List ℕ)) (x : Event × List (List ℕ)) → deliver_event ws ≡ Ok x → FitsEvent c x.0
unfolding deliver_event
deliver_in c ws x e =
    let a = bound (ℕ × List (List ℕ)) _ Reason (number_at 1 18446744073709551615 ws) _ _ e in
    subst (λ (y : Event × List (List ℕ)). FitsEvent c y.0) (ok_of _ _ _ _ a.rest) (number_in 1 18446744073709551615 ws a.value a.first).0

timeout_in : (c : Counts) (ws : List (List ℕ)) (x : Event × List (List ℕ)) → timeout_event c ws ≡ Ok x → FitsEvent c x.0
unfolding timeout_event
timeout_in c ws x e =
    let a = bound (Node × List (List ℕ)) _ Reason (node_at callers c ws) _ _ e in
    let b = bound (Node × List (List ℕ)) _ Reason (node_at (callees a.value.0) c a.value.1) _ _ a.rest in
    subst (λ (y : Event × List (List ℕ)). FitsEvent c y.0) (ok_of _ _ _ _ b.rest) ((node_in callers c ws a.value a.first), (node_in (callees a.value.0) c a.value.1 b.value b.first))

wake_in : (c : Counts) (ws : List (List ℕ)) (x : Event × List (List ℕ)) → wake_event c ws ≡ Ok x → FitsEvent c x.0
unfolding wake_event
wake_in c ws x e =
    let a = bound (ℕ × List (List ℕ)) _ Reason (server_at c ws) _ _ e in
    subst (λ (y : Event × List (List ℕ)). FitsEvent c y.0) (ok_of _ _ _ _ a.rest) (node_number_in 115 c.servers ws a.value a.first)

tick_in : (c : Counts) (ws : List (List ℕ)) (x : Event × List (List ℕ)) → tick_event ws ≡ Ok x → FitsEvent c x.0
unfolding tick_event
tick_in c ws x e =
    let a = bound (ℕ × List (List ℕ)) _ Reason (number_at 1 4294967295 ws) _ _ e in
    subst (λ (y : Event × List (List ℕ)). FitsEvent c y.0) (ok_of _ _ _ _ a.rest) (number_in 1 4294967295 ws a.value a.first).0

restart_in : (c : Counts) (ws : List (List ℕ)) (x : Event × List (List ℕ)) → restart_event c ws ≡ Ok x → FitsEvent c x.0
unfolding restart_event
restart_in c ws x e =
    let a = bound (Node × List (List ℕ)) _ Reason (node_at all_nodes c ws) _ _ e in
    subst (λ (y : Event × List (List ℕ)). FitsEvent c y.0) (ok_of _ _ _ _ a.rest) (node_in all_nodes c ws a.value a.first)

stop_in : (c : Counts) (ws : List (List ℕ)) (x : Event × List (List ℕ)) → stop_event c ws ≡ Ok x → FitsEvent c x.0
unfolding stop_event
stop_in c ws x e =
    let a = bound (Node × List (List ℕ)) _ Reason (node_at disk_nodes c ws) _ _ e in
    let b = bound (ℕ × List (List ℕ)) _ Reason (number_at 0 4294967295 a.value.1) _ _ a.rest in
    let k = bound (ℕ × List (List ℕ)) _ Reason (number_at 0 3 b.value.1) _ _ b.rest in
    subst (λ (y : Event × List (List ℕ)). FitsEvent c y.0) (ok_of _ _ _ _ k.rest) ((node_in disk_nodes c ws a.value a.first), (number_in 0 3 b.value.1 k.value k.first).1)

fail_in : (c : Counts) (ws : List (List ℕ)) (x : Event × List (List ℕ)) → fail_event c ws ≡ Ok x → FitsEvent c x.0
unfolding fail_event
fail_in c ws x e =
    let a = bound (Node × List (List ℕ)) _ Reason (node_at disk_nodes c ws) _ _ e in
    let b = bound (ℕ × List (List ℕ)) _ Reason (number_at 1 4294967295 a.value.1) _ _ a.rest in
    subst (λ (y : Event × List (List ℕ)). FitsEvent c y.0) (ok_of _ _ _ _ b.rest) ((node_in disk_nodes c ws a.value a.first), (number_in 1 4294967295 a.value.1 b.value b.first).0)

crash_of_in : (c : Counts) (n : Node) (t : Bool) (ws : List (List ℕ)) (x : Event × List (List ℕ)) → IsInCell c n → crash_of n t ws ≡ Ok x → FitsEvent c x.0
unfolding crash_of
crash_of_in c n true ws x h e =
    let a = bound (ℕ × List (List ℕ)) _ Reason (number_at 0 3 ws) _ _ e in
    subst (λ (y : Event × List (List ℕ)). FitsEvent c y.0) (ok_of _ _ _ _ a.rest) (h, (number_in 0 3 ws a.value a.first).1)
crash_of_in c n false ws x h e = subst (λ (y : Event × List (List ℕ)). FitsEvent c y.0) (ok_of _ _ _ _ e) h

crash_in : (c : Counts) (ws : List (List ℕ)) (x : Event × List (List ℕ)) → crash_event c ws ≡ Ok x → FitsEvent c x.0
unfolding crash_event
crash_in c ws x e =
    let a = bound (Node × List (List ℕ)) _ Reason (node_at all_nodes c ws) _ _ e in
    crash_of_in c a.value.0 (has_disk a.value.0) a.value.1 x (node_in all_nodes c ws a.value a.first) a.rest

pub event_in : (first : FirstWord) (c : Counts) (ws : List (List ℕ)) (x : Event × List (List ℕ)) → event_at first c ws ≡ Ok x → FitsEvent c x.0
event_in firsts.Act c ws x e = act_in c ws x e
event_in firsts.Deliver c ws x e = deliver_in c ws x e
event_in firsts.Timeout c ws x e = timeout_in c ws x e
event_in firsts.Wake c ws x e = wake_in c ws x e
event_in firsts.Tick c ws x e = tick_in c ws x e
event_in firsts.Crash c ws x e = crash_in c ws x e
event_in firsts.Restart c ws x e = restart_in c ws x e
event_in firsts.Stop c ws x e = stop_in c ws x e
event_in firsts.Fail c ws x e = fail_in c ws x e
event_in firsts.Drain c ws x e = subst (λ (y : Event × List (List ℕ)). FitsEvent c y.0) (ok_of _ _ _ _ e) tt
event_in firsts.Cell c ws x e = absurd cc
event_in firsts.Servers c ws x e = absurd cc
event_in firsts.Clients c ws x e = absurd cc
event_in firsts.Admins c ws x e = absurd cc
event_in firsts.Cache c ws x e = absurd cc
event_in firsts.Capacity c ws x e = absurd cc
event_in firsts.User c ws x e = absurd cc
event_in firsts.Volume c ws x e = absurd cc
event_in firsts.Dir c ws x e = absurd cc
event_in firsts.File c ws x e = absurd cc
event_in firsts.Link c ws x e = absurd cc
event_in firsts.Acl c ws x e = absurd cc
event_in firsts.Do c ws x e = absurd cc
event_in firsts.Plan c ws x e = absurd cc
event_in firsts.Schedule c ws x e = absurd cc
event_in firsts.End c ws x e = absurd cc
