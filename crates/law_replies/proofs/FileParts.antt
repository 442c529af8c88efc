-- What a file server sends, keeps and holds stays P, where what it decides to answer is P, and all that carries no answer.
use Rattle.std.proofs.Common.{◌≡◌, ℕ, ◌+◌, Bool, true, false, cond, List, [], ◌∷◌, ◌++◌, Option, Some, None, refl, subst}
use Rattle.std.specs.Prelude.{⊤, ◌&&◌, not}
use Rattle.std.specs.List.{AllByRecursion}
use Rattle.afs_num.specs.Nodes.{same_node}
use Rattle.afs_num.specs.declared.messages.Carried.{Carried}
use Rattle.afs_num.specs.declared.messages.Carried.TheVariants as carried
use Rattle.afs_num.specs.declared.messages.Message.{Message}
use Rattle.afs_num.specs.declared.messages.Received.TheVariants.{Whole}
use Rattle.afs_num.specs.declared.types.Head.{Head}
use Rattle.afs_num.specs.declared.types.Node.{Node}
use Rattle.spec_breaks.specs.declared.types.OwedBreak.{OwedBreak}
use Rattle.spec_history.specs.declared.lines.Line.{Line}
use Rattle.spec_ideal.specs.Tables.{Table}
use Rattle.spec_model.specs.Calls.{call_seat, is_sent_again}
use Rattle.spec_rows.specs.Callbacks.{expired, given_out, held_after, held_under, is_back_awaited, is_ready, is_seat_of, key_answered, no_turn, pumped, renews_by, repeats_by, risen_turn, settles_by, starts, starts_by, call_timed_out, turn_for, turned_by, turned_in, Started, CallbackStep}
use Rattle.spec_rows.specs.ServerRow.{begun_after, change_reply_to, does, drops, promise_ticks, read_reply_to, refusal, refuses, repeats, revived, saved, saves, shows, tells_boot, Change, Decision}
use Rattle.spec_rows.specs.ServerSteps.{back_timeout_row, stepped, wake_row}
use Rattle.spec_rows.specs.States.{BackCall, Backs, Held, ServerState}
use Rattle.spec_rows.specs.Steps.{Begun}
use Rattle.spec_volrows.specs.FileRow.{file_decides, file_row, file_start}
use Rattle.law_walks.specs.Sends.{AdmittedIs, FileIs, HeldAre, HeldIs, SeatsAre}
use Rattle.law_walks.proofs.FileSends.{out_is, FileSends, TurnIs}
use Rattle.law_walks.proofs.Seats.{admitted_is, all_filter, all_more, placed_is, seated_is}
use Rattle.law_places.proofs.Choices.{decided_open, Chooses}
use Rattle.law_replies.specs.Decided.{carries_answer}

-- what carries no answer is P
abbrev pub Spares : (Message → Type 0) → Type 0
Spares P = (m : Message) → carries_answer m.carried ≡ false → P m

-- and so is what is decided to be answered
abbrev pub FileMade : (Message → Type 0) → ℕ → ℕ → Decision → Type 0
FileMade P boot clock drops = ⊤
FileMade P boot clock (tells_boot head) = ⊤
FileMade P boot clock (repeats reply) = ⊤
FileMade P boot clock (refuses head code) = P (refusal boot head code)
FileMade P boot clock (shows head r) = P (read_reply_to boot head (clock + promise_ticks) r)
FileMade P boot clock (saves head c) = P (change_reply_to boot head clock c)

-- ---- replies that wait

-- the end of its step
record StartedIs (P : Message → Type 0) (t : Started) : Type 0 where
  held : HeldAre P t.backs.held
  sent : AllByRecursion P t.sent

module _ (P : Message → Type 0) (spares : Spares P) (me : Node) (boot : ℕ) where
  either_turn : (b : Bool) (x y : CallbackStep) → TurnIs P x → TurnIs P y → TurnIs P (cond b x y)
  either_turn true x y h k = h
  either_turn false x y h k = k

  repeats_turn : (b : Backs) (reply : Message) (o : Option Held) (good : Bool) → P reply → HeldAre P b.held → TurnIs P (repeats_by b reply o good)
  repeats_turn b reply (Some w) good r h = either_turn (w.again && is_ready b.lists.owed w) _ _ (record { held = h; sent = tt; outs = (r, tt) }) (record { held = h; sent = tt; outs = tt })
  repeats_turn b reply None true r h = record { held = h; sent = tt; outs = (r, tt) }
  repeats_turn b reply None false r h = record { held = h; sent = tt; outs = (r, tt) }

  settled_turn : (head : Head) (b : Backs) (o : Option BackCall) → HeldAre P b.held → TurnIs P (settles_by me boot head b o)
  settled_turn head b None h = record { held = h; sent = tt; outs = tt }
  settled_turn head b (Some c) h = either_turn (is_back_awaited boot c head) _ _ (record { held = h; sent = tt; outs = tt }) (record { held = h; sent = tt; outs = tt })

  renewed_turn : (head : Head) (b : Backs) (o : Option BackCall) → HeldAre P b.held → TurnIs P (renews_by me boot head b o)
  renewed_turn head b None h = record { held = h; sent = tt; outs = tt }
  renewed_turn head b (Some c) h = either_turn (is_back_awaited boot c head) _ _ (record { held = h; sent = (spares _ refl, tt); outs = tt }) (record { held = h; sent = tt; outs = tt })

  late_turn : (n : Node) (c : BackCall) (b : Backs) → HeldAre P b.held → TurnIs P (call_timed_out me boot n c b)
  late_turn n c b h = either_turn (is_sent_again c.tries) _ _ (record { held = h; sent = (spares _ refl, tt); outs = tt }) (record { held = h; sent = tt; outs = tt })

  start_is : (t : Started) (o : OwedBreak) (c : Option BackCall) → StartedIs P t → StartedIs P (starts_by me boot t o c)
  start_is t o None h = record { held = h.held; sent = all_more P t.sent _ h.sent (spares _ refl, tt) }
  start_is t o (Some c) h = h

  starts_are : (os : List OwedBreak) (t : Started) → StartedIs P t → StartedIs P (starts me boot os t)
  starts_are [] t h = h
  starts_are (o ∷ os) t h = starts_are os (starts_by me boot t o (t.backs.calls o.client)) (start_is t o (t.backs.calls o.client) h)

  pumped_is : (t : CallbackStep) → TurnIs P t → StartedIs P (pumped me boot t)
  pumped_is t h =
      starts_are t.backs.lists.owed (record { backs = held_after t; sent = given_out t })
      (record {
        held = all_filter (HeldIs P) (λ (w : Held). not (is_ready t.backs.lists.owed w)) (t.backs.held ++ t.outs) (all_more (HeldIs P) t.backs.held t.outs h.held h.outs);
        sent = all_more P t.sent _ h.sent (out_is P _ (all_filter (HeldIs P) (is_ready t.backs.lists.owed) (t.outs ++ t.backs.held) (all_more (HeldIs P) t.outs t.backs.held h.outs h.held)));
      })

-- ---- what is decided

module _ (P : Message → Type 0) (spares : Spares P) (me : Node) (x : ServerState) (has : FileIs P x) where
  kept_is : (reply : Message) → Chooses x (repeats reply) → P reply
  kept_is reply k = subst (AdmittedIs P) k.1 (admitted_is P x.lasting.boot x.seats k.0 has.seats)

  for_turn : (clock : ℕ) (b : Backs) (d : Decision) → Chooses x d → FileMade P x.lasting.boot clock d → HeldAre P b.held → TurnIs P (turn_for me x clock b d)
  for_turn clock b drops k made h = record { held = h; sent = tt; outs = tt }
  for_turn clock b (tells_boot head) k made h = record { held = h; sent = (spares _ refl, tt); outs = tt }
  for_turn clock b (repeats reply) k made h = repeats_turn P spares me x.lasting.boot b reply (held_under (key_answered reply) b.held) (is_seat_of reply (call_seat reply.head.to x.lasting.kept)) (kept_is reply k) h
  for_turn clock b (refuses head code) k made h = record { held = h; sent = tt; outs = (made, tt) }
  for_turn clock b (shows head r) k made h = record { held = h; sent = tt; outs = (made, tt) }
  for_turn clock b (saves head c) k made h = record { held = h; sent = tt; outs = (made, tt) }

  carried_turn : (clock : ℕ) (b : Backs) (d : Decision) (head : Head) (c : Carried) → Chooses x d → FileMade P x.lasting.boot clock d → HeldAre P b.held → TurnIs P (turned_by me x clock b d head c)
  carried_turn clock b d head (carried.Call user call) k made h = for_turn clock b d k made h
  carried_turn clock b d head (carried.Refusal code) k made h =
      either_turn P spares me x.lasting.boot (same_node head.to me) _ _ (settled_turn P spares me x.lasting.boot head b (b.calls head.from) h) (record { held = h; sent = tt; outs = tt })
  carried_turn clock b d head (carried.Reply reply) k made h =
      either_turn P spares me x.lasting.boot (same_node head.to me) _ _ (settled_turn P spares me x.lasting.boot head b (b.calls head.from) h) (record { held = h; sent = tt; outs = tt })
  carried_turn clock b d head carried.Notice k made h =
      either_turn P spares me x.lasting.boot (same_node head.to me) _ _ (renewed_turn P spares me x.lasting.boot head b (b.calls head.from) h) (record { held = h; sent = tt; outs = tt })

  pub saved_is : (head : Head) (clock : ℕ) (c : Change) → P (change_reply_to x.lasting.boot head clock c) → FileIs P (saved head clock c x)
  saved_is head clock c made = record { seats = seated_is P _ x.seats made has.seats; kept = placed_is P _ x.lasting.kept made has.kept; held = has.held }

  does_is : (clock place : ℕ) (d : Decision) → FileMade P x.lasting.boot clock d → FileIs P (does me x clock place d []).state
  does_is clock place drops made = has
  does_is clock place (tells_boot head) made = has
  does_is clock place (repeats reply) made = has
  does_is clock place (refuses head code) made = record { seats = seated_is P _ x.seats made has.seats; kept = has.kept; held = has.held }
  does_is clock place (shows head r) made = record { seats = seated_is P _ x.seats made has.seats; kept = has.kept; held = has.held }
  does_is clock place (saves head c) made = saved_is head clock c made

-- ---- its steps

pub stepped_is : (P : Message → Type 0) → Spares P → (me : Node) (s : ServerState) (ls : List Line) (t : CallbackStep) → SeatsAre P s.seats → SeatsAre P s.lasting.kept → TurnIs P t → FileSends P (stepped me s ls t)
stepped_is P spares me s ls t seats kept h = let z = pumped_is P spares me s.lasting.boot t h in record { has = record { seats = seats; kept = kept; held = z.held }; sent = z.sent }

module _ (P : Message → Type 0) (spares : Spares P) (me : Node) where
  pub file_parts : (holds : Table ℕ) (s : ServerState) (clock place : ℕ) (m : Message) → FileIs P s → FileMade P s.lasting.boot clock (file_decides me holds s clock (Whole m)) → FileSends P (file_row me holds s clock place (Whole m))
  unfolding file_row
  file_parts holds s clock place m h made =
      let d : Decision = file_decides me holds s clock (Whole m) in
      let z : FileIs P (does me s clock place d []).state = does_is P spares me s h clock place d made in
      stepped_is P spares me (does me s clock place d []).state _ (turned_in me s clock (expired clock s.backs) d (Whole m)) z.seats z.kept
      (carried_turn P spares me s h clock (expired clock s.backs) d m.head m.carried (decided_open me holds s clock (Whole m)) made h.held)

  pub late_parts : (s : ServerState) (clock : ℕ) (n : Node) (c : BackCall) → FileIs P s → FileSends P (back_timeout_row me s clock n c)
  unfolding back_timeout_row
  late_parts s clock n c h = stepped_is P spares me s _ (call_timed_out me s.lasting.boot n c (expired clock s.backs)) h.seats h.kept (late_turn P spares me s.lasting.boot n c (expired clock s.backs) h.held)

  pub wake_parts : (s : ServerState) (clock : ℕ) → FileIs P s → FileSends P (wake_row me s clock)
  unfolding wake_row
  wake_parts s clock h = stepped_is P spares me s [] (no_turn (expired clock s.backs)) h.seats h.kept (record { held = h.held; sent = tt; outs = tt })

  pub start_parts : (clock count : ℕ) (f : Begun ServerState) → SeatsAre P f.state.lasting.kept → FileSends P (file_start me clock count f)
  unfolding file_start
  start_parts clock count f kept = stepped_is P spares me (revived f.state) _ (risen_turn me clock count) kept kept (record { held = tt; sent = tt; outs = tt })

  -- what a restart begins with
  pub begun_parts : (s : ServerState) (clock : ℕ) (d : Decision) → FileIs P s → FileMade P s.lasting.boot clock d → FileIs P (begun_after me s clock d).state
  begun_parts s clock drops h made = h
  begun_parts s clock (tells_boot head) h made = h
  begun_parts s clock (repeats reply) h made = h
  begun_parts s clock (refuses head code) h made = h
  begun_parts s clock (shows head r) h made = h
  begun_parts s clock (saves head c) h made = saved_is P spares me s h head clock c made
