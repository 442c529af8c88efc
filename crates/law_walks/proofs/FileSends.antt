-- What a file server sends, keeps and holds.
use Rattle.std.proofs.Common.{◌≡◌, ℕ, ◌+◌, Bool, true, false, cond, List, [], ◌∷◌, ◌++◌, Option, Some, None, Result, Ok, Err, refl, sym, subst}
use Rattle.std.specs.Prelude.{⊤, ◌&&◌, not}
use Rattle.std.specs.List.{AllByRecursion}
use Rattle.afs_num.specs.Nodes.{same_node}
use Rattle.afs_num.specs.declared.calls.FsCall.{FsCall}
use Rattle.afs_num.specs.declared.calls.FsCall.TheVariants as calls
use Rattle.afs_num.specs.declared.calls.FsReply.{FsReply}
use Rattle.afs_num.specs.declared.messages.Call.TheVariants as ask
use Rattle.afs_num.specs.declared.messages.Carried.{Carried}
use Rattle.afs_num.specs.declared.messages.Carried.TheVariants as carried
use Rattle.afs_num.specs.declared.messages.Message.{Message}
use Rattle.afs_num.specs.declared.messages.Received.TheVariants.{Whole}
use Rattle.afs_num.specs.declared.types.Head.{Head}
use Rattle.afs_num.specs.declared.types.Node.{Node}
use Rattle.spec_breaks.specs.declared.types.OwedBreak.{OwedBreak}
use Rattle.spec_history.specs.declared.lines.Line.{Line}
use Rattle.spec_ideal.specs.Operations as operations
use Rattle.spec_ideal.specs.Operations.{changes, op, the_user, volume_called, Caller}
use Rattle.spec_ideal.specs.Tables.{get, Table}
use Rattle.spec_model.specs.Calls.{admitted, call_seat, is_sent_again, Admitted}
use Rattle.spec_model.specs.Calls as pairs
use Rattle.spec_records.specs.Durable.{has_room, Stored}
use Rattle.spec_rows.specs.Callbacks.{expired, given_out, held_after, held_under, is_back_awaited, is_ready, is_seat_of, key_answered, no_turn, pumped, renews_by, repeats_by, replies_of, risen_turn, settles_by, started_call, starts, starts_by, call_timed_out, turn_for, turned_by, turned_in, Started, CallbackStep}
use Rattle.spec_rows.specs.ServerRow.{carried_by, change_reply_to, decided, begun_after, does, drops, is_client, no_room, not_served, promise_ticks, record_of, refuses, repeats, replied, revived, saved, saves, several, shows, tells_boot, whole, Change, Decision, Sight}
use Rattle.spec_rows.specs.ServerSteps.{back_timeout_row, stepped, wake_row}
use Rattle.spec_rows.specs.States.{durable_of, BackCall, Backs, Held, ServerState}
use Rattle.spec_rows.specs.Steps.{Begun, Step}
use Rattle.spec_volrows.specs.FileRow.{file_admits, file_carried, file_decides, file_hears, file_in, file_received, file_row, file_serves, file_start, file_volume, closed_code, unless_closed}
use Rattle.law_walks.specs.Sends.{AdmittedIs, FileIs, FileMakes, HeldAre, HeldIs, IsTo, SeatsAre}
use Rattle.law_walks.proofs.Seats.{admitted_is, all_filter, all_more, placed_is, seated_is}

-- ---- what it decides: on a call to it, or with a kept reply

abbrev Chosen : Node → ServerState → Decision → Type 0
Chosen me s drops = ⊤
Chosen me s (tells_boot head) = IsTo me head
Chosen me s (repeats reply) = (head : Head) × (admitted s.lasting.boot s.seats head ≡ pairs.kept reply)
Chosen me s (refuses head code) = IsTo me head
Chosen me s (shows head r) = IsTo me head
Chosen me s (saves head c) = IsTo me head

either : (me : Node) (s : ServerState) (b : Bool) (d e : Decision) → Chosen me s d → Chosen me s e → Chosen me s (cond b d e)
either me s true d e h k = h
either me s false d e h k = k

module _ (me : Node) (s : ServerState) (head : Head) (to : IsTo me head) where
  result_chosen : (clock : ℕ) (caller : Caller) (call : FsCall) (id : ℕ) (st : Stored) (r : operations.Result) → Chosen me s (decided s clock head caller call id st r)
  result_chosen clock caller call id st (operations.refused code) = to
  result_chosen clock caller call id st (operations.reads shown) = to
  result_chosen clock caller call id st operations.no_operation = to
  result_chosen clock caller call id st (changes es n) =
      either me s (has_room (durable_of s.lasting) (record_of s.lasting.boot head clock (record { id = id; caller = caller; call = call; before = st; edits = es; shown = n }))) (saves head _) (refuses head no_room) to to

  closed_chosen : (o : Option ℕ) (d : Decision) → Chosen me s d → Chosen me s (unless_closed head o d)
  closed_chosen None d h = h
  closed_chosen (Some code) d h = to

  in_chosen : (holds : Table ℕ) (clock : ℕ) (caller : Caller) (call : FsCall) (id : ℕ) (o : Option Stored) → Chosen me s (file_in holds s clock head caller call id o)
  in_chosen holds clock caller call id None = to
  in_chosen holds clock caller call id (Some st) = closed_chosen (closed_code st (get id holds)) _ (result_chosen clock caller call id st (op id caller call st.volume))

  with_chosen : (holds : Table ℕ) (clock : ℕ) (caller : Caller) (call : FsCall) (o : Option ℕ) → Chosen me s (file_volume holds s clock head caller call o)
  with_chosen holds clock caller call None = to
  with_chosen holds clock caller call (Some id) = in_chosen holds clock caller call id (get id s.lasting.volumes)

  several_chosen : (caller : Caller) (o : Result (List Sight) ℕ) → Chosen me s (several head caller o)
  several_chosen caller (Err code) = to
  several_chosen caller (Ok xs) = to

  serves_chosen : (holds : Table ℕ) (clock : ℕ) (user : List ℕ) (call : FsCall) → Chosen me s (file_serves holds s clock head user call)
  serves_chosen holds clock user (calls.GiveUpCallBacks fids callbacks) = to
  serves_chosen holds clock user calls.GetTime = to
  serves_chosen holds clock user (calls.BulkStatus fids) = several_chosen (the_user user) _
  serves_chosen holds clock user call = with_chosen holds clock (the_user user) call (volume_called call)

  carried_chosen : (holds : Table ℕ) (clock : ℕ) (c : Carried) → Chosen me s (file_carried holds s clock head c)
  carried_chosen holds clock (carried.Call user (ask.File call)) = serves_chosen holds clock user call
  carried_chosen holds clock (carried.Call user (ask.Volume call)) = to
  carried_chosen holds clock (carried.Call user (ask.Location call)) = to
  carried_chosen holds clock (carried.Refusal code) = tt
  carried_chosen holds clock (carried.Reply reply) = tt
  carried_chosen holds clock carried.Notice = tt

  admits_chosen : (holds : Table ℕ) (clock : ℕ) (c : Carried) (a : Admitted Message) → admitted s.lasting.boot s.seats head ≡ a → Chosen me s (file_admits holds s clock head (whole head c) a)
  admits_chosen holds clock c pairs.runs is = either me s (is_client head.from) (file_received holds s clock head (whole head c)) (refuses head not_served) (carried_chosen holds clock c) to
  admits_chosen holds clock c (pairs.kept reply) is = (head, is)
  admits_chosen holds clock c pairs.in_progress is = tt
  admits_chosen holds clock c pairs.older is = tt
  admits_chosen holds clock c (pairs.wrong_boot boot) is = to

called_by : (me : Node) (holds : Table ℕ) (s : ServerState) (clock : ℕ) (head : Head) (c : Carried) (b : Bool) → same_node head.to me ≡ b → Chosen me s (cond b (file_admits holds s clock head (whole head c) (admitted s.lasting.boot s.seats head)) drops)
called_by me holds s clock head c true to = admits_chosen me s head to holds clock c (admitted s.lasting.boot s.seats head) refl
called_by me holds s clock head c false to = tt

hears_chosen : (me : Node) (holds : Table ℕ) (s : ServerState) (clock : ℕ) (head : Head) (c : Carried) → Chosen me s (file_hears me holds s clock head c)
hears_chosen me holds s clock head (carried.Call user call) = called_by me holds s clock head (carried.Call user call) (same_node head.to me) refl
hears_chosen me holds s clock head (carried.Refusal code) = tt
hears_chosen me holds s clock head (carried.Reply reply) = tt
hears_chosen me holds s clock head carried.Notice = tt

-- ---- replies that wait

pub out_is : (P : Message → Type 0) (hs : List Held) → HeldAre P hs → AllByRecursion P (replies_of hs)
out_is P [] h = tt
out_is P (x ∷ hs) h = (h.0, out_is P hs h.1)

pub record TurnIs (P : Message → Type 0) (t : CallbackStep) : Type 0 where
  pub held : HeldAre P t.backs.held
  pub sent : AllByRecursion P t.sent
  pub outs : HeldAre P t.outs

-- the end of its step
record StartedIs (P : Message → Type 0) (t : Started) : Type 0 where
  held : HeldAre P t.backs.held
  sent : AllByRecursion P t.sent

pub record FileSends (P : Message → Type 0) (s : Step ServerState) : Type 0 where
  pub has : FileIs P s.state
  pub sent : AllByRecursion P s.sent

module _ (P : Message → Type 0) (me : Node) (boot : ℕ) (makes : FileMakes P me boot) where
  either_turn : (b : Bool) (x y : CallbackStep) → TurnIs P x → TurnIs P y → TurnIs P (cond b x y)
  either_turn true x y h k = h
  either_turn false x y h k = k

  repeats_turn : (b : Backs) (reply : Message) (o : Option Held) (good : Bool) → P reply → HeldAre P b.held → TurnIs P (repeats_by b reply o good)
  repeats_turn b reply (Some w) good r h = either_turn (w.again && is_ready b.lists.owed w) _ _ (record { held = h; sent = tt; outs = (r, tt) }) (record { held = h; sent = tt; outs = tt })
  repeats_turn b reply None true r h = record { held = h; sent = tt; outs = (r, tt) }
  repeats_turn b reply None false r h = record { held = h; sent = tt; outs = (r, tt) }

  settled_turn : (head : Head) (b : Backs) (o : Option BackCall) → HeldAre P b.held → TurnIs P (settles_by me boot head b o)
  settled_turn head b None h = record { held = h; sent = tt; outs = tt }
  settled_turn head b (Some c) h = either_turn (is_back_awaited boot c head) _ _ (record { held = h; sent = tt; outs = tt }) (record { held = h; sent = tt; outs = tt })

  renewed_turn : (head : Head) (b : Backs) (o : Option BackCall) → HeldAre P b.held → TurnIs P (renews_by me boot head b o)
  renewed_turn head b None h = record { held = h; sent = tt; outs = tt }
  renewed_turn head b (Some c) h =
      either_turn (is_back_awaited boot c head) _ _ (record { held = h; sent = (makes.breaks head.from head.boot c, tt); outs = tt }) (record { held = h; sent = tt; outs = tt })

  late_turn : (n : Node) (c : BackCall) (b : Backs) → HeldAre P b.held → TurnIs P (call_timed_out me boot n c b)
  late_turn n c b h = either_turn (is_sent_again c.tries) _ _ (record { held = h; sent = (makes.breaks n (b.known n) c, tt); outs = tt }) (record { held = h; sent = tt; outs = tt })

  start_is : (t : Started) (o : OwedBreak) (c : Option BackCall) → StartedIs P t → StartedIs P (starts_by me boot t o c)
  start_is t o None h = record { held = h.held; sent = all_more P t.sent _ h.sent (makes.breaks o.client (t.backs.known o.client) (started_call t.backs o), tt) }
  start_is t o (Some c) h = h

  starts_are : (os : List OwedBreak) (t : Started) → StartedIs P t → StartedIs P (starts me boot os t)
  starts_are [] t h = h
  starts_are (o ∷ os) t h = starts_are os (starts_by me boot t o (t.backs.calls o.client)) (start_is t o (t.backs.calls o.client) h)

  pumped_is : (t : CallbackStep) → TurnIs P t → StartedIs P (pumped me boot t)
  pumped_is t h =
      starts_are t.backs.lists.owed (record { backs = held_after t; sent = given_out t })
      (record {
        held = all_filter (HeldIs P) (λ (w : Held). not (is_ready t.backs.lists.owed w)) (t.backs.held ++ t.outs) (all_more (HeldIs P) t.backs.held t.outs h.held h.outs);
        sent = all_more P t.sent _ h.sent (out_is P _ (all_filter (HeldIs P) (is_ready t.backs.lists.owed) (t.outs ++ t.backs.held) (all_more (HeldIs P) t.outs t.backs.held h.outs h.held)));
      })

-- every change has a reply, or is refused
change_by : (P : Message → Type 0) (me : Node) (boot : ℕ) → FileMakes P me boot → (head : Head) (expiry : ℕ) → IsTo me head → (o : Option FsReply) → P (replied boot head (carried_by expiry o))
change_by P me boot makes head expiry to None = makes.answers.refusal head _ to
change_by P me boot makes head expiry to (Some reply) = makes.reply head _ to

change_is : (P : Message → Type 0) (me : Node) (boot : ℕ) → FileMakes P me boot → (head : Head) (clock : ℕ) (c : Change) → IsTo me head → P (change_reply_to boot head clock c)
change_is P me boot makes head clock c to = change_by P me boot makes head (clock + promise_ticks) to _

module _ (P : Message → Type 0) (me : Node) (x : ServerState) (makes : FileMakes P me x.lasting.boot) (has : FileIs P x) where
  kept_is : (reply : Message) → Chosen me x (repeats reply) → P reply
  kept_is reply k = subst (AdmittedIs P) k.1 (admitted_is P x.lasting.boot x.seats k.0 has.seats)

  for_turn : (clock : ℕ) (b : Backs) (d : Decision) → Chosen me x d → HeldAre P b.held → TurnIs P (turn_for me x clock b d)
  for_turn clock b drops d h = record { held = h; sent = tt; outs = tt }
  for_turn clock b (tells_boot head) d h = record { held = h; sent = (makes.answers.notice head d, tt); outs = tt }
  for_turn clock b (repeats reply) d h = repeats_turn P me x.lasting.boot makes b reply (held_under (key_answered reply) b.held) (is_seat_of reply (call_seat reply.head.to x.lasting.kept)) (kept_is reply d) h
  for_turn clock b (refuses head code) d h = record { held = h; sent = tt; outs = (makes.answers.refusal head _ d, tt) }
  for_turn clock b (shows head r) d h = record { held = h; sent = tt; outs = (makes.reply head _ d, tt) }
  for_turn clock b (saves head c) d h = record { held = h; sent = tt; outs = (change_is P me x.lasting.boot makes head clock c d, tt) }

  carried_turn : (clock : ℕ) (b : Backs) (d : Decision) (head : Head) (c : Carried) → Chosen me x d → HeldAre P b.held → TurnIs P (turned_by me x clock b d head c)
  carried_turn clock b d head (carried.Call user call) p h = for_turn clock b d p h
  carried_turn clock b d head (carried.Refusal code) p h =
      either_turn P me x.lasting.boot makes (same_node head.to me) _ _ (settled_turn P me x.lasting.boot makes head b (b.calls head.from) h) (record { held = h; sent = tt; outs = tt })
  carried_turn clock b d head (carried.Reply reply) p h =
      either_turn P me x.lasting.boot makes (same_node head.to me) _ _ (settled_turn P me x.lasting.boot makes head b (b.calls head.from) h) (record { held = h; sent = tt; outs = tt })
  carried_turn clock b d head carried.Notice p h =
      either_turn P me x.lasting.boot makes (same_node head.to me) _ _ (renewed_turn P me x.lasting.boot makes head b (b.calls head.from) h) (record { held = h; sent = tt; outs = tt })

  saved_is : (head : Head) (clock : ℕ) (c : Change) → IsTo me head → FileIs P (saved head clock c x)
  saved_is head clock c to = record {
    seats = seated_is P _ x.seats (change_is P me x.lasting.boot makes head clock c to) has.seats;
    kept = placed_is P _ x.lasting.kept (change_is P me x.lasting.boot makes head clock c to) has.kept;
    held = has.held;
  }

  does_is : (clock place : ℕ) (d : Decision) → Chosen me x d → FileIs P (does me x clock place d []).state
  does_is clock place drops d = has
  does_is clock place (tells_boot head) d = has
  does_is clock place (repeats reply) d = has
  does_is clock place (refuses head code) d = record { seats = seated_is P _ x.seats (makes.answers.refusal head _ d) has.seats; kept = has.kept; held = has.held }
  does_is clock place (shows head r) d = record { seats = seated_is P _ x.seats (makes.reply head _ d) has.seats; kept = has.kept; held = has.held }
  does_is clock place (saves head c) d = saved_is head clock c d

pub stepped_is : (P : Message → Type 0) (me : Node) (s : ServerState) (ls : List Line) (t : CallbackStep) → FileMakes P me s.lasting.boot → SeatsAre P s.seats → SeatsAre P s.lasting.kept → TurnIs P t → FileSends P (stepped me s ls t)
stepped_is P me s ls t makes seats kept h =
    let z = pumped_is P me s.lasting.boot makes t h in record { has = record { seats = seats; kept = kept; held = z.held }; sent = z.sent }

does_boot : (me : Node) (s : ServerState) (clock place : ℕ) (d : Decision) → (does me s clock place d []).state.lasting.boot ≡ s.lasting.boot
does_boot me s clock place drops = refl
does_boot me s clock place (tells_boot head) = refl
does_boot me s clock place (repeats reply) = refl
does_boot me s clock place (refuses head code) = refl
does_boot me s clock place (shows head r) = refl
does_boot me s clock place (saves head c) = refl

module _ (P : Message → Type 0) (me : Node) where
  pub file_sends : (holds : Table ℕ) (s : ServerState) (clock place : ℕ) (m : Message) → FileMakes P me s.lasting.boot → FileIs P s → FileSends P (file_row me holds s clock place (Whole m))
  unfolding file_row
  file_sends holds s clock place m makes h =
      let d : Decision = file_decides me holds s clock (Whole m) in
      let k : Chosen me s d = hears_chosen me holds s clock m.head m.carried in
      let z : FileIs P (does me s clock place d []).state = does_is P me s makes h clock place d k in
      stepped_is P me (does me s clock place d []).state _ (turned_in me s clock (expired clock s.backs) d (Whole m)) (subst (FileMakes P me) (sym (does_boot me s clock place d)) makes) z.seats z.kept
      (carried_turn P me s makes h clock (expired clock s.backs) d m.head m.carried k h.held)

  pub late_sends : (s : ServerState) (clock : ℕ) (n : Node) (c : BackCall) → FileMakes P me s.lasting.boot → FileIs P s → FileSends P (back_timeout_row me s clock n c)
  unfolding back_timeout_row
  late_sends s clock n c makes h =
      stepped_is P me s _ (call_timed_out me s.lasting.boot n c (expired clock s.backs)) makes h.seats h.kept (late_turn P me s.lasting.boot makes n c (expired clock s.backs) h.held)

  pub wake_sends : (s : ServerState) (clock : ℕ) → FileMakes P me s.lasting.boot → FileIs P s → FileSends P (wake_row me s clock)
  unfolding wake_row
  wake_sends s clock makes h = stepped_is P me s [] (no_turn (expired clock s.backs)) makes h.seats h.kept (record { held = h.held; sent = tt; outs = tt })

  pub start_sends : (clock count : ℕ) (f : Begun ServerState) → FileMakes P me (f.state.lasting.boot + 1) → SeatsAre P f.state.lasting.kept → FileSends P (file_start me clock count f)
  unfolding file_start
  start_sends clock count f makes kept = stepped_is P me (revived f.state) _ (risen_turn me clock count) makes kept kept (record { held = tt; sent = tt; outs = tt })

  -- what a restart begins with
  pub either_file : (b : Bool) (x y : Begun ServerState) → FileIs P x.state → FileIs P y.state → FileIs P (cond b x y).state
  either_file true x y h k = h
  either_file false x y h k = k

  file_begun_by : (s : ServerState) (clock : ℕ) (d : Decision) → FileMakes P me s.lasting.boot → FileIs P s → Chosen me s d → FileIs P (begun_after me s clock d).state
  file_begun_by s clock drops makes h k = h
  file_begun_by s clock (tells_boot head) makes h k = h
  file_begun_by s clock (repeats reply) makes h k = h
  file_begun_by s clock (refuses head code) makes h k = h
  file_begun_by s clock (shows head r) makes h k = h
  file_begun_by s clock (saves head c) makes h k = saved_is P me s makes h head clock c k

  pub file_begins : (holds : Table ℕ) (s : ServerState) (clock : ℕ) (m : Message) → FileMakes P me s.lasting.boot → FileIs P s → FileIs P (begun_after me s clock (file_decides me holds s clock (Whole m))).state
  file_begins holds s clock m makes h = file_begun_by s clock (file_decides me holds s clock (Whole m)) makes h (hears_chosen me holds s clock m.head m.carried)
