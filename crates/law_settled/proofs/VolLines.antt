-- What a volume server tells: it settles nothing and gives no break up, and where it owes breaks, their lines stand last.
use Rattle.spec_fold.specs.Deeds.{can_take, created}
use Rattle.spec_fold.specs.Effects as effects
use Rattle.spec_fold.specs.Effects.{create_lines, effect_by, flag_lines, made_lines, released_lines, turn_lines, vanish_lines, vanished_lines, version_lines, whole_lines}
use Rattle.spec_history.specs.declared.lines.Line.TheVariants as lines
use Rattle.spec_history.specs.declared.lines.Line.{Line}
use Rattle.spec_ideal.specs.Operations.{is_number}
use Rattle.spec_ideal.specs.Tables.{get, Table}
use Rattle.spec_ideal.specs.SetUp.{first_versions}
use Rattle.spec_model.specs.Calls.{call_seat, finished, is_sent_again, key_of}
use Rattle.law_legal.proofs.OwedOnce.{is_breakless}
use Rattle.law_places.proofs.Turning.{all_lines, all_on}
use Rattle.afs_num.specs.Nodes.{same_node}
use Rattle.afs_num.specs.declared.histories.Version.{Version}
use Rattle.afs_num.specs.declared.messages.Carried.TheVariants as carried
use Rattle.afs_num.specs.declared.messages.Carried.{Carried}
use Rattle.afs_num.specs.declared.messages.Message.{Message}
use Rattle.afs_num.specs.declared.records.RecordBody.TheVariants as bodies
use Rattle.afs_num.specs.declared.records.RecordBody.{RecordBody}
use Rattle.afs_num.specs.declared.records.RecordHead.{RecordHead}
use Rattle.afs_num.specs.declared.types.Head.{Head}
use Rattle.afs_num.specs.declared.types.Node.TheVariants.{Server}
use Rattle.afs_num.specs.declared.types.Node.{Node}
use Rattle.spec_breaks.specs.Promises.{Lists}
use Rattle.spec_records.specs.Durable.{is_flagged, Durable, Stored}
use Rattle.spec_rows.specs.Callbacks.{alls, held_under, is_ready, is_seat_of, key_answered, put_at}
use Rattle.spec_rows.specs.States.{BackCall, Backs, Held, Lasting}
use Rattle.spec_volrows.specs.VolLaws.{is_saved}
use Rattle.spec_volrows.specs.VolStates.{PieceCall, Sending, VolState}
use Rattle.spec_volrows.specs.VolSteps as vols
use Rattle.spec_volrows.specs.VolSteps.{answered_by, code_told, dispatches, ends_sending, forward_reply, given_up, in_progress, is_awaited, next_by, next_piece, piece_gone, queued, replies_to, sending_goes_on, sent_whole, vol_answers, vol_renews, vol_repeats, vol_rests, vol_seated, vol_timed, vol_told, vol_told_by, vol_turn, vol_turned_by, with_transactions, VolDecision, VolTurn}
use Rattle.std.proofs.Common.{◌≡◌, ℕ, ℤ, ◌+◌, Bool, true, false, cond, List, [], ◌∷◌, ◌++◌, Option, Some, None, refl, nat_eq, if◌then◌else◌}
use Rattle.std.specs.Prelude.{◌&&◌, ◌||◌, not}

-- lines that owe nothing, settle nothing, and give nothing up
abbrev pub AreBreakless : List Line → Type 0
AreBreakless ls = all_lines is_breakless ls ≡ true

-- ---- what a record tells

either_lines : (b : Bool) (xs ys : List Line) → AreBreakless xs → AreBreakless ys → AreBreakless (if b then xs else ys)
either_lines true xs ys h k = h
either_lines false xs ys h k = k

pub versions_told : (vs : List Version) → AreBreakless (version_lines vs)
versions_told [] = refl
versions_told (v ∷ vs) = versions_told vs

whole_told : (me : Node) (id : ℕ) (s : Stored) → AreBreakless (whole_lines me id s)
whole_told me id s = versions_told (first_versions id s.volume.vnodes)

vanish_told : (me : Node) (id : ℕ) (s : Stored) → AreBreakless (vanish_lines me id s)
vanish_told me id s = either_lines (nat_eq s.volume.kind 0) (lines.Vanish id me ∷ []) [] refl refl

pub vanished_told : (me : Node) (t : Table Stored) → AreBreakless (vanished_lines me t)
vanished_told me [] = refl
vanished_told me (p ∷ ps) =
    all_on is_breakless (if is_flagged p.1 then vanish_lines me p.0 p.1 else []) (vanished_lines me ps) (either_lines (is_flagged p.1) (vanish_lines me p.0 p.1) [] (vanish_told me p.0 p.1) refl) (vanished_told me ps)

create_told : (me : Node) (id : ℕ) (s : Stored) → AreBreakless (create_lines me id s)
create_told me id s =
    either_lines (nat_eq s.volume.kind 0 && nat_eq s.volume.flags 0) (whole_lines me id s ++ lines.Enable id me ∷ []) [] (all_on is_breakless (whole_lines me id s) (lines.Enable id me ∷ []) (whole_told me id s) refl) refl

made_told : (me : Node) (id flags : ℕ) (s : Stored) → AreBreakless (made_lines me id flags s)
made_told me id flags s = either_lines (nat_eq flags 0 && s.is_new) (whole_lines me id s) [] (whole_told me id s) refl

flags_turned_told : (me : Node) (id : ℕ) (was is : Bool) → AreBreakless (turn_lines me id was is)
flags_turned_told me id true false = refl
flags_turned_told me id false true = refl
flags_turned_told me id true true = refl
flags_turned_told me id false false = refl

released_told : (me : Node) (id : ℕ) (s : Stored) → AreBreakless (released_lines me id s)
released_told me id s = either_lines (nat_eq s.volume.kind 1) (lines.Released s.volume.family id s.volume.release me ∷ []) [] refl refl

flag_told : (me : Node) (id flags : ℕ) (s : Stored) → AreBreakless (flag_lines me id flags s)
flag_told me id flags s =
    either_lines (nat_eq s.volume.kind 0) (made_lines me id flags s ++ turn_lines me id (nat_eq s.volume.flags 0) (nat_eq flags 0)) (if nat_eq flags 0 then released_lines me id s else [])
    (all_on is_breakless (made_lines me id flags s) (turn_lines me id (nat_eq s.volume.flags 0) (nat_eq flags 0)) (made_told me id flags s) (flags_turned_told me id (nat_eq s.volume.flags 0) (nat_eq flags 0)))
    (either_lines (nat_eq flags 0) (released_lines me id s) [] (released_told me id s) refl)

stored_told : (tell : Stored → List Line) (o : Option Stored) → ((s : Stored) → AreBreakless (tell s)) → AreBreakless (effects.lines_told_of tell o)
stored_told tell None h = refl
stored_told tell (Some s) h = h s

-- one of a volume server
pub deed_told : (me : Node) (h : RecordHead) (body : RecordBody) (d : Durable) → can_take body d ≡ true → AreBreakless (effect_by me h body d)
deed_told me h (bodies.First volumes) d can = absurd cc
deed_told me h (bodies.Change id counter unique vnodes removed) d can = absurd cc
deed_told me h (bodies.Boot boot) d can = absurd cc
deed_told me h (bodies.Create id family name kind flags quota is_new) d can = create_told me id (created family name kind flags quota is_new)
deed_told me h (bodies.Delete id) d can = stored_told (vanish_lines me id) (get id d.volumes) (vanish_told me id)
deed_told me h (bodies.Clone source id name kind release) d can = refl
deed_told me h (bodies.Restore id dump) d can = refl
deed_told me h (bodies.Flags id flags) d can = stored_told (flag_lines me id flags) (get id d.volumes) (flag_told me id flags)
deed_told me h (bodies.Forward id to) d can = refl
deed_told me h bodies.Stamp d can = refl

-- ---- where a volume server writes nothing

-- it owes and ends no break, and makes and ends no call to a client
pub record IsQuietTurn (b : Backs) (t : VolTurn) : Type 0 where
  pub told : AreBreakless t.lines
  pub lists : t.backs.lists ≡ b.lists
  pub calls : t.backs.calls ≡ b.calls

module _ (me : Node) (l : Lasting) (v : VolState) (b : Backs) where
  either_quiet : (t : Bool) (x y : VolTurn) → IsQuietTurn b x → IsQuietTurn b y → IsQuietTurn b (cond t x y)
  either_quiet true x y h k = h
  either_quiet false x y h k = k

  next_by_quiet : (boot : ℕ) (n : Node) (t : VolTurn) (xs : List Sending) (c : Option PieceCall) → IsQuietTurn b t → IsQuietTurn b (next_by me boot n t xs c)
  next_by_quiet boot n t [] c h = h
  next_by_quiet boot n t (x ∷ xs) (Some c) h = h
  next_by_quiet boot n t (x ∷ xs) None h = record { told = h.told; lists = h.lists; calls = h.calls }

  next_quiet : (boot : ℕ) (n : Node) (t : VolTurn) → IsQuietTurn b t → IsQuietTurn b (next_piece me boot n t)
  next_quiet boot n t h = next_by_quiet boot n t (t.vol.sendings n) (t.vol.calls n) h

  answers_quiet : (w : VolState) (reply : Message) (waits : List ℕ) (again : Bool) → IsQuietTurn b (vol_answers l w b [] reply waits again)
  answers_quiet w reply [] again = record { told = refl; lists = refl; calls = refl }
  answers_quiet w reply (k ∷ ks) again = record { told = refl; lists = refl; calls = refl }

  rests_quiet : (w : VolState) → IsQuietTurn b (vol_rests l w b)
  rests_quiet w = record { told = refl; lists = refl; calls = refl }

  repeated_quiet : (reply : Message) (o : Option Held) (good : Bool) → IsQuietTurn b (vol_repeats l v b reply o good)
  repeated_quiet reply (Some h) good = either_quiet (h.again && is_ready b.lists.owed h) _ _ (answers_quiet v reply [] true) (rests_quiet v)
  repeated_quiet reply None true = answers_quiet v reply (alls b.lists.owed) true
  repeated_quiet reply None false = answers_quiet v reply [] true

  ends_quiet : (ls : List Line) (n : Node) (xs : List Sending) (x : Sending) (code : ℤ) → AreBreakless ls → IsQuietTurn b (ends_sending me l v b ls n xs x code)
  ends_quiet ls n xs x code h = next_quiet l.boot n (record {
    lasting = l;
    vol = record v { sendings = put_at n xs v.sendings; calls = put_at n None v.calls; seats = finished (key_of x.head) (forward_reply l.boot x.head code) v.seats };
    backs = b;
    lines = ls;
    sent = forward_reply l.boot x.head code ∷ [];
  }) (record { told = h; lists = refl; calls = refl })

  goes_quiet : (n : Node) (xs : List Sending) (x : Sending) → IsQuietTurn b (sending_goes_on me l v b n xs x)
  goes_quiet n xs x = next_quiet l.boot n (vol_rests l (record v { sendings = put_at n (piece_gone x ∷ xs) v.sendings; calls = put_at n None v.calls }) b) (rests_quiet _)

  answered_quiet : (n : Node) (xs : List Sending) (code : ℤ) → IsQuietTurn b (answered_by me l v b n xs code)
  answered_quiet n [] code = rests_quiet v
  answered_quiet n (x ∷ xs) code = either_quiet (not (is_number code 0) || sent_whole x) _ _ (ends_quiet [] n xs x code refl) (goes_quiet n xs x)

  renews_quiet : (n : Node) (known : ℕ) (c : PieceCall) (xs : List Sending) → IsQuietTurn b (vol_renews me l v b n known c xs)
  renews_quiet n known c [] = rests_quiet v
  renews_quiet n known c (x ∷ xs) = record { told = refl; lists = refl; calls = refl }

  told_by_quiet : (head : Head) (c : Carried) (o : Option PieceCall) → IsQuietTurn b (vol_told_by me l v b head c o)
  told_by_quiet head c None = rests_quiet v
  told_by_quiet head carried.Notice (Some p) = either_quiet (is_awaited l.boot p head) _ _ (renews_quiet head.from head.boot p (v.sendings head.from)) (rests_quiet v)
  told_by_quiet head (carried.Call user call) (Some p) = either_quiet (is_awaited l.boot p head) _ _ (answered_quiet head.from (v.sendings head.from) (code_told (carried.Call user call))) (rests_quiet v)
  told_by_quiet head (carried.Refusal code) (Some p) = either_quiet (is_awaited l.boot p head) _ _ (answered_quiet head.from (v.sendings head.from) (code_told (carried.Refusal code))) (rests_quiet v)
  told_by_quiet head (carried.Reply reply) (Some p) = either_quiet (is_awaited l.boot p head) _ _ (answered_quiet head.from (v.sendings head.from) (code_told (carried.Reply reply))) (rests_quiet v)

  told_quiet : (head : Head) (c : Carried) → IsQuietTurn b (vol_told me l v b head c)
  told_quiet head c = either_quiet (same_node head.to me) _ _ (told_by_quiet head c (v.calls head.from)) (rests_quiet v)

  pub timed_quiet : (n : Node) (c : PieceCall) (xs : List Sending) → IsQuietTurn b (vol_timed me l v b n c xs)
  timed_quiet n c [] = rests_quiet v
  timed_quiet n c (x ∷ xs) = either_quiet (is_sent_again c.tries) _ _ (record { told = refl; lists = refl; calls = refl }) (ends_quiet _ n xs x given_up refl)

  turn_quiet : (d : VolDecision) → is_saved d ≡ false → IsQuietTurn b (vol_turn me l v b d)
  turn_quiet vols.drops e = rests_quiet v
  turn_quiet (vols.tells_boot head) e = record { told = refl; lists = refl; calls = refl }
  turn_quiet (vols.repeats reply) e = repeated_quiet reply (held_under (key_answered reply) v.held) (is_seat_of reply (call_seat reply.head.to l.kept))
  turn_quiet (replies_to head reply ts last) e = answers_quiet (vol_seated head reply (with_transactions ts last v)) reply [] false
  turn_quiet (dispatches head x) e = next_quiet l.boot (Server x.server) (vol_rests l (queued head x (in_progress head v)) b) (rests_quiet _)
  turn_quiet (vols.saves head x) e = absurd cc

  pub turned_quiet : (d : VolDecision) (head : Head) (c : Carried) → is_saved d ≡ false → IsQuietTurn b (vol_turned_by me l v b d head c)
  turned_quiet d head (carried.Call user call) e = turn_quiet d e
  turned_quiet d head (carried.Refusal code) e = told_quiet head (carried.Refusal code)
  turned_quiet d head (carried.Reply reply) e = told_quiet head (carried.Reply reply)
  turned_quiet d head carried.Notice e = told_quiet head carried.Notice
