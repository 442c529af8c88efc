-- What a server that is up tells of volumes that vanish: only that which a call deletes, in a transaction on it.
use Rattle.std.proofs.Common.{◌≡◌, ℕ, ℤ, ◌+◌, Bool, true, false, cond, List, [], ◌∷◌, ◌++◌, Option, Some, None, refl, sym, ap, subst, ◌∙◌, eqb-true, nat_eq, if◌then◌else◌}
use Rattle.std.specs.Prelude.{◌&&◌, ◌||◌, not, map}
use Rattle.afs_num.specs.Nodes.{same_node}
use Rattle.afs_num.specs.declared.histories.Version.{Version}
use Rattle.afs_num.specs.declared.messages.Carried.{Carried}
use Rattle.afs_num.specs.declared.messages.Carried.TheVariants as carried
use Rattle.afs_num.specs.declared.messages.Message.{Message}
use Rattle.afs_num.specs.declared.messages.Received.TheVariants.{Whole}
use Rattle.afs_num.specs.declared.types.Head.{Head}
use Rattle.afs_num.specs.declared.types.Node.{Node}
use Rattle.afs_num.specs.declared.types.Node.TheVariants.{Server}
use Rattle.spec_breaks.specs.declared.types.OwedBreak.{OwedBreak}
use Rattle.spec_history.specs.declared.lines.Line.{Line}
use Rattle.spec_history.specs.declared.lines.Line.TheVariants as lines
use Rattle.spec_ideal.specs.Operations.{is_number, Found}
use Rattle.spec_ideal.specs.Tables.{get, Table}
use Rattle.spec_model.proofs.Basics.{both, same_node-true}
use Rattle.spec_model.specs.Calls.{call_seat, finished, is_sent_again, key_of}
use Rattle.spec_records.specs.Durable.{Durable, Stored}
use Rattle.spec_fold.specs.Deeds.{can_take, created}
use Rattle.spec_fold.specs.Effects.{effect_by, effect_of, flag_lines, lines_told_of, made_lines, turn_lines, vanish_lines, version_lines, whole_lines}
use Rattle.spec_rows.specs.Callbacks.{expired, held_under, is_back_awaited, is_ready, is_seat_of, key_answered, new_owes, owe_line, put_at, quit_line, renews_by, repeats_by, settle_line, settles_by, still_owed, call_timed_out, turn_for, turned_by, turned_in, CallbackStep}
use Rattle.spec_rows.specs.ServerRow.{does, drops, granted, granted_in, versions_made, promise_ticks, refuses, repeats, saves, shows, tells_boot, versioned, Decision}
use Rattle.spec_rows.specs.ServerSteps.{back_timeout_row, wake_row}
use Rattle.spec_rows.specs.States.{durable_of, BackCall, Backs, Held, Lasting, ServerState}
use Rattle.spec_volrows.proofs.VolTurns.{deeds_are_shown}
use Rattle.spec_volrows.specs.FileRow.{file_decides, file_row}
use Rattle.spec_volrows.proofs.VolKeeping.{deeds_are_writable}
use Rattle.spec_volrows.specs.VolLaws.{is_saved, IsWritable, OfSaved, ShowsDeed}
use Rattle.spec_volrows.specs.VolRow.{holds_of}
use Rattle.spec_volrows.specs.VolStates.{NodeState, PieceCall, Sending, VolState}
use Rattle.spec_volrows.specs.VolSteps as vols
use Rattle.spec_volrows.specs.VolSteps.{answered_by, deed_head, deed_record, dispatched, dispatches, ends_sending, forward_reply, from_of, in_progress, given_up, sending_goes_on, is_awaited, is_of_client, piece_gone, next_by, next_piece, node_back_timeout_row, node_begun_after, node_file_decides, node_row, node_start_row, node_wake_row, owes_of, piece_timeout_row, queued, replies_to, sent_whole, vol_answers, vol_begun_after, vol_decides, vol_renews, vol_repeats, vol_rests, vol_seated, vol_timed, vol_told, vol_told_by, vol_turn, vol_turned, vol_turned_by, with_transactions, Deed, VolDecision, VolTurn}
use Rattle.law_places.proofs.ServerLines.{carried_still, late_still, late_told, owes_still, row_still}
use Rattle.law_places.proofs.Turning.{all_lines, is_still, AreStill}
use Rattle.afs_num.specs.declared.records.RecordBody.{RecordBody}
use Rattle.afs_num.specs.declared.records.RecordBody.TheVariants as bodies
use Rattle.afs_num.specs.declared.records.RecordHead.{RecordHead}
use Rattle.spec_ideal.specs.SetUp.{first_versions}
use Rattle.law_vanishing.specs.Vanishing.{is_vanish, tells_vanish}

-- ---- lines that tell of none

module _ (v : ℕ) (n : Node) where
  abbrev Mute : List Line → Type 0
  Mute ls = tells_vanish v n ls ≡ false

  not_both : (b : Bool) → b ≡ false → b ≡ true → ⊥
  not_both b e f = let no : true ≡ false = sym f ∙ e in absurd cc

  mute_on : (xs ys : List Line) → Mute xs → Mute ys → Mute (xs ++ ys)
  mute_on [] ys h k = k
  mute_on (x ∷ xs) ys h k = let z = neither (is_vanish v n x) (tells_vanish v n xs) h in rw (z.0, mute_on xs ys z.1 k) refl
    where
      neither : (a b : Bool) → (a || b) ≡ false → (a ≡ false) × (b ≡ false)
      neither true b e = absurd cc
      neither false b e = (refl, e)

  still_one : (l : Line) → is_still l ≡ true → is_vanish v n l ≡ false
  still_one (lines.Vanish w k) h = absurd cc
  still_one l h = refl

  pub still_mute : (ls : List Line) → AreStill ls → Mute ls
  still_mute [] h = refl
  still_mute (l ∷ ls) h = let q = both (is_still l) (all_lines is_still ls) h in rw (still_one l q.0, still_mute ls q.1) refl

  versioned_mute : (vs : List Version) (ls : List Line) → Mute ls → Mute (versioned vs ls)
  versioned_mute [] ls h = h
  versioned_mute (x ∷ xs) ls h = versioned_mute xs ls h

  versions_mute : (vs : List Version) → Mute (version_lines vs)
  versions_mute [] = refl
  versions_mute (x ∷ xs) = versions_mute xs

  granted_mute : (me client : Node) (expiry : ℕ) (fs : List Found) (ls : List Line) → Mute ls → Mute (granted me client expiry fs ls)
  granted_mute me client expiry [] ls h = h
  granted_mute me client expiry (f ∷ fs) ls h = granted_mute me client expiry fs ls h

  -- ---- a file server

  does_mute : (me : Node) (x : ServerState) (clock place : ℕ) (d : Decision) (ls : List Line) → Mute ls → Mute (does me x clock place d ls).lines
  does_mute me x clock place drops ls h = h
  does_mute me x clock place (tells_boot head) ls h = h
  does_mute me x clock place (repeats reply) ls h = h
  does_mute me x clock place (refuses head code) ls h = h
  does_mute me x clock place (shows head r) ls h = granted_mute me head.from (clock + promise_ticks) r.granted ls h
  does_mute me x clock place (saves head c) ls h = versioned_mute (versions_made c) (granted me head.from (clock + promise_ticks) (granted_in c) ls) (granted_mute me head.from (clock + promise_ticks) (granted_in c) ls h)

  file_mute : (me : Node) (holds : Table ℕ) (x : ServerState) (clock place : ℕ) (m : Message) → Mute (file_row me holds x clock place (Whole m)).lines
  unfolding file_row
  file_mute me holds x clock place m =
      let d : Decision = file_decides me holds x clock (Whole m) in
      let t : CallbackStep = turned_in me x clock (expired clock x.backs) d (Whole m) in
      does_mute me x clock place d t.lines (still_mute t.lines (carried_still me x clock (expired clock x.backs) d m.head m.carried))

  -- ---- a volume server's record

  -- it deletes the volume, which is a read-write volume
  pub record TellsOf (me : Node) (body : RecordBody) (d : Durable) : Type 0 where
    pub deletes : body ≡ bodies.Delete v
    pub own : me ≡ n
    pub stored : Stored
    pub there : get v d.volumes ≡ Some stored
    pub kind : nat_eq stored.volume.kind 0 ≡ true

  pub gone_by : (b : Bool) (me : Node) (id : ℕ) → tells_vanish v n (if b then lines.Vanish id me ∷ [] else []) ≡ true → (b ≡ true) × ((id ≡ v) × (me ≡ n))
  gone_by false me id e = absurd cc
  gone_by true me id e =
      let z = both (nat_eq id v) (same_node me n) (one_of (nat_eq id v && same_node me n) e) in (refl, (eqb-true id v z.0, same_node-true me n z.1))
    where
      one_of : (b : Bool) → (b || false) ≡ true → b ≡ true
      one_of true h = refl
      one_of false h = absurd cc

  delete_tells : (me : Node) (id : ℕ) (d : Durable) (o : Option Stored) → get id d.volumes ≡ o → tells_vanish v n (lines_told_of (vanish_lines me id) o) ≡ true → TellsOf me (bodies.Delete id) d
  delete_tells me id d None at e = absurd cc
  delete_tells me id d (Some s) at e =
      let z = gone_by (nat_eq s.volume.kind 0) me id e in
      record { deletes = ap bodies.Delete z.1.0; own = z.1.1; stored = s; there = ap (λ (k : ℕ). get k d.volumes) (sym z.1.0) ∙ at; kind = z.0 }

  created_mute : (me : Node) (id : ℕ) (s : Stored) (b : Bool) → Mute (if b then whole_lines me id s ++ lines.Enable id me ∷ [] else [])
  created_mute me id s true = mute_on (version_lines (first_versions id s.volume.vnodes)) (lines.Enable id me ∷ []) (versions_mute (first_versions id s.volume.vnodes)) refl
  created_mute me id s false = refl

  made_mute : (me : Node) (id : ℕ) (s : Stored) (b : Bool) → Mute (if b then whole_lines me id s else [])
  made_mute me id s true = versions_mute (first_versions id s.volume.vnodes)
  made_mute me id s false = refl

  turn_mute : (me : Node) (id : ℕ) (was is : Bool) → Mute (turn_lines me id was is)
  turn_mute me id true true = refl
  turn_mute me id true false = refl
  turn_mute me id false true = refl
  turn_mute me id false false = refl

  released_mute : (me : Node) (id : ℕ) (s : Stored) (b : Bool) → Mute (if b then lines.Released s.volume.family id s.volume.release me ∷ [] else [])
  released_mute me id s true = refl
  released_mute me id s false = refl

  either_mute : (b : Bool) (xs ys : List Line) → Mute xs → Mute ys → Mute (if b then xs else ys)
  either_mute true xs ys h k = h
  either_mute false xs ys h k = k

  flags_mute : (me : Node) (id flags : ℕ) (o : Option Stored) → Mute (lines_told_of (flag_lines me id flags) o)
  flags_mute me id flags None = refl
  flags_mute me id flags (Some s) =
      either_mute (nat_eq s.volume.kind 0) _ _
      (mute_on (made_lines me id flags s) _ (made_mute me id s (nat_eq flags 0 && s.is_new)) (turn_mute me id (nat_eq s.volume.flags 0) (nat_eq flags 0)))
      (either_mute (nat_eq flags 0) _ [] (released_mute me id s (nat_eq s.volume.kind 1)) refl)

  pub effect_tells : (me : Node) (h : RecordHead) (body : RecordBody) (d : Durable) → can_take body d ≡ true → tells_vanish v n (effect_by me h body d) ≡ true → TellsOf me body d
  effect_tells me h (bodies.First volumes) d can e = absurd cc
  effect_tells me h (bodies.Change id counter unique vnodes removed) d can e = absurd cc
  effect_tells me h (bodies.Boot boot) d can e = absurd cc
  effect_tells me h (bodies.Create id family name kind flags quota is_new) d can e =
      let s : Stored = created family name kind flags quota is_new in absurd (not_both _ (created_mute me id s (nat_eq s.volume.kind 0 && nat_eq s.volume.flags 0)) e)
  effect_tells me h (bodies.Delete id) d can e = delete_tells me id d (get id d.volumes) refl e
  effect_tells me h (bodies.Flags id flags) d can e = absurd (not_both _ (flags_mute me id flags (get id d.volumes)) e)
  effect_tells me h (bodies.Clone source id name kind release) d can e = absurd cc
  effect_tells me h (bodies.Restore id dump) d can e = absurd cc
  effect_tells me h (bodies.Forward id to) d can e = absurd cc
  effect_tells me h bodies.Stamp d can e = absurd cc

  -- ---- a call that is saved

  front_of : (xs ys : List Line) → Mute ys → tells_vanish v n (xs ++ ys) ≡ true → tells_vanish v n xs ≡ true
  front_of xs ys h e = by (tells_vanish v n xs) refl
    where
      by : (b : Bool) → tells_vanish v n xs ≡ b → tells_vanish v n xs ≡ true
      by true is = is
      by false is = absurd (not_both _ (mute_on xs ys is h) e)

  saved_tells : (me : Node) (s : NodeState) (clock place : ℕ) (m : Message) (head : Head) (x : Deed) → is_of_client (from_of (Whole m)) ≡ false → vol_decides me (durable_of s.file.lasting) s.vol (Whole m) ≡ vols.saves head x → tells_vanish v n (node_row me s clock place (Whole m)).lines ≡ true →
      TellsOf me x.body (durable_of s.file.lasting)
  saved_tells me s clock place m head x other is e =
      let d : Durable = durable_of s.file.lasting in
      let shown : ShowsDeed me s clock place head x (node_row me s clock place (Whole m)) = deeds_are_shown me s clock place (Whole m) head x other is in
      let writable : IsWritable d head x = subst (OfSaved (IsWritable d)) is (deeds_are_writable me d s.vol (Whole m)) in
      let owes : List Line = map (owe_line me) (owes_of x.withdraws (expired clock s.file.backs).lists) in
      let told : tells_vanish v n (effect_of me (deed_record head x) d ++ owes) ≡ true = sym (ap (tells_vanish v n) shown.lines) ∙ e in
      effect_tells me (deed_head head x) x.body d writable.taken (front_of (effect_of me (deed_record head x) d) owes (still_mute owes (owes_still me (owes_of x.withdraws (expired clock s.file.backs).lists))) told)

  -- ---- any message

  others_tell : (me : Node) (s : NodeState) (clock place : ℕ) (m : Message) → is_of_client (from_of (Whole m)) ≡ false → is_saved (vol_decides me (durable_of s.file.lasting) s.vol (Whole m)) ≡ false → tells_vanish v n (node_row me s clock place (Whole m)).lines ≡ true → ⊥
  others_tell me s clock place m other none e = not_both _ (still_mute (node_row me s clock place (Whole m)).lines (row_still me s clock place m other none)) e

  clients_tell : (me : Node) (s : NodeState) (clock place : ℕ) (m : Message) → is_of_client (from_of (Whole m)) ≡ true → tells_vanish v n (node_row me s clock place (Whole m)).lines ≡ true → ⊥
  unfolding node_row
  clients_tell me s clock place m client e = not_both _ (file_mute me (holds_of s.vol.transactions) s.file clock place m) (sym (told client) ∙ e)
    where
      told : is_of_client (from_of (Whole m)) ≡ true → tells_vanish v n (node_row me s clock place (Whole m)).lines ≡ tells_vanish v n (file_row me (holds_of s.vol.transactions) s.file clock place (Whole m)).lines
      told is = rw is refl

  pub record TellsDeed (me : Node) (s : NodeState) (m : Message) : Type 0 where
    pub head : Head
    pub x : Deed
    pub decides : vol_decides me (durable_of s.file.lasting) s.vol (Whole m) ≡ vols.saves head x
    pub body : x.body ≡ bodies.Delete v
    pub stored : Stored
    pub there : get v s.file.lasting.volumes ≡ Some stored
    pub kind : nat_eq stored.volume.kind 0 ≡ true

  vol_tells : (me : Node) (s : NodeState) (clock place : ℕ) (m : Message) (d : VolDecision) → is_of_client (from_of (Whole m)) ≡ false → vol_decides me (durable_of s.file.lasting) s.vol (Whole m) ≡ d → tells_vanish v n (node_row me s clock place (Whole m)).lines ≡ true → TellsDeed me s m
  vol_tells me s clock place m (vols.saves head x) other is e =
      let z : TellsOf me x.body (durable_of s.file.lasting) = saved_tells me s clock place m head x other is e in record { head = head; x = x; decides = is; body = z.deletes; stored = z.stored; there = z.there; kind = z.kind }
  vol_tells me s clock place m d other is e = absurd (others_tell me s clock place m other (ap is_saved is) e)

  row_by : (me : Node) (s : NodeState) (clock place : ℕ) (m : Message) (b : Bool) → is_of_client (from_of (Whole m)) ≡ b → tells_vanish v n (node_row me s clock place (Whole m)).lines ≡ true → TellsDeed me s m
  row_by me s clock place m true is e = absurd (clients_tell me s clock place m is e)
  row_by me s clock place m false is e = vol_tells me s clock place m (vol_decides me (durable_of s.file.lasting) s.vol (Whole m)) is refl e

  pub row_tells : (me : Node) (s : NodeState) (clock place : ℕ) (m : Message) → tells_vanish v n (node_row me s clock place (Whole m)).lines ≡ true → TellsDeed me s m
  row_tells me s clock place m e = row_by me s clock place m (is_of_client (from_of (Whole m))) refl e

  -- ---- its timeouts, and as time passes

  pub piece_tells : (me : Node) (s : NodeState) (clock : ℕ) (k : Node) (c : PieceCall) → tells_vanish v n (piece_timeout_row me s clock k c).lines ≡ true → ⊥
  piece_tells me s clock k c e = not_both _ (still_mute (piece_timeout_row me s clock k c).lines (late_told me s clock k c)) e

  pub back_tells : (me : Node) (s : NodeState) (clock : ℕ) (k : Node) (c : BackCall) → tells_vanish v n (node_back_timeout_row me s clock k c).lines ≡ true → ⊥
  unfolding node_back_timeout_row back_timeout_row
  back_tells me s clock k c e = not_both _ (still_mute (call_timed_out me s.file.lasting.boot k c (expired clock s.file.backs)).lines (late_still me s.file.lasting.boot k c (expired clock s.file.backs))) e

  pub woken_tells : (me : Node) (s : NodeState) (clock : ℕ) → tells_vanish v n (node_wake_row me s clock).lines ≡ true → ⊥
  unfolding node_wake_row wake_row
  woken_tells me s clock e = not_both false refl e
