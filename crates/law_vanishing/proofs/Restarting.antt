-- What a server tells, as it begins again, of volumes that vanish: the step that was interrupted had deleted it, or it has the flag with which a
-- volume goes at a start.
use Rattle.std.proofs.Common.{◌≡◌, ◌⊎◌, inl, inr, ℕ, ◌+◌, Bool, true, false, List, [], ◌∷◌, ◌++◌, refl, sym, subst, ◌∙◌, eq-eqb, if◌then◌else◌}
use Rattle.std.specs.Prelude.{◌||◌, nat_eq, map}
use Rattle.afs_num.specs.declared.histories.Version.{Version}
use Rattle.afs_num.specs.declared.messages.Message.{Message}
use Rattle.afs_num.specs.declared.messages.Received.TheVariants.{Whole}
use Rattle.afs_num.specs.declared.types.Head.{Head}
use Rattle.afs_num.specs.declared.types.Node.{Node}
use Rattle.spec_history.specs.declared.lines.Line.{Line}
use Rattle.spec_history.specs.declared.lines.Line.TheVariants as lines
use Rattle.spec_ideal.specs.Tables.{Table}
use Rattle.spec_records.specs.Durable.{is_flagged, Durable, Stored}
use Rattle.spec_fold.specs.Effects.{vanish_lines, vanished_lines}
use Rattle.spec_rows.specs.Callbacks.{owe_line, revived_backs, risen_turn}
use Rattle.spec_rows.specs.Hosts.{at_rest, begun_from, comes_up, ends, fails_early, fails_midway, in_boot, in_step, is_full, restarted, without_boot_record, Blow, Fall, Outcome}
use Rattle.spec_rows.specs.ServerHosts.{can_start}
use Rattle.spec_rows.specs.ServerRow as files
use Rattle.spec_rows.specs.ServerRow.{begun_after, versions_made, versioned, Decision}
use Rattle.spec_rows.specs.States.{durable_of}
use Rattle.spec_rows.specs.Steps.{begun_before, Begun}
use Rattle.spec_volrows.specs.FileHosts.{file_begun_again}
use Rattle.spec_volrows.specs.FileRow.{file_start}
use Rattle.spec_volrows.specs.NodeHosts.{node_begun, node_kind, NodeHost}
use Rattle.spec_volrows.specs.VolLaws.{IsWritable, OfSaved}
use Rattle.spec_volrows.specs.VolStates.{NodeState}
use Rattle.spec_volrows.specs.VolSteps as vols
use Rattle.spec_volrows.specs.VolSteps.{deed_head, deed_lines, dispatches, from_of, is_of_client, node_file_decides, node_start_row, replies_to, vol_begun_after, vol_decides, Deed, VolDecision}
use Rattle.spec_volrows.proofs.VolKeeping.{deeds_are_writable}
use Rattle.law_vanishing.specs.Vanishing.{goes_at_start, has_flagged, is_vanish, tells_vanish}
use Rattle.law_places.proofs.ServerLines.{owes_still}
use Rattle.law_vanishing.proofs.Telling.{effect_tells, gone_by, still_mute, TellsDeed, TellsOf}

module _ (v : ℕ) (n : Node) where
  no : false ≡ true → ⊥
  no e = absurd cc

  -- of lines one behind the other
  either_tells : (a b : Bool) → (a || b) ≡ true → (a ≡ true) ⊎ (b ≡ true)
  either_tells true b e = inl refl
  either_tells false b e = inr e

  tells_on : (xs ys : List Line) → tells_vanish v n (xs ++ ys) ≡ true → (tells_vanish v n xs ≡ true) ⊎ (tells_vanish v n ys ≡ true)
  tells_on [] ys e = inr e
  tells_on (x ∷ xs) ys e = by (is_vanish v n x) refl (either_tells (is_vanish v n x) (tells_vanish v n (xs ++ ys)) e) (tells_on xs ys)
    where
      by : (b : Bool) → is_vanish v n x ≡ b → (b ≡ true) ⊎ (tells_vanish v n (xs ++ ys) ≡ true) → (tells_vanish v n (xs ++ ys) ≡ true → (tells_vanish v n xs ≡ true) ⊎ (tells_vanish v n ys ≡ true)) → ((b || tells_vanish v n xs) ≡ true) ⊎ (tells_vanish v n ys ≡ true)
      by true is z k = inl refl
      by false is (inl z) k = absurd (no z)
      by false is (inr z) k = k z

  versioned_tells : (vs : List Version) (ls : List Line) → tells_vanish v n (versioned vs ls) ≡ true → tells_vanish v n ls ≡ true
  versioned_tells [] ls e = e
  versioned_tells (x ∷ xs) ls e = versioned_tells xs ls e

  -- ---- volumes that go at a start

  or_true : (b : Bool) → (b || true) ≡ true
  or_true true = refl
  or_true false = refl

  or_first : (a b : Bool) → a ≡ true → (a || b) ≡ true
  or_first true b e = refl
  or_first false b e = absurd cc

  here_flagged : (me : Node) (p : ℕ × Stored) (b : Bool) → is_flagged p.1 ≡ b → tells_vanish v n (if b then vanish_lines me p.0 p.1 else []) ≡ true → goes_at_start v p ≡ true
  here_flagged me p false is e = absurd (no e)
  here_flagged me p true is e = let z = gone_by v n (nat_eq p.1.volume.kind 0) me p.0 e in rw (is, z.0, eq-eqb p.0 v z.1.0) refl

  vanished_flagged : (me : Node) (t : Table Stored) → tells_vanish v n (vanished_lines me t) ≡ true → has_flagged v t ≡ true
  vanished_flagged me [] e = absurd (no e)
  vanished_flagged me (p ∷ ps) e = by (tells_on (if is_flagged p.1 then vanish_lines me p.0 p.1 else []) (vanished_lines me ps) e) (vanished_flagged me ps)
    where
      by : (tells_vanish v n (if is_flagged p.1 then vanish_lines me p.0 p.1 else []) ≡ true) ⊎ (tells_vanish v n (vanished_lines me ps) ≡ true) → (tells_vanish v n (vanished_lines me ps) ≡ true → has_flagged v ps ≡ true) → has_flagged v (p ∷ ps) ≡ true
      by (inl z) k = or_first (goes_at_start v p) (has_flagged v ps) (here_flagged me p (is_flagged p.1) refl z)
      by (inr z) k = rw (k z) (or_true (goes_at_start v p))

  -- ---- what it begins with

  -- the interrupted step had deleted the volume
  abbrev pub CutDeletes : Node → NodeState → Fall → Type 0
  CutDeletes me s (in_step m clock b) = TellsDeed v n me s m
  CutDeletes me s at_rest = ⊥
  CutDeletes me s in_boot = ⊥

  -- Of what is told before any further lines: it was a deletion that was interrupted, or volumes went in a start that was.
  abbrev Before : Node → NodeState → Fall → Begun NodeState → Type 0
  Before me s fall f = (ls : List Line) → tells_vanish v n (f.before ls) ≡ true → (CutDeletes me s fall ⊎ (has_flagged v s.file.lasting.volumes ≡ true)) ⊎ (tells_vanish v n ls ≡ true)

  deed_before : (me : Node) (s : NodeState) (clock : ℕ) (m : Message) (head : Head) (x : Deed) → vol_decides me (durable_of s.file.lasting) s.vol (Whole m) ≡ vols.saves head x → tells_vanish v n (deed_lines me head x s.file.lasting) ≡ true → TellsDeed v n me s m
  deed_before me s clock m head x is e =
      let d : Durable = durable_of s.file.lasting in
      let writable : IsWritable d head x = subst (OfSaved (IsWritable d)) is (deeds_are_writable me d s.vol (Whole m)) in
      let z : TellsOf v n me x.body d = effect_tells v n me (deed_head head x) x.body d writable.taken e in
      record { head = head; x = x; decides = is; body = z.deletes; stored = z.stored; there = z.there; kind = z.kind }

  none_before : (me : Node) (s : NodeState) (fall : Fall) → Before me s fall (begun_before s)
  none_before me s fall ls e = inr e

  file_before : (me : Node) (s : NodeState) (fall : Fall) (clock : ℕ) (d : Decision) → Before me s fall (node_begun s (begun_after me s.file clock d))
  file_before me s fall clock files.drops ls e = inr e
  file_before me s fall clock (files.tells_boot head) ls e = inr e
  file_before me s fall clock (files.repeats reply) ls e = inr e
  file_before me s fall clock (files.refuses head code) ls e = inr e
  file_before me s fall clock (files.shows head r) ls e = inr e
  file_before me s fall clock (files.saves head c) ls e = inr (versioned_tells (versions_made c) ls e)

  vol_before : (me : Node) (s : NodeState) (clock : ℕ) (m : Message) (b : Blow) (d : VolDecision) → vol_decides me (durable_of s.file.lasting) s.vol (Whole m) ≡ d → Before me s (in_step m clock b) (node_begun s (vol_begun_after me s.file d))
  vol_before me s clock m b (vols.saves head x) is ls e = by (tells_on (deed_lines me head x s.file.lasting) ls e)
    where
      by : (tells_vanish v n (deed_lines me head x s.file.lasting) ≡ true) ⊎ (tells_vanish v n ls ≡ true) → (CutDeletes me s (in_step m clock b) ⊎ (has_flagged v s.file.lasting.volumes ≡ true)) ⊎ (tells_vanish v n ls ≡ true)
      by (inl z) = inl (inl (deed_before me s clock m head x is z))
      by (inr z) = inr z
  vol_before me s clock m b vols.drops is ls e = inr e
  vol_before me s clock m b (vols.tells_boot head) is ls e = inr e
  vol_before me s clock m b (vols.repeats reply) is ls e = inr e
  vol_before me s clock m b (replies_to head reply ts last) is ls e = inr e
  vol_before me s clock m b (dispatches head x) is ls e = inr e

  step_before : (me : Node) (s : NodeState) (clock : ℕ) (m : Message) (b : Blow) (client : Bool) →
      Before me s (in_step m clock b) (node_begun s (if client then begun_after me s.file clock (node_file_decides me s clock (Whole m)) else vol_begun_after me s.file (vol_decides me (durable_of s.file.lasting) s.vol (Whole m))))
  step_before me s clock m b true = file_before me s (in_step m clock b) clock (node_file_decides me s clock (Whole m))
  step_before me s clock m b false = vol_before me s clock m b (vol_decides me (durable_of s.file.lasting) s.vol (Whole m)) refl

  boot_before : (me : Node) (s : NodeState) → Before me s in_boot (node_begun s (file_begun_again me s.file))
  boot_before me s ls e = by (tells_on (vanished_lines me s.file.lasting.volumes) ls e)
    where
      by : (tells_vanish v n (vanished_lines me s.file.lasting.volumes) ≡ true) ⊎ (tells_vanish v n ls ≡ true) → (CutDeletes me s in_boot ⊎ (has_flagged v s.file.lasting.volumes ≡ true)) ⊎ (tells_vanish v n ls ≡ true)
      by (inl z) = inl (inr (vanished_flagged me s.file.lasting.volumes z))
      by (inr z) = inr z

  begins_before : (me : Node) (s : NodeState) (after : Bool) (fall : Fall) → Before me s fall (begun_from (node_kind me) s after fall)
  begins_before me s after at_rest = none_before me s at_rest
  begins_before me s false (in_step m clock b) = none_before me s (in_step m clock b)
  begins_before me s true (in_step m clock b) = step_before me s clock m b (is_of_client (from_of (Whole m)))
  begins_before me s false in_boot = none_before me s in_boot
  begins_before me s true in_boot = boot_before me s

  -- ---- however it ends

  abbrev pub Told : Node → NodeState → Fall → Begun NodeState → Type 0
  Told me s fall f = (CutDeletes me s fall ⊎ (has_flagged v s.file.lasting.volumes ≡ true)) ⊎ (has_flagged v f.state.file.lasting.volumes ≡ true)

  front_told : (me : Node) (s : NodeState) (fall : Fall) (f : Begun NodeState) (ls : List Line) → tells_vanish v n ls ≡ false → (CutDeletes me s fall ⊎ (has_flagged v s.file.lasting.volumes ≡ true)) ⊎ (tells_vanish v n ls ≡ true) → Told me s fall f
  front_told me s fall f ls none (inl z) = inl z
  front_told me s fall f ls none (inr z) = absurd (no (sym none ∙ z))

  risen_told : (me : Node) (s : NodeState) (fall : Fall) (f : Begun NodeState) (clock count : ℕ) → (CutDeletes me s fall ⊎ (has_flagged v s.file.lasting.volumes ≡ true)) ⊎ (tells_vanish v n (vanished_lines me f.state.file.lasting.volumes ++ (risen_turn me clock count).lines) ≡ true) → Told me s fall f
  risen_told me s fall f clock count (inl z) = inl z
  risen_told me s fall f clock count (inr z) = by (tells_on (vanished_lines me f.state.file.lasting.volumes) (risen_turn me clock count).lines z)
    where
      by : (tells_vanish v n (vanished_lines me f.state.file.lasting.volumes) ≡ true) ⊎ (tells_vanish v n (risen_turn me clock count).lines ≡ true) → Told me s fall f
      by (inl y) = inr (vanished_flagged me f.state.file.lasting.volumes y)
      by (inr y) = absurd (no (sym (still_mute v n (map (owe_line me) (revived_backs clock count).lists.owed) (owes_still me (revived_backs clock count).lists.owed)) ∙ y))

  ends_told : (me : Node) (h : NodeHost) (clock count : ℕ) (fall : Fall) (f : Begun NodeState) → Before me h.state fall f → (o : Outcome) → tells_vanish v n (ends (node_kind me) h clock count f fall o).lines ≡ true → Told me h.state fall f
  unfolding node_start_row file_start
  ends_told me h clock count fall f before comes_up e = risen_told me h.state fall f clock count (before (lines.Restart me (f.state.file.lasting.boot + 1) ∷ (vanished_lines me f.state.file.lasting.volumes ++ (risen_turn me clock count).lines)) e)
  ends_told me h clock count fall f before fails_early e = absurd (no e)
  ends_told me h clock count fall f before fails_midway e = front_told me h.state fall f (lines.Fault me ∷ []) refl (before (lines.Fault me ∷ []) e)
  ends_told me h clock count fall f before is_full e = front_told me h.state fall f (lines.Full me ∷ []) refl (before (lines.Full me ∷ []) e)

  pub restart_tells : (me : Node) (h : NodeHost) (clock count : ℕ) (after : Bool) (o : Outcome) (fall : Fall) → tells_vanish v n (restarted (node_kind me) h clock count after o fall).lines ≡ true → Told me h.state fall (begun_from (node_kind me) h.state after fall)
  restart_tells me h clock count after o fall e =
      let f : Begun NodeState = begun_from (node_kind me) h.state after fall in
      ends_told me h clock count fall f (begins_before me h.state after fall) (without_boot_record (can_start f.state.file) o) e
