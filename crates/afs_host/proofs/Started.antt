-- A restart is its host's, whatever kind of node begins again.
use Rattle.std.specs.Prelude.{◌≡◌, ◌≤◌, ◌⊎◌, ℕ, List, [], ◌∷◌, length, Bool, Option, Some, None, IsSome}
use Rattle.std.proofs.Common.{refl, ap, sym, subst, ◌∙◌, inl, inr}
use Rattle.afs_num.specs.declared.faults.StoreFault.{StoreFault}
use Rattle.afs_num.specs.declared.faults.StoreFault.TheVariants as refusals
use Rattle.afs_num.specs.declared.records.Mark.{Mark}
use Rattle.spec_history.specs.declared.lines.Line.{Line}
use Rattle.spec_history.specs.declared.lines.Line.TheVariants as lines
use Rattle.spec_history.specs.declared.lines.Outs.{Outs}
use Rattle.afs_disk.specs.Disk.{LeavesOnly, Rose, Setting}
use Rattle.afs_disk.specs.Fuses.{Fused}
use Rattle.afs_disk.specs.declared.disk.Disk.{Ghosts}
use Rattle.afs_journal.specs.Log.{IsJournal, StandsAsBefore}
use Rattle.afs_journal.specs.Records.{journal_bytes, whole_records}
use Rattle.spec_rows.specs.Hosts.{begun_from, comes_up, ends, fails_early, fails_midway, falls, is_full, Fall, Host, MayFind, Outcome}
use Rattle.spec_rows.specs.Steps.{Begun, Step}
use Rattle.afs_store.specs.Opening.{lines_begun, IsAttachFault}
use Rattle.afs_store.specs.Stores.{IsCaused, StandFor, StoreOf}
use Rattle.afs_host.specs.Seats.{IsHostDown, IsHostStepDown, IsHostStepUp, Resting, Running}
use Rattle.afs_host.specs.Standing.{IsKeptFound, IsKeptIn, Keeping}
use Rattle.afs_host.specs.Starting.{BootsBy, BootsOverBy, HasStarted, IsFound, IsRefused, IsStartedBy, Sight, StartsOverBy}
use Rattle.afs_host.specs.declared.starting.Start.{Start}
use Rattle.afs_host.specs.declared.starting.Start.TheVariants as starts
use Rattle.afs_host.proofs.Blows.{none_cause}
use Rattle.afs_host.proofs.Finding.{finds_found, lies_good, Finds}
use Rattle.afs_host.proofs.Lying.{is_told, some_of, IsSoundKeeping}

-- ---- counts

-- a disk that isn't set failed by itself
pub own_cause : (setting : Setting) (last a b c d : ℕ) (refusal : StoreFault) → setting.stop ≡ None → setting.fail ≡ None → IsCaused setting last a b c d refusal → refusal ≡ refusals.Failed → Rose c d
own_cause setting last a b c d refusal stop fail caused is =
    none_cause setting last (Rose c d) stop fail (subst (IsCaused setting last a b c d) is caused).1

-- where memory ran out no count rose
pub own_quiet : (setting : Setting) (last a b c d : ℕ) (refusal : StoreFault) → IsCaused setting last a b c d refusal → refusal ≡ refusals.OutOfMemory → d ≡ c
own_quiet setting last a b c d refusal caused is = (subst (IsCaused setting last a b c d) is caused).1

module _ {R T M P L S : Type 0} (k : Keeping R T M P L S) where
  -- ---- the disk was taken up

  -- what is known of a store that was made of the disk of a node that was down, and of what became of its boot
  pub record TakenUp {N V D : Type 0} (v : Sight N V D S) (w : Ghosts D) (start : Begun S → Step S) (old : Resting D) (s : StoreOf (Fused D) R T) (front : List Line) (result : Start (Running N V) (Resting D)) : Type 0 where
    pub shows : (disk : D) (bytes : List ℕ) → w.seen disk ≡ Some bytes → w.may_leave disk bytes
    pub stands : (bytes : List ℕ) → w.seen old.disk ≡ Some bytes → StandFor k.fold (whole_records bytes) s.durable
    pub lines_are : (bytes : List ℕ) → w.seen old.disk ≡ Some bytes → lines_begun k.fold k.kind.me old.mark (w.limit old.disk) (whole_records bytes) ≡ Some front
    pub rests : (bytes : List ℕ) → w.seen old.disk ≡ Some bytes → IsJournal (whole_records bytes) (w.seen s.disk.disk) (w.may_leave s.disk.disk)
    pub counted : (bytes : List ℕ) → w.seen old.disk ≡ Some bytes → s.count ≡ length (whole_records bytes)
    pub capacity : k.fold.capacity s.durable ≡ w.limit old.disk
    pub quiet : w.faults s.disk.disk ≡ w.faults old.disk
    pub boots : (begun : Begun S) (records : List (List ℕ)) → IsFound k w begun records front s → BootsBy k v w start begun records s.disk.disk result
    pub unchanged : (d : Resting D) → result ≡ starts.Unchanged d → (d.mark ≡ old.mark) × (w.limit d.disk ≡ w.limit old.disk)

  -- what is known of a disk that was refused
  pub record Refused {D : Type 0} (w : Ghosts D) (refusal : StoreFault) (old new : Resting D) : Type 0 where
    pub shows : (bytes : List ℕ) → w.seen old.disk ≡ Some bytes → w.may_leave old.disk bytes
    pub reads : (bytes now : List ℕ) → w.seen old.disk ≡ Some bytes → w.seen new.disk ≡ Some now → whole_records now ≡ whole_records bytes
    pub mark : new.mark ≡ old.mark
    pub same_limit : w.limit new.disk ≡ w.limit old.disk
    pub told : IsSome (w.seen new.disk) → IsSome (w.seen old.disk)
    pub leaves : (bytes : List ℕ) → w.seen old.disk ≡ Some bytes → LeavesOnly w.moment w.left_since old.disk new.disk (StandsAsBefore (w.may_leave old.disk))
    pub refusals_are : IsAttachFault refusal
    pub bad : (number : ℕ) → refusal ≡ refusals.BadRecord number → (bytes : List ℕ) → w.seen old.disk ≡ Some bytes → k.fold.first_bad (w.limit old.disk) (whole_records bytes) ≡ Some number
    pub failed : refusal ≡ refusals.Failed → Rose (w.faults old.disk) (w.faults new.disk)

  -- the same records lie there as before
  same_lies : (s : S) (fall : Fall) (mark : Mark) (bytes c : List ℕ) → whole_records c ≡ whole_records bytes → IsKeptIn k s fall mark (whole_records bytes) → IsKeptIn k s fall mark (whole_records c)
  same_lies s fall mark bytes c same lies = subst (IsKeptIn k s fall mark) (sym same) lies

  same_found : (s : S) (fall : Fall) (mark : Mark) (bytes c : List ℕ) → whole_records c ≡ whole_records bytes → IsKeptFound k s fall mark (whole_records bytes) → IsKeptFound k s fall mark (whole_records c)
  same_found s fall mark bytes c same lies = subst (IsKeptFound k s fall mark) (sym same) lies

  module _ (fit : IsSoundKeeping k) {D : Type 0} (w : Ghosts D) (old : Resting D) where
    -- what was found of the host
    record Taken (h : Host S) (fall : Fall) (front : List Line) (s : StoreOf (Fused D) R T) (bytes : List ℕ) : Type 0 where
      lies : IsKeptFound k h.state fall old.mark (whole_records bytes)
      what : Finds k fit h.state fall s.durable front
      found : IsFound k w (begun_from k.kind h.state what.after fall) (whole_records bytes) front s

    module _ {N V : Type 0} (v : Sight N V D S) (clock count : ℕ) (s : StoreOf (Fused D) R T) (front : List Line) where
      taken : (start : Begun S → Step S) (result : Start (Running N V) (Resting D)) → TakenUp v w start old s front result → (told : IsSome (w.seen old.disk)) → (h : Host S) (was : IsHostDown w.seen w.may_leave w.limit k old h) → Taken h was.fall front s (some_of (w.seen old.disk) told).0
      taken start result t told h was =
          let bytes = some_of (w.seen old.disk) told in
          let lies = was.found bytes.0 bytes.1 in
          let what = finds_found k fit h.state was.fall old.mark (whole_records bytes.0) (w.limit old.disk) was.capacity s.durable front t.capacity (t.stands bytes.0 bytes.1) (t.lines_are bytes.0 bytes.1) lies in
          let rests = t.rests bytes.0 bytes.1 in
          record {
            lies = lies;
            what = what;
            found = record {
              read = what.read;
              before = what.before;
              stands = t.stands bytes.0 bytes.1;
              counted = t.counted bytes.0 bytes.1;
              told = (journal_bytes (whole_records bytes.0), (rests.now, rests.stands));
            };
          }

      started_up : (h : Host S) (fall : Fall) (after : Bool) → MayFind fall after → (records : List (List ℕ)) (disk : D) (rose : Type 0) (r : Running N V) (outs : Outs) → BootsBy k v w (k.kind.start clock count) (begun_from k.kind h.state after fall) records disk (starts.Up r outs) →
          HasStarted k.kind h clock count fall (IsHostStepUp v.state r [] outs) rose
      started_up h fall after may records disk rose r outs b = record {
        after = after;
        may = may;
        outcome = comes_up;
        is = subst (λ (o : Outcome). IsHostStepUp v.state r [] outs (ends k.kind h clock count (begun_from k.kind h.state after fall) fall o)) (sym b.0) b.1;
        blame = λ impossible. absurd impossible;
      }

      started_down : (h : Host S) (fall : Fall) (after : Bool) → MayFind fall after → (records : List (List ℕ)) (disk : D) (rose : Type 0) (d : Resting D) (ls : List Line) → (Rose (w.faults disk) (w.faults d.disk) → rose) → BootsBy k v w (k.kind.start clock count) (begun_from k.kind h.state after fall) records disk (starts.Down d ls) →
          HasStarted k.kind h clock count fall (IsHostStepDown w.seen w.may_leave w.limit k d ls) rose
      started_down h fall after may records disk rose d ls since (inl full) = record {
        after = after;
        may = may;
        outcome = is_full;
        is = subst (λ (o : Outcome). IsHostStepDown w.seen w.may_leave w.limit k d ls (ends k.kind h clock count (begun_from k.kind h.state after fall) fall o)) (sym full.0) full.1;
        blame = λ impossible. absurd impossible;
      }
      started_down h fall after may records disk rose d ls since (inr failed) = record {
        after = after;
        may = may;
        outcome = fails_midway;
        is = subst (λ (o : Outcome). IsHostStepDown w.seen w.may_leave w.limit k d ls (ends k.kind h clock count (begun_from k.kind h.state after fall) fall o)) (sym failed.0) failed.1.0;
        blame = λ own. since failed.1.1;
      }

      pub taken_up : (result : Start (Running N V) (Resting D)) → TakenUp v w (k.kind.start clock count) old s front result → IsSome (w.seen old.disk) → IsStartedBy k v w clock count old result
      taken_up (starts.Up r outs) t told = λ h was.
          let a = taken (k.kind.start clock count) (starts.Up r outs) t told h was in
          let records = whole_records (some_of (w.seen old.disk) told).0 in
          started_up h was.fall a.what.after a.what.may records s.disk.disk (Rose (w.faults old.disk) (w.faults (v.shown r.store).fuse.disk)) r outs (t.boots (begun_from k.kind h.state a.what.after was.fall) records a.found)
      taken_up (starts.Down d ls) t told = λ h was.
          let a = taken (k.kind.start clock count) (starts.Down d ls) t told h was in
          let records = whole_records (some_of (w.seen old.disk) told).0 in
          started_down h was.fall a.what.after a.what.may records s.disk.disk (Rose (w.faults old.disk) (w.faults d.disk)) d ls (subst (λ (n : ℕ). Rose n (w.faults d.disk)) t.quiet) (t.boots (begun_from k.kind h.state a.what.after was.fall) records a.found)
      taken_up (starts.Unchanged d) t told = λ h was.
          let bytes = some_of (w.seen old.disk) told in
          let a = taken (k.kind.start clock count) (starts.Unchanged d) t told h was in
          let still = t.boots (begun_from k.kind h.state a.what.after was.fall) (whole_records bytes.0) a.found in
          let same = t.unchanged d refl in
          record {
            fall = was.fall;
            down = was.down;
            armed = was.armed;
            capacity = was.capacity ∙ sym same.1;
            lies = λ now c left. subst (λ (m : Mark). IsKeptIn k h.state was.fall m (whole_records c)) (sym same.0) (same_lies h.state was.fall old.mark bytes.0 c (still now c left) (was.lies told bytes.0 (t.shows old.disk bytes.0 bytes.1)));
            found = λ c at. subst (λ (m : Mark). IsKeptFound k h.state was.fall m (whole_records c)) (sym same.0) (same_found h.state was.fall old.mark bytes.0 c (still (is_told (w.seen d.disk) c at) c (t.shows d.disk c at)) a.lies);
          }
      taken_up (starts.Lost d) t told = λ h was.
          let a = taken (k.kind.start clock count) (starts.Lost d) t told h was in
          (a.what.after, (a.what.may, t.boots (begun_from k.kind h.state a.what.after was.fall) (whole_records (some_of (w.seen old.disk) told).0) a.found))

    -- ---- the disk wasn't taken up

    module _ (now : (disk : D) (t : ℕ) (c : List ℕ) → t ≤ w.moment disk → w.may_leave disk c → w.left_since disk t c) (refusal : StoreFault) (new : Resting D) (r : Refused w refusal old new) where
      abbrev still_down : (h : Host S) → IsHostDown w.seen w.may_leave w.limit k old h → IsHostDown w.seen w.may_leave w.limit k new h
      still_down h was = record {
        fall = was.fall;
        down = was.down;
        armed = was.armed;
        capacity = was.capacity ∙ sym r.same_limit;
        lies = λ told c left.
            let before = r.told told in
            let bytes = some_of (w.seen old.disk) before in
            let only = r.leaves bytes.0 bytes.1 in
            let d = only.each c (now new.disk (w.moment old.disk) c only.later left) in
            subst (λ (m : Mark). IsKeptIn k h.state was.fall m (whole_records c)) (sym r.mark) (same_lies h.state was.fall old.mark d.0 c d.2 (was.lies before d.0 d.1));
        found = λ c at.
            let bytes = some_of (w.seen old.disk) (r.told (is_told (w.seen new.disk) c at)) in
            subst (λ (m : Mark). IsKeptFound k h.state was.fall m (whole_records c)) (sym r.mark) (same_found h.state was.fall old.mark bytes.0 c (r.reads bytes.0 c bytes.1 at) (was.found bytes.0 bytes.1));
      }

      -- a disk that tells has no record that can't be taken
      why_refused : (told : IsSome (w.seen old.disk)) (h : Host S) → IsHostDown w.seen w.may_leave w.limit k old h → (f : StoreFault) → refusal ≡ f → IsAttachFault f → (refusal ≡ refusals.OutOfMemory → ⊥) → Rose (w.faults old.disk) (w.faults new.disk)
      why_refused told h was refusals.Failed is ok other = r.failed is
      why_refused told h was refusals.OutOfMemory is ok other = absurd (other is)
      why_refused told h was (refusals.BadRecord number) is ok other =
          let bytes = some_of (w.seen old.disk) told in
          absurd (lies_good k fit h.state was.fall old.mark (whole_records bytes.0) (w.limit old.disk) was.capacity number (was.lies told bytes.0 (r.shows bytes.0 bytes.1)) (r.bad number is bytes.0 bytes.1))
      why_refused told h was (refusals.Full used capacity) is ok other = absurd ok
      why_refused told h was refusals.Closed is ok other = absurd ok

      pub refused_so : {N V : Type 0} (v : Sight N V D S) (clock count : ℕ) (result : Start (Running N V) (Resting D)) → IsRefused refusal new (lines.Fault k.kind.me ∷ []) result → IsSome (w.seen old.disk) → IsStartedBy k v w clock count old result
      refused_so {N} {V} v clock count (starts.Up up outs) so told = absurd so
      refused_so {N} {V} v clock count (starts.Down d ls) so told = λ h was.
          let down = still_down h was in
          let rose = why_refused told h was refusal refl r.refusals_are so.0 in
          let bytes = some_of (w.seen old.disk) told in
          let lies = was.found bytes.0 bytes.1 in
          record {
            after = lies.0;
            may = lies.1.0;
            outcome = fails_early;
            is = subst (λ (x : Resting D). IsHostStepDown w.seen w.may_leave w.limit k x ls (falls h (lines.Fault k.kind.me ∷ []) was.fall)) (sym so.1.0) (record {
              host = record { fall = was.fall; down = refl; armed = refl; capacity = down.capacity; lies = down.lies; found = down.found };
              lines = so.1.1;
              sent = refl;
            });
            blame = λ own. subst (λ (x : Resting D). Rose (w.faults old.disk) (w.faults x.disk)) (sym so.1.0) rose;
          }
      refused_so {N} {V} v clock count (starts.Unchanged d) so told = λ h was. subst (λ (x : Resting D). IsHostDown w.seen w.may_leave w.limit k x h) (sym so.1) (still_down h was)
      refused_so {N} {V} v clock count (starts.Lost d) so told = absurd so

  -- ---- whatever the disk tells

  module _ {N V D : Type 0} (v : Sight N V D S) (w : Ghosts D) (start : Begun S → Step S) (old : Resting D) where
    pub boots_over : (s : StoreOf (Fused D) R T) (front : List Line) → k.fold.capacity s.durable ≡ w.limit old.disk → (result : Start (Running N V) (Resting D)) → BootsOverBy k v w start s.durable front (w.faults old.disk) result → StartsOverBy k v w start old result
    boots_over s front capacity (starts.Up r outs) boots = record { durable = s.durable; capacity = capacity; front = front; boots = boots }
    boots_over s front capacity (starts.Down d ls) boots = inr (record { durable = s.durable; capacity = capacity; front = front; boots = boots })
    boots_over s front capacity (starts.Unchanged d) boots = boots
    boots_over s front capacity (starts.Lost d) boots = record { durable = s.durable; capacity = capacity; front = front; boots = boots }

    module _ (new : Resting D) (refusal : StoreFault) (bad : (number : ℕ) → refusal ≡ refusals.BadRecord number → (bytes : List ℕ) → w.seen old.disk ≡ Some bytes → k.fold.first_bad (w.limit old.disk) (whole_records bytes) ≡ Some number) (failed : refusal ≡ refusals.Failed → Rose (w.faults old.disk) (w.faults new.disk)) where
      -- the disk failed, or a record can't be taken
      cause_over : (f : StoreFault) → refusal ≡ f → IsAttachFault f → (refusal ≡ refusals.OutOfMemory → ⊥) →
          Rose (w.faults old.disk) (w.faults new.disk) ⊎ ((number : ℕ) × ((bytes : List ℕ) → w.seen old.disk ≡ Some bytes → k.fold.first_bad (w.limit old.disk) (whole_records bytes) ≡ Some number))
      cause_over refusals.Failed is ok other = inl (failed is)
      cause_over refusals.OutOfMemory is ok other = absurd (other is)
      cause_over (refusals.BadRecord number) is ok other = inr (number, bad number is)
      cause_over (refusals.Full used capacity) is ok other = absurd ok
      cause_over refusals.Closed is ok other = absurd ok

      pub refused_over : new.mark ≡ old.mark → IsAttachFault refusal → (refusal ≡ refusals.OutOfMemory → w.faults new.disk ≡ w.faults old.disk) → (result : Start (Running N V) (Resting D)) → IsRefused refusal new (lines.Fault k.kind.me ∷ []) result → StartsOverBy k v w start old result
      refused_over mark ok quiet (starts.Up up outs) so = absurd so
      refused_over mark ok quiet (starts.Down d ls) so = inl (record {
        mark = ap (λ (x : Resting D). x.mark) so.1.0 ∙ mark;
        lines = so.1.1;
        cause = subst (λ (x : Resting D). Rose (w.faults old.disk) (w.faults x.disk) ⊎ ((number : ℕ) × ((bytes : List ℕ) → w.seen old.disk ≡ Some bytes → k.fold.first_bad (w.limit old.disk) (whole_records bytes) ≡ Some number))) (sym so.1.0)
            (cause_over refusal refl ok so.0);
      })
      refused_over mark ok quiet (starts.Unchanged d) so = ap (λ (x : Resting D). w.faults x.disk) so.1 ∙ quiet so.0
      refused_over mark ok quiet (starts.Lost d) so = absurd so
