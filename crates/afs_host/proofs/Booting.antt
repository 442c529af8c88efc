-- The second half of a restart is its host's, whatever kind of node begins again.
use Rattle.std.specs.Prelude.{◌≡◌, ◌≤◌, ◌⊎◌, ◌+◌, ℕ, List, [], ◌∷◌, ◌++◌, length, Bool, true, false, Some, None, Result, Err, IsSome, if◌then◌else◌}
use Rattle.std.proofs.Common.{refl, ap, sym, subst, ◌∙◌, inl, inr, arith}
use Rattle.std.proofs.lemmas.List.{length-append}
use Rattle.afs_num.specs.declared.faults.StoreFault.{StoreFault}
use Rattle.afs_num.specs.declared.faults.StoreFault.TheVariants as refusals
use Rattle.spec_history.specs.declared.lines.Line.{Line}
use Rattle.spec_history.specs.declared.lines.Line.TheVariants as lines
use Rattle.afs_disk.specs.Disk.{LeavesOnly, Rose}
use Rattle.afs_disk.specs.Fuses.{Fused}
use Rattle.afs_disk.specs.declared.disk.Disk.{Ghosts}
use Rattle.afs_journal.specs.Records.{whole_records}
use Rattle.spec_rows.specs.Hosts.{at_rest, comes_up, fails_midway, in_boot, is_full, without_boot_record, stays}
use Rattle.spec_rows.specs.Steps.{Begun, Step}
use Rattle.afs_store.specs.Stores.{IsCounted, IsKept, LeftAround, SameBut, StoreOf}
use Rattle.afs_host.specs.Seats.{IsHostStepDown, Resting, Running}
use Rattle.afs_host.specs.Standing.{IsKeptFound, IsKeptIn, Keeping}
use Rattle.afs_host.specs.Starting.{BootsBy, BootsOverBy, IsFound, Sight, Stays}
use Rattle.afs_host.specs.Views.{count_mark, shown_by}
use Rattle.afs_host.specs.declared.starting.Start.{Start}
use Rattle.afs_host.specs.declared.starting.Start.TheVariants as starts
use Rattle.afs_host.proofs.Lying.{begun_lies, found_free, kept_before, kept_there, some_of, IsSoundKeeping}

-- what a call of the store answered
abbrev refused_by : StoreFault → Result (List Line) StoreFault
refused_by f = Err f

pub is_true : (t : Bool) → (t ≡ false → ⊥) → t ≡ true
is_true true no_false = refl
is_true false no_false = absurd (no_false refl)

-- ---- a failure is no other refusal

pub was_failed : (f : StoreFault) (used capacity : ℕ) → f ≡ refusals.Failed → (f ≡ refusals.OutOfMemory) ⊎ (refused_by f ≡ refused_by (refusals.Full used capacity)) → ⊥
was_failed f used capacity is (inl other) = absurd cc
was_failed f used capacity is (inr other) = absurd cc

-- and no other refusal is one
pub full_failed : (f : StoreFault) (used capacity : ℕ) → f ≡ refusals.Full used capacity → refused_by f ≡ refused_by refusals.Failed → ⊥
full_failed f used capacity is failed = absurd cc

pub memory_failed : (f : StoreFault) → f ≡ refusals.OutOfMemory → refused_by f ≡ refused_by refusals.Failed → ⊥
memory_failed f is failed = absurd cc

-- ---- whether the record of the boot fits

full_by : (can : Bool) → can ≡ false → without_boot_record can is_full ≡ is_full
full_by can not = ap (λ (t : Bool). if t then comes_up else is_full) not

pub up_by : (can : Bool) → can ≡ true → without_boot_record can comes_up ≡ comes_up
up_by can is = ap (λ (t : Bool). if t then comes_up else is_full) is

midway_by : (can : Bool) → can ≡ true → without_boot_record can fails_midway ≡ fails_midway
midway_by can is = ap (λ (t : Bool). if t then fails_midway else is_full) is

up_not_full : comes_up ≡ is_full → ⊥
up_not_full e = absurd cc

pub not_full : (can : Bool) → can ≡ true → without_boot_record can is_full ≡ is_full → ⊥
not_full can is full = up_not_full (sym (up_by can is) ∙ full)

-- ---- records of which one is begun

one_longer : (bs : List (List ℕ)) (bytes : List ℕ) (rs : List (List ℕ)) (n : ℕ) → rs ≡ bs ++ bytes ∷ [] → length rs ≡ n → n ≡ length bs → ⊥
one_longer bs bytes rs n is counted same = absurd (omega (arith, ap length is, counted, same, length-append bs (bytes ∷ [])))

still : (bs : List (List ℕ)) (bytes : List ℕ) (rs : List (List ℕ)) (n : ℕ) → (rs ≡ bs) ⊎ (rs ≡ bs ++ bytes ∷ []) → length rs ≡ n → n ≡ length bs → rs ≡ bs
still bs bytes rs n (inl is) counted same = is
still bs bytes rs n (inr is) counted same = absurd (one_longer bs bytes rs n is counted same)

module _ {R T M P L S : Type 0} (k : Keeping R T M P L S) (fit : IsSoundKeeping k) where
  -- whether a start fits is seen in what was found
  pub same_start : (s : S) (d : T) → k.read d ≡ k.lasting s → k.kind.can_start s ≡ k.kind.can_start (k.begun d)
  same_start s d read = fit.same_can s (k.begun d) (sym (fit.begins d ∙ read))

  -- the record of the boot that follows this
  abbrev next_boot : T → R
  next_boot d = k.fold.start (k.fold.boot d + 1)

  -- what is left of the disk of a store whose boot failed
  pub record BootFails {D : Type 0} (w : Ghosts D) (s t : StoreOf (Fused D) R T) : Type 0 where
    pub store : t ≡ record s { disk = t.disk; prepared = None; closed = true }
    pub can : k.kind.can_start (k.begun s.durable) ≡ true
    pub fits : k.fold.Fits (k.fold.start (k.fold.boot s.durable + 1))
    pub around : (bytes : List ℕ) → w.seen s.disk.disk ≡ Some bytes → LeavesOnly w.moment w.left_since s.disk.disk t.disk.disk (LeftAround k.fold (whole_records bytes) (k.fold.start (k.fold.boot s.durable + 1)) s.durable)
    pub rose : Rose (w.faults s.disk.disk) (w.faults t.disk.disk)
    pub capacity : k.fold.capacity t.durable ≡ w.limit t.disk.disk

  module _ {D : Type 0} (w : Ghosts D) (begun : Begun S) (records : List (List ℕ)) (front : List Line) (s : StoreOf (Fused D) R T) (found : IsFound k w begun records front s) where
    -- memory ran out before the boot was begun
    pub untouched : IsKept k.fold s.durable (w.seen s.disk.disk) (w.may_leave s.disk.disk) → (c : List ℕ) → w.may_leave s.disk.disk c → whole_records c ≡ records
    untouched kept c left = ap whole_records (kept.durable found.told.0 found.told.1.0 c left) ∙ found.told.1.1

    module _ (now : (disk : D) (t : ℕ) (c : List ℕ) → t ≤ w.moment disk → w.may_leave disk c → w.left_since disk t c) (t : StoreOf (Fused D) R T) where
      -- or in it, and nothing was written
      pub still_there : SameBut s t → IsKept k.fold t.durable (w.seen t.disk.disk) (w.may_leave t.disk.disk) → IsCounted t.count (w.seen t.disk.disk) →
          ((bytes : List ℕ) → w.seen s.disk.disk ≡ Some bytes → LeavesOnly w.moment w.left_since s.disk.disk t.disk.disk (LeftAround k.fold (whole_records bytes) (next_boot s.durable) s.durable)) →
          IsSome (w.seen t.disk.disk) → (c : List ℕ) → w.may_leave t.disk.disk c → whole_records c ≡ records
      still_there same kept counted leaves told c left =
          let r = next_boot s.durable in
          let bytes = some_of (w.seen t.disk.disk) told in
          let only = leaves found.told.0 found.told.1.0 in
          let around = only.each c (now t.disk.disk (w.moment s.disk.disk) c only.later left) in
          let is = subst (λ (rs : List (List ℕ)). (whole_records c ≡ rs) ⊎ (whole_records c ≡ rs ++ k.fold.spelled r ∷ [])) found.told.1.1 around.0 in
          let long = ap (λ (b : List ℕ). length (whole_records b)) (kept.durable bytes.0 bytes.1 c left) ∙ counted bytes.0 bytes.1 in
          still records (k.fold.spelled r) (whole_records c) t.count is long (ap (λ (x : StoreOf (Fused D) R T). x.count) same ∙ found.counted)

      -- the disk failed in it
      failed_lies : BootFails w s t → (c : List ℕ) → w.may_leave t.disk.disk c → IsKeptIn k begun.state in_boot (count_mark s.count) (whole_records c)
      failed_lies fails c left =
          let d = s.durable in
          let r = next_boot d in
          let bytes = found.told.0 in
          let only = fails.around bytes found.told.1.0 in
          let around = only.each c (now t.disk.disk (w.moment s.disk.disk) c only.later left) in
          let is = subst (λ (rs : List (List ℕ)). (whole_records c ≡ rs) ⊎ (whole_records c ≡ rs ++ k.fold.spelled r ∷ [])) found.told.1.1 around.0 in
          begun_lies k fit.fold begun.state in_boot records s.count d r (record {
            stands = found.stands;
            read = found.read;
            counted = sym found.counted;
            read_again = fit.fold.again r fails.fits;
            made = ap (λ (n : ℕ). Some (k.fold.start (n + 1))) (ap k.boot (sym found.read) ∙ fit.booted d);
            left = λ e takes. fit.revives begun.state d e found.read takes;
            told = λ ls. fit.tells begun.state d found.read ls;
          }) c is around.1

      module _ {N V : Type 0} (v : Sight N V D S) (start : Begun S → Step S) where
        pub failed_boots : BootFails w s t → ((bytes : List ℕ) → w.seen t.disk.disk ≡ Some bytes → w.may_leave t.disk.disk bytes) → (result : Start (Running N V) (Resting D)) → Stays (shown_by k.fold t) front (lines.Fault k.kind.me) result → BootsBy k v w start begun records s.disk.disk result
        failed_boots fails shows (starts.Up r outs) stays_so = absurd stays_so
        failed_boots fails shows (starts.Down d ls) stays_so =
            let durable : t.durable ≡ s.durable = ap (λ (x : StoreOf (Fused D) R T). x.durable) fails.store in
            let number : t.count ≡ s.count = ap (λ (x : StoreOf (Fused D) R T). x.count) fails.store in
            inr (
              midway_by (k.kind.can_start begun.state) (same_start begun.state s.durable found.read ∙ fails.can),
              (
                subst (λ (x : Resting D). IsHostStepDown w.seen w.may_leave w.limit k x ls (stays begun (lines.Fault k.kind.me) in_boot)) (sym stays_so.0) (record {
                  host = record {
                    fall = in_boot;
                    down = refl;
                    armed = refl;
                    capacity = ap k.capacity (sym (ap k.read durable ∙ found.read)) ∙ (fit.sized t.durable ∙ fails.capacity);
                    lies = λ told c left. subst (λ (n : ℕ). IsKeptIn k begun.state in_boot (count_mark n) (whole_records c)) (sym number) (failed_lies fails c left);
                    found = λ bytes at. subst (λ (n : ℕ). IsKeptFound k begun.state in_boot (count_mark n) (whole_records bytes)) (sym number)
                        (found_free k begun.state in_boot (count_mark s.count) (whole_records bytes) (λ after. tt) (failed_lies fails bytes (shows bytes at)));
                  };
                  lines = stays_so.1 ∙ sym (found.before (lines.Fault k.kind.me ∷ []));
                  sent = refl;
                }),
                subst (λ (x : Resting D). Rose (w.faults s.disk.disk) (w.faults x.disk)) (sym stays_so.0) fails.rose,
              ),
            )
        failed_boots fails shows (starts.Unchanged d) stays_so = absurd stays_so
        failed_boots fails shows (starts.Lost d) stays_so = absurd stays_so

        -- it doesn't fit
        pub full_boots : SameBut s t → k.kind.can_start (k.begun s.durable) ≡ false → IsKept k.fold t.durable (w.seen t.disk.disk) (w.may_leave t.disk.disk) → IsCounted t.count (w.seen t.disk.disk) → k.fold.capacity t.durable ≡ w.limit t.disk.disk →
            (result : Start (Running N V) (Resting D)) → Stays (shown_by k.fold t) front (lines.Full k.kind.me) result → BootsBy k v w start begun records s.disk.disk result
        full_boots same not kept counted capacity (starts.Up r outs) stays_so = absurd stays_so
        full_boots same not kept counted capacity (starts.Down d ls) stays_so =
            let durable : t.durable ≡ s.durable = ap (λ (x : StoreOf (Fused D) R T). x.durable) same in
            let read : k.read t.durable ≡ k.lasting begun.state = ap k.read durable ∙ found.read in
            inl (
              full_by (k.kind.can_start begun.state) (same_start begun.state s.durable found.read ∙ not),
              subst (λ (x : Resting D). IsHostStepDown w.seen w.may_leave w.limit k x ls (stays begun (lines.Full k.kind.me) at_rest)) (sym stays_so.0) (record {
                host = record {
                  fall = at_rest;
                  down = refl;
                  armed = refl;
                  capacity = ap k.capacity (sym read) ∙ (fit.sized t.durable ∙ capacity);
                  lies = λ told c left. inl (kept_before k t.durable t.count (w.seen t.disk.disk) (w.may_leave t.disk.disk) begun.state read kept counted told c left);
                  found = λ bytes at. (false, (tt, kept_there k t.durable t.count (w.seen t.disk.disk) (w.may_leave t.disk.disk) begun.state read kept counted bytes at));
                };
                lines = stays_so.1 ∙ sym (found.before (lines.Full k.kind.me ∷ []));
                sent = refl;
              }),
            )
        full_boots same not kept counted capacity (starts.Unchanged d) stays_so = absurd stays_so
        full_boots same not kept counted capacity (starts.Lost d) stays_so = absurd stays_so

-- ---- whatever the disk tells

module _ {R T M P L S N V D : Type 0} (k : Keeping R T M P L S) (v : Sight N V D S) (w : Ghosts D) (start : Begun S → Step S) (front : List Line) (s t : StoreOf (Fused D) R T) where
  pub full_over : k.kind.can_start (k.begun s.durable) ≡ false → w.faults t.disk.disk ≡ w.faults s.disk.disk → (result : Start (Running N V) (Resting D)) → Stays (shown_by k.fold t) front (lines.Full k.kind.me) result → BootsOverBy k v w start s.durable front (w.faults s.disk.disk) result
  full_over not quiet (starts.Up r outs) stays_so = absurd stays_so
  full_over not quiet (starts.Down d ls) stays_so = inl (full_by (k.kind.can_start (k.begun s.durable)) not, (stays_so.1, ap (λ (x : Resting D). w.faults x.disk) stays_so.0 ∙ quiet))
  full_over not quiet (starts.Unchanged d) stays_so = absurd stays_so
  full_over not quiet (starts.Lost d) stays_so = absurd stays_so

  pub failed_over : k.kind.can_start (k.begun s.durable) ≡ true → Rose (w.faults s.disk.disk) (w.faults t.disk.disk) → (result : Start (Running N V) (Resting D)) → Stays (shown_by k.fold t) front (lines.Fault k.kind.me) result → BootsOverBy k v w start s.durable front (w.faults s.disk.disk) result
  failed_over can rose (starts.Up r outs) stays_so = absurd stays_so
  failed_over can rose (starts.Down d ls) stays_so = inr (midway_by (k.kind.can_start (k.begun s.durable)) can, (stays_so.1, subst (λ (x : Resting D). Rose (w.faults s.disk.disk) (w.faults x.disk)) (sym stays_so.0) rose))
  failed_over can rose (starts.Unchanged d) stays_so = absurd stays_so
  failed_over can rose (starts.Lost d) stays_so = absurd stays_so
