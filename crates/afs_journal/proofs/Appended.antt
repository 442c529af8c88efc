-- What a crash leaves between the device calls of an append.
use Rattle.std.proofs.Common.{◌≡◌, ◌<◌, inl, ℕ, suc, ◌+◌, ◌^◌, List, [], ◌∷◌, ◌++◌, length, Option, Some, sym, ◌∙◌, ap, subst, arith, length-append}
use Rattle.std.specs.Prelude.{option_map, IfSome}
use Rattle.afs_disk.specs.Disk.{overwritten, written_by, Torn, ComesBy, LeavesJust, Passes, LeavesOnly}
use Rattle.afs_journal.specs.Left.{records_left}
use Rattle.afs_journal.specs.Records.{place_of, blocks, journal_bytes, whole_records, IsBeforeOrAfter}
use Rattle.afs_journal.proofs.Crash.{torn_behind, torn_gate, picked_gate, written_behind, written_gate, whole_opened, staged}
use Rattle.afs_journal.proofs.Records.{fit-push}
use Rattle.afs_journal.proofs.Moments.{begins, goes_on}
use Rattle.afs_journal.specs.Log.{IsSettled, Spells, IsJournal}
use Rattle.afs_journal.proofs.Broken.{some_same}

module _ {D : Type 0} (seen : D → Option (List ℕ)) (may_leave : D → List ℕ → Type 0) (moment : D → ℕ) (left_since : D → ℕ → List ℕ → Type 0) (just_now : (d : D) (c : List ℕ) → left_since d (moment d) c → may_leave d c)
    (count gate : ℕ) (body bytes place : List ℕ) (spells : Spells count body place) (d0 : D) (told : seen d0 ≡ Some bytes) (settled : IsSettled count gate (may_leave d0) bytes) where
  bodies : List (List ℕ)
  bodies = whole_records bytes

  P : List ℕ → Type 0
  P = IsBeforeOrAfter (whole_records bytes) body

  size : length (blocks 1 (whole_records bytes)) ≡ gate
  size = omega (arith, ap length settled.are, settled.long, length-append (blocks 1 (whole_records bytes)) (0 ∷ []))

  number : suc count ≡ suc (length (whole_records bytes))
  number = ap suc (sym settled.counted)

  counted : suc (length (whole_records bytes)) < 2 ^ 32
  counted = omega (arith, number, spells.counted)

  place_is : place ≡ place_of (suc (length (whole_records bytes))) body ++ 0 ∷ []
  place_is = spells.are ∙ ap (λ (n : ℕ). place_of n body ++ 0 ∷ []) number

  as_before : (c : List ℕ) → may_leave d0 c → c ≡ journal_bytes (whole_records bytes)
  as_before c left = settled.durable c left ∙ settled.are

  at_start : LeavesOnly moment left_since d0 d0 P
  unfolding P
  at_start = begins moment left_since d0 P (λ c left. inl (ap whole_records (settled.durable c (just_now d0 c left))))

  module _ (d1 : D) (time1 : Passes (moment d0) (moment d1) (left_since d0) (left_since d1) (may_leave d1)) (crash1 : ComesBy (Torn (gate + 1) (length place)) (may_leave d0) (may_leave d1)) where
    -- until the gate is touched a crash leaves the records from before
    pub still_shut : (c : List ℕ) → may_leave d1 c → whole_records c ≡ whole_records bytes
    still_shut c left =
        let from = crash1 c left in
        torn_behind (whole_records bytes) gate size settled.fit (length place) c (subst (λ (f : List ℕ). Torn (gate + 1) (length place) f c) (as_before from.0 from.1) from.2)

    behind : (c : List ℕ) → may_leave d1 c → P c
    unfolding P
    behind c left = inl (still_shut c left)

    pub written : LeavesOnly moment left_since d0 d1 (IsBeforeOrAfter (whole_records bytes) body)
    unfolding P
    written = goes_on moment left_since d0 d0 d1 P (may_leave d1) at_start time1 behind

    module _ (d2 : D) (time2 : Passes (moment d1) (moment d2) (left_since d1) (left_since d2) (may_leave d2)) (crash2 : (c : List ℕ) → may_leave d2 c → may_leave d1 c) where
      pub synced : LeavesOnly moment left_since d0 d2 (IsBeforeOrAfter (whole_records bytes) body)
      unfolding P
      synced = goes_on moment left_since d0 d1 d2 P (may_leave d2) written time2 (λ c left. behind c (crash2 c left))

      module _ (wrote : seen d1 ≡ option_map (overwritten (gate + 1) place) (seen d0)) (kept : seen d2 ≡ seen d1) (durable : IfSome (seen d1) (λ b. LeavesJust b (may_leave d2)))
          (d3 : D) (time3 : Passes (moment d2) (moment d3) (left_since d2) (left_since d3) (may_leave d3)) (crash3 : ComesBy (Torn gate 1) (may_leave d2) (may_leave d3)) where
        stages : List ℕ
        stages = staged (whole_records bytes) gate size settled.fit body spells.small counted

        staged_is : seen d1 ≡ Some stages
        unfolding stages
        staged_is =
            wrote ∙ ap (option_map (overwritten (gate + 1) place)) told
            ∙ ap (λ (l : List ℕ). Some l) (ap (overwritten (gate + 1) place) settled.are ∙ ap (λ (l : List ℕ). overwritten (gate + 1) l (journal_bytes (whole_records bytes))) place_is ∙ written_behind (whole_records bytes) gate size settled.fit body spells.small counted)

        durable_is : LeavesJust stages (may_leave d2)
        durable_is = subst (λ (o : Option (List ℕ)). IfSome o (λ b. LeavesJust b (may_leave d2))) staged_is durable

        -- then the pick tells
        pub picked : (left_by : D → ℕ → Option (List ℕ)) → ((pick : ℕ) → left_by d2 pick ≡ seen d2) → ((pick : ℕ) → left_by d3 pick ≡ option_map (written_by pick gate (1 ∷ [])) (left_by d2 pick))
            → (pick : ℕ) (c : List ℕ) → left_by d3 pick ≡ Some c → whole_records c ≡ records_left 4 pick (whole_records bytes) body
        unfolding stages
        picked left_by synced_by written_so pick c left =
            let is : left_by d3 pick ≡ Some (written_by pick gate (1 ∷ []) stages) = written_so pick ∙ ap (option_map (written_by pick gate (1 ∷ []))) (synced_by pick ∙ kept ∙ staged_is) in
            ap whole_records (some_same c (written_by pick gate (1 ∷ []) stages) (sym left ∙ is)) ∙ picked_gate (whole_records bytes) gate size settled.fit body spells.small counted pick

        either : (c : List ℕ) → may_leave d3 c → P c
        unfolding P stages
        either c left =
            let from = crash3 c left in
            torn_gate (whole_records bytes) gate size settled.fit body spells.small counted c (subst (λ (f : List ℕ). Torn gate 1 f c) (durable_is from.0 from.1) from.2)

        pub opened : LeavesOnly moment left_since d0 d3 (IsBeforeOrAfter (whole_records bytes) body)
        unfolding P
        opened = goes_on moment left_since d0 d2 d3 P (may_leave d3) synced time3 either

        module _ (d4 : D) (time4 : Passes (moment d3) (moment d4) (left_since d3) (left_since d4) (may_leave d4)) (crash4 : (c : List ℕ) → may_leave d4 c → may_leave d3 c) where
          pub ended : LeavesOnly moment left_since d0 d4 (IsBeforeOrAfter (whole_records bytes) body)
          unfolding P
          ended = goes_on moment left_since d0 d3 d4 P (may_leave d4) opened time4 (λ c left. either c (crash4 c left))

          module _ (wrote_gate : seen d3 ≡ option_map (overwritten gate (1 ∷ [])) (seen d2)) (kept_gate : seen d4 ≡ seen d3) (durable_gate : IfSome (seen d3) (λ b. LeavesJust b (may_leave d4))) where
            now_is : seen d3 ≡ Some (journal_bytes (whole_records bytes ++ body ∷ []))
            unfolding stages
            now_is =
                wrote_gate ∙ ap (option_map (overwritten gate (1 ∷ []))) (kept ∙ staged_is)
                ∙ ap (λ (l : List ℕ). Some l) (written_gate (whole_records bytes) gate size settled.fit body spells.small counted)

            pub added : IsJournal (whole_records bytes ++ body ∷ []) (seen d4) (may_leave d4)
            added = record {
              now = kept_gate ∙ now_is;
              stands = whole_opened (whole_records bytes) gate size settled.fit body spells.small counted;
              fit = fit-push (whole_records bytes) 1 body settled.fit spells.small (omega (arith, counted));
              durable = subst (λ (o : Option (List ℕ)). IfSome o (λ b. LeavesJust b (may_leave d4))) now_is durable_gate;
            }
