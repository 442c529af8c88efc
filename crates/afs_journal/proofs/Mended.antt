-- What a crash leaves between the device calls that begin or repair a journal.
use Rattle.std.proofs.Common.{◌≡◌, ℕ, ◌+◌, List, [], ◌∷◌, ◌++◌, length, get_or, take, Option, Some, refl, sym, ◌∙◌, ap, subst, arith}
use Rattle.std.specs.Prelude.{option_map, IfSome}
use Rattle.std.proofs.lemmas.List.{length-take-le}
use Rattle.afs_disk.specs.Disk.{overwritten, Torn, CutShort, ComesBy, LeavesJust, Passes, LeavesOnly}
use Rattle.afs_journal.specs.Records.{blocks, journal_bytes, whole_records, EndsAt}
use Rattle.afs_journal.proofs.Crash.{torn_new, cut_keeps, cut_done, torn_end, written_end, found, journal_stands}
use Rattle.afs_journal.proofs.Records.{stands_for_nothing}
use Rattle.afs_journal.proofs.Moments.{begins, goes_on}
use Rattle.afs_journal.specs.Log.{IsJournal}

module _ {D : Type 0} (seen : D → Option (List ℕ)) (may_leave : D → List ℕ → Type 0) (moment : D → ℕ) (left_since : D → ℕ → List ℕ → Type 0) (just_now : (d : D) (c : List ℕ) → left_since d (moment d) c → may_leave d c)
    (d0 : D) (bytes : List ℕ) (told : seen d0 ≡ Some bytes) (only : LeavesJust bytes (may_leave d0)) where
  module _ (bodies : List (List ℕ)) (gate : ℕ) (ends : EndsAt gate bodies bytes) where
    size : length (blocks 1 bodies) ≡ gate
    size = ap length (sym ends.front) ∙ length-take-le gate bytes (omega (arith, ends.inside))

    P : List ℕ → Type 0
    P c = whole_records c ≡ bodies

    whole : whole_records bytes ≡ bodies
    whole = found bodies gate size ends.fit bytes ends

    at_start : LeavesOnly moment left_since d0 d0 P
    unfolding P
    at_start = begins moment left_since d0 P (λ c left. ap whole_records (only c (just_now d0 c left)) ∙ whole)

    module _ (d1 : D) (time1 : Passes (moment d0) (moment d1) (left_since d0) (left_since d1) (may_leave d1)) (crash1 : ComesBy (CutShort (gate + 1)) (may_leave d0) (may_leave d1)) where
      shorter : (c : List ℕ) → may_leave d1 c → P c
      unfolding P
      shorter c left =
          let from = crash1 c left in
          cut_keeps bodies gate size ends.fit bytes c ends (subst (λ (f : List ℕ). CutShort (gate + 1) f c) (only from.0 from.1) from.2)

      pub cut : LeavesOnly moment left_since d0 d1 (λ c. whole_records c ≡ bodies)
      unfolding P
      cut = goes_on moment left_since d0 d0 d1 P (may_leave d1) at_start time1 shorter

      module _ (d2 : D) (time2 : Passes (moment d1) (moment d2) (left_since d1) (left_since d2) (may_leave d2)) (crash2 : (c : List ℕ) → may_leave d2 c → may_leave d1 c) where
        pub kept : LeavesOnly moment left_since d0 d2 (λ c. whole_records c ≡ bodies)
        unfolding P
        kept = goes_on moment left_since d0 d1 d2 P (may_leave d2) cut time2 (λ c left. shorter c (crash2 c left))

        module _ (was_cut : seen d1 ≡ option_map (take (gate + 1)) (seen d0)) (same : seen d2 ≡ seen d1) (durable : IfSome (seen d1) (λ b. LeavesJust b (may_leave d2)))
            (d3 : D) (time3 : Passes (moment d2) (moment d3) (left_since d2) (left_since d3) (may_leave d3)) (crash3 : ComesBy (Torn gate 1) (may_leave d2) (may_leave d3)) where
          gate_byte : ℕ
          gate_byte = get_or bytes gate 0

          front_is : seen d1 ≡ Some (blocks 1 bodies ++ gate_byte ∷ [])
          unfolding gate_byte
          front_is = was_cut ∙ ap (option_map (take (gate + 1))) told ∙ ap (λ (l : List ℕ). Some l) (cut_done bodies gate size ends.fit bytes ends)

          durable_is : LeavesJust (blocks 1 bodies ++ gate_byte ∷ []) (may_leave d2)
          durable_is = subst (λ (o : Option (List ℕ)). IfSome o (λ b. LeavesJust b (may_leave d2))) front_is durable

          shut : (c : List ℕ) → may_leave d3 c → P c
          unfolding P
          shut c left =
              let from = crash3 c left in
              torn_end bodies gate size ends.fit gate_byte c (subst (λ (f : List ℕ). Torn gate 1 f c) (durable_is from.0 from.1) from.2)

          pub closing : LeavesOnly moment left_since d0 d3 (λ c. whole_records c ≡ bodies)
          unfolding P
          closing = goes_on moment left_since d0 d2 d3 P (may_leave d3) kept time3 shut

          module _ (d4 : D) (time4 : Passes (moment d3) (moment d4) (left_since d3) (left_since d4) (may_leave d4)) (crash4 : (c : List ℕ) → may_leave d4 c → may_leave d3 c) where
            pub mended : LeavesOnly moment left_since d0 d4 (λ c. whole_records c ≡ bodies)
            unfolding P
            mended = goes_on moment left_since d0 d3 d4 P (may_leave d4) closing time4 (λ c left. shut c (crash4 c left))

            module _ (wrote : seen d3 ≡ option_map (overwritten gate (0 ∷ [])) (seen d2)) (same_again : seen d4 ≡ seen d3) (durable_again : IfSome (seen d3) (λ b. LeavesJust b (may_leave d4))) where
              now_is : seen d3 ≡ Some (journal_bytes bodies)
              now_is = wrote ∙ ap (option_map (overwritten gate (0 ∷ []))) (same ∙ front_is) ∙ ap (λ (l : List ℕ). Some l) (written_end bodies gate size ends.fit gate_byte)

              pub is_mended : IsJournal bodies (seen d4) (may_leave d4)
              is_mended = record {
                now = same_again ∙ now_is;
                stands = journal_stands bodies gate size ends.fit;
                fit = ends.fit;
                durable = subst (λ (o : Option (List ℕ)). IfSome o (λ b. LeavesJust b (may_leave d4))) now_is durable_again;
              }

  module _ (empty : bytes ≡ []) (d1 : D) (time1 : Passes (moment d0) (moment d1) (left_since d0) (left_since d1) (may_leave d1)) (crash1 : ComesBy (Torn 0 1) (may_leave d0) (may_leave d1)) where
    Nothing : List ℕ → Type 0
    Nothing c = whole_records c ≡ []

    torn : (c : List ℕ) → may_leave d1 c → Nothing c
    unfolding Nothing
    torn c left =
        let from = crash1 c left in
        torn_new c (subst (λ (f : List ℕ). Torn 0 1 f c) (only from.0 from.1 ∙ empty) from.2)

    pub began : LeavesOnly moment left_since d0 d1 (λ c. whole_records c ≡ [])
    unfolding Nothing
    began = goes_on moment left_since d0 d0 d1 Nothing (may_leave d1) (begins moment left_since d0 Nothing (λ c left. ap whole_records (only c (just_now d0 c left) ∙ empty) ∙ stands_for_nothing)) time1 torn

    module _ (d2 : D) (time2 : Passes (moment d1) (moment d2) (left_since d1) (left_since d2) (may_leave d2)) (crash2 : (c : List ℕ) → may_leave d2 c → may_leave d1 c) where
      pub begun : LeavesOnly moment left_since d0 d2 (λ c. whole_records c ≡ [])
      unfolding Nothing
      begun = goes_on moment left_since d0 d1 d2 Nothing (may_leave d2) began time2 (λ c left. torn c (crash2 c left))

      module _ (wrote : seen d1 ≡ option_map (overwritten 0 (0 ∷ [])) (seen d0)) (same : seen d2 ≡ seen d1) (durable : IfSome (seen d1) (λ b. LeavesJust b (may_leave d2))) where
        now_new : seen d1 ≡ Some (journal_bytes [])
        now_new = wrote ∙ ap (option_map (overwritten 0 (0 ∷ []))) (told ∙ ap (λ (l : List ℕ). Some l) empty)

        pub is_begun : IsJournal [] (seen d2) (may_leave d2)
        is_begun = record {
          now = same ∙ now_new;
          stands = journal_stands [] 0 refl tt;
          fit = tt;
          durable = subst (λ (o : Option (List ℕ)). IfSome o (λ b. LeavesJust b (may_leave d2))) now_new durable;
        }
