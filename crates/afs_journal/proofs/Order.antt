-- Why a record has to be on the disk before its gate is opened: in each other order a crash may leave a whole record that
-- nobody appended. Here `a` is appended to an empty journal, and `b` is left.
use Rattle.std.proofs.Common.{◌≡◌, inl, inr, ℕ, List, [], ◌∷◌, get_or, refl, sym, ◌∙◌, ap, arith}
use Rattle.afs_disk.specs.Disk.{Torn, LeavesOnly}
use Rattle.afs_journal.specs.Records.{number_at, is_whole, whole_records, IsBeforeOrAfter}

-- the length and the number of a record, `b` itself, and the next gate
abbrev place : List ℕ
place = 0 ∷ 0 ∷ 0 ∷ 1 ∷ 0 ∷ 0 ∷ 0 ∷ 1 ∷ 98 ∷ 0 ∷ []

-- the gate was opened and synced, and then the record was written
pub left_behind_an_open_gate : Torn 1 10 (1 ∷ []) (1 ∷ place)
left_behind_an_open_gate = record { before = refl; after = refl; no_shorter = omega arith; no_longer = omega arith }

-- the record was written and then the gate, with no sync between
pub left_without_a_sync : Torn 1 10 (0 ∷ []) (0 ∷ place) × Torn 0 1 (0 ∷ place) (1 ∷ place)
left_without_a_sync = (record { before = refl; after = refl; no_shorter = omega arith; no_longer = omega arith }, record { before = refl; after = refl; no_shorter = omega arith; no_longer = omega arith })

abbrev b_alone : List (List ℕ)
b_alone = (98 ∷ []) ∷ []

abbrev a_alone : List (List ℕ)
a_alone = (97 ∷ []) ∷ []

what_is_left : whole_records (1 ∷ place) ≡ b_alone
unfolding whole_records is_whole number_at
what_is_left = refl

not_none : b_alone ≡ [] → ⊥
not_none same = cc

not_a : b_alone ≡ a_alone → ⊥
not_a same =
    let differ : 98 ≡ 97 = ap (λ (l : List (List ℕ)). get_or (get_or l 0 []) 0 0) same in
    absurd (omega (arith, differ))

pub nobody_appended_it : IsBeforeOrAfter [] (97 ∷ []) (1 ∷ place) → ⊥
nobody_appended_it (inl none) = not_none (sym what_is_left ∙ none)
nobody_appended_it (inr one) = not_a (sym what_is_left ∙ one)

-- so what an append promises of any moment is false where a crash might have left it
pub promise_is_broken : {D : Type 0} (moment : D → ℕ) (left_since : D → ℕ → List ℕ → Type 0) (old new : D) → left_since new (moment old) (1 ∷ place) → LeavesOnly moment left_since old new (IsBeforeOrAfter [] (97 ∷ [])) → ⊥
promise_is_broken moment left_since old new left run = nobody_appended_it (run.each (1 ∷ place) left)
