-- When a journal over a disk is sound, and what an append makes of that.
use Rattle.std.proofs.Common.{◌≡◌, ◌<◌, ◌≤◌, ℕ, ◌+◌, ◌^◌, inl, List, [], ◌∷◌, ◌++◌, length, Option, Some, None, refl, sym, ◌∙◌, ap, subst, arith, length-append}
use Rattle.std.specs.Prelude.{IsSome}
use Rattle.afs_disk.specs.Disk.{SameDisk, LeavesOnly}
use Rattle.afs_journal.specs.Records.{place_of, journal_bytes, whole_records, IsBeforeOrAfter, Fit}
use Rattle.afs_journal.proofs.Records.{length-place_of}
use Rattle.afs_journal.proofs.Moments.{and_on, unmoved, weaker}
use Rattle.afs_journal.specs.Log.{IsSettled, IsJournal, Spells, StandsAsBefore}

some_is : (a b : List ℕ) → Some a ≡ Some b → a ≡ b
some_is a b e = cc

-- what is told of a journal's disk is a journal that is settled
pub settled_now : (bodies : List (List ℕ)) (count gate : ℕ) (seen : Option (List ℕ)) (may_leave : List ℕ → Type 0) (bytes : List ℕ) → IsJournal bodies seen may_leave → count ≡ length bodies → length bytes ≡ gate + 1 → seen ≡ Some bytes → IsSettled count gate may_leave bytes
settled_now bodies count gate seen may_leave bytes journal counted long told =
    let is : bytes ≡ journal_bytes bodies = some_is _ _ (sym told ∙ journal.now) in
    let stands : whole_records bytes ≡ bodies = ap whole_records is ∙ journal.stands in
    record {
      are = is ∙ ap journal_bytes (sym stands);
      counted = ap length stands ∙ sym counted;
      long = long;
      fit = subst (λ (l : List (List ℕ)). Fit 1 l) (sym stands) journal.fit;
      durable = λ c left. journal.durable c left ∙ sym is;
    }

-- where something is told, it is some bytes
pub told_is : (o : Option (List ℕ)) → IsSome o → (bytes : List ℕ) × (o ≡ Some bytes)
told_is None is = absurd cc
told_is (Some bytes) is = (bytes, refl)

pub told_from : (o : Option (List ℕ)) (bytes : List ℕ) → o ≡ Some bytes → IsSome o
told_from None bytes is = absurd cc
told_from (Some b) bytes is = refl

pub length-spelled : (place : List ℕ) (number : ℕ) (body : List ℕ) → place ≡ place_of number body ++ 0 ∷ [] → length place ≡ length body + 9
length-spelled place number body is = omega (arith, ap length is, length-append (place_of number body) (0 ∷ []), length-place_of number body)

pub spells_next : (place : List ℕ) (count : ℕ) (body : List ℕ) → place ≡ place_of (count + 1) body ++ 0 ∷ [] → length body < 2 ^ 32 → count + 1 < 2 ^ 32 → Spells count body place
spells_next place count body is small counted = record {
  are = is ∙ ap (λ (n : ℕ). place_of n body ++ 0 ∷ []) (omega arith);
  small = small;
  counted = omega arith;
}

-- what is settled stays so where nothing but the room changes
pub still_settled : {D : Type 0} (seen : D → Option (List ℕ)) (left_by : D → ℕ → Option (List ℕ)) (size : D → ℕ) (may_leave : D → List ℕ → Type 0) (moment : D → ℕ) (left_since : D → ℕ → List ℕ → Type 0) (old new : D) (count gate : ℕ) (bytes : List ℕ)
    → SameDisk seen left_by size may_leave moment left_since old new → IsSettled count gate (may_leave old) bytes → IsSettled count gate (may_leave new) bytes
still_settled seen left_by size may_leave moment left_since old new count gate bytes same settled = record {
  are = settled.are;
  counted = settled.counted;
  long = settled.long;
  fit = settled.fit;
  durable = λ c left. settled.durable c (same.leaves c left);
}

-- a run that begins after more room was made
pub with_room : {D : Type 0} (seen : D → Option (List ℕ)) (left_by : D → ℕ → Option (List ℕ)) (size : D → ℕ) (may_leave : D → List ℕ → Type 0) (moment : D → ℕ) (left_since : D → ℕ → List ℕ → Type 0) (just_now : (d : D) (c : List ℕ) → left_since d (moment d) c → may_leave d c)
    (old mid new : D) (count gate : ℕ) (body bytes : List ℕ) → SameDisk seen left_by size may_leave moment left_since old mid → IsSettled count gate (may_leave old) bytes
    → LeavesOnly moment left_since mid new (IsBeforeOrAfter (whole_records bytes) body) → LeavesOnly moment left_since old new (IsBeforeOrAfter (whole_records bytes) body)
with_room seen left_by size may_leave moment left_since just_now old mid new count gate body bytes same settled run =
    let P : List ℕ → Type 0 = IsBeforeOrAfter (whole_records bytes) body in
    let first = unmoved moment left_since seen left_by size may_leave just_now old mid P same (λ c left. inl (ap whole_records (settled.durable c left))) in
    and_on moment left_since old mid new P P first run (λ c held. held)

-- what opening a disk and then settling it leave
pub taken_up : {D : Type 0} (may_leave : D → List ℕ → Type 0) (moment : D → ℕ) (left_since : D → ℕ → List ℕ → Type 0) (old mid new : D) (bytes read : List ℕ) → read ≡ bytes → may_leave old bytes
    → LeavesOnly moment left_since old mid (may_leave old) → LeavesOnly moment left_since mid new (λ c. whole_records c ≡ whole_records read) → LeavesOnly moment left_since old new (StandsAsBefore (may_leave old))
taken_up may_leave moment left_since old mid new bytes read is shown first second =
    let P : List ℕ → Type 0 = StandsAsBefore (may_leave old) in
    and_on moment left_since old mid new P (λ (c : List ℕ). whole_records c ≡ whole_records read) (weaker moment left_since old mid P (may_leave old) first (λ b left. (b, left, refl))) second (λ b are. (bytes, shown, are ∙ ap whole_records is))

-- what a run leaves at any moment a crash leaves now
pub stands_now : {D : Type 0} (may_leave : D → List ℕ → Type 0) (moment : D → ℕ) (left_since : D → ℕ → List ℕ → Type 0) (counts_now : (d : D) (t : ℕ) (c : List ℕ) → t ≤ moment d → may_leave d c → left_since d t c)
    (old new : D) (P : List ℕ → Type 0) → LeavesOnly moment left_since old new P → (c : List ℕ) → may_leave new c → P c
stands_now may_leave moment left_since counts_now old new P run c left = run.each c (counts_now new (moment old) c run.later left)
