-- Why what the disks keep can't be told.
use Rattle.std.specs.Prelude.{◌≡◌, ◌<◌, ◌+◌, ℕ, List, ◌∷◌, Bool, true, false, Option, Some, None, drop, length}
use Rattle.std.proofs.Common.{suc, refl, ap, sym, ◌∙◌, arith, drop-cons, get_or}
use Rattle.afs_disk.specs.declared.bank.LendFault.{LendFault}
use Rattle.afs_disk.specs.declared.bank.LendFault.TheVariants as faults
use Rattle.afs_final.specs.Reading.{or_memory}

-- why, where memory was wanting for one of the disks before, or for none
abbrev pub with_wanting : Bool → Option LendFault → Option LendFault
with_wanting false why = why
with_wanting true why = Some (or_memory why)

pub failed_counts : (wanting : Bool) → with_wanting wanting (Some faults.Failed) ≡ Some faults.Failed
failed_counts false = refl
failed_counts true = refl

pub wants_too : (wanting : Bool) (why : Option LendFault) → with_wanting true why ≡ with_wanting wanting (Some (or_memory why))
wants_too false why = refl
wants_too true None = refl
wants_too true (Some faults.Failed) = refl
wants_too true (Some faults.OutOfMemory) = refl

-- from a place on there is the item in it, and those behind it
pub next_of : {A : Type 0} (xs : List A) (i : ℕ) (x y : A) → i < length xs → x ≡ get_or xs i x → x ≡ y → drop i xs ≡ y ∷ drop (i + 1) xs
next_of {A} xs i x y lt here is =
    let more : suc i ≡ i + 1 = omega arith in
    drop-cons xs i x lt ∙ (ap (λ (z : A). z ∷ drop (suc i) xs) (sym here ∙ is) ∙ ap (λ (n : ℕ). y ∷ drop n xs) more)
