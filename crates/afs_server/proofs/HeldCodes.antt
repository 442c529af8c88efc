-- A volume that is held is refused as its row says.
use Rattle.std.specs.Prelude.{◌≡◌, ℕ, Bool, true, false, Option, Some, None, nat_eq, if◌then◌else◌}
use Rattle.std.proofs.Common.{refl, ap, sym, subst}
use Rattle.std.proofs.lemmas.Bool.{eqb-true}
use Rattle.spec_records.specs.Durable.{or_zero}
use Rattle.spec_volrows.specs.FileRow.{held_code}
use Rattle.afs_server.specs.Closing.{code_held}

-- by whether the word is 0
held_by : (b : Bool) (held : ℕ) (hold : Option ℕ) → nat_eq held 0 ≡ b → held ≡ or_zero hold → (held ≡ 0 → hold ≡ None) → (if b then None else held_code (Some held)) ≡ held_code hold
held_by true held hold is e none = ap held_code (sym (none (eqb-true held 0 is)))
held_by false held None is e none =
    let no : nat_eq 0 0 ≡ false = subst (λ (n : ℕ). nat_eq n 0 ≡ false) e is in
    absurd cc
held_by false held (Some n) is e none = ap (λ (m : ℕ). held_code (Some m)) e

-- none is held by the word 0
pub held_as : (held : ℕ) (hold : Option ℕ) → held ≡ or_zero hold → (held ≡ 0 → hold ≡ None) → code_held held ≡ held_code hold
held_as held hold e none = held_by (nat_eq held 0) held hold refl e none
