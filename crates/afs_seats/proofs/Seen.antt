-- How long a table is after an edit, and what is seen of one whose numbers ascend.
use Rattle.std.proofs.Common.{◌≡◌, ℕ, suc, ◌+◌, [], ◌∷◌, length, is_some, if◌then◌else◌, refl, arith}
use Rattle.std.proofs.lemmas.Bool.Decides.{nat_tests}
use Rattle.spec_ideal.specs.Tables.{Table, get, set, AscendsFrom}
use Rattle.spec_ideal.proofs.Tables.{get_below}
use Rattle.afs_seats.specs.Seated.{seen_as}

pub set_length : {A : Type 0} (m n : ℕ) (x : A) (t : Table A) → AscendsFrom m t → length (set n x t) ≡ (if is_some (get n t) then length t else suc (length t))
set_length {A} m n x [] up = refl
set_length {A} m n x (p ∷ ps) up = grind (arith, nat_tests, up.0, up.1, get_below (p.0 + 1) n ps, set_length (p.0 + 1) n x ps up.1)

pub seen_up : {A B : Type 0} (f : A → B) (m : ℕ) (t : Table A) → AscendsFrom m t → AscendsFrom m (seen_as f t)
seen_up {A} {B} f m [] up = tt
seen_up {A} {B} f m (p ∷ ps) up = (up.0, seen_up f (p.0 + 1) ps up.1)
