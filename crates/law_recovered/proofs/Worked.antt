-- What a copy is, and cells in which a recovery may not end, each for one reason.
use Rattle.std.proofs.Common.{◌≡◌, ℕ, true, false, List, Bool, Option, Some, None, refl, sym, ap, ◌∙◌, nat_eq}
use Rattle.spec_records.specs.Durable.{Stored}
use Rattle.spec_dumps.specs.Clones.{cloned}
use Rattle.spec_fold.specs.Deeds.{created}
use Rattle.spec_runs.specs.NodeRuns.{has_host, NodeCell}
use Rattle.law_one_server.specs.Knows.{listed_site}
use Rattle.law_recovered.specs.Copies.{has_copy_at, is_copy}
use Rattle.law_recovered.specs.Ends.{IsAlone}

-- the copy that a move has made and not filled yet is one, though it is out of service and would go at a start
unfilled_is_one : (family quota : ℕ) (name : List ℕ) → is_copy (Some (created family name 0 3 quota false)) ≡ true
unfilled_is_one family quota name = refl

-- a read-only volume, and a backup, are none
read_only_is_none : (name : List ℕ) (release : ℕ) (s : Stored) → is_copy (Some (cloned name 1 release s)) ≡ false
read_only_is_none name release s = refl

backup_is_none : (name : List ℕ) (release : ℕ) (s : Stored) → is_copy (Some (cloned name 2 release s)) ≡ false
backup_is_none name release s = refl

abbrev is_first : Option ℕ → Bool
is_first None = false
is_first (Some i) = nat_eq i 1

-- a second copy, where the database names the first server
a_second_copy : (c : NodeCell) (volume : ℕ) → has_host c 2 ≡ true → has_copy_at c volume 2 ≡ true → IsAlone c volume 1 → ⊥
a_second_copy c volume there has alone = let no : false ≡ true = ap (λ (i : ℕ). nat_eq i 1) (alone.alone 2 there has) in absurd cc

-- the database names another server
another_is_named : (c : NodeCell) (volume : ℕ) → listed_site c volume ≡ Some 2 → IsAlone c volume 1 → ⊥
another_is_named c volume named alone = let no : false ≡ true = ap is_first (sym named ∙ alone.named) in absurd cc

-- the database has no entry of it
none_is_named : (c : NodeCell) (volume : ℕ) → listed_site c volume ≡ None → IsAlone c volume 1 → ⊥
none_is_named c volume none alone = let no : false ≡ true = ap is_first (sym none ∙ alone.named) in absurd cc
