-- What clients hold on one fid, gathered once.
use Rattle.std.specs.Prelude.{◌≡◌, ℕ, ◌+◌, List, [], ◌∷◌, ◌++◌, Option, Some, None}
use Rattle.std.specs.Option.{option_to_list}
use Rattle.afs_num.specs.declared.types.Fid.{Fid}
use Rattle.afs_num.specs.declared.types.Node.{Node}
use Rattle.spec_breaks.specs.declared.types.Promise.{Promise}
use Rattle.afs_promise.specs.declared.types.Grant.{Grant}
use Rattle.afs_promise.specs.declared.types.Holding.{Holding}
use Rattle.afs_promise.specs.Granting.{earlier, from_place, hit_of}

-- what these clients hold on the fid, but for that of one
abbrev pub found_by : (Holding → Option Grant) → Node → Fid → List Node → List Grant
found_by latest except fid [] = []
found_by latest except fid (c ∷ cs) = option_to_list (hit_of latest except fid c) ++ found_by latest except fid cs

-- the grant that was made first of these, at this place or behind it, and of `best`
abbrev pub first_from : ℕ → Option Grant → List Grant → Option Grant
first_from from best [] = best
first_from from best (g ∷ gs) = first_from from (earlier best (from_place from (Some g))) gs

-- for each place these are the promises that were granted there and behind it, in the order of granting
pub record IsInOrder (found : List Grant) (told : ℕ → List Promise) : Type 0 where
  pub first : (from : ℕ) (g : Grant) → first_from from None found ≡ Some g → told from ≡ g.promise ∷ told (g.order + 1)
  pub none : (from : ℕ) → first_from from None found ≡ None → told from ≡ []
