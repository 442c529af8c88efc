-- What is looked up in the store for a call.
use Rattle.std.specs.Prelude.{ℕ, Bool, List, [], ◌∷◌, ◌++◌, Option, Some, None, filter, map, take, if◌then◌else◌}
use Rattle.afs_num.specs.declared.volume_calls.ListedVolume.{ListedVolume}
use Rattle.spec_ideal.specs.Tables.{Table}
use Rattle.spec_records.specs.Durable.{Stored}
use Rattle.afs_shelves.specs.Shelving.{stored_as}
use Rattle.spec_volrows.specs.VolRow.{is_of_family, volume_listed}
use Rattle.afs_volume.specs.declared.volume.Volume.{Volume}

-- what a list tells of a volume, where it is of the family
abbrev pub listed_in : ℕ → ℕ × Stored → Option ListedVolume
listed_in family p = if is_of_family family p then Some (volume_listed p) else None

-- of one in memory
abbrev pub listed_of : ℕ → Bool → Volume → Option ListedVolume
listed_of family is_new v = listed_in family (v.head.id, stored_as is_new v)

-- of the one at a place, if there is one
abbrev pub listed_there : ℕ → Option (ℕ × Stored) → Option ListedVolume
listed_there family None = None
listed_there family (Some p) = listed_in family p

-- with one more that is listed, if it is
abbrev pub with_one : List ListedVolume → Option ListedVolume → List ListedVolume
with_one vs None = vs
with_one vs (Some v) = vs ++ v ∷ []

-- what a list tells of the volumes before this place
abbrev pub listed_before : ℕ → ℕ → Table Stored → List ListedVolume
listed_before family place t = map volume_listed (filter (is_of_family family) (take place t))
