-- What bytes in memory held before, as a list.
use Rattle.std.specs.Prelude.{List, [], ◌∷◌, ◌++◌}
use Rattle.afs_disk.specs.Images.{Held}
use Rattle.afs_disk.specs.declared.past.Past.{Past, Nothing, After'}

-- the oldest first
abbrev pub moments : Past → List Held
moments Nothing = []
moments (After' shape past held) = moments past ++ held.value ∷ []
