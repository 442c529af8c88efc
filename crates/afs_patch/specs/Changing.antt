-- Vnodes that a change leaves.
use Rattle.std.specs.Prelude.{◌≡◌, ◌<◌, ◌⊎◌, ℕ, List, Bool, false, is_some, length}
use Rattle.std.specs.List.{list_all}
use Rattle.afs_num.specs.declared.vnodes.Vnode as image
use Rattle.spec_ideal.specs.Tables.{Table, get}
use Rattle.spec_ideal.specs.VnodeMaps.{most_vnodes}
use Rattle.afs_volume.specs.Seen.{all_seen}
use Rattle.afs_volume.specs.Taking.{put_but, without_all}

abbrev pub is_in : Table image.Vnode → ℕ → Bool
is_in t n = is_some (get n (all_seen t))

-- one that goes isn't there, or there would be too many
abbrev pub CantBeLeft : List ℕ → List image.Vnode → Table image.Vnode → Type 0
CantBeLeft removed changed t = (list_all (is_in t) removed ≡ false) ⊎ (most_vnodes < length (put_but removed changed (without_all removed t)))
