-- How many blocks the vnodes of edits take, before them and after them.
use Rattle.std.specs.Prelude.{ℕ, ◌+◌, List, [], ◌∷◌, Option, Some, None}
use Rattle.std.specs.Option.{option_map}
use Rattle.spec_ideal.specs.Tables.{get}
use Rattle.spec_ideal.specs.Volumes.{Vnode, Volume, Edit, amends, makes, frees, amended, edit_number}
use Rattle.afs_volume.specs.Counting.{blocks_at}

-- what an edit makes of what stands at its number, but for counters
abbrev pub made_of : Edit → Option Vnode → Option Vnode
made_of (amends n a) o = option_map (amended 0 a) o
made_of (makes n x) None = Some x
made_of (makes n x) (Some y) = Some y
made_of (frees n) o = None

abbrev pub blocks_before : List Edit → Volume → ℕ
blocks_before [] v = 0
blocks_before (e ∷ es) v = blocks_at (get (edit_number e) v.vnodes) + blocks_before es v

abbrev pub blocks_after : List Edit → Volume → ℕ
blocks_after [] v = 0
blocks_after (e ∷ es) v = blocks_at (made_of e (get (edit_number e) v.vnodes)) + blocks_after es v
