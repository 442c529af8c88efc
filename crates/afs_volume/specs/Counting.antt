-- How many blocks a vnode takes that may not be there.
use Rattle.std.specs.Prelude.{ℕ, Option, Some, None}
use Rattle.spec_ideal.specs.Volumes.{Vnode, blocks_of}

abbrev pub blocks_at : Option Vnode → ℕ
blocks_at None = 0
blocks_at (Some x) = blocks_of x
