-- The ticks of a schedule with one more event.
use Rattle.std.proofs.Common.{◌≡◌, ◌+◌, List, [], ◌∷◌, ◌++◌, arith}
use Rattle.spec_history.specs.declared.scripts.Event.{Event}
use Rattle.afs_grammar.specs.Lines.{ticks_in, ticks_of}

pub ticks_behind : (es : List Event) (e : Event) → ticks_in (es ++ e ∷ []) ≡ ticks_in es + ticks_of e
ticks_behind [] e = omega arith
ticks_behind (x ∷ es) e = omega (arith, ticks_behind es e)
