-- Kept replies in memory, by the numbers of their callers.
use Rattle.std.specs.Prelude.{◌≡◌, ℕ, List, [], ◌∷◌, ⊤, true, Option, Some, None, slice_index}
use Rattle.std.specs.Coded.{×_prop, Π_prop, Unit-prop, le_prop, Coded-set, coded_ℕ, coded_bool}
use Rattle.std.specs.List.{AllByRecursion}
use Rattle.afs_num.specs.Nodes.{node_number, is_known}
use Rattle.afs_num.specs.declared.types.Node.{Node}
use Rattle.afs_xdr.specs.Words.{IsBytes}
use Rattle.spec_ideal.specs.Tables.{Table}
use Rattle.spec_records.specs.Durable.{Kept}
use Rattle.afs_memory.specs.declared.memory.KeptReply.{KeptReply}

-- a reply stands by the number of its caller, which is a node's; and it is bytes
abbrev pub IsCalled : ℕ × KeptReply → Type 0
IsCalled p = (node_number p.1.caller ≡ p.0) × ((is_known p.0 ≡ true) × IsBytes p.1.reply)

-- each of these does
abbrev pub AreCalled : Table KeptReply → Type 0
AreCalled [] = ⊤
AreCalled (p ∷ ps) = IsCalled p × AreCalled ps

IsBytes-prop : (bytes : List ℕ) → IsProp (IsBytes bytes)
IsBytes-prop bytes = Π_prop (λ i. le_prop)

IsCalled-prop : (p : ℕ × KeptReply) → IsProp (IsCalled p)
IsCalled-prop p = ×_prop (Coded-set coded_ℕ (node_number p.1.caller) p.0) (×_prop (Coded-set coded_bool (is_known p.0) true) (IsBytes-prop p.1.reply))

pub AreCalled-prop : (t : Table KeptReply) → IsProp (AreCalled t)
AreCalled-prop [] = Unit-prop
AreCalled-prop (p ∷ ps) = ×_prop (IsCalled-prop p) (AreCalled-prop ps)

-- the caller is one of the cell's nodes, if there is one
abbrev pub IsCaller : Option Node → Type 0
IsCaller None = Unit {0}
IsCaller (Some n) = is_known (node_number n) ≡ true

-- each of these numbers is a node's
abbrev pub AreKnown : {A : Type 0} → Table A → Type 0
AreKnown {A} t = AllByRecursion (λ (p : ℕ × A). is_known p.0 ≡ true) t

-- each of these replies is bytes
abbrev pub AreBytes : Table Kept → Type 0
AreBytes t = AllByRecursion (λ (p : ℕ × Kept). IsBytes p.1.reply) t
