-- Kept replies in memory, by the numbers of their callers.
use Rattle.std.specs.Prelude.{◌≡◌, ℕ, [], ◌∷◌, ⊤, true, Option, Some, None}
use Rattle.std.specs.List.{AllByRecursion}
use Rattle.afs_num.specs.Nodes.{node_number, is_known}
use Rattle.afs_num.specs.declared.types.Node.{Node}
use Rattle.afs_xdr.specs.Words.{IsBytes}
use Rattle.spec_ideal.specs.Tables.{Table}
use Rattle.spec_records.specs.Durable.{Kept}
use Rattle.afs_locstore.specs.declared.kept.KeptReply.{KeptReply}

abbrev pub kept_seen : KeptReply → Kept
kept_seen k = record { epoch = k.epoch; number = k.number; reply = k.reply }

-- a reply stands by the number of its caller, which is a node's; and it is bytes
abbrev pub IsCalled : ℕ × KeptReply → Type 0
IsCalled p = (node_number p.1.caller ≡ p.0) × ((is_known p.0 ≡ true) × IsBytes p.1.reply)

-- each of these does
abbrev pub AreCalled : Table KeptReply → Type 0
AreCalled [] = ⊤
AreCalled (p ∷ ps) = IsCalled p × AreCalled ps

-- the caller is one of the cell's nodes, if there is one
abbrev pub IsCaller : Option Node → Type 0
IsCaller None = ⊤
IsCaller (Some n) = is_known (node_number n) ≡ true

-- each of these numbers is a node's, and each reply is bytes
abbrev pub AreOfNodes : Table Kept → Type 0
AreOfNodes t = AllByRecursion (λ (p : ℕ × Kept). (is_known p.0 ≡ true) × IsBytes p.1.reply) t
