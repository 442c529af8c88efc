-- A call runs at most once in a boot of its callee, and one that changed something at most once at all; and no call runs behind a later one
-- of its caller.
use Rattle.std.specs.Prelude.{◌≡◌, ◌≤◌, ◌<◌, ◌⊎◌, ⊤, List, [], ◌∷◌, ◌++◌, true, Option, Some, None}
use Rattle.std.specs.List.{AllByRecursion}
use Rattle.afs_num.specs.declared.types.Head.{Head}
use Rattle.afs_num.specs.declared.types.Key.{Key}
use Rattle.afs_num.specs.declared.types.Node.{Node}
use Rattle.afs_num.specs.declared.types.Node.TheVariants.{Loc, Server}
use Rattle.spec_history.specs.declared.scripts.Script.{Script}
use Rattle.spec_model.specs.Calls.{call_seat, key_of}
use Rattle.spec_rows.specs.States.{Seat}
use Rattle.spec_runs.specs.NodeRuns.{node_start, CellInput, NodeCell}
use Rattle.law_places.specs.Accepting.{cell_behind}
use Rattle.law_keys.specs.Ran.{ran_in, RanCall}

-- ---- in which order calls run

-- of one caller: an earlier call than the other, by its epoch and its number
abbrev pub IsEarlier : Head → Head → Type 0
IsEarlier a b = (a.epoch < b.epoch) ⊎ ((a.epoch ≡ b.epoch) × (a.number < b.number))

-- What ran at one callee before a call: its boot number isn't above. Of the same caller it is an earlier call, if it ran in this very boot or
-- if it changed something. So it isn't this call, and this one isn't older.
pub record MayFollow (before : RanCall) (r : RanCall) : Type 0 where
  pub boot : before.callee ≡ r.callee → before.boot ≤ r.boot
  pub pair : before.callee ≡ r.callee → before.head.from ≡ r.head.from → (before.boot ≡ r.boot) ⊎ (before.changed ≡ true) → IsEarlier before.head r.head

-- its header names the node that ran it, and the boot in which that ran it
pub record IsNamed (r : RanCall) : Type 0 where
  pub callee : r.head.to ≡ r.callee
  pub boot : r.head.boot ≡ r.boot

-- each of these calls may run behind all before it; these ran before the first, the last of them first
abbrev pub AreInOrder : List RanCall → List RanCall → Type 0
AreInOrder before [] = ⊤
AreInOrder before (r ∷ rs) = (AllByRecursion (λ (b : RanCall). MayFollow b r) before × IsNamed r) × AreInOrder (r ∷ before) rs

abbrev pub RunInOrder : Script → List CellInput → Type 0
RunInOrder s inputs = AreInOrder [] (ran_in (node_start s) inputs)

-- So calls run in every run of every script, whatever its administrators do.
abbrev pub CallsRunInOrder : Type 0
CallsRunInOrder = (s : Script) (inputs : List CellInput) → RunInOrder s inputs

-- ---- calls that can run no more

-- the last call that a callee keeps on its disk of a caller: the last that changed something
abbrev pub kept_seat : NodeCell → Node → Node → Option Seat
kept_seat c (Server i) caller = call_seat caller (c.hosts i).state.file.lasting.kept
kept_seat c Loc caller = call_seat caller c.loc.state.lasting.kept
kept_seat c callee caller = None

-- the key is of that call, or of an earlier one of its caller
abbrev pub IsUpToSeat : Option Seat → Key → Type 0
IsUpToSeat None k = ⊥
IsUpToSeat (Some seat) k = (k.epoch < seat.epoch) ⊎ ((k.epoch ≡ seat.epoch) × (k.number ≤ seat.number))

-- The callee has changed something for the key's node under this key or a later one.
abbrev pub IsSpent : NodeCell → Node → Key → Type 0
IsSpent c callee k = IsUpToSeat (kept_seat c callee k.node) k

-- the call isn't one of that callee under this key
abbrev pub IsNotUnder : Node → Key → RanCall → Type 0
IsNotUnder callee k r = r.callee ≡ callee → key_of r.head ≡ k → ⊥

-- where it changed something, its key is spent
abbrev pub SpendsIts : NodeCell → RanCall → Type 0
SpendsIts c r = r.changed ≡ true → IsSpent c r.callee (key_of r.head)

-- What is spent stays so, and its callee never runs it again, in no boot; and every call that changed something has spent its key.
pub record KeysAreSpent : Type 0 where
  pub stay : (s : Script) (inputs later : List CellInput) (callee : Node) (k : Key) → IsSpent (cell_behind (node_start s) inputs) callee k → IsSpent (cell_behind (node_start s) (inputs ++ later)) callee k
  pub never : (s : Script) (inputs later : List CellInput) (callee : Node) (k : Key) → IsSpent (cell_behind (node_start s) inputs) callee k → AllByRecursion (IsNotUnder callee k) (ran_in (cell_behind (node_start s) inputs) later)
  pub spend : (s : Script) (inputs : List CellInput) → AllByRecursion (SpendsIts (cell_behind (node_start s) inputs)) (ran_in (node_start s) inputs)
