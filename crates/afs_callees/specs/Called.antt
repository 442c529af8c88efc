-- The nodes that a node calls, as it keeps them, whatever its calls carry.
use Rattle.std.specs.Prelude.{◌≤◌, ℕ, List, length, Option, Some, None}
use Rattle.afs_num.specs.Nodes.{same_node, IsNode}
use Rattle.afs_num.specs.Keyed.{keyed}
use Rattle.afs_num.specs.declared.types.Node.{Node}
use Rattle.spec_breaks.specs.declared.types.OwedBreak.{OwedBreak}
use Rattle.spec_rows.specs.Callbacks.{most_breaks}
use Rattle.spec_rows.specs.States.{BackCall, Unanswered}

-- a node that was called: its boot number as known, and the unanswered call
pub record Callee (C : Type 0) : Type 0 where
  pub node : Node
  pub known : ℕ
  pub call : Option (Unanswered C)

abbrev pub node_called : {C : Type 0} → Callee C → Node
node_called {C} c = c.node

abbrev pub callee_at : {C : Type 0} → Node → List (Callee C) → Option (Callee C)
callee_at {C} n cs = keyed (node_called {C = C}) same_node n cs

abbrev pub call_by : {C : Type 0} → Option (Callee C) → Option (Unanswered C)
call_by {C} None = None
call_by {C} (Some c) = c.call

-- until a node tells another, its boot number is taken for 1
abbrev pub known_by : {C : Type 0} → Option (Callee C) → ℕ
known_by {C} None = 1
known_by {C} (Some c) = c.known

abbrev pub call_to : {C : Type 0} → List (Callee C) → Node → Option (Unanswered C)
call_to {C} cs n = call_by (callee_at n cs)

abbrev pub known_to : {C : Type 0} → List (Callee C) → Node → ℕ
known_to {C} cs n = known_by (callee_at n cs)

-- ---- calls that bring breaks

-- it is to a node of the cell, and fits into a message
pub record IsGoodCall (n : Node) (c : BackCall) : Type 0 where
  pub callee : IsNode n
  pub few : length c.content ≤ most_breaks

abbrev pub IsGoodOrNone : Node → Option BackCall → Type 0
IsGoodOrNone n None = Unit {0}
IsGoodOrNone n (Some c) = IsGoodCall n c

abbrev pub AreGood : (Node → Option BackCall) → Type 0
AreGood calls = (n : Node) → IsGoodOrNone n (calls n)

-- all unanswered calls are
abbrev pub AreGoodCalls : List (Callee (List OwedBreak)) → Type 0
AreGoodCalls cs = AreGood (call_to cs)
