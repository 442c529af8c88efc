-- Which acts and calls are within their limits.
use Rattle.std.specs.Prelude.{◌≤◌, ◌<◌, ℕ, List, [], ◌∷◌, Option, Some, None, length}
use Rattle.std.specs.List.{All}
use Rattle.afs_num.specs.Nodes.{IsNode}
use Rattle.afs_num.specs.declared.types.Node.TheVariants.{Server}
use Rattle.spec_history.specs.declared.scripts.VolumeLine.{VolumeLine}
use Rattle.spec_history.specs.Written.{bytes_in}
use Rattle.spec_history.specs.declared.acts.Act.{Act}
use Rattle.spec_history.specs.declared.acts.Act.TheVariants as acts
use Rattle.spec_history.specs.declared.acts.Operand.{Operand}
use Rattle.spec_history.specs.declared.acts.Operand.TheVariants as operands
use Rattle.spec_model.specs.Heads.{contents_limit}
use Rattle.spec_model.specs.FsRows.{name_limit, acl_limit, target_limit, list_limit}
use Rattle.spec_model.specs.CellRows.{cell_calls}
use Rattle.afs_num.specs.declared.messages.Call.TheVariants as ask
use Rattle.spec_shape.specs.Items.{volume_name_limit}
use Rattle.spec_shape.specs.Rows.{IsWithin}
use Rattle.spec_rows.specs.Going as going
use Rattle.spec_rows.specs.Going.{Need, operands_of}

-- a volume's server is a node
abbrev pub HasServer : VolumeLine → Type 0
HasServer v = IsNode (Server v.server)

abbrev pub first_volume_line : List VolumeLine → Option (VolumeLine × List VolumeLine)
first_volume_line [] = None
first_volume_line (v ∷ vs) = Some (v, vs)

abbrev pub AreShort : List (List ℕ) → Type 0
AreShort names = All (λ (n : List ℕ). length n ≤ name_limit) names

-- the name of an operand's volume is within its limit
abbrev pub IsShortOperand : Operand → Type 0
IsShortOperand (operands.Path p) = length p.volume ≤ volume_name_limit
IsShortOperand (operands.Fid f) = Unit {0}

abbrev pub IsShortIfAny : Option Operand → Type 0
IsShortIfAny None = Unit {0}
IsShortIfAny (Some o) = IsShortOperand o

-- the names that a call of the act carries, and its bytes
abbrev pub IsShortCall : Act → Type 0
IsShortCall (acts.Close o contents) = length (bytes_in contents) ≤ contents_limit
IsShortCall (acts.SetAccessList o text) = length (bytes_in text) ≤ acl_limit
IsShortCall (acts.Make p) = AreShort p.names
IsShortCall (acts.MakeDirectory p) = AreShort p.names
IsShortCall (acts.Symlink p target) = AreShort p.names × (length (bytes_in target) ≤ target_limit)
IsShortCall (acts.Remove p) = AreShort p.names
IsShortCall (acts.RemoveDirectory p) = AreShort p.names
IsShortCall (acts.Move p q) = AreShort p.names × AreShort q.names
IsShortCall (acts.Link p q) = AreShort q.names
IsShortCall act = Unit {0}

-- the names and the bytes of an act are within their limits
pub record FitsCalls (a : Act) : Type 0 where
  pub first : IsShortIfAny (operands_of a).0
  pub second : IsShortIfAny (operands_of a).1
  pub call : IsShortCall a

-- a call that has a spelling, a list or a name that fits in one, or an answer that is a code
abbrev pub FitsNeed : Need → Type 0
FitsNeed (going.asks_for c) = IsWithin cell_calls (ask.File c)
FitsNeed (going.reads_statuses fs) = length fs ≤ list_limit
FitsNeed (going.locates o) = IsShortOperand o
FitsNeed (going.answers n) = n < 2147483648
FitsNeed need = Unit {0}
