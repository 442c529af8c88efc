-- The act that runs at a client, and its call, as the program keeps them.
use Rattle.std.specs.Prelude.{◌≡◌, ◌≤◌, ℕ, Bool, true, false, List, [], length, Option, Some, None, Result, Ok, Err, pos}
use Rattle.std.specs.List.{All}
use Rattle.afs_num.specs.Nodes.{IsNode}
use Rattle.afs_num.specs.declared.types.Code.{Code}
use Rattle.afs_num.specs.declared.types.Node.{Node}
use Rattle.afs_num.specs.declared.messages.Call.{Call}
use Rattle.afs_num.specs.declared.messages.Call.TheVariants as ask
use Rattle.spec_model.specs.Heads.{user_limit}
use Rattle.spec_rows.specs.Going.{Going, Need, answers, gives_back, locates, next}
use Rattle.spec_rows.specs.States.{Gift}
use Rattle.spec_rows.specs.ClientRow.{call_by, question}
use Rattle.spec_history.specs.declared.acts.Operand.{Operand}
use Rattle.afs_acts.specs.Acts.{FitsCalls, IsShortOperand}
use Rattle.afs_acts.specs.Walks.{need_of}
use Rattle.afs_acts.specs.declared.types.Need as needs
pub use Rattle.afs_calling.specs.Calls.{calling}

abbrev pub IsGift : Gift → Type 0
IsGift g = IsNode g.server

-- an act, and what it gives back still
pub record Asking : Type 0 where
  pub going : Going
  pub gifts : List Gift

abbrev pub is_giving : Need → Bool
is_giving gives_back = true
is_giving need = false

-- the code with which an act is answered now
abbrev pub code_of : Need → Option Code
code_of (answers n) = Some (record { 0 = pos n })
code_of need = None

-- the operand whose volume must be asked for
abbrev pub operand_of : Need → Option Operand
operand_of (locates o) = Some o
operand_of need = None

-- the need is to ask for this operand's volume, or is another one
abbrev pub Parts : Need → Result Operand needs.Need → Type 0
Parts need (Ok o) = need ≡ locates o
Parts need (Err other) = (need_of other ≡ need) × (operand_of need ≡ None)

-- the call is the one for what it needs
pub record IsAskedForNeed (going : Going) (gifts : List Gift) (call : Call) (giving : Bool) : Type 0 where
  pub short : FitsCalls going.act
  pub nodes : All IsGift gifts
  pub is : call ≡ ask.File (call_by gifts (next going))
  pub gives : giving ≡ is_giving (next going)

-- the call of an act that waits for the location database is the question for its operand
pub record IsSeeking (going : Going) (o : Operand) (call : Call) : Type 0 where
  pub short : FitsCalls going.act
  pub operand : IsShortOperand o
  pub is : call ≡ ask.Location (question o)

abbrev pub running_of : Option Asking → Option Going
running_of None = None
running_of (Some a) = Some a.going

abbrev pub gifts_of : Option Asking → List Gift
gifts_of None = []
gifts_of (Some a) = a.gifts

-- the act that runs, and what it gives back still
abbrev pub asking_of : Option Going → List Gift → Option Asking
asking_of None gifts = None
asking_of (Some act) gifts = Some (record { going = act; gifts = gifts })

-- its messages have a spelling
pub record FitsClient (me : Node) (name : List ℕ) (callee : Node) : Type 0 where
  pub node : IsNode me
  pub user : length name ≤ user_limit
  pub server : IsNode callee
