-- Calls of administrators: under one key there is one call, however often it is sent; and whatever runs, and whatever is answered, was sent.
use Rattle.std.specs.Prelude.{◌≡◌, ◌≤◌, ◌<◌, ◌⊎◌, ⊤, ℕ, List, true, Some}
use Rattle.std.specs.List.{AllByRecursion}
use Rattle.afs_num.specs.declared.messages.Carried.{Carried}
use Rattle.afs_num.specs.declared.messages.Carried.TheVariants as carried
use Rattle.afs_num.specs.declared.messages.Message.{Message}
use Rattle.afs_num.specs.declared.types.Node.TheVariants.{Admin}
use Rattle.spec_history.specs.declared.scripts.Script.{Script}
use Rattle.spec_adminrows.specs.AdminRow.{AdminState}
use Rattle.spec_model.specs.Calls.{key_of}
use Rattle.spec_rows.specs.Runs.{message_at}
use Rattle.spec_runs.specs.NodeRuns.{node_start, CellInput, NodeCell}
use Rattle.law_places.specs.Accepting.{cell_behind}
use Rattle.law_legal.specs.Past.{answered_key}
use Rattle.law_keys.specs.Ran.{ran_in, RanCall}
use Rattle.law_keys.specs.Replied.{is_told, OfEach}

-- ---- calls of administrators

abbrev pub IsCall : Carried → Type 0
IsCall (carried.Call user call) = ⊤
IsCall c = ⊥

-- its pair of epoch and number is none of a later call than the administrator's last one
abbrev pub IsUpToLast : Message → AdminState → Type 0
IsUpToLast m a = (m.head.epoch < a.epoch) ⊎ ((m.head.epoch ≡ a.epoch) × (m.head.number ≤ a.last))

abbrev pub CallsAreKnown : Type 0
CallsAreKnown = (s : Script) (inputs : List CellInput) (n place : ℕ) (m : Message) → message_at (cell_behind (node_start s) inputs).sent place ≡ Some m → m.head.from ≡ Admin n → IsCall m.carried →
    IsUpToLast m ((cell_behind (node_start s) inputs).admins n)

-- they are one call, which is sent to one boot of its callee or to another
pub record AreOneCall (a b : Message) : Type 0 where
  pub to : a.head.to ≡ b.head.to
  pub stamp : a.head.stamp ≡ b.head.stamp
  pub opcode : a.head.opcode ≡ b.head.opcode
  pub carried : a.carried ≡ b.carried

-- two calls of an administrator, sent at any time
abbrev pub CallsAreOne : Type 0
CallsAreOne = (s : Script) (inputs : List CellInput) (n first second : ℕ) (a b : Message) → message_at (cell_behind (node_start s) inputs).sent first ≡ Some a → message_at (cell_behind (node_start s) inputs).sent second ≡ Some b →
    a.head.from ≡ Admin n → IsCall a.carried → IsCall b.carried → key_of a.head ≡ key_of b.head → AreOneCall a b

-- ---- what runs was sent, and so was what is answered

pub record WasSent (c : NodeCell) (r : RanCall) : Type 0 where
  pub place : ℕ
  pub message : Message
  pub at : message_at c.sent place ≡ Some message
  pub is_call : IsCall message.carried
  pub head : message.head ≡ r.head

abbrev pub RanWereSent : Type 0
RanWereSent = (s : Script) (inputs : List CellInput) → AllByRecursion (WasSent (cell_behind (node_start s) inputs)) (ran_in (node_start s) inputs)

-- the call that is answered: to the reply's sender, for the boot that it carries
pub record WasAsked (c : NodeCell) (reply : Message) : Type 0 where
  pub place : ℕ
  pub call : Message
  pub at : message_at c.sent place ≡ Some call
  pub is_call : IsCall call.carried
  pub key : key_of call.head ≡ answered_key reply.head
  pub to : call.head.to ≡ reply.head.from
  pub boot : call.head.boot ≡ reply.head.boot
  pub opcode : call.head.opcode ≡ reply.head.opcode

abbrev pub HasCall : NodeCell → Message → Type 0
HasCall c m = is_told m.carried ≡ true → WasAsked c m

abbrev pub RepliesHaveCalls : Type 0
RepliesHaveCalls = (s : Script) (inputs : List CellInput) → OfEach (HasCall (cell_behind (node_start s) inputs)) (cell_behind (node_start s) inputs)
