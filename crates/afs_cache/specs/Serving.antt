-- What a client answers to servers.
use Rattle.std.specs.Prelude.{◌≡◌, ℕ, List, [], ◌∷◌, false, if◌then◌else◌}
use Rattle.afs_num.specs.declared.types.Head.{Head}
use Rattle.afs_num.specs.declared.types.Node.{Node}
use Rattle.afs_num.specs.declared.messages.Call.{Call}
use Rattle.afs_num.specs.declared.messages.Call.TheVariants as ask
use Rattle.afs_num.specs.declared.messages.Message.{Message}
use Rattle.afs_num.specs.declared.messages.Carried.TheVariants as carried
use Rattle.spec_model.specs.Calls.{Admitted, admitted}
use Rattle.afs_num.specs.Nodes.{same_node}
use Rattle.spec_model.specs.CellRows.{call_number}
use Rattle.spec_model.specs.Heads.{is_zero}
use Rattle.spec_model.specs.Calls as pairs
use Rattle.spec_rows.specs.Going.{ClientState}
use Rattle.spec_rows.specs.ClientRow.{breaks, ignores, refused_with, replies_step, told_step}
use Rattle.spec_rows.specs.ServerRow.{boot_told, not_served}
use Rattle.spec_rows.specs.Steps.{Step}
use Rattle.afs_cache.specs.declared.serving.Asking.{Asking}
use Rattle.afs_cache.specs.declared.serving.Asking.TheVariants as askings

-- what a server asks runs: a call, or its refusal
abbrev pub runs_asking : Node → ClientState → ℕ → Head → Asking → Step ClientState
runs_asking me c place head (askings.Call (ask.File call)) = breaks me c place head call
runs_asking me c place head (askings.Call call) = replies_step c place head [] (refused_with not_served)
runs_asking me c place head (askings.Refused code) = replies_step c place head [] (carried.Refusal code)

-- what becomes of it
abbrev pub admits_asking : Node → ClientState → ℕ → Head → Asking → Admitted Message → Step ClientState
admits_asking me c place head asking pairs.runs = runs_asking me c place head asking
admits_asking me c place head asking (pairs.kept reply) = told_step c place (reply ∷ [])
admits_asking me c place head asking pairs.in_progress = ignores c place
admits_asking me c place head asking pairs.older = ignores c place
admits_asking me c place head asking (pairs.wrong_boot boot) = told_step c place (boot_told c.epoch head ∷ [])

-- what isn't asked of this node does nothing
abbrev pub takes_asking : Node → ClientState → ℕ → Head → Asking → Step ClientState
takes_asking me c place head asking = if same_node head.to me then admits_asking me c place head asking (admitted c.epoch c.seats head) else ignores c place

-- a call is that of its header's opcode; a refusal's code isn't 0
abbrev pub IsSoundAsking : ℕ → Asking → Type 0
IsSoundAsking opcode (askings.Call call) = opcode ≡ call_number call
IsSoundAsking opcode (askings.Refused code) = is_zero code.0 ≡ false
