-- Calls of clients: under one key there is one call, to one callee, however often it is sent.
use Rattle.std.specs.Prelude.{◌≡◌, ℕ, List, Some}
use Rattle.afs_num.specs.declared.messages.Message.{Message}
use Rattle.afs_num.specs.declared.types.Node.TheVariants.{Client}
use Rattle.spec_history.specs.declared.scripts.Script.{Script}
use Rattle.spec_model.specs.Calls.{key_of}
use Rattle.spec_rows.specs.Runs.{message_at}
use Rattle.spec_runs.specs.NodeRuns.{node_start, CellInput}
use Rattle.law_places.specs.Accepting.{cell_behind}
use Rattle.law_keys.specs.Asked.{AreOneCall, IsCall}

-- Two calls of a client, sent at any time. One that asks anew where a volume went, or goes on to another site, takes a new key.
abbrev pub ClientCallsAreOne : Type 0
ClientCallsAreOne = (s : Script) (inputs : List CellInput) (n first second : ℕ) (a b : Message) → message_at (cell_behind (node_start s) inputs).sent first ≡ Some a → message_at (cell_behind (node_start s) inputs).sent second ≡ Some b →
    a.head.from ≡ Client n → IsCall a.carried → IsCall b.carried → key_of a.head ≡ key_of b.head → AreOneCall a b
