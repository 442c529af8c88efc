-- An act runs at a client, or waits for the location database, just where a call of it waits.
use Rattle.std.proofs.Common.{◌≡◌, true, false, Option, Some, None, refl}
use Rattle.std.specs.Prelude.{IsSome, is_some}
use Rattle.spec_model.specs.Steps.{NodeState}
use Rattle.afs_num.specs.declared.types.Node.{Node}
use Rattle.spec_rows.specs.Going.{ClientState, Going}
use Rattle.spec_rows.specs.ClientRow.{act_of}
use Rattle.afs_cache.specs.Managing.{waits, waits_by}
use Rattle.spec_copyrows.specs.Sites.{CopyState}

idle_by : (me : Node) (c : ClientState) (running : Option Going) → is_some (waits_by me c running) ≡ false → running ≡ None
idle_by me c None e = refl
idle_by me c (Some act) e = absurd cc

pub idle_from : (n : NodeState CopyState) → is_some (waits n) ≡ false → act_of n.state.client ≡ None
idle_from n e = idle_by n.node n.state.client (act_of n.state.client) e

waiting_by : (me : Node) (c : ClientState) (running : Option Going) → is_some (waits_by me c running) ≡ true → IsSome running
waiting_by me c None e = absurd cc
waiting_by me c (Some act) e = refl

pub waiting_from : (n : NodeState CopyState) → is_some (waits n) ≡ true → IsSome (act_of n.state.client)
waiting_from n e = waiting_by n.node n.state.client (act_of n.state.client) e
