-- What an act does whose call is in a round.
use Rattle.std.specs.Prelude.{◌≡◌, ℕ, List, true, Option, Some, None, Result}
use Rattle.spec_history.specs.declared.lines.Outs.{Outs}
use Rattle.spec_ideal.specs.Tables.{Table}
use Rattle.spec_model.specs.Steps.{NodeState}
use Rattle.afs_num.specs.Nodes.{same_node}
use Rattle.afs_num.specs.declared.types.Head.{Head}
use Rattle.afs_num.specs.declared.types.Node.{Node}
use Rattle.spec_rows.specs.States.{CacheEntry}
use Rattle.spec_rows.specs.Going.{ClientState, Going}
use Rattle.spec_rows.specs.ClientRow.{call_of, gives_up}
use Rattle.spec_rows.specs.Steps.{Step}
use Rattle.afs_calling.specs.Stepping as stepping
use Rattle.spec_copyrows.specs.CopyRow.{dies_at}
use Rattle.spec_copyrows.specs.Sites.{as_it_is, round_of, CopyState, Round}
use Rattle.afs_cache.specs.Managing.{sent_to_site}
use Rattle.afs_cache.specs.Wanted.{awaited_by}

-- the act that runs makes this step with a message
abbrev pub OfAct : {E : Type 0} → (ℕ → Going → Step CopyState) → NodeState CopyState → NodeState CopyState → Result Outs E → Type 0
OfAct step old new r = (act : Going) → old.state.client.running ≡ Some act → stepping.Takes (λ place. step place act) old new r

-- and this one at a timeout
abbrev pub ActAnswers : {E : Type 0} → (Going → Step CopyState) → NodeState CopyState → NodeState CopyState → Result Outs E → Type 0
ActAnswers step old new r = (act : Going) → old.state.client.running ≡ Some act → stepping.Answers (step act) old new r

-- the round in whose volume the act that runs calls
abbrev pub round_running : CopyState → Option Going → Option Round
round_running c None = None
round_running c (Some act) = round_of c act

-- a message with this header answers the call of the act that runs
pub record IsHeard (n : NodeState CopyState) (head : Head) : Type 0 where
  pub idle : n.state.client.seeking ≡ None
  pub here : same_node head.to n.node ≡ true
  pub awaited : awaited_by n.state.client head n.state.client.running ≡ true

-- a call is dead, in a round or in none
abbrev pub dies_by : Node → CopyState → Going → Option Round → Step CopyState
dies_by me c act None = as_it_is c (gives_up me c.client (call_of c.client act))
dies_by me c act (Some r) = dies_at me c act r

-- the client with these entries, which has seen these releases
abbrev pub keeping : CopyState → List CacheEntry → Table ℕ → CopyState
keeping c cache seen = record c { client = record c.client { cache = cache }; seen = seen }

-- it makes a step of the client's row once it keeps these
abbrev pub KeepsThen : {E : Type 0} → List CacheEntry → Table ℕ → (ClientState → ℕ → Step ClientState) → NodeState CopyState → NodeState CopyState → Result Outs E → Type 0
KeepsThen cache seen step old new r = stepping.Takes (λ place. sent_to_site old.node (keeping old.state cache seen) (step (keeping old.state cache seen).client place)) old new r
