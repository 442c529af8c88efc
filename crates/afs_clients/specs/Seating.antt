-- What the calls of a client's seat promise.
use Rattle.std.specs.Prelude.{◌≡◌, ◌≤◌, ◌+◌, ℕ, Bool, false, Option, Some, None, List, [], ◌∷◌}
use Rattle.std.specs.List.{All}
use Rattle.afs_num.specs.Nodes.{same_node}
use Rattle.afs_num.specs.declared.types.Node.{Node}
use Rattle.afs_num.specs.declared.types.Node.TheVariants.{Client}
use Rattle.spec_history.specs.declared.scripts.Script.{Script}
use Rattle.afs_cache.specs.Lasting.{lasting}
use Rattle.spec_copyrows.specs.Sites.{new_copies}
use Rattle.spec_rows.specs.ClientRow.{new_client}
use Rattle.spec_rows.specs.Going.{ClientState, Going}
use Rattle.spec_rows.specs.Runs.{locations, user_at}
use Rattle.afs_schedule.specs.Schedules.{tasks_of}
use Rattle.afs_clients.specs.declared.clients.ClientSeat.{ClientSeat}
use Rattle.spec_history.specs.declared.scripts.Task.{Task}
use Rattle.spec_history.specs.declared.scripts.Task.TheVariants as tasks
use Rattle.afs_acts.specs.Acts.{FitsCalls}

-- an act of a client is within its limits
abbrev pub IsShortTask : Task → Type 0
IsShortTask (tasks.Client n act) = FitsCalls act
IsShortTask (tasks.Admin n act) = Unit {0}

-- What a client was handed at its start, or when it began again, and keeps, is the script's; so are the acts that it has not begun.
pub record IsHanded (s : Script) (n : ℕ) (seat : ClientSeat) : Type 0 where
  pub node : seat.client.node ≡ Client n
  pub epoch : seat.client.state.client.epoch ≡ seat.epoch
  pub capacity : seat.client.state.client.capacity ≡ s.cache
  pub user : seat.client.state.client.user ≡ user_at s n
  pub acts : All IsShortTask seat.plan

-- it waits for the reply of this node
abbrev pub awaits : ClientState → Node → Option Going → Bool
awaits c callee None = false
awaits c callee (Some act) = same_node c.callee callee

-- what a step leaves as it is: what the client was handed, and its epoch; it makes one call at most
pub record GoesOn (old new : ClientSeat) : Type 0 where
  pub node : new.client.node ≡ old.client.node
  pub kept : lasting new.client.state.client ≡ lasting old.client.state.client
  pub epoch : new.epoch ≡ old.epoch
  pub last : new.client.state.client.last ≤ old.client.state.client.last + 1
  pub acts : All IsShortTask old.plan → All IsShortTask new.plan

-- a client at set-up
pub record IsFirstClient (s : Script) (n : ℕ) (seat : ClientSeat) : Type 0 where
  pub state : seat.client.state ≡ new_copies (new_client 1 s.cache (user_at s n) (locations s))
  pub up : seat.is_away ≡ false
  pub plan : seat.plan ≡ tasks_of (Client n) s.tasks
  pub epoch : seat.epoch ≡ 1
  pub handed : IsHanded s n seat

-- clients at set-up, in order of number from this one on
abbrev pub AreFirstClients : Script → ℕ → List ClientSeat → Type 0
AreFirstClients s n [] = Unit {0}
AreFirstClients s n (c ∷ cs) = IsFirstClient s n c × AreFirstClients s (n + 1) cs
