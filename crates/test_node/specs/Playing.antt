-- A file server that is played.
use Rattle.std.specs.Prelude.{◌≡◌, ◌≤◌, ◌+◌, ◌*◌, ℕ, false, length}
use Rattle.afs_server.specs.Seen.{Memory, Serves}
use Rattle.afs_volstore.specs.Stores.{Store}

-- it can go on, after so many steps since it began
pub record GoesOn {D : Type 0} (m : Memory) (s : Store D) (steps : ℕ) : Type 0 where
  pub serves : Serves s.node m s.durable
  pub up : s.closed ≡ false
  pub drawn : s.drawn ≤ 204 * steps + 204
  pub owes : m.lists.last_owed + length m.lists.promises ≤ 50 * steps + 16
