-- A location database that is played.
use Rattle.std.specs.Prelude.{◌≡◌, Bool, true, false}
use Rattle.afs_locdb.specs.Seen.{Database, Serves}

-- it can be given a message
pub record Hears {D : Type 0} (b : Database D) : Type 0 where
  pub serves : Serves b
  pub up : b.store.closed ≡ false

-- while it is up, it can be given one
abbrev pub IsSound : {D : Type 0} → Database D → Bool → Type 0
IsSound {D} b is_up = is_up ≡ true → Hears b
