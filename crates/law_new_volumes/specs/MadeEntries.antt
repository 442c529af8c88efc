-- The entries of volumes in the location database: each is made by one call, and one that was removed isn't made again.
use Rattle.std.specs.Prelude.{◌≡◌, ◌≤◌, ℕ, List, true, Some, None, is_some, take}
use Rattle.afs_num.specs.declared.location_calls.LocCall.TheVariants as calls
use Rattle.afs_num.specs.declared.location_calls.LocEntry.{LocEntry}
use Rattle.afs_num.specs.declared.messages.Call.TheVariants as ask
use Rattle.afs_num.specs.declared.messages.Carried.TheVariants as carried
use Rattle.afs_num.specs.declared.messages.Message.{Message}
use Rattle.spec_history.specs.declared.scripts.Script.{Script}
use Rattle.spec_ideal.specs.Tables.{get}
use Rattle.spec_model.specs.Calls.{key_of}
use Rattle.spec_rows.specs.Runs.{message_at}
use Rattle.spec_runs.specs.NodeRuns.{node_start, CellInput, NodeCell}
use Rattle.law_places.specs.Accepting.{cell_behind}
use Rattle.law_numbers.specs.Numbers.{IsNumbered}
use Rattle.law_stamps.specs.Told.{entries_in}

-- ---- each is made by one call

-- a message that was sent asks the database to make the entry of this volume
pub record AsksEntry (c : NodeCell) (volume : ℕ) (m : Message) : Type 0 where
  pub place : ℕ
  pub at : message_at c.sent place ≡ Some m
  pub user : List ℕ
  pub entry : LocEntry
  pub asks : m.carried ≡ carried.Call user (ask.Location (calls.CreateEntry entry))
  pub its : entry.read_write ≡ volume

-- Whoever asks for it, at whatever time, asks under the same key: it is one call, sent once more.
abbrev pub EntriesAreAskedOnce : Script → List CellInput → Type 0
EntriesAreAskedOnce s inputs = (volume : ℕ) (a b : Message) → AsksEntry (cell_behind (node_start s) inputs) volume a → AsksEntry (cell_behind (node_start s) inputs) volume b → key_of a.head ≡ key_of b.head

-- ---- what is removed stays so

-- the database has an entry of the volume behind these inputs
abbrev pub IsListedBehind : Script → List CellInput → ℕ → Type 0
IsListedBehind s inputs volume = is_some (get volume (entries_in (cell_behind (node_start s) inputs))) ≡ true

-- Where the database had an entry of the volume, and later has none, it never has one again.
abbrev pub EntriesGoForGood : Script → List CellInput → Type 0
EntriesGoForGood s inputs = (i j k volume : ℕ) → i ≤ j → j ≤ k → IsListedBehind s (take i inputs) volume → get volume (entries_in (cell_behind (node_start s) (take j inputs))) ≡ None → get volume (entries_in (cell_behind (node_start s) (take k inputs))) ≡ None

-- ---- the law

pub record EntriesAreMadeOnce (s : Script) (inputs : List CellInput) : Type 0 where
  pub asked : EntriesAreAskedOnce s inputs
  pub gone : EntriesGoForGood s inputs

-- So it is in every run of every script whose volumes are numbered one after the other.
abbrev pub EachEntryIsMadeOnce : Type 0
EachEntryIsMadeOnce = (s : Script) (inputs : List CellInput) → IsNumbered s → EntriesAreMadeOnce s inputs
