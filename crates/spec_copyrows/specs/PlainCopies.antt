-- What a client that knows no read-only volume has to do with the row of clients without them: where its table has none, and the location
-- database tells it nothing new, it does the same.
use Rattle.std.specs.Prelude.{⊤, ◌≡◌, ℕ, List, false, Some}
use Rattle.std.specs.List.{AllByRecursion}
use Rattle.spec_history.specs.declared.acts.Act.{Act}
use Rattle.afs_num.specs.declared.location_calls.LocEntry.{LocEntry}
use Rattle.afs_num.specs.declared.messages.Received.{Received}
use Rattle.afs_num.specs.declared.messages.Received.TheVariants.{Whole}
use Rattle.afs_num.specs.declared.types.Node.{Node}
use Rattle.spec_rows.specs.ClientRow.{begin_row, guest_row, reborn, seek_timeout_row, timeout_row}
use Rattle.spec_rows.specs.Going.{ClientState, Going, Seek}
use Rattle.spec_rows.specs.States.{Location}
use Rattle.spec_rows.specs.Steps.{Step}
use Rattle.spec_copyrows.specs.CopyRow.{copies_reborn, copy_begin_row, copy_row, copy_seek_row, copy_timeout_row, tells_new}
use Rattle.spec_copyrows.specs.Sites.{new_copies, CopyState}

-- no entry has a read-only volume
abbrev pub KnowsNoReadOnly : List Location → Type 0
KnowsNoReadOnly table = AllByRecursion (λ (e : LocEntry). e.read_only ≡ 0) table

-- it has seen no release, and is in no round
abbrev pub plain_step : Step ClientState → Step CopyState
plain_step s = record { state = new_copies s.state; lines = s.lines; sent = s.sent }

-- what the location database tells, if this is its answer, the table has
abbrev pub TellsNothingNew : Node → ClientState → Received → Type 0
TellsNothingNew me k (Whole m) = (s : Seek) → k.seeking ≡ Some s → tells_new me k m s ≡ false
TellsNothingNew me k r = ⊤

-- as it begins an act, is given a message, times out a call of a server or one of the location database, and begins again
pub record CopiesArePlain : Type 0 where
  pub begins : (me : Node) (k : ClientState) (clock : ℕ) (act : Act) → KnowsNoReadOnly (begin_row me k clock act).state.table → copy_begin_row me (new_copies k) clock act ≡ plain_step (begin_row me k clock act)
  pub hears : (me : Node) (k : ClientState) (clock place : ℕ) (r : Received) → KnowsNoReadOnly k.table → TellsNothingNew me k r → KnowsNoReadOnly (guest_row me k clock place r).state.table → copy_row me (new_copies k) clock place r ≡ plain_step (guest_row me k clock place r)
  pub waits : (me : Node) (k : ClientState) (act : Going) → KnowsNoReadOnly k.table → copy_timeout_row me (new_copies k) act ≡ plain_step (timeout_row me k act)
  pub seeks : (me : Node) (k : ClientState) (s : Seek) → copy_seek_row me (new_copies k) s ≡ plain_step (seek_timeout_row me k s)
  pub reborn : (table : List Location) (k : ClientState) → copies_reborn table (new_copies k) ≡ new_copies (reborn table k)
