-- What the program keeps of a run whose clients take every act, and the history that this tells. It keeps the parcels that
-- were sent, each with the bytes of its message, and entries that say how many of them are theirs.
use Rattle.std.specs.Prelude.{ℕ, ◌+◌, List, [], ◌∷◌, take, drop}
use Rattle.afs_num.specs.declared.types.Parcel.{Parcel}
use Rattle.spec_history.specs.declared.lines.Entry as kept
use Rattle.spec_rows.specs.Runs.{Entry}
pub use Rattle.spec_model.specs.Telling.{messages_of, AreRead}

-- the history that these entries tell, each with the next of these parcels; no step brings a volume whole
abbrev pub entries_as_told : List Parcel → List kept.Entry → List Entry
entries_as_told ps [] = []
entries_as_told ps (e ∷ es) = record { actor = e.actor; lines = e.lines; sent = messages_of (take e.sent ps); volumes = [] } ∷ entries_as_told (drop e.sent ps) es

-- how many messages these entries sent
abbrev pub sent_by : List kept.Entry → ℕ
sent_by [] = 0
sent_by (e ∷ es) = e.sent + sent_by es
