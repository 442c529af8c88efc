-- A record that is ready for the disk: it is spelled, and what it says is ready to be done.
use Rattle.std.specs.Prelude.{◌≡◌, Option, Some, None}
use Rattle.afs_num.specs.declared.records.StoreRecord.{StoreRecord}
use Rattle.spec_records.specs.Records.{record_bytes, FitsRecord}
use Rattle.afs_memory.specs.Redoing.{FitsRedo}
use Rattle.afs_memory.specs.Redos.{record_of, IsReady}
use Rattle.afs_readying.specs.declared.prepared.Prepared.{Prepared}

abbrev pub prepared_seen : Option Prepared → Option StoreRecord
prepared_seen None = None
prepared_seen (Some p) = Some (record_of p.head p.redo)

-- the bytes are those of the record, and what it says is ready to be done
pub record IsSpelledOut (p : Prepared) : Type 0 where
  pub fits : FitsRecord (record_of p.head p.redo)
  pub spelled : record_bytes (record_of p.head p.redo) ≡ p.bytes
  pub ready : IsReady p.redo
  pub images : FitsRedo p.redo
