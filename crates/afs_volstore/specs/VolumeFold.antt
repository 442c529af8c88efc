-- The records of a server, what they make, and how its memory holds that.
use Rattle.std.specs.Prelude.{map}
use Rattle.std.specs.Option.{option_map}
use Rattle.afs_num.specs.declared.records.StoreRecord.{StoreRecord}
use Rattle.spec_records.specs.Records.{record_at, record_bytes, FitsRecord}
use Rattle.spec_records.specs.Changes.{boot_record}
use Rattle.spec_records.specs.Durable.{noted, nothing_on, Durable}
use Rattle.spec_fold.specs.Fold.{is_first, body_taken, first_bad, fold_all, folded}
use Rattle.spec_fold.specs.Effects.{effect_of}
use Rattle.afs_readying.specs.Preparing.{IsSpelledOut}
use Rattle.afs_memory.specs.Redos.{record_of, Suits}
use Rattle.afs_memory.specs.States.{parts_of, on_disk, HasRoomFor}
use Rattle.afs_memory.specs.Telling.{in_words}
use Rattle.afs_readying.specs.declared.prepared.Prepared.{Prepared}
use Rattle.afs_store.specs.Folding.{Folding}
use Rattle.afs_volstore.specs.Opening.{last_effect}
use Rattle.afs_volstore.specs.declared.held.Held.{Held}

abbrev pub volume_fold : Folding StoreRecord Durable Held Prepared
volume_fold = record {
  spelled = record_bytes;
  read = record_at;
  Fits = FitsRecord;
  nothing = record (nothing_on 0) { journal = 0 };
  placed = on_disk;
  journal = λ d. d.journal;
  capacity = λ d. d.capacity;
  folded = folded;
  done = λ r d. option_map (noted r.head) (body_taken r.body d);
  is_first = λ r. is_first r.body;
  effect = effect_of;
  in_words = map in_words;
  boot = λ d. d.boot;
  start = boot_record;
  fold_all = fold_all;
  first_bad = first_bad;
  last_effect = last_effect;
  held = λ h. parts_of h.state;
  record_of = λ p. record_of p.head p.redo;
  IsReady = IsSpelledOut;
  Suits = λ p d. Suits p.redo d;
  HasRoomFor = λ p h. HasRoomFor p.redo h.state;
}
