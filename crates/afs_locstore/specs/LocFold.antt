-- The records of the location database, what they make, and how its memory holds that.
use Rattle.std.specs.Prelude.{ℕ, List, [], ◌∷◌, Option, Some, None}
use Rattle.spec_history.specs.declared.lines.Line.{Line}
use Rattle.spec_shape.specs.Taking.{◌>>=◌}
use Rattle.spec_records.specs.LocDurable.{loc_boot_record, loc_first_bad, loc_first_folded, loc_fold_all, loc_folded, loc_is_first, nothing_listed, LocDurable}
use Rattle.spec_records.specs.LocEffects.{loc_effect_of}
use Rattle.spec_records.specs.LocRecords.{loc_record_at, loc_record_bytes, FitsLocRecord, LocRecord}
use Rattle.afs_store.specs.Folding.{Folding}
use Rattle.afs_locstore.specs.States.{loc_done, loc_on_disk, parts_of, record_of, HasRoomFor, IsSpelledOut}
use Rattle.afs_locstore.specs.declared.held.Held.{Held}
use Rattle.afs_locstore.specs.declared.ready.Ready.{Ready}

-- ---- what the last of these records tells, each taken after the one before

abbrev pub loc_last_from : List (List ℕ) → LocDurable → List Line → Option (List Line)
loc_last_from [] d e = Some e
loc_last_from (bytes ∷ rest) d e = loc_record_at bytes >>= λ r. (loc_folded r d >>= λ after. loc_last_from rest after (loc_effect_of r d))

abbrev pub loc_last_effect : ℕ → List (List ℕ) → Option (List Line)
loc_last_effect capacity [] = None
loc_last_effect capacity (bytes ∷ rest) =
    loc_record_at bytes >>= λ r. (loc_first_folded r (nothing_listed capacity) >>= λ after. loc_last_from rest after (loc_effect_of r (nothing_listed capacity)))

-- ---- the fold

abbrev pub loc_fold : Folding LocRecord LocDurable Held Ready
loc_fold = record {
  spelled = loc_record_bytes;
  read = loc_record_at;
  Fits = FitsLocRecord;
  nothing = record (nothing_listed 0) { journal = 0 };
  placed = loc_on_disk;
  journal = λ d. d.journal;
  capacity = λ d. d.capacity;
  folded = loc_folded;
  done = loc_done;
  is_first = λ r. loc_is_first r.body;
  effect = λ node r d. loc_effect_of r d;
  in_words = λ ls. ls;
  boot = λ d. d.boot;
  start = loc_boot_record;
  fold_all = loc_fold_all;
  first_bad = loc_first_bad;
  last_effect = λ node capacity records. loc_last_effect capacity records;
  held = λ h. parts_of h.state;
  record_of = λ p. record_of p.head p.redo;
  IsReady = IsSpelledOut;
  Suits = λ p d. Unit {0};
  HasRoomFor = λ p h. HasRoomFor p.redo h.state;
}
