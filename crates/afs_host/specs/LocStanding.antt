-- What the disk of a location database that is down stands for.
use Rattle.std.specs.Prelude.{ℕ, List, [], Bool}
use Rattle.afs_num.specs.declared.messages.Received.TheVariants.{Whole}
use Rattle.afs_num.specs.declared.records.Mark.{Mark}
use Rattle.afs_journal.specs.Records.{whole_records}
use Rattle.spec_records.specs.LocDurable.{LocDurable}
use Rattle.spec_records.specs.LocRecords.{LocRecord}
use Rattle.spec_rows.specs.Hosts.{begun_from, Fall}
use Rattle.spec_rows.specs.LocRow.{loc_decides, LocLasting, LocState}
use Rattle.spec_rows.specs.LocSteps.{loc_kind}
use Rattle.spec_rows.specs.Steps.{Begun}
use Rattle.afs_locstore.specs.LocFold.{loc_fold}
use Rattle.afs_locstore.specs.declared.held.Held.{Held}
use Rattle.afs_locstore.specs.declared.ready.Ready.{Ready}
use Rattle.afs_locdb.specs.Handling.{loc_record_decided}
use Rattle.afs_locdb.specs.Seen.{lasting_of}
use Rattle.afs_host.specs.Standing.{IsKeptAs, IsKeptFound, IsKeptIn, Keeping}

-- what its restart begins with, where it finds the disk as before the interrupted step, or as after it
abbrev pub loc_begun_by_disk : LocState → Bool → Fall → Begun LocState
loc_begun_by_disk s after fall = begun_from loc_kind s after fall

-- no caller has a seat before it is up
abbrev pub loc_begun_state : LocDurable → LocState
loc_begun_state d = record { lasting = lasting_of d; seats = [] }

abbrev pub loc_keeping : Keeping LocRecord LocDurable Held Ready LocLasting LocState
loc_keeping = record {
  kind = loc_kind;
  fold = loc_fold;
  read = lasting_of;
  lasting = λ s. s.lasting;
  capacity = λ l. l.capacity;
  boot = λ l. l.boot;
  decided = λ s clock m. loc_record_decided s.lasting.boot (loc_decides s (Whole m));
  begun = loc_begun_state;
}

abbrev pub LocLiesAs : LocState → Fall → Mark → Bool → List (List ℕ) → Type 0
LocLiesAs s fall mark after records = IsKeptAs loc_keeping s fall mark after records

abbrev pub LocLiesFound : LocState → Fall → Mark → List (List ℕ) → Type 0
LocLiesFound s fall mark records = IsKeptFound loc_keeping s fall mark records

abbrev pub LocLiesIn : LocState → Fall → Mark → List (List ℕ) → Type 0
LocLiesIn s fall mark records = IsKeptIn loc_keeping s fall mark records

-- so it is of the whole records of these bytes
abbrev pub LocLies : LocState → Fall → Mark → List ℕ → Type 0
LocLies s fall mark bytes = LocLiesIn s fall mark (whole_records bytes)
