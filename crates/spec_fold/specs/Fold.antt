-- How each record of a server's journal changes what is on its disk: the fold.
use Rattle.std.specs.Prelude.{◌≡◌, ℕ, ◌+◌, List, [], ◌∷◌, Bool, true, false, Option, Some, None, if◌then◌else◌}
use Rattle.afs_num.specs.declared.records.RecordBody.{RecordBody}
use Rattle.afs_num.specs.declared.records.RecordBody.TheVariants as bodies
use Rattle.afs_num.specs.declared.records.StoreRecord.{StoreRecord}
use Rattle.spec_shape.specs.Taking.{◌>>=◌}
use Rattle.spec_ideal.specs.Tables.{get}
use Rattle.spec_records.specs.Durable.{Durable, booted, changed_stored, noted, nothing_on, placing, replaced, with_journal, with_volumes}
use Rattle.spec_records.specs.Records.{record_at}
use Rattle.spec_fold.specs.Deeds.{can_take, done_by}

-- what a record with this body changes; None where it can't be taken
abbrev pub body_taken : RecordBody → Durable → Option Durable
body_taken (bodies.First volumes) d = with_volumes volumes d
body_taken (bodies.Change id counter unique vnodes removed) d =
    get id d.volumes >>= λ s. replaced id (changed_stored counter unique vnodes removed s) d
body_taken (bodies.Boot boot) d = Some (booted boot d)
body_taken body d = if can_take body d then Some (done_by body d) else None

-- one record
unfoldable pub folded : StoreRecord → Durable → Option Durable
folded r d = body_taken r.body d >>= λ e. Some (with_journal (placing d r).journal (noted r.head e))

-- records from the first on: the first tells the volumes of set-up

abbrev pub is_first : RecordBody → Bool
is_first (bodies.First volumes) = true
is_first body = false

abbrev pub first_folded : StoreRecord → Durable → Option Durable
first_folded r d = if is_first r.body then folded r d else None

abbrev pub fold_from : List (List ℕ) → Durable → Option Durable
fold_from [] d = Some d
fold_from (bytes ∷ rest) d = record_at bytes >>= λ r. (folded r d >>= fold_from rest)

-- what the bytes of records stand for, on a disk of this capacity; a missing first record counts as one that can't be taken
abbrev pub fold_all : ℕ → List (List ℕ) → Option Durable
fold_all capacity [] = None
fold_all capacity (bytes ∷ rest) = record_at bytes >>= λ r. (first_folded r (nothing_on capacity) >>= fold_from rest)

-- The records are those of a disk with this durable part.
abbrev pub StandFor : List (List ℕ) → Durable → Type 0
StandFor records d = fold_all d.capacity records ≡ Some d

-- ---- which record can't be taken: its number, from 1

abbrev pub bad_by : ℕ → Option Durable → (Durable → Option ℕ) → Option ℕ
bad_by number None next = Some number
bad_by number (Some d) next = next d

abbrev pub bad_from : ℕ → List (List ℕ) → Durable → Option ℕ
bad_from number [] d = None
bad_from number (bytes ∷ rest) d = bad_by number (record_at bytes >>= λ r. folded r d) (bad_from (number + 1) rest)

abbrev pub first_bad : ℕ → List (List ℕ) → Option ℕ
first_bad capacity [] = Some 1
first_bad capacity (bytes ∷ rest) = bad_by 1 (record_at bytes >>= λ r. first_folded r (nothing_on capacity)) (bad_from 2 rest)
