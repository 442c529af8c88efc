-- What a server keeps on its disk, and what its own records say of it.
use Rattle.std.specs.Prelude.{ℕ, ◌+◌, List, [], ◌∷◌, ◌++◌, length, map, filter, Bool, false, not, ◌&&◌, Option, Some, None, is_some, nat_eq, nat_lt, if◌then◌else◌}
use Rattle.std.specs.List.{list_all}
use Rattle.afs_num.specs.Nodes.{node_number}
use Rattle.afs_num.specs.declared.types.Fid.{Fid}
use Rattle.afs_num.specs.declared.types.Key.{Key}
use Rattle.afs_num.specs.declared.types.Node.{Node}
use Rattle.afs_num.specs.declared.types.Node.TheVariants.{Loc}
use Rattle.spec_history.specs.declared.lines.Line.{Line}
use Rattle.spec_history.specs.declared.lines.Line.TheVariants as lines
use Rattle.afs_num.specs.declared.histories.Version.{Version}
use Rattle.spec_shape.specs.Taking.{◌>>=◌}
use Rattle.spec_ideal.specs.Tables.{Table, get, set, unset}
use Rattle.spec_ideal.specs.VnodeMaps.{most_vnodes}
use Rattle.spec_ideal.specs.Images.{Image, value_of, values_of}
use Rattle.spec_ideal.specs.Volumes.{Vnode, Volume, has_bit, version_at, gone_at}
use Rattle.afs_num.specs.declared.records.RecordHead.{RecordHead}
use Rattle.afs_num.specs.declared.records.StoredVolume.{StoredVolume}
use Rattle.afs_num.specs.declared.records.RecordBody.TheVariants as bodies
use Rattle.afs_num.specs.declared.records.StoreRecord.{StoreRecord}
use Rattle.afs_num.specs.declared.records.Mark.{Mark}
use Rattle.spec_records.specs.Records.{record_bytes}
use Rattle.spec_records.specs.Sound.{is_sound}

-- ---- the durable part

-- A volume, and what stands beside it: when each vnode was changed last, by its number; and whether it is new, made under
-- no stamp and never yet with flags 0.
pub record Stored : Type 0 where
  pub volume : Volume
  pub times : Table ℕ
  pub is_new : Bool

-- the last reply to a caller that has to outlive the server, with epoch and number of its call
pub record Kept : Type 0 where
  pub epoch : ℕ
  pub number : ℕ
  pub reply : List ℕ

-- Volumes and forwardings stand by the volumes' numbers, stamps by families, kept replies by their callers' numbers. A
-- forwarding is the number of a server. The journal's length and the disk's capacity are in bytes.
pub record Durable : Type 0 where
  pub boot : ℕ
  pub volumes : Table Stored
  pub stamps : Table ℕ
  pub forwardings : Table ℕ
  pub kept : Table Kept
  pub journal : ℕ
  pub capacity : ℕ

abbrev pub most_volumes : ℕ
most_volumes = 64

-- a new journal is one closed gate
abbrev pub nothing_on : ℕ → Durable
nothing_on capacity = record { boot = 1; volumes = []; stamps = []; forwardings = []; kept = []; journal = 1; capacity = capacity }

-- ---- what is found

abbrev pub or_zero : Option ℕ → ℕ
or_zero None = 0
or_zero (Some n) = n

abbrev pub time_in : Stored → Fid → ℕ
time_in s f = or_zero (get f.vnode s.times)

-- families without a stamp have 0
abbrev pub stamp_of : ℕ → Durable → ℕ
stamp_of family d = or_zero (get family d.stamps)

abbrev pub kept_for : Node → Durable → Option Kept
kept_for caller d = get (node_number caller) d.kept

-- ---- room

-- a record's place has its length, its number and the next gate besides
abbrev pub place_length : StoreRecord → ℕ
place_length r = length (record_bytes r) + 9

-- What it takes to put a record on the disk: so many device calls, and so long is the journal then.
pub record Placing : Type 0 where
  pub calls : ℕ
  pub journal : ℕ

-- its place is written and synced, and then its gate
abbrev pub placing : Durable → StoreRecord → Placing
placing d r = record { calls = 4; journal = d.journal + place_length r }

abbrev pub has_room : Durable → StoreRecord → Bool
has_room d r = not (nat_lt d.capacity (placing d r).journal)

-- ---- the fold: what a record changes. None where it can't be taken

-- a volume that a disk may hold
abbrev pub allowed : Stored → Option Stored
allowed s = if not (nat_lt most_vnodes (length s.volume.vnodes)) && is_sound s.volume then Some s else None

abbrev pub with_stored : ℕ → Stored → Durable → Option Durable
with_stored id s d = if nat_lt most_volumes (length (set id s d.volumes)) then None else Some (record d { volumes = set id s d.volumes })

-- set-up

abbrev pub by_number : List Image → Table Image
by_number is = map (λ (i : Image). (i.vnode, i)) is

abbrev pub times_of : List Image → Table ℕ
times_of is = map (λ (i : Image). (i.vnode, i.server_time)) is

abbrev pub volume_with : StoredVolume → Table Vnode → Volume
volume_with s vnodes = record {
  family = s.head.family;
  name = s.head.name;
  kind = s.head.kind;
  flags = s.head.flags;
  quota = s.head.quota;
  next = s.head.unique;
  counter = s.head.counter;
  release = s.head.release;
  vnodes = vnodes;
}

abbrev pub stored_of : StoredVolume → Option Stored
stored_of s = values_of (by_number s.vnodes) >>= λ vnodes. allowed (record { volume = volume_with s vnodes; times = times_of s.vnodes; is_new = false })

abbrev pub with_volumes : List StoredVolume → Durable → Option Durable
with_volumes [] d = Some d
with_volumes (s ∷ ss) d = stored_of s >>= λ x. (with_stored s.head.id x d >>= with_volumes ss)

-- a change

abbrev pub with_image : Image → Vnode → Stored → Stored
with_image i x s = record s { volume = record s.volume { vnodes = set i.vnode x s.volume.vnodes }; times = set i.vnode i.server_time s.times }

abbrev pub with_images : List Image → Stored → Option Stored
with_images [] s = Some s
with_images (i ∷ is) s = value_of i >>= λ x. with_images is (with_image i x s)

abbrev pub is_there : Stored → ℕ → Bool
is_there s n = is_some (get n s.volume.vnodes)

abbrev pub without_one : ℕ → Stored → Stored
without_one n s = record s { volume = record s.volume { vnodes = unset n s.volume.vnodes }; times = unset n s.times }

abbrev pub without : List ℕ → Stored → Stored
without [] s = s
without (n ∷ ns) s = without ns (without_one n s)

abbrev pub counted_as : ℕ → ℕ → Stored → Stored
counted_as counter unique s = record s { volume = record s.volume { counter = counter; next = unique } }

-- the volume after a change: its counter and next unique number, the images of vnodes and the numbers of those that went
abbrev pub changed_stored : ℕ → ℕ → List Image → List ℕ → Stored → Option Stored
changed_stored counter unique images removed s =
    if list_all (is_there s) removed then (with_images images s >>= λ t. allowed (without removed (counted_as counter unique t))) else None

abbrev pub replaced : ℕ → Option Stored → Durable → Option Durable
replaced id None d = None
replaced id (Some s) d = Some (record d { volumes = set id s d.volumes })

-- a start: volumes with the flag of delete on salvage go
abbrev pub is_flagged : Stored → Bool
is_flagged s = has_bit 1 s.volume.flags

abbrev pub booted : ℕ → Durable → Durable
booted boot d = record d { boot = boot; volumes = filter (λ (p : ℕ × Stored). not (is_flagged p.1)) d.volumes }

-- what the head says

abbrev pub with_stamp : RecordHead → Durable → Durable
with_stamp h d = if nat_eq h.stamp 0 then d else record d { stamps = set h.family h.stamp d.stamps }

abbrev pub kept_by : RecordHead → Kept
kept_by h = record { epoch = h.epoch; number = h.number; reply = h.reply }

abbrev pub with_reply : Option Node → RecordHead → Durable → Durable
with_reply None h d = d
with_reply (Some caller) h d = record d { kept = set (node_number caller) (kept_by h) d.kept }

abbrev pub noted : RecordHead → Durable → Durable
noted h d = with_reply h.caller h (with_stamp h d)

abbrev pub with_journal : ℕ → Durable → Durable
with_journal n d = record d { journal = n }

-- ---- what a record tells: the effect of a step, as its server's entry tells it, and as a restart tells it after a step that
-- was interrupted behind its record

-- the number of each vnode that changed, with what it is after the change
abbrev pub with_outcomes : List Image → Table (Option Vnode) → Table (Option Vnode)
with_outcomes [] t = t
with_outcomes (i ∷ is) t = with_outcomes is (set i.vnode (value_of i) t)

abbrev pub with_removed : List ℕ → Table (Option Vnode) → Table (Option Vnode)
with_removed [] t = t
with_removed (n ∷ ns) t = with_removed ns (set n None t)

abbrev pub gone_versions : ℕ → ℕ → Option Vnode → List Version
gone_versions id n None = []
gone_versions id n (Some x) = gone_at id n x ∷ []

abbrev pub outcome_versions : ℕ → Volume → Table (Option Vnode) → List Version
outcome_versions id v [] = []
outcome_versions id v ((n, Some x) ∷ ps) = version_at id n x ∷ outcome_versions id v ps
outcome_versions id v ((n, None) ∷ ps) = gone_versions id n (get n v.vnodes) ++ outcome_versions id v ps

abbrev pub versions_told : ℕ → List Image → List ℕ → Option Stored → List Version
versions_told id images removed None = []
versions_told id images removed (Some s) = outcome_versions id s.volume (with_removed removed (with_outcomes images []))

-- a change has a caller; number 0 is that of the location database
abbrev pub caller_or_loc : Option Node → Node
caller_or_loc None = Loc
caller_or_loc (Some n) = n

abbrev pub key_in : RecordHead → Key
key_in h = record { node = caller_or_loc h.caller; epoch = h.epoch; number = h.number }

abbrev pub change_lines : Node → Key → List Version → List Line
change_lines server key versions = lines.Change server key (length versions) ∷ map lines.Version versions

-- ---- the mark: how many records stand on the disk, in its one generation
abbrev pub mark_of : List (List ℕ) → Mark
mark_of records = record { generation = 0; records = length records }
