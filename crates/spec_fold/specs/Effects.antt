-- What a server's record tells: the effect of a step, as its entry tells it, and as a restart tells it behind a step that was
-- interrupted with its record whole.
use Rattle.std.specs.Prelude.{ℕ, List, [], ◌∷◌, ◌++◌, length, map, Bool, true, false, ◌&&◌, Option, Some, None, nat_eq, if◌then◌else◌}
use Rattle.afs_num.specs.declared.histories.Version.{Version}
use Rattle.afs_num.specs.declared.records.RecordBody.{RecordBody}
use Rattle.afs_num.specs.declared.records.RecordBody.TheVariants as bodies
use Rattle.afs_num.specs.declared.records.RecordHead.{RecordHead}
use Rattle.afs_num.specs.declared.records.StoreRecord.{StoreRecord}
use Rattle.afs_num.specs.declared.types.Node.{Node}
use Rattle.spec_history.specs.declared.lines.Line.{Line}
use Rattle.spec_history.specs.declared.lines.Line.TheVariants as lines
use Rattle.spec_ideal.specs.SetUp.{first_versions}
use Rattle.spec_ideal.specs.Tables.{Table, get}
use Rattle.spec_records.specs.Durable.{Stored, Durable, change_lines, is_flagged, key_in, versions_told}
use Rattle.spec_fold.specs.Deeds.{created}

-- ---- read-write volumes that go

-- a volume of this number that is deleted
abbrev pub vanish_lines : Node → ℕ → Stored → List Line
vanish_lines server id s = if nat_eq s.volume.kind 0 then lines.Vanish id server ∷ [] else []

-- by their numbers, those that a start deletes
abbrev pub vanished_lines : Node → Table Stored → List Line
vanished_lines server [] = []
vanished_lines server (p ∷ ps) = (if is_flagged p.1 then vanish_lines server p.0 p.1 else []) ++ vanished_lines server ps

-- ---- read-write volumes that come: they are told whole

abbrev pub version_lines : List Version → List Line
version_lines versions = map lines.Version versions

abbrev pub whole_lines : Node → ℕ → Stored → List Line
whole_lines server id s = lines.Made server id (length s.volume.vnodes) ∷ version_lines (first_versions id s.volume.vnodes)

-- a read-write volume that is made with flags 0 accepts stores at once
abbrev pub create_lines : Node → ℕ → Stored → List Line
create_lines server id s =
    if nat_eq s.volume.kind 0 && nat_eq s.volume.flags 0 then whole_lines server id s ++ lines.Enable id server ∷ [] else []

-- a new one is told where its flags become 0 for the first time
abbrev pub made_lines : Node → ℕ → ℕ → Stored → List Line
made_lines server id flags s = if nat_eq flags 0 && s.is_new then whole_lines server id s else []

-- ---- flags

-- whether they were 0, and whether they are: a read-write volume accepts stores where its flags are 0
abbrev pub turn_lines : Node → ℕ → Bool → Bool → List Line
turn_lines server id true false = lines.Fence id server ∷ []
turn_lines server id false true = lines.Enable id server ∷ []
turn_lines server id was is = []

-- a read-only volume, at each time that its flags are set to 0
abbrev pub released_lines : Node → ℕ → Stored → List Line
released_lines server id s = if nat_eq s.volume.kind 1 then lines.Released s.volume.family id s.volume.release server ∷ [] else []

-- of flags that are set, with the volume as it was before
abbrev pub flag_lines : Node → ℕ → ℕ → Stored → List Line
flag_lines server id flags s =
    if nat_eq s.volume.kind 0 then made_lines server id flags s ++ turn_lines server id (nat_eq s.volume.flags 0) (nat_eq flags 0)
    else (if nat_eq flags 0 then released_lines server id s else [])

-- ---- the record

abbrev pub lines_told_of : (Stored → List Line) → Option Stored → List Line
lines_told_of tell None = []
lines_told_of tell (Some s) = tell s

-- with this head and this body, taken into this durable part
abbrev pub effect_by : Node → RecordHead → RecordBody → Durable → List Line
effect_by server h (bodies.Change id counter unique vnodes removed) d =
    change_lines server (key_in h) (versions_told id vnodes removed (get id d.volumes))
effect_by server h (bodies.Boot boot) d = vanished_lines server d.volumes
effect_by server h (bodies.Create id family name kind flags quota is_new) d =
    create_lines server id (created family name kind flags quota is_new)
effect_by server h (bodies.Delete id) d = lines_told_of (vanish_lines server id) (get id d.volumes)
effect_by server h (bodies.Flags id flags) d = lines_told_of (flag_lines server id flags) (get id d.volumes)
effect_by server h body d = []

abbrev pub effect_of : Node → StoreRecord → Durable → List Line
effect_of server r d = effect_by server r.head r.body d
