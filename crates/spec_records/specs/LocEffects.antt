-- What a record of the location database tells: the effect of a step, as its entry tells it, and as a restart tells it behind a step
-- that was interrupted with its record whole.
use Rattle.std.specs.Prelude.{ℕ, List, [], ◌∷◌, ◌++◌, Bool, false, Option, Some, None, nat_eq, if◌then◌else◌}
use Rattle.afs_num.specs.declared.types.Node.TheVariants.{Server}
use Rattle.spec_history.specs.declared.lines.Line.{Line}
use Rattle.spec_history.specs.declared.lines.Line.TheVariants as lines
use Rattle.spec_shape.specs.Taking.{◌>>=◌}
use Rattle.spec_ideal.specs.Tables.{get, Table}
use Rattle.spec_records.specs.Entries.{site_of}
use Rattle.spec_records.specs.LocDurable.{LocDurable}
use Rattle.spec_records.specs.LocRecords.{leaves, removes, sets, Database, EntryDeed, Listed, LocBody, LocRecord, Lock}

-- ---- the lock

-- a lock under another stamp than before, or under the first, is told
abbrev pub locked_new : ℕ → Option Lock → Lock → List Line
locked_new v None l = lines.Locked v l.stamp l.operation ∷ []
locked_new v (Some k) l = if nat_eq k.stamp l.stamp then [] else lines.Locked v l.stamp l.operation ∷ []

-- a lock goes; one that was taken by force was that of a recovery, which is done then
abbrev pub unlocked_of : ℕ → Lock → List Line
unlocked_of v k = if k.forced then lines.Recovered v ∷ lines.Unlocked v ∷ [] else lines.Unlocked v ∷ []

abbrev pub lock_told : ℕ → Option Lock → Option Lock → List Line
lock_told v before (Some l) = locked_new v before l
lock_told v (Some k) None = unlocked_of v k
lock_told v None None = []

-- ---- the site of the read-write volume

abbrev pub same_site : Option ℕ → Option ℕ → Bool
same_site (Some a) (Some b) = nat_eq a b
same_site a b = false

-- a site that is another than before
abbrev pub located_lines : ℕ → Option ℕ → Option ℕ → List Line
located_lines v before None = []
located_lines v before (Some i) = if same_site before (Some i) then [] else lines.Located v (Server i) ∷ []

-- ---- the record

abbrev pub site_before : Option Listed → Option ℕ
site_before o = o >>= λ l. site_of l.entry

abbrev pub lock_before : Option Listed → Option Lock
lock_before o = o >>= λ l. l.lock

-- an entry that is set in the place of this one, or of none: first its lock, then its site
abbrev pub set_told : Listed → Option Listed → List Line
set_told l before = lock_told l.entry.read_write (lock_before before) l.lock ++ located_lines l.entry.read_write (site_before before) (site_of l.entry)

-- an entry that goes was locked
abbrev pub deed_told : EntryDeed → Table Listed → List Line
deed_told (sets l) t = set_told l (get l.entry.read_write t)
deed_told (removes e) t = lines.Unlocked e.read_write ∷ []
deed_told leaves t = []

-- only a change tells something
abbrev pub loc_effect_by : LocBody → LocDurable → List Line
loc_effect_by (Database deed next_id next_stamp) d = deed_told deed d.entries
loc_effect_by body d = []

-- of a record that is taken into this durable part
abbrev pub loc_effect_of : LocRecord → LocDurable → List Line
loc_effect_of r d = loc_effect_by r.body d
