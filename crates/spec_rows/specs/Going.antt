-- What runs at a client: an act, and what it has read; and what it needs next.
use Rattle.spec_ideal.specs.SetUp.{nothing_set}
use Rattle.afs_num.specs.declared.directories.Name.{Name}
use Rattle.spec_ideal.specs.Directories.{named}
use Rattle.spec_history.specs.declared.acts.Act.{Act}
use Rattle.spec_history.specs.declared.acts.Operand.{Operand}
use Rattle.spec_history.specs.declared.acts.Path.{Path}
use Rattle.spec_history.specs.declared.acts.Operand.TheVariants as operands
use Rattle.spec_history.specs.Written.{bytes_in}
use Rattle.spec_rows.specs.States.{CacheEntry, Gift, KnownBoot, Location, Seat}
use Rattle.spec_history.specs.declared.acts.Act.TheVariants as acts
use Rattle.std.specs.Prelude.{ℕ, zero, suc, ◌+◌, ◌-◌, codes, List, [], ◌∷◌, ◌++◌, Bool, true, false, not, ◌&&◌, ◌||◌, Option, Some, None, pos, nat_eq, find, map, take, length, if◌then◌else◌}
use Rattle.std.specs.Option.{option_map}
use Rattle.std.specs.Str.{bytes_eq}
use Rattle.afs_num.specs.Fids.{same_fid}
use Rattle.afs_num.specs.declared.types.Fid.{Fid}
use Rattle.afs_num.specs.declared.types.Node.{Node}
use Rattle.afs_num.specs.declared.types.Code.{Code}
use Rattle.std.specs.List.{ends_with}
use Rattle.afs_num.specs.declared.calls.AfsStoreStatus.{AfsStoreStatus}
use Rattle.afs_num.specs.declared.calls.FsCall.{FsCall}
use Rattle.afs_num.specs.declared.calls.FsCall.TheVariants as calls
use Rattle.afs_num.specs.declared.histories.Body.{Body}
use Rattle.afs_num.specs.declared.histories.Body.TheVariants as bodies
use Rattle.afs_num.specs.declared.histories.ReadBody.{ReadBody}
use Rattle.afs_num.specs.declared.histories.ReadStatus.{ReadStatus}
use Rattle.afs_num.specs.declared.histories.ReadBody.TheVariants as seen

-- the number of the volume of an act's first operand, and of its second; none where it has none, or the client doesn't know it
pub record Homes : Type 0 where
  pub first : Option ℕ
  pub second : Option ℕ

pub record ReadShown : Type 0 where
  pub fid : Fid
  pub body : ReadBody

-- an act, the numbers of the volumes that it names, and what it has read, the first first
pub record Going : Type 0 where
  pub act : Act
  pub homes : Homes
  pub reads : List ReadShown

-- What an act needs next: the body, the status, or the rights of this fid, or the status of each of these; this call; to give its
-- promises back; where the volume of this operand is; or to answer
pub data Need : Type 0 where
  reads : Fid → Need
  reads_status : Fid → Need
  reads_statuses : List Fid → Need
  reads_rights : Fid → Need
  asks_for : FsCall → Need
  gives_back : Need
  locates : Operand → Need
  answers : ℕ → Need

-- ---- reads. They are taken in their order; one of another fid, or that shows something else, is passed over

-- what was found, and the reads behind it
pub record TakenRead (A : Type 0) : Type 0 where
  pub found : A
  pub rest : List ReadShown

abbrev pub taken_body : Bool → ReadBody → List ReadShown → Option (TakenRead Body) → Option (TakenRead Body)
taken_body true (seen.Contents body) rest later = Some (record { found = body; rest = rest })
taken_body b body rest later = later

abbrev pub first_body : Fid → List ReadShown → Option (TakenRead Body)
first_body f [] = None
first_body f (r ∷ rs) = taken_body (same_fid r.fid f) r.body rs (first_body f rs)

abbrev pub taken_status : Bool → ReadBody → List ReadShown → Option (TakenRead ReadStatus) → Option (TakenRead ReadStatus)
taken_status true (seen.Status status) rest later = Some (record { found = status; rest = rest })
taken_status b body rest later = later

abbrev pub first_status : Fid → List ReadShown → Option (TakenRead ReadStatus)
first_status f [] = None
first_status f (r ∷ rs) = taken_status (same_fid r.fid f) r.body rs (first_status f rs)

abbrev pub has_rights_by : Bool → ReadBody → Bool → Bool
has_rights_by true (seen.AccessList text) later = true
has_rights_by b body later = later

abbrev pub has_rights : Fid → List ReadShown → Bool
has_rights f [] = false
has_rights f (r ∷ rs) = has_rights_by (same_fid r.fid f) r.body (has_rights f rs)

abbrev pub by_body : Fid → (Body → List ReadShown → Need) → Option (TakenRead Body) → Need
by_body f more None = reads f
by_body f more (Some t) = more t.found t.rest

-- the body of this fid is read, and then this is needed
abbrev pub reading : Fid → List ReadShown → (Body → List ReadShown → Need) → Need
reading f rs more = by_body f more (first_body f rs)

abbrev pub by_status : Fid → Option (TakenRead ReadStatus) → Need
by_status f None = reads_status f
by_status f (Some t) = answers 0

-- this status is read, and nothing more is needed
abbrev pub reading_status : Fid → List ReadShown → Need
reading_status f rs = by_status f (first_status f rs)

abbrev pub by_statuses : List Fid → (List ReadShown → Need) → Option (TakenRead ReadStatus) → Need
by_statuses all more None = reads_statuses all
by_statuses all more (Some t) = more t.rest

-- the status of each of these is read, where they are the last of `all`
abbrev pub reading_statuses : List Fid → List Fid → List ReadShown → Need
reading_statuses all [] rs = answers 0
reading_statuses all (f ∷ fs) rs = by_statuses all (reading_statuses all fs) (first_status f rs)

abbrev pub reading_rights : Fid → List ReadShown → Need
reading_rights f rs = if has_rights f rs then answers 0 else reads_rights f

-- ---- walks

abbrev pub is_even : ℕ → Bool
is_even zero = true
is_even (suc n) = not (is_even n)

abbrev pub is_last_name : List (List ℕ) → Bool
is_last_name [] = true
is_last_name (n ∷ names) = false

abbrev pub fid_of : ℕ → Name → Fid
fid_of volume n = record { volume = volume; vnode = n.vnode; unique = n.unique }

abbrev pub root_of : ℕ → Fid
root_of volume = record { volume = volume; vnode = 1; unique = 1 }

abbrev pub looked_up : List ℕ → Body → Option (Option Name)
looked_up name (bodies.Dir names) = Some (named name names)
looked_up name b = None

-- 2: there is no such name; 20: what must be a directory is none, which an even number tells without a read
abbrev pub step_to : Bool → (Fid → Need) → ℕ → Option (Option Name) → Need
step_to inner more volume None = answers 20
step_to inner more volume (Some None) = answers 2
step_to inner more volume (Some (Some n)) = if (inner && is_even n.vnode) then answers 20 else more (fid_of volume n)

-- along the names from a directory; where it goes on to a parent, each of them must be a directory, else all but the last
abbrev pub walk : Bool → (Fid → List ReadShown → Need) → List (List ℕ) → List ReadShown → Fid → Need
walk all more [] rs f = more f rs
walk all more (name ∷ names) rs f = reading f rs (λ b rest. step_to (all || not (is_last_name names)) (walk all more names rest) f.volume (looked_up name b))

-- 363524: no such volume is known
abbrev pub no_entry : ℕ
no_entry = 363524

-- where the volume of an operand isn't known, it is asked for first
abbrev pub in_home : Operand → Option ℕ → (ℕ → Need) → Need
in_home o None more = locates o
in_home o (Some id) more = more id

abbrev pub to_object : Option ℕ → Operand → List ReadShown → (Fid → List ReadShown → Need) → Need
to_object home (operands.Fid f) rs more = in_home (operands.Fid f) home (λ id. more f rs)
to_object home (operands.Path p) rs more = in_home (operands.Path p) home (λ id. walk false more p.names rs (root_of id))

-- the names before the last, and that one
pub record Parted : Type 0 where
  pub front : List (List ℕ)
  pub last : List ℕ

abbrev pub put_front : List ℕ → Parted → Parted
put_front name p = record { front = name ∷ p.front; last = p.last }

abbrev pub parted_on : List ℕ → List (List ℕ) → Parted
parted_on name [] = record { front = []; last = name }
parted_on name (other ∷ names) = put_front name (parted_on other names)

abbrev pub parted : List (List ℕ) → Option Parted
parted [] = None
parted (name ∷ names) = Some (parted_on name names)

abbrev pub in_directory : Need → Body → Need
in_directory need (bodies.Dir b) = need
in_directory need b = answers 20

abbrev pub at_parent : Operand → Option ℕ → List ReadShown → (Fid → List ℕ → List ReadShown → Need) → Option Parted → Need
at_parent o home rs more None = answers 22
at_parent o home rs more (Some p) = in_home o home (λ id. walk true (λ d rest. reading d rest (λ b later. in_directory (more d p.last later) b)) p.front rs (root_of id))

-- to the parent of the last name, which is read too; the root has none
abbrev pub to_parent : Option ℕ → Path → List ReadShown → (Fid → List ℕ → List ReadShown → Need) → Need
to_parent home p rs more = at_parent (operands.Path p) home rs more (parted p.names)

-- ---- acts

-- the answer where the object is a file, a directory, a link
abbrev pub by_kind : ℕ → ℕ → ℕ → Body → Need
by_kind file directory link (bodies.File b) = answers file
by_kind file directory link (bodies.Dir b) = answers directory
by_kind file directory link b = answers link

abbrev pub shows : ℕ → ℕ → ℕ → Option ℕ → Operand → List ReadShown → Need
shows file directory link home o rs = to_object home o rs (λ f rest. reading f rest (λ b later. by_kind file directory link b))

-- the status of so many names at most is shown
abbrev pub most_shown : ℕ
most_shown = 50

-- the first of a directory's names, in byte order
abbrev pub named_first : ℕ → List Name → List Fid
named_first volume names = map (fid_of volume) (take most_shown names)

abbrev pub statuses_in : ℕ → List ReadShown → Body → Need
statuses_in volume rs (bodies.Dir names) = reading_statuses (named_first volume names) (named_first volume names) rs
statuses_in volume rs b = answers 20

abbrev pub mode_set : ℕ → AfsStoreStatus
mode_set mode = record nothing_set { mask = 8; unix_mode_bits = mode }

-- the file gets these bytes, and no others
abbrev pub stored_whole : Fid → List ℕ → FsCall
stored_whole f bytes = calls.StoreData f nothing_set (pos 0) (pos (length bytes)) (pos (length bytes)) bytes

-- 22: the two are of different volumes
abbrev pub of_one : Fid → Fid → Need → Need
of_one f g need = if nat_eq f.volume g.volume then need else answers 22

-- 22: the root has no parent
abbrev pub is_root_path : Path → Bool
is_root_path p = is_last_name p.names

abbrev pub act_needs : Homes → Act → List ReadShown → Need
act_needs h (acts.Open o) rs = shows 0 21 22 h.first o rs
act_needs h (acts.ListNames o) rs = shows 20 0 20 h.first o rs
act_needs h (acts.ReadLink o) rs = shows 22 21 0 h.first o rs
act_needs h (acts.Close o contents) rs = to_object h.first o rs (λ f rest. asks_for (stored_whole f (bytes_in contents)))
act_needs h (acts.SetMode o mode) rs = to_object h.first o rs (λ f rest. asks_for (calls.StoreStatus f (mode_set mode)))
act_needs h (acts.SetAccessList o text) rs = to_object h.first o rs (λ f rest. asks_for (calls.StoreAcl f (bytes_in text)))
act_needs h (acts.Make p) rs = to_parent h.first p rs (λ d name rest. asks_for (calls.CreateFile d name nothing_set))
act_needs h (acts.MakeDirectory p) rs = to_parent h.first p rs (λ d name rest. asks_for (calls.MakeDir d name nothing_set))
act_needs h (acts.Symlink p target) rs = to_parent h.first p rs (λ d name rest. asks_for (calls.Symlink d name (bytes_in target) nothing_set))
act_needs h (acts.Remove p) rs = to_parent h.first p rs (λ d name rest. asks_for (calls.RemoveFile d name))
act_needs h (acts.RemoveDirectory p) rs = to_parent h.first p rs (λ d name rest. asks_for (calls.RemoveDir d name))
act_needs h (acts.Move p q) rs = if (is_root_path p || is_root_path q) then answers 22 else to_parent h.first p rs (λ d old rest. to_parent h.second q rest (λ e new later. of_one d e (asks_for (calls.Rename d old e new))))
act_needs h (acts.Link p q) rs = if is_root_path q then answers 22 else to_object h.first (operands.Path p) rs (λ f rest. to_parent h.second q rest (λ d name later. of_one f d (asks_for (calls.Link d name f))))
act_needs h (acts.Stat o) rs = to_object h.first o rs (λ f rest. reading_status f rest)
act_needs h (acts.StatAll o) rs = to_object h.first o rs (λ f rest. reading f rest (λ b later. statuses_in f.volume later b))
act_needs h (acts.GetAccessList o) rs = to_object h.first o rs (λ f rest. reading_rights f rest)
act_needs h acts.GiveUp rs = gives_back

abbrev pub next : Going → Need
next g = act_needs g.homes g.act g.reads

-- the most reads of an act that its cache may show: each directory of its paths, and an object
abbrev pub reads_to : Operand → ℕ
reads_to (operands.Path p) = length p.names + 1
reads_to (operands.Fid f) = 1

abbrev pub reads_of : Act → ℕ
reads_of (acts.Open o) = reads_to o
reads_of (acts.ListNames o) = reads_to o
reads_of (acts.ReadLink o) = reads_to o
reads_of (acts.Close o contents) = reads_to o
reads_of (acts.SetMode o mode) = reads_to o
reads_of (acts.SetAccessList o text) = reads_to o
reads_of (acts.Make p) = length p.names
reads_of (acts.MakeDirectory p) = length p.names
reads_of (acts.Symlink p target) = length p.names
reads_of (acts.Remove p) = length p.names
reads_of (acts.RemoveDirectory p) = length p.names
reads_of (acts.Move p q) = length p.names + length q.names
reads_of (acts.Link p q) = length p.names + length q.names
reads_of (acts.Stat o) = reads_to o
reads_of (acts.StatAll o) = reads_to o
reads_of (acts.GetAccessList o) = reads_to o
reads_of acts.GiveUp = 0

-- the call of a server for it; which promises are given back no need tells
abbrev pub call_for : Need → FsCall
call_for (reads f) = calls.FetchData f (pos 0) (pos 2147483647)
call_for (reads_status f) = calls.FetchStatus f
call_for (reads_statuses fs) = calls.BulkStatus fs
call_for (reads_rights f) = calls.FetchAcl f
call_for (asks_for c) = c
call_for gives_back = calls.GiveUpCallBacks [] []
call_for (locates o) = calls.GetTime
call_for (answers code) = calls.GetTime

abbrev pub asked : Going → FsCall
asked g = call_for (next g)

-- ---- where volumes are

-- a path's first name is that of a volume, or of its read-only copy or its backup
pub data Copy : Type 0 where
  itself : Copy
  read_only : Copy
  backup : Copy

abbrev pub readonly_end : List ℕ
readonly_end = codes ".readonly"

abbrev pub backup_end : List ℕ
backup_end = codes ".backup"

abbrev pub copy_of : List ℕ → Copy
copy_of name = if ends_with nat_eq name readonly_end then read_only else (if ends_with nat_eq name backup_end then backup else itself)

abbrev pub without_end : Copy → List ℕ → List ℕ
without_end itself name = name
without_end read_only name = take (length name - length readonly_end) name
without_end backup name = take (length name - length backup_end) name

abbrev pub base_of : List ℕ → List ℕ
base_of name = without_end (copy_of name) name

-- the number 0 is none
abbrev pub number_there : ℕ → Option ℕ
number_there n = if nat_eq n 0 then None else Some n

abbrev pub number_in : Copy → Location → Option ℕ
number_in itself l = number_there l.read_write
number_in read_only l = number_there l.read_only
number_in backup l = number_there l.backup

-- one of its three volumes has this number
abbrev pub has_number : ℕ → Location → Bool
has_number id l = not (nat_eq id 0) && (nat_eq l.read_write id || (nat_eq l.read_only id || nat_eq l.backup id))

-- the entry of an operand's volume: a path has its name, a fid its number
abbrev pub find_location : List Location → Operand → Option Location
find_location t (operands.Path p) = find (λ l. bytes_eq l.name (base_of p.volume)) t
find_location t (operands.Fid f) = find (has_number f.volume) t

-- the number of the volume that the operand names
abbrev pub number_for : Operand → Option Location → Option ℕ
number_for o None = None
number_for (operands.Path p) (Some l) = number_in (copy_of p.volume) l
number_for (operands.Fid f) (Some l) = Some f.volume

abbrev pub volume_at : List Location → Operand → Option ℕ
volume_at t o = number_for o (find_location t o)

-- the operands of an act
abbrev pub Operands : Type 0
Operands = Option Operand × Option Operand

abbrev pub one_of : Operand → Operands
one_of o = (Some o, None)

abbrev pub two_of : Path → Path → Operands
two_of p q = (Some (operands.Path p), Some (operands.Path q))

abbrev pub operands_of : Act → Operands
operands_of (acts.Open o) = one_of o
operands_of (acts.ListNames o) = one_of o
operands_of (acts.ReadLink o) = one_of o
operands_of (acts.Stat o) = one_of o
operands_of (acts.StatAll o) = one_of o
operands_of (acts.Close o contents) = one_of o
operands_of (acts.Make p) = one_of (operands.Path p)
operands_of (acts.MakeDirectory p) = one_of (operands.Path p)
operands_of (acts.Remove p) = one_of (operands.Path p)
operands_of (acts.RemoveDirectory p) = one_of (operands.Path p)
operands_of (acts.Move p q) = two_of p q
operands_of (acts.Link p q) = two_of p q
operands_of (acts.Symlink p target) = one_of (operands.Path p)
operands_of (acts.SetMode o mode) = one_of o
operands_of (acts.SetAccessList o text) = one_of o
operands_of (acts.GetAccessList o) = one_of o
operands_of acts.GiveUp = (None, None)

abbrev pub home_at : List Location → Option Operand → Option ℕ
home_at t None = None
home_at t (Some o) = volume_at t o

abbrev pub homes_of : List Location → Act → Homes
homes_of t act = record { first = home_at t (operands_of act).0; second = home_at t (operands_of act).1 }

abbrev pub began : List Location → Act → Going
began t act = record { act = act; homes = homes_of t act; reads = [] }

-- the numbers that an act lacks are looked up again
abbrev pub known_or : Option ℕ → Option ℕ → Option ℕ
known_or None o = o
known_or (Some n) o = Some n

abbrev pub filled : List Location → Going → Going
filled t g = record g { homes = record { first = known_or g.homes.first (homes_of t g.act).first; second = known_or g.homes.second (homes_of t g.act).second } }

abbrev pub with_read : Fid → ReadBody → Going → Going
with_read f body g = record g { reads = g.reads ++ record { fid = f; body = body } ∷ [] }

abbrev pub read_on : Bool → Fid → ReadBody → Option Going → Option Going
read_on true f body o = option_map (with_read f body) o
read_on false f body o = o

abbrev pub is_home : Option ℕ → ℕ → Bool
is_home None id = false
is_home (Some n) id = nat_eq n id

-- the operand in whose volume the act calls: the first, or the second where that alone is in the volume
abbrev pub operand_in : Going → ℕ → Option Operand
operand_in g id = if (is_home g.homes.second id && not (is_home g.homes.first id)) then (operands_of g.act).1 else (operands_of g.act).0

-- ---- a client

-- a server that told that it has no such volume, or not any more, and its code
pub record Left : Type 0 where
  pub server : Node
  pub code : Code

-- An act that waits for the location database: for which operand it asks, and which server it left for that, if it left one
pub record Seek : Type 0 where
  pub act : Going
  pub operand : Operand
  pub left : Option Left

-- Its epoch and the number of its last call in it; its user; how many entries its cache may have; where volumes are, and the boot
-- numbers of servers, as it knows them; the servers that call it; its cache, the entry that was used last first. Of the act that
-- runs: how often it was told to wait; whom its unanswered call is for, how often that was timed out, and whether a break spoils
-- the reply; and the promises that it gives back still, the server of the first first. Then the act that waits for the location
-- database, which doesn't run meanwhile, for it waits for no server; and how often this act asked where a volume went.
pub record ClientState : Type 0 where
  pub epoch : ℕ
  pub last : ℕ
  pub user : List ℕ
  pub capacity : ℕ
  pub table : List Location
  pub boots : List KnownBoot
  pub seats : List Seat
  pub cache : List CacheEntry
  pub running : Option Going
  pub busy : ℕ
  pub callee : Node
  pub tries : ℕ
  pub spoiled : Bool
  pub gifts : List Gift
  pub seeking : Option Seek
  pub moved : ℕ
