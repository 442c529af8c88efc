use Rattle.spec_ideal.specs.AccessLists.{acl_text}
use Rattle.afs_num.specs.declared.histories.ReadBody.{ReadBody}
use Rattle.afs_num.specs.declared.histories.ReadBody.TheVariants as shows
use Rattle.afs_num.specs.declared.histories.ReadStatus.{ReadStatus}
use Rattle.spec_ideal.specs.Operations.{the_user, volume_called, changed, op, is_number}
use Rattle.spec_ideal.specs.Tables.{Table, get}
use Rattle.spec_ideal.specs.Volumes.{a_directory, Vnode, version_at, Volume, body_of, size_of, type_of, vnode_of}
use Rattle.spec_history.specs.declared.lines.Line.{Line}
use Rattle.law_legal.specs.Past.{begins_act, onto, is_of_act, sent_of, is_called}
use Rattle.spec_ideal.specs.SetUp.{first_volume}
use Rattle.spec_rows.specs.Runs.{Entry, first_volumes, counts_later, user_at}
use Rattle.spec_rows.specs.Scopes.{is_volume}
use Rattle.std.specs.Prelude.{◌≡◌, ℕ, ◌+◌, List, [], ◌∷◌, ◌++◌, Bool, true, false, ◌&&◌, Option, Some, None, max, if◌then◌else◌, ◌⊎◌}
use Rattle.std.specs.Option.{option_map}
use Rattle.afs_num.specs.Fids.{same_fid}
use Rattle.afs_num.specs.Nodes.{same_node}
use Rattle.afs_num.specs.declared.types.Code.{Code}
use Rattle.afs_num.specs.declared.types.Fid.{Fid}
use Rattle.afs_num.specs.declared.types.Node.{Node}
use Rattle.afs_num.specs.declared.types.Node.TheVariants.{Server, Client}
use Rattle.afs_num.specs.declared.calls.FsCall.{FsCall}
use Rattle.spec_history.specs.declared.scripts.Script.{Script}
use Rattle.spec_history.specs.declared.scripts.VolumeLine.{VolumeLine}
use Rattle.afs_num.specs.declared.histories.Actor.TheVariants as actors
use Rattle.afs_num.specs.declared.histories.Body.{Body}
use Rattle.afs_num.specs.declared.histories.Version.{Version}
use Rattle.afs_num.specs.declared.types.Key.{Key}
use Rattle.afs_num.specs.declared.messages.Carried.{Carried}
use Rattle.afs_num.specs.declared.messages.Message.{Message}
use Rattle.spec_history.specs.declared.lines.Line.TheVariants as lines
use Rattle.afs_num.specs.declared.messages.Carried.TheVariants as carried
use Rattle.afs_num.specs.declared.messages.Call.TheVariants as ask

-- The ideal cell: what all that was told before a moment makes of it. It has no caches, no tables of calls and no bytes
-- of messages: each fid has its versions, each volume the servers that accept its stores, each client what it has seen.

-- ---- the set-up

-- the first version of each vnode, the last number first, before these lines
abbrev pub first_told : ℕ → Table Vnode → List Line → List Line
first_told id [] tail = tail
first_told id (p ∷ ps) tail = first_told id ps (lines.Version (version_at id p.0 p.1) ∷ tail)

-- the versions that the set-up of each volume makes; of two volumes under one number the last counts
abbrev pub first_where : Bool → List Line → List Line → List Line
first_where true a b = a
first_where false a b = b

abbrev pub first_lines : List VolumeLine → List Line
first_lines [] = []
first_lines (v ∷ vs) = first_where (counts_later v.id vs) (first_lines vs) (first_lines vs ++ first_told v.id (first_volume v).vnodes [])

-- the set-up, as an entry before all others
abbrev pub set_up_entry : Script → Entry
set_up_entry s = record { actor = actors.Nobody; lines = first_lines s.volumes; sent = []; volumes = first_volumes s.volumes }

-- ---- volumes. The call that a message carries under a key

abbrev pub call_in : Carried → Option (List ℕ × FsCall)
call_in (carried.Call user (ask.File call)) = Some (user, call)
call_in c = None

abbrev pub call_under : Key → List Message → Option (List ℕ × FsCall)
call_under k [] = None
call_under k (m ∷ ms) = if is_called k m.head m.carried then call_in m.carried else call_under k ms

-- the node to which the first file call under this key went
abbrev pub callee_under : Key → List Message → Option Node
callee_under k [] = None
callee_under k (m ∷ ms) = if is_called k m.head m.carried then Some m.head.to else callee_under k ms

abbrev pub applied_by : Bool → ℕ → List ℕ → FsCall → Option Volume → Option Volume
applied_by false id user call o = o
applied_by true id user call None = None
applied_by true id user call (Some v) = Some (changed id (op id (the_user user) call v) v)

-- a volume, after this call
abbrev pub applied : ℕ → Option (List ℕ × FsCall) → Option Volume → Option Volume
applied id None o = o
applied id (Some c) o = applied_by (is_volume id (volume_called c.1)) id c.0 c.1 o

-- the key of a change among lines
abbrev pub change_in : Line → Option Key
change_in (lines.Change s k count) = Some k
change_in l = None

abbrev pub first_key : Option Key → Option Key → Option Key
first_key None o = o
first_key (Some k) o = Some k

abbrev pub change_key : List Line → Option Key
change_key [] = None
change_key (l ∷ ls) = first_key (change_in l) (change_key ls)

abbrev pub changed_under : ℕ → Option Key → List Message → Option Volume → Option Volume
changed_under id None sent o = o
changed_under id (Some k) sent o = applied id (call_under k sent) o

abbrev pub or_before : Option Volume → Option Volume → Option Volume
or_before None o = o
or_before (Some v) o = Some v

abbrev pub brought : ℕ → Table Volume → Option Volume → Option Volume
brought id [] o = o
brought id (p ∷ ps) o = or_before (get id (p ∷ ps)) o

-- the ideal volume: the set-up's, after the ideal operation of each change's call
abbrev pub volume_after : ℕ → List Entry → Option Volume
volume_after id [] = None
volume_after id (e ∷ past) = brought id e.volumes (changed_under id (change_key e.lines) (sent_of past) (volume_after id past))

-- ---- versions. Lines are read from the newest

-- the version that a line tells
abbrev pub version_in : Line → Option Version
version_in (lines.Version v) = Some v
version_in l = None

abbrev pub latest : Fid → Option Version → Option Version → Option Version
latest f None before = before
latest f (Some v) before = if same_fid v.fid f then Some v else before

abbrev pub last_version : Fid → List Line → Option Version
last_version f [] = None
last_version f (l ∷ older) = latest f (version_in l) (last_version f older)

-- all versions that lines tell
abbrev pub told_by : Option Version → List Version → List Version
told_by None vs = vs
told_by (Some v) vs = v ∷ vs

abbrev pub versions_in : List Line → List Version
versions_in [] = []
versions_in (l ∷ older) = told_by (version_in l) (versions_in older)

-- the last index of the fid
abbrev pub IsLast : Fid → ℕ → List Line → Type 0
IsLast f index older = option_map (λ v. v.index) (last_version f older) ≡ Some index

-- it was so at some line since the client began its act
abbrev pub Unless : Bool → Type 0 → Type 0
Unless true before = ⊥
Unless false before = before

abbrev pub WasBefore : Node → Fid → ℕ → List Line → Type 0
WasBefore c f index [] = ⊥
WasBefore c f index (l ∷ older) = Unless (begins_act c l) (IsLast f index older ⊎ WasBefore c f index older)

abbrev pub WasLast : Node → Fid → ℕ → List Line → Type 0
WasLast c f index ls = IsLast f index ls ⊎ WasBefore c f index ls

-- the fid has a version of this index, with this body
abbrev pub IsThat : Fid → ℕ → Body → Option Version → Type 0 → Type 0
IsThat f index body None before = before
IsThat f index body (Some v) before = ((v.fid ≡ f) × ((v.index ≡ index) × (v.body ≡ body))) ⊎ before

abbrev pub HasVersion : Fid → ℕ → Body → List Line → Type 0
HasVersion f index body [] = ⊥
HasVersion f index body (l ∷ older) = IsThat f index body (version_in l) (HasVersion f index body older)

-- ---- what a vnode showed beside its body

abbrev pub shown_status : Vnode → ReadStatus
shown_status x = record { kind = type_of x.kind; link_count = x.links; length = size_of x; mode = x.mode }

-- the vnode has this index, and this is its status, or the text of its rights, which a directory alone has
abbrev pub Tells : ℕ → ReadBody → Vnode → Type 0
Tells index (shows.Contents body) x = (x.index ≡ index) × (body_of x ≡ body)
Tells index (shows.Status status) x = (x.index ≡ index) × (shown_status x ≡ status)
Tells index (shows.AccessList text) x = (x.index ≡ index) × ((acl_text x.acl ≡ text) × (x.kind ≡ a_directory))

abbrev pub TellsIn : ℕ → ReadBody → Option Vnode → Type 0
TellsIn index body None = ⊥
TellsIn index body (Some x) = Tells index body x

abbrev pub TellsOf : Fid → ℕ → ReadBody → Option Volume → Type 0
TellsOf f index body None = ⊥
TellsOf f index body (Some v) = TellsIn index body (vnode_of f v)

-- it did so in the ideal volume of some moment
abbrev pub HasBeen : Fid → ℕ → ReadBody → List Entry → Type 0
HasBeen f index body [] = ⊥
HasBeen f index body (e ∷ past) = TellsOf f index body (volume_after f.volume (e ∷ past)) ⊎ HasBeen f index body past

-- ---- servers and the clock

-- of the lines with one volume's number the last counts
abbrev pub IsPutAt : ℕ → Node → List VolumeLine → Type 0
IsPutAt id server [] = ⊥
IsPutAt id server (v ∷ vs) = ((counts_later v.id vs ≡ false) × ((v.id ≡ id) × (Server v.server ≡ server))) ⊎ IsPutAt id server vs

-- The server accepts stores of the volume: the script's server does, from the first. No line moves a volume yet, so the lines say nothing
abbrev pub IsAccepted : Script → ℕ → Node → List Line → Type 0
IsAccepted s id server [] = IsPutAt id server s.volumes
IsAccepted s id server (l ∷ older) = IsAccepted s id server older

-- the clock, in ticks
abbrev pub clock_of : List Line → ℕ
clock_of [] = 0
clock_of (lines.Tick n ∷ older) = clock_of older + n
clock_of (l ∷ older) = clock_of older

-- ---- what an act asks, and what the ideal cell makes of a call

-- the user that a node states in its calls: a client the one that the script gives it
abbrev pub user_of : Script → Node → List ℕ
user_of s (Client n) = user_at s n
user_of s node = []

-- ---- what a client has seen

-- of a client and a fid: the highest index that the client's act made so far, and the highest that the client has seen
pub record Reach : Type 0 where
  pub made : ℕ
  pub seen : ℕ

abbrev pub raised : Bool → ℕ → ℕ → ℕ
raised true index base = max index base
raised false index base = base

abbrev pub is_zero_code : Code → Bool
is_zero_code code = is_number code.0 0

-- What an entry's lines, the oldest first, make of it. A version under a key of a call of the client's act is made by that act: `own` tells
-- whether the last change line was under such a key, and so whether the versions that come are the act's. A read raises what was seen to its
-- index, and an answer 0 to all that the act made
abbrev pub highest_over : Node → Fid → List Entry → Bool → Reach → List Line → Reach
highest_over c f past own r [] = r
highest_over c f past own r (lines.Begin m act ∷ ls) = highest_over c f past own (record r { made = if same_node m c then 0 else r.made }) ls
highest_over c f past own r (lines.Change s k count ∷ ls) = highest_over c f past (is_of_act c k past) r ls
highest_over c f past own r (lines.Version v ∷ ls) = highest_over c f past own (record r { made = raised (own && same_fid v.fid f) v.index r.made }) ls
highest_over c f past own r (lines.Read m g index source body ∷ ls) = highest_over c f past own (record r { seen = raised (same_node m c && same_fid g f) index r.seen }) ls
highest_over c f past own r (lines.Answer m code ∷ ls) = highest_over c f past own (record r { seen = raised (same_node m c && is_zero_code code) r.made r.seen }) ls
highest_over c f past own r (l ∷ ls) = highest_over c f past own r ls

abbrev pub highest_reached : Node → Fid → List Entry → Reach
highest_reached c f [] = record { made = 0; seen = 0 }
highest_reached c f (e ∷ past) = highest_over c f past false (highest_reached c f past) e.lines

-- the highest index of f among the client's reads and among what its acts made that were answered 0; here `own` are the lines of the entry
-- under way, the newest first
abbrev pub highest_seen : Node → Fid → List Entry → List Line → ℕ
highest_seen c f past own = (highest_over c f past false (highest_reached c f past) (onto [] own)).seen
