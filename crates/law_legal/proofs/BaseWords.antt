-- What the facts are said with.
pub use Rattle.law_legal.specs.Legal.{IsOpen}
use Rattle.spec_ideal.specs.Directories.{IsDirectory, FitNames}
use Rattle.spec_ideal.specs.Operations.{is_number, volume_changed}
use Rattle.spec_ideal.specs.Tables.{AscendsFrom, Table, get}
use Rattle.spec_ideal.specs.Volumes.{Vnode, Volume}
use Rattle.law_legal.proofs.BaseLaws.{Above, OfReply, same_fid-true}
use Rattle.spec_rows.specs.ClientRow.{find_cached}
use Rattle.spec_rows.specs.Going.{asked, Going, locates}
use Rattle.law_legal.specs.Ideal.{HasBeen, HasVersion, user_of, highest_reached, call_under}
use Rattle.law_legal.specs.Legal.{IsThere, as_asked}
use Rattle.spec_history.specs.declared.lines.Line.{Line}
use Rattle.law_legal.specs.Past.{is_of_act, lines_of, called_key, Called}
use Rattle.spec_rows.specs.Runs.{Entry, Fall}
use Rattle.spec_rows.specs.Scopes.{may_change, is_volume}
use Rattle.spec_rows.specs.States.{CacheEntry, Seat, volume_in, Gift}
use Rattle.std.specs.Prelude.{map, Bool, true, false, ◌||◌, ⊤}
use Rattle.std.proofs.Common.{◌+◌, ◌≡◌, ℕ, ◌<◌, ◌≤◌, ◌^◌, ◌⊎◌, List, [], ◌∷◌, Option, Some, None, ℤ, pos, ap, sym, ◌∙◌, eq-eqb}
use Rattle.afs_num.specs.declared.types.Fid.{Fid}
use Rattle.afs_num.specs.declared.types.Head.{Head}
use Rattle.afs_num.specs.declared.types.Key.{Key}
use Rattle.afs_num.specs.declared.types.Node.{Node}
use Rattle.afs_num.specs.declared.types.Node.TheVariants.{Client}
use Rattle.afs_num.specs.declared.calls.FsCall.{FsCall}
use Rattle.afs_num.specs.declared.messages.Carried.{Carried}
use Rattle.afs_num.specs.declared.messages.Message.{Message}
use Rattle.spec_history.specs.declared.scripts.Script.{Script}
use Rattle.afs_num.specs.declared.histories.Body.{Body}
use Rattle.afs_num.specs.declared.histories.ReadStatus.{ReadStatus}
use Rattle.law_legal.proofs.ServerDiskKeeps.{unflagged}
use Rattle.spec_records.specs.Durable.{Stored}
use Rattle.afs_num.specs.declared.histories.ReadBody.TheVariants as seen
use Rattle.afs_num.specs.declared.calls.FsCall.TheVariants as calls
use Rattle.afs_num.specs.declared.histories.Body.TheVariants as bodies

-- ---- what the facts on a client read

-- a fid has one entry
abbrev pub AreApart : List CacheEntry → Type 0
AreApart [] = ⊤
AreApart (e ∷ cache) = (find_cached e.fid cache ≡ None) × AreApart cache

abbrev pub fids_of_gifts : List Gift → List Fid
fids_of_gifts gs = map (λ g. g.fid) gs

-- ---- what was read or stored is known up to this index at most

pub record Reached (c : Node) (f : Fid) (index : ℕ) (past : List Entry) : Type 0 where
  pub made : (highest_reached c f past).made ≤ index
  pub seen : (highest_reached c f past).seen ≤ index

-- what the client has seen
abbrev pub Seen : ℕ → Fid → ℕ → List Entry → Type 0
Seen j f index past = (highest_reached (Client j) f past).seen ≤ index

-- ---- the boot of the server: none while it is down

abbrev pub up_boot : Option Fall → ℕ → Option ℕ
up_boot None boot = Some boot
up_boot (Some fall) boot = None

-- ---- the fids that a call may change

abbrev pub InScope : FsCall → Fid → Type 0
InScope call f = may_change call f ≡ true

-- ---- what was fetched is whole and was not given up, and is the newest unless its grant is withdrawn

-- what is held of a body is this one, of a vnode that is there
abbrev pub IsBody : Option Body → Body → Type 0
IsBody None body = ⊤
IsBody (Some b) body = (b ≡ body) × IsThere b

-- the status is one that the fid had under this index, and the body, if one is held, that of its version
pub record IsWhole (f : Fid) (index : ℕ) (status : ReadStatus) (body : Option Body) (past : List Entry) : Type 0 where
  pub is : Body
  pub told : HasVersion f index is (lines_of past)
  pub holds : IsBody body is
  pub been : HasBeen f index (seen.Status status) past

-- ---- the kept reply answers the running act

-- the version has the body of the one before
pub record IsKeptBody (f : Fid) (index : ℕ) (ls : List Line) : Type 0 where
  pub before : ℕ
  pub next : index ≡ before + 1
  pub body : Body
  pub old : HasVersion f before body ls
  pub new : HasVersion f index body ls

-- what a store left was told
abbrev pub Leaves : FsCall → Fid → ℕ → List Line → Type 0
Leaves (calls.StoreData g set position wanted file_length contents) f index ls = HasVersion f index (bodies.File contents) ls
Leaves call f index ls = IsKeptBody f index ls

-- a code that is none, or tells to ask again: no server refuses with it, for no volume is out of service or busy
abbrev pub is_passing : ℤ → Bool
is_passing code = is_number code 0 || (is_number code 106 || is_number code 110)

pub no_zero : (code : ℤ) → is_passing code ≡ false → code ≡ pos 0 → ⊥
no_zero code e z = let no : false ≡ true = sym e ∙ ap is_passing z in absurd cc

-- ---- a reply to client j, under way or kept, of whatever boot. Its entry ran the call. It is to a call not above the client's last one; where it
-- is to the last one, the server made it in no earlier boot than that in which the call was made, and it answers the act
-- that runs, if one does. In its own boot its call is not new any more

-- a kept reply is that of its seat's call
abbrev pub IsReply : Carried → Type 0
IsReply c = OfReply ⊥ c → ⊥

-- ---- messages in flight

pub record Origin (s : Script) (past : List Entry) (head : Head) (user : List ℕ) (call : FsCall) : Type 0 where
  pub act : Going
  pub called : Called s (called_key head) user call act past
  pub own_user : user ≡ user_of s head.from
  pub own_call : as_asked call ≡ asked act

-- the call is the one under its key
abbrev pub IsOne : List Message → Head → List ℕ → FsCall → Type 0
IsOne sent head user call = call_under (called_key head) sent ≡ Some (user, call)

-- the call under this key may change things
pub record IsChangingUnder (k : Key) (sent : List Message) : Type 0 where
  pub user : List ℕ
  pub call : FsCall
  pub one : call_under k sent ≡ Some (user, call)
  pub changes : volume_changed call ≡ None → ⊥

-- of the calls of the act that the client began last one at most may change things
abbrev pub IsLone : List Message → List Entry → Type 0
IsLone sent past = (j : ℕ) (k l : Key) → is_of_act (Client j) k past ≡ true → is_of_act (Client j) l past ≡ true → IsChangingUnder k sent → IsChangingUnder l sent → k ≡ l

-- and so it was in every moment before
abbrev pub AreLone : List Message → List Entry → Type 0
AreLone sent [] = ⊤
AreLone sent (e ∷ past) = IsLone sent (e ∷ past) × AreLone sent past

-- ---- all of them

-- a vnode's names are those of a directory, and all its numbers have a spelling
pub record IsReadable (n : ℕ) (x : Vnode) : Type 0 where
  pub number : n < 2 ^ 32
  pub unique : x.unique < 2 ^ 32
  pub names : IsDirectory x.names
  pub fit : FitNames x.names

-- the vnodes stand by their numbers, with unique numbers that were given out, and can be read again; it doesn't go at a start
pub record IsFine (v : Volume) : Type 0 where
  pub ascends : AscendsFrom 1 v.vnodes
  pub below : (n : ℕ) (x : Vnode) → get n v.vnodes ≡ Some x → x.unique < v.next
  pub readable : (n : ℕ) (x : Vnode) → get n v.vnodes ≡ Some x → IsReadable n x
  pub stays : unflagged v ≡ true

abbrev pub AreFine : Table Stored → Type 0
AreFine volumes = (id : ℕ) (v : Volume) → volume_in id volumes ≡ Some v → IsFine v

-- a key may run in a boot: in one to come, or in this one, while the server is up, above its caller's seat
abbrev pub MayRun : Option Fall → ℕ → Option Seat → Key → ℕ → Type 0
MayRun None boot o k b = (boot < b) ⊎ ((b ≡ boot) × Above o k.epoch k.number)
MayRun (Some fall) boot o k b = boot < b

-- a fid in the scope of a call is of its volume
pub scope_is : (call : FsCall) (g : Fid) → InScope call g → is_volume g.volume (volume_changed call) ≡ true
scope_is (calls.StoreData f st p w l b) g z = eq-eqb f.volume g.volume (ap (λ (x : Fid). x.volume) (same_fid-true f g z))
scope_is (calls.StoreAcl f acl) g z = eq-eqb f.volume g.volume (ap (λ (x : Fid). x.volume) (same_fid-true f g z))
scope_is (calls.StoreStatus f status) g z = eq-eqb f.volume g.volume (ap (λ (x : Fid). x.volume) (same_fid-true f g z))
scope_is (calls.CreateFile f name status) g z = eq-eqb f.volume g.volume (ap (λ (x : Fid). x.volume) (same_fid-true f g z))
scope_is (calls.Symlink f name target status) g z = eq-eqb f.volume g.volume (ap (λ (x : Fid). x.volume) (same_fid-true f g z))
scope_is (calls.MakeDir f name status) g z = eq-eqb f.volume g.volume (ap (λ (x : Fid). x.volume) (same_fid-true f g z))
scope_is call g z = z
