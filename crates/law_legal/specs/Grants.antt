use Rattle.afs_num.specs.declared.histories.ReadBody.{ReadBody}
use Rattle.afs_num.specs.declared.histories.ReadBody.TheVariants as shows
use Rattle.std.specs.Prelude.{◌≡◌, ℕ, List, [], ◌∷◌, ◌++◌, Bool, true, false, ◌&&◌, Option, Some, None, if◌then◌else◌, pos, ◌⊎◌}
use Rattle.afs_num.specs.Fids.{same_fid}
use Rattle.afs_num.specs.Nodes.{same_node}
use Rattle.afs_num.specs.declared.types.Fid.{Fid}
use Rattle.afs_num.specs.declared.types.Key.{Key}
use Rattle.afs_num.specs.declared.types.Node.{Node}
use Rattle.afs_num.specs.declared.messages.Message.{Message}
use Rattle.spec_history.specs.declared.lines.Line.{Line}
use Rattle.law_legal.specs.Past.{code_told, lines_of, onto, lines_on, sent_of, given_message, IsReply, Ran}
use Rattle.spec_rows.specs.Runs.{Entry}
use Rattle.afs_num.specs.declared.histories.Actor.TheVariants as actors
use Rattle.afs_num.specs.declared.histories.ReadSource.{ReadSource}
use Rattle.afs_num.specs.declared.histories.ReadSource.TheVariants.{Cached, Fetched}
use Rattle.spec_history.specs.declared.lines.Line.TheVariants as lines

-- The grant on which a read rests, and what became of it.

-- ---- the reply on which a read rests

-- a read of rights comes without a promise
abbrev pub is_promised : ReadBody → Bool
is_promised (shows.AccessList text) = false
is_promised body = true

-- of what is promised
abbrev pub has_fetched : Node → Fid → List Line → Bool
has_fetched c f [] = false
has_fetched c f (lines.Read m g index Fetched body ∷ ls) = if (is_promised body && (same_node m c && same_fid g f)) then true else has_fetched c f ls
has_fetched c f (l ∷ ls) = has_fetched c f ls

-- the reply that was given to the client's last entry with a fetched read of f
abbrev pub fetch_reply : Node → Fid → List Entry → Option Message
fetch_reply c f [] = None
fetch_reply c f (e ∷ past) = if has_fetched c f e.lines then given_message e.lines (sent_of past) else fetch_reply c f past

-- that of a read after the entry's own lines
abbrev pub read_reply : Node → Fid → ReadSource → List Entry → List Line → Option Message
read_reply c f Fetched past own = given_message own (sent_of past)
read_reply c f Cached past own = if has_fetched c f own then given_message own (sent_of past) else fetch_reply c f past

-- ---- the grant: its server's line on f, to the client, in the entry that ran the call of that reply in the boot that
-- it carries. A refusal grants nothing

pub record GrantOf (c : Node) (f : Fid) (expiry : ℕ) (reply : Message) (past : List Entry) : Type 0 where
  pub is_reply : IsReply reply
  pub told : code_told reply.carried ≡ Some (pos 0)
  pub to : reply.head.to ≡ c
  pub ran : Ran reply.head past
  pub server : Node
  pub node : ran.at.actor ≡ actors.Node server
  pub index : ℕ
  pub before : List Line
  pub after : List Line
  pub line : ran.at.lines ≡ before ++ lines.Grant server c f index expiry ∷ after

-- the lines since the grant, the newest first
abbrev pub since : (c : Node) (f : Fid) (expiry : ℕ) (reply : Message) (past : List Entry) → GrantOf c f expiry reply past → List Line
since c f expiry reply past grant = lines_on (onto [] grant.after) grant.ran.newer

-- and those before it
abbrev pub until : (c : Node) (f : Fid) (expiry : ℕ) (reply : Message) (past : List Entry) → GrantOf c f expiry reply past → List Line
until c f expiry reply past grant = onto (lines_of grant.ran.older) grant.before

-- ---- what became of it, by the lines since then: `newer` are these, the newest first

-- the change under which the line above these lines stands
abbrev pub change_below : List Line → Option (Node × Key)
change_below [] = None
change_below (lines.Change s k count ∷ older) = Some (s, k)
change_below (lines.Version v ∷ older) = change_below older
change_below (l ∷ older) = None

abbrev pub IsByOther : Node → Node → Option (Node × Key) → Type 0
IsByOther s c None = ⊥
IsByOther s c (Some change) = (change.0 ≡ s) × (change.1.node ≡ c → ⊥)

-- the server withdrew the client's grant: it changed f under the key of another node, or it stopped. No line fences or
-- moves a volume yet
abbrev pub IsWithdrawn : Node → Node → Fid → List Line → Type 0
IsWithdrawn s c f [] = ⊥
IsWithdrawn s c f (lines.Version v ∷ newer) = ((v.fid ≡ f) × IsByOther s c (change_below newer)) ⊎ IsWithdrawn s c f newer
IsWithdrawn s c f (lines.Crash n ∷ newer) = (n ≡ s) ⊎ IsWithdrawn s c f newer
IsWithdrawn s c f (lines.Fault n ∷ newer) = (n ≡ s) ⊎ IsWithdrawn s c f newer
IsWithdrawn s c f (l ∷ newer) = IsWithdrawn s c f newer

-- by the lines of an entry, the newest first, the server changed f under the key of another node
abbrev pub IsChangedByOther : Node → Node → Fid → List Line → Type 0
IsChangedByOther s c f [] = ⊥
IsChangedByOther s c f (lines.Version v ∷ own) = ((v.fid ≡ f) × IsByOther s c (change_below own)) ⊎ IsChangedByOther s c f own
IsChangedByOther s c f (l ∷ own) = IsChangedByOther s c f own

-- the client gave f up, or all that the server granted; and a crash takes all that it kept
abbrev pub IsDropped : Node → Node → Fid → List Line → Type 0
IsDropped s c f [] = ⊥
IsDropped s c f (lines.Drop m g ∷ newer) = ((m ≡ c) × (g ≡ f)) ⊎ IsDropped s c f newer
IsDropped s c f (lines.DropAll m q ∷ newer) = ((m ≡ c) × (q ≡ s)) ⊎ IsDropped s c f newer
IsDropped s c f (lines.Crash n ∷ newer) = (n ≡ c) ⊎ IsDropped s c f newer
IsDropped s c f (l ∷ newer) = IsDropped s c f newer

-- a break of the grant is outstanding
abbrev pub IsOutstanding : Node → Node → Fid → List Line → Type 0
IsOutstanding s c f newer = IsWithdrawn s c f newer × (IsDropped s c f newer → ⊥)
