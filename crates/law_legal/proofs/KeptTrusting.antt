-- What holds of what a client keeps: whole, resting on a promise, no older than what the client saw; and while it may be shown the newest,
-- unless the promise was withdrawn, or the client's own change, for the reply to which it waits, has overtaken it.
use Rattle.spec_history.specs.declared.lines.Line.{Line}
use Rattle.spec_history.specs.declared.scripts.Script.{Script}
use Rattle.spec_ideal.specs.Operations.{volume_changed}
use Rattle.law_legal.proofs.ActLines.{last_key}
use Rattle.law_legal.proofs.VolumeEdits.{index_in}
use Rattle.law_legal.proofs.BaseWords.{InScope, IsWhole, Reached, Seen}
use Rattle.law_legal.proofs.VersionsLast.{HasRunAt}
use Rattle.law_legal.proofs.ServerChangesLater.{HasRunSince}
use Rattle.law_legal.specs.Breaks.{HasStopped}
use Rattle.law_legal.specs.ClientParts.{lines_since_fetch}
use Rattle.law_legal.specs.Grants.{GrantOf, IsDropped, IsWithdrawn, fetch_reply, since, until}
use Rattle.law_legal.specs.Ideal.{IsLast, change_key, IsPutAt, last_version, highest_reached}
use Rattle.law_legal.specs.Legal.{HasChange, IsLater}
use Rattle.law_legal.specs.Past.{Called, called_key, given_message, is_called, lines_of, lines_on, onto, sent_of}
use Rattle.afs_num.specs.declared.calls.FsCall.{FsCall}
use Rattle.afs_num.specs.declared.messages.Message.{Message}
use Rattle.afs_num.specs.declared.types.Fid.{Fid}
use Rattle.afs_num.specs.declared.types.Key.{Key}
use Rattle.afs_num.specs.declared.types.Node.{Node}
use Rattle.afs_num.specs.declared.types.Node.TheVariants.{Client}
use Rattle.spec_rows.specs.ClientRow.{call_of, find_cached}
use Rattle.spec_rows.specs.Going.{ClientState, Going}
use Rattle.spec_rows.specs.Runs.{Entry}
use Rattle.spec_rows.specs.States.{CacheEntry}
use Rattle.std.proofs.Common.{◌≡◌, ◌≤◌, ◌<◌, ℕ, ◌⊎◌, true, List, [], ◌∷◌, ◌++◌, Option, Some, None}
use Rattle.std.specs.Prelude.{⊤}

-- ---- where a key's change was told, and where its call was given

abbrev pub IsKeyed : Key → Option Message → Type 0
IsKeyed k None = ⊥
IsKeyed k (Some m) = is_called k m.head m.carried ≡ true

-- of each entry that tells this key's change
abbrev pub AtSaved : Key → List Entry → (List Entry → Entry → List Entry → Type 0) → Type 0
AtSaved k past P = (newer : List Entry) (at : Entry) (older : List Entry) → past ≡ newer ++ (at ∷ older) → change_key at.lines ≡ Some k → P newer at older

-- of each that was given this key's call
abbrev pub AtGiven : Key → List Entry → (List Entry → Entry → List Entry → Type 0) → Type 0
AtGiven k past P = (newer : List Entry) (at : Entry) (older : List Entry) → past ≡ newer ++ (at ∷ older) → IsKeyed k (given_message at.lines (sent_of older)) → P newer at older

-- ---- an entry of a cache

-- it rests on the promise that its reply brought, and is whole
pub record Rests (s : Script) (j : ℕ) (f : Fid) (e : CacheEntry) (past : List Entry) : Type 0 where
  pub reply : Message
  pub by : fetch_reply (Client j) f past ≡ Some reply
  pub grant : GrantOf (Client j) f e.expiry reply past
  pub server : grant.server ≡ e.server
  pub home : IsPutAt f.volume e.server s.volumes
  pub whole : IsWhole f e.index e.status e.body past
  pub least : index_in (last_version f (until (Client j) f e.expiry reply past grant)) ≤ e.index
  pub calm : IsDropped e.server (Client j) f (since (Client j) f e.expiry reply past grant) → IsDropped e.server (Client j) f (lines_since_fetch (Client j) f past)
  pub ran : HasRunAt e.server j grant.ran.at grant.ran.older

abbrev pub key_of_rest : (s : Script) (j : ℕ) (f : Fid) (e : CacheEntry) (past : List Entry) → Rests s j f e past → Key
key_of_rest s j f e past r = called_key r.ran.message.head

abbrev pub since_rest : (s : Script) (j : ℕ) (f : Fid) (e : CacheEntry) (past : List Entry) → Rests s j f e past → List Line
since_rest s j f e past r = since (Client j) f e.expiry r.reply past r.grant

-- the server ran a call of this key, and didn't stop since
pub record HasRunKey (server : Node) (k : Key) (past : List Entry) : Type 0 where
  pub run : HasRunSince server k past
  pub key : called_key run.message.head ≡ k

-- a call of this key changes nothing of the object any more
abbrev pub IsDone : Node → Fid → Key → FsCall → List Entry → Type 0
IsDone server f k call past = (volume_changed call ≡ Some f.volume → ⊥) ⊎ (HasChange k (lines_of past) ⊎ HasRunKey server k past)

-- the act's call, for which the client waits, may have changed the object
abbrev pub MayHave : ℕ → ClientState → Fid → List Entry → Type 0
MayHave j x f past = (act : Going) → x.running ≡ Some act → InScope (call_of x act) f → HasChange (last_key j x) (lines_of past) → ⊥

-- no other change than the client's own was told of it
pub record Holding (s : Script) (j : ℕ) (x : ClientState) (f : Fid) (index : ℕ) (server : Node) (k : Key) (past : List Entry) : Type 0 where
  pub settled : (l : Key) (user : List ℕ) (call : FsCall) (act : Going) → l.node ≡ Client j → Called s l user call act past → IsLater l k → ((b : Going) → x.running ≡ Some b → l ≡ last_key j x → ⊥) → IsDone server f l call past
  pub changed : (act : Going) → x.running ≡ Some act → AtSaved (last_key j x) past (λ newer at older. last_version f (lines_of past) ≡ last_version f (lines_of (at ∷ older)))
  pub plain : MayHave j x f past → IsLast f index (lines_of past)

abbrev pub IsFresh : Script → ℕ → ClientState → Fid → ℕ → Node → Key → List Line → List Entry → Type 0
IsFresh s j x f index server k newer past = IsWithdrawn server (Client j) f newer ⊎ Holding s j x f index server k past

pub record Stands (s : Script) (j : ℕ) (x : ClientState) (clock : ℕ) (f : Fid) (e : CacheEntry) (past : List Entry) : Type 0 where
  pub rests : Rests s j f e past
  pub capped : (act : Going) → x.running ≡ Some act → AtSaved (last_key j x) past (λ newer at older. e.index ≤ index_in (last_version f (lines_of (at ∷ older))))
  pub ordered : (act : Going) → x.running ≡ Some act → AtGiven (last_key j x) past (λ newer at older. HasStopped e.server (lines_on (onto [] at.lines) newer) → IsWithdrawn e.server (Client j) f (since_rest s j f e past rests))
  pub made : (act : Going) → x.running ≡ Some act → MayHave j x f past → (highest_reached (Client j) f past).made ≡ 0
  pub low : clock < e.expiry → Seen j f e.index past
  pub fresh : clock < e.expiry → IsFresh s j x f e.index e.server (key_of_rest s j f e past rests) (since_rest s j f e past rests) past

-- ---- a client that waits

pub record Waits (j : ℕ) (x : ClientState) (act : Going) (past : List Entry) : Type 0 where
  pub given : AtGiven (last_key j x) past (λ newer at older. (f : Fid) → Seen j f (index_in (last_version f (lines_of older))) past)
  pub saved : AtSaved (last_key j x) past (λ newer at older. (f : Fid) → Reached (Client j) f (index_in (last_version f (lines_of (at ∷ older)))) past)
  pub made : volume_changed (call_of x act) ≡ None → (f : Fid) → (highest_reached (Client j) f past).made ≡ 0

pub record Trusts (s : Script) (j : ℕ) (x : ClientState) (clock : ℕ) (past : List Entry) : Type 0 where
  pub entries : (f : Fid) (e : CacheEntry) → find_cached f x.cache ≡ Some e → Stands s j x clock f e past
  pub waits : (act : Going) → x.running ≡ Some act → Waits j x act past
  pub reached : (f : Fid) → Reached (Client j) f (index_in (last_version f (lines_of past))) past
