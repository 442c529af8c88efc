-- What a change withdraws and grants, and what it comes to.
use Rattle.spec_model.specs.Calls.{key_of}
use Rattle.std.specs.Prelude.{◌≡◌, ℕ, ◌+◌, List, [], ◌∷◌, ◌++◌, length, map, true, Bool, if◌then◌else◌, ◌<◌, ◌^◌}
use Rattle.std.specs.List.{list_any, AllByRecursion}
use Rattle.afs_num.specs.Fids.{same_fid}
use Rattle.afs_num.specs.declared.calls.FsReply.{FsReply}
use Rattle.afs_num.specs.declared.calls.FsReply.TheVariants as replies
use Rattle.afs_num.specs.declared.histories.Version.{Version}
use Rattle.afs_num.specs.declared.records.RecordBody.TheVariants as bodies
use Rattle.afs_num.specs.declared.records.StoreRecord.{StoreRecord}
use Rattle.afs_num.specs.declared.types.Fid.{Fid}
use Rattle.afs_num.specs.declared.types.Head.{Head}
use Rattle.afs_num.specs.declared.types.Node.{Node}
use Rattle.afs_num.specs.declared.volumes.Change.{Change}
use Rattle.spec_history.specs.declared.lines.Line.{Line}
use Rattle.spec_history.specs.declared.lines.Line.TheVariants as lines
use Rattle.spec_breaks.specs.Promises.{hits, lasting, left, owes_from, withdraws, Lists}
use Rattle.spec_breaks.specs.declared.types.OwedBreak.{OwedBreak}
use Rattle.spec_breaks.specs.declared.types.Promise.{Promise}
use Rattle.spec_records.specs.Changes.{keeping}
use Rattle.spec_records.specs.Records.{FitsRecord}
use Rattle.spec_rows.specs.Callbacks.{owe_line}
use Rattle.spec_rows.specs.ServerRow.{versioned}
use Rattle.afs_callees.specs.Telling.{grant_line}
use Rattle.afs_callees.specs.declared.telling.Grant.{Grant}
use Rattle.afs_server_parts.specs.declared.turns.Stand.{Stand}
use Rattle.afs_callbacks.specs.Answering.{reply_told, IsRepliedAfter}
use Rattle.afs_callbacks.specs.declared.saving.Planned.{Planned}
use Rattle.afs_num.specs.declared.calls.AfsFetchStatus.{AfsFetchStatus}
use Rattle.afs_num.specs.declared.vnodes.Vnode as image
use Rattle.afs_num.specs.declared.volumes.Change as made
use Rattle.spec_ideal.specs.VnodeImage.{kind_fits, FitsImage}
use Rattle.afs_callbacks.specs.States.{CallbackState}

-- ---- what a change is, so that it has a record

-- the reply is one to a change: it has no list
abbrev pub IsChanged : FsReply → Type 0
IsChanged (replies.StoreData status sync) = Unit {0}
IsChanged (replies.StoreAcl status sync) = Unit {0}
IsChanged (replies.StoreStatus status sync) = Unit {0}
IsChanged (replies.RemoveFile directory sync) = Unit {0}
IsChanged (replies.CreateFile fid status directory callback sync) = Unit {0}
IsChanged (replies.Rename old new sync) = Unit {0}
IsChanged (replies.Symlink fid status directory sync) = Unit {0}
IsChanged (replies.Link status directory sync) = Unit {0}
IsChanged (replies.MakeDir fid status directory callback sync) = Unit {0}
IsChanged (replies.RemoveDir directory sync) = Unit {0}
IsChanged reply = ⊥

abbrev pub HasKind : image.Vnode → Type 0
HasKind i = kind_fits i.vnode i.kind ≡ true

-- the change has a record
pub record CanBeWritten (x : made.Change) : Type 0 where
  pub few_versions : length x.versions < 2 ^ 32
  pub few : length x.vnodes < 2 ^ 32
  pub few_removed : length x.removed < 2 ^ 32
  pub images : AllByRecursion FitsImage x.vnodes
  pub kinds : AllByRecursion HasKind x.vnodes
  pub reply : IsChanged x.reply

-- ---- promises

-- under the index of the status that is told
abbrev pub grant_of : Fid → AfsFetchStatus → Grant
grant_of f status = record { fid = f; index = status.sync_counter }

-- the new vnode that the reply to a change tells is promised
abbrev pub new_grants : FsReply → List Grant
new_grants (replies.CreateFile fid status directory callback sync) = grant_of fid status ∷ []
new_grants (replies.MakeDir fid status directory callback sync) = grant_of fid status ∷ []
new_grants reply = []

abbrev pub fids_granted : List Grant → List Fid
fids_granted gs = map (λ (g : Grant). g.fid) gs

abbrev pub fids_changed : List Version → List Fid
fids_changed vs = map (λ (v : Version). v.fid) vs

-- a change of these fids by this node withdraws the promises of others, fid by fid
abbrev pub withdraws_each : Node → List Fid → Lists → Lists
withdraws_each n [] l = l
withdraws_each n (f ∷ fs) l = withdraws_each n fs (withdraws n f l)

-- the promises that it withdraws
abbrev pub hits_each : Node → List Fid → List Promise → List Promise
hits_each n [] ps = []
hits_each n (f ∷ fs) ps = hits n f ps ++ hits_each n fs (left n f ps)

-- the same, where all are looked up in the promises before: a fid that was withdrawn before hits nothing
abbrev pub has_fid : List Fid → Fid → Bool
has_fid fids f = list_any (λ (g : Fid). same_fid g f) fids

abbrev pub hits_new : Node → List Fid → Fid → List Promise → List Promise
hits_new n before f ps = if has_fid before f then [] else hits n f ps

abbrev pub hits_fresh : Node → List Fid → List Fid → List Promise → List Promise
hits_fresh n before [] ps = []
hits_fresh n before (f ∷ fs) ps = hits_new n before f ps ++ hits_fresh n (before ++ f ∷ []) fs ps

-- the breaks that are then owed
abbrev pub breaks_new : Node → List Fid → ℕ → Lists → List OwedBreak
breaks_new n fids now l = owes_from l.last_owed (hits_each n fids (lasting now l.promises))

-- ---- what a change comes to, before the disk is touched

-- the lines of a step that makes these versions, grants these promises and owes these breaks
abbrev pub saved_lines : Node → Head → ℕ → List Version → List Grant → List OwedBreak → List Line
saved_lines server head expiry versions grants breaks =
    (lines.Change server (key_of head) (length versions) ∷ versioned versions []) ++ (map (grant_line server head.from expiry) grants ++ map (owe_line server) breaks)

abbrev pub change_lines : Node → Head → ℕ → Change → List OwedBreak → List Line
change_lines server head expiry x breaks = saved_lines server head expiry x.versions (new_grants x.reply) breaks

abbrev pub change_kept : Head → ℕ → Change → List ℕ → StoreRecord
change_kept head id x reply = record { head = keeping (key_of head) reply; body = bodies.Change id x.counter x.unique x.vnodes x.removed }

-- the breaks that a change by the call of this header makes owed
abbrev pub breaks_by : Head → ℕ → Change → CallbackState → List OwedBreak
breaks_by head now x k = breaks_new head.from (fids_changed x.versions) now k.lists

-- by a server that stands so, with this in memory
pub record IsPlanned (s : Stand) (now : ℕ) (head : Head) (id : ℕ) (x : Change) (k : CallbackState) (p : Planned) : Type 0 where
  pub replied : IsRepliedAfter s k now (reply_told s.boot head (now + 7200) x.reply) (breaks_by head now x k) (change_lines s.node head (now + 7200) x (breaks_by head now x k)) p.ended p.kept
  pub rec : p.rec ≡ change_kept head id x p.kept
  pub fits : FitsRecord p.rec
  pub changed : p.changed ≡ fids_changed x.versions
  pub withdrawn : p.withdrawn.items ≡ hits_each head.from p.changed (lasting now k.lists.promises)
  pub granted : p.granted ≡ fids_granted (new_grants x.reply)
