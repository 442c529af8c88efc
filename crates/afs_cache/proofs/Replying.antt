-- What a reply does, by what its call asked for.
use Rattle.std.proofs.Common.{◌≡◌, ℕ, Bool, true, false, cond, not, List, [], ◌∷◌, ◌++◌, map, filter, Option, Some, None, Result, Ok, Err, refl, ap, sym, subst, ◌∙◌, append_assoc}
use Rattle.std.proofs.Common.{◌&&◌, ◌+◌}
use Rattle.std.specs.Prelude.{nat_lt}
use Rattle.std.specs.List.{list_any}
use Rattle.spec_ideal.specs.Operations.{volume_changed}
use Rattle.spec_model.specs.Messages.{messages_spelled, parcels_read}
use Rattle.afs_num.specs.declared.types.Code.{Code}
use Rattle.afs_num.specs.declared.types.Fid.{Fid}
use Rattle.afs_num.specs.declared.types.Head.{Head}
use Rattle.afs_num.specs.declared.types.Node.{Node}
use Rattle.afs_num.specs.declared.messages.Carried.{Carried}
use Rattle.afs_num.specs.declared.messages.Carried.TheVariants as carried
use Rattle.afs_num.specs.declared.messages.Received.{Received}
use Rattle.afs_num.specs.declared.messages.Reply.{Reply}
use Rattle.afs_num.specs.declared.messages.Reply.TheVariants as tell
use Rattle.afs_num.specs.declared.calls.FsReply.{FsReply}
use Rattle.afs_num.specs.declared.calls.FsReply.TheVariants as replies
use Rattle.afs_num.specs.declared.histories.Body.{Body}
use Rattle.afs_num.specs.declared.histories.Body.TheVariants as bodies
use Rattle.afs_num.specs.declared.histories.ReadStatus.{ReadStatus}
use Rattle.afs_num.specs.declared.calls.AfsCallBack.{AfsCallBack}
use Rattle.afs_num.specs.declared.calls.AfsFetchStatus.{AfsFetchStatus}
use Rattle.afs_num.specs.declared.calls.AfsVolSync.{AfsVolSync}
use Rattle.afs_num.specs.declared.calls.FsCall.{FsCall}
use Rattle.afs_num.specs.declared.calls.FsCall.TheVariants as calls
use Rattle.afs_num.specs.declared.histories.ReadBody.{ReadBody}
use Rattle.afs_num.specs.declared.histories.ReadBody.TheVariants as seen
use Rattle.afs_num.specs.declared.histories.ReadSource.TheVariants.{Fetched}
use Rattle.spec_history.specs.declared.lines.Line.{Line}
use Rattle.spec_history.specs.declared.lines.Line.TheVariants as lines
use Rattle.spec_history.specs.declared.lines.Outs.{Outs}
use Rattle.spec_model.specs.Steps.{NodeState}
use Rattle.spec_rows.specs.States.{CacheEntry, Gift}
use Rattle.spec_rows.specs.Going as going
use Rattle.spec_rows.specs.Going.{ClientState, Going, Need, next, with_read}
use Rattle.spec_rows.specs.ClientRow.{answers_step, awaits, behind_batch, body_told, knows_boot, call_by, call_of, calls_again, calls_step, counts, dead_code, dropped, ends_step, entries_told, cache_entry_told, with_given, gives_by, gives_up, goes_on, guest_row, ignores, is_awaited, is_busy_code, is_older, is_spent, is_trusted, left_in, Look, look_at, looked, most_busy, most_reads, put_entries, put_entry, read_lines, refreshed, refuses, refuses_for_good, resends_step, status_look, status_told, not_walked, takes, takes_bulk, takes_bytes, takes_data, takes_entries, takes_entry, takes_given, takes_in, takes_list, takes_plain, takes_rights, takes_set, takes_shown, takes_stored, timeout_line, tries_again, Walked, walked, walks_on, with_statuses, zero_code, goes_by}
use Rattle.spec_rows.specs.Steps.{Step}
use Rattle.spec_rows.specs.Scopes.{may_change}
use Rattle.afs_acts.specs.Needs.{NeedsNoEntry}
use Rattle.afs_acts.proofs.Staying.{rights_rest, status_rests, statuses_rest, walked_stays}
use Rattle.afs_entries.specs.Cached.{drops_of, left}
use Rattle.afs_entries.specs.declared.drops.Drops.{Drops}
use Rattle.afs_asking.specs.Asking.{Asking, asking_of, gifts_of, running_of}
use Rattle.afs_cache.specs.Acting.{but_for, changed_in, sent_to}
use Rattle.std.specs.declared.alloc.AllocError.{AllocError}
use Rattle.spec_copyrows.specs.Sites.{as_it_is, with_client, CopyState}
use Rattle.afs_cache.proofs.Placing.{still_taken, stills_answered, stills_same, told_none}
use Rattle.afs_cache.specs.Managing.{AnswersStill, by_act, by_call, given_up, Makes, rests, spent_by, Takes, TakesStill, telling}
use Rattle.afs_cache.specs.Wanted.{awaited_by, body_wanted, bytes_stored, call_asked, counts_reply, holds_of, is_gift, rights_wanted, shows_rights, shows_status, shows_statuses, status_wanted, statuses_wanted, takes_fields, wanted_of}
use Rattle.afs_cache.proofs.Answering.{boot_told_is, given_is, left_is, plain_as, takes_same}
use Rattle.afs_cache.proofs.Dropping.{goes_front}
use Rattle.afs_cache.proofs.Planning.{looked_front}

-- ---- the act that runs

some_asking : (a b : Asking) → Some a ≡ Some b → a ≡ b
some_asking a b e = cc

some_act : (a b : Going) → Some a ≡ Some b → a ≡ b
some_act a b e = cc

pub running_is : (running : Option Going) (gifts : List Gift) (a : Asking) → Some a ≡ asking_of running gifts → running ≡ Some a.going
running_is None gifts a e = absurd cc
running_is (Some act) gifts a e = sym (ap running_of e)

pub gifts_is : (running : Option Going) (gifts : List Gift) (a : Asking) → Some a ≡ asking_of running gifts → a.gifts ≡ gifts
gifts_is None gifts a e = absurd cc
gifts_is (Some act) gifts a e = ap gifts_of e

pub idle_is : (running : Option Going) (gifts : List Gift) → None ≡ asking_of running gifts → running ≡ None
idle_is None gifts e = refl
idle_is (Some act) gifts e = absurd cc

-- where none runs, the message does nothing
pub idle_act : {E : Type 0} (c : ClientState) (step : ℕ → Going → Step ClientState) (old new : NodeState CopyState) (r : Result Outs E) → None ≡ asking_of c.running c.gifts → Takes (λ place. ignores c place) old new r → Takes (λ place. by_act c place (step place) c.running) old new r
idle_act c step old new r e h = takes_same (λ place. ignores c place) (λ place. by_act c place (step place) c.running) old new r (λ place. ap (by_act c place (step place)) (sym (idle_is c.running c.gifts e))) h

pub idle_behind : {E : Type 0} (step : ℕ → Going → Step ClientState) (told : List Line) (old new : NodeState CopyState) (r : Result Outs E) → None ≡ asking_of old.state.client.running old.state.client.gifts → TakesStill (λ place. telling told (ignores old.state.client place)) old new r
    → Takes (λ place. telling told (by_act old.state.client place (step place) old.state.client.running)) old new r
idle_behind step told old new r e h =
    takes_same (λ place. telling told (ignores old.state.client place)) (λ place. telling told (by_act old.state.client place (step place) old.state.client.running)) old new r
    (λ place. ap (λ (o : Option Going). telling told (by_act old.state.client place (step place) o)) (sym (idle_is old.state.client.running old.state.client.gifts e)))
    (still_taken (λ place. telling told (ignores old.state.client place)) old new r (λ place. refl) h)

pub idle_stays : {E : Type 0} (c : ClientState) (step : ℕ → Going → Step ClientState) (old new : NodeState CopyState) (r : Result Outs E) → None ≡ asking_of c.running c.gifts → TakesStill (λ place. ignores c place) old new r → TakesStill (λ place. by_act c place (step place) c.running) old new r
idle_stays c step old new r e h = stills_same (λ place. ignores c place) (λ place. by_act c place (step place) c.running) old new r (λ place. ap (by_act c place (step place)) (sym (idle_is c.running c.gifts e))) h

-- the act that is told runs
pub none_runs : (running : Option Going) (gifts : List Gift) (act : Going) → None ≡ asking_of running gifts → running ≡ Some act → ⊥
none_runs None gifts act e h = absurd cc
none_runs (Some other) gifts act e h = absurd cc

pub this_runs : (running : Option Going) (gifts : List Gift) (a : Asking) (act : Going) → Some a ≡ asking_of running gifts → running ≡ Some act → a.going ≡ act
this_runs running gifts a act e h = some_act a.going act (sym (running_is running gifts a e) ∙ h)

pub asking_is : (running : Option Going) (gifts : List Gift) (a : Asking) (act : Going) → Some a ≡ asking_of running gifts → running ≡ Some act → a ≡ record { going = act; gifts = gifts }
asking_is None gifts a act e h = absurd cc
asking_is (Some other) gifts a act e h = let same : other ≡ act = some_act other act h in some_asking a _ e ∙ ap (λ (g : Going). record { going = g; gifts = gifts }) same

pub this_calls : (c : ClientState) (a : Asking) (act : Going) → Some a ≡ asking_of c.running c.gifts → c.running ≡ Some act → call_by a.gifts (next a.going) ≡ call_of c act
this_calls c a act e h = ap (λ (x : Asking). call_by x.gifts (next x.going)) (asking_is c.running c.gifts a act e h)

pub with_act : (c : ClientState) (place : ℕ) (a : Asking) (step : Going → Step ClientState) → Some a ≡ asking_of c.running c.gifts → step a.going ≡ by_act c place step c.running
with_act c place a step e = ap (by_act c place step) (sym (running_is c.running c.gifts a e))

pub with_call : (c : ClientState) (place : ℕ) (a : Asking) (step : Going → FsCall → Step ClientState) → Some a ≡ asking_of c.running c.gifts → step a.going (call_by a.gifts (next a.going)) ≡ by_call c place step c.running
with_call c place a step e = ap (λ (gs : List Gift). step a.going (call_by gs (next a.going))) (gifts_is c.running c.gifts a e) ∙ with_act c place a (λ act. step act (call_of c act)) e

-- ---- steps behind no other lines

-- the call is made again, behind these lines
pub again_as : (me : Node) (c : ClientState) (place : ℕ) (a : Asking) (told : List Line) → Some a ≡ asking_of c.running c.gifts
    → calls_step me (record c { gifts = a.gifts }) a.going (λ ls. lines.Given place ∷ (told ++ ls)) ≡ telling told (by_act c place (calls_again me c place) c.running)
again_as me c place a told e =
    ap (λ (gs : List Gift). calls_step me (record c { gifts = gs }) a.going (λ ls. lines.Given place ∷ (told ++ ls))) (gifts_is c.running c.gifts a e) ∙ ap (telling told) (with_act c place a (calls_again me c place) e)

-- the act is answered
pub ends_alone : (me : Node) (c : ClientState) (cache : List CacheEntry) (place : ℕ) (told : List Line) (code : Code) → told ≡ [] → ends_step me c cache (λ ls. lines.Given place ∷ (told ++ ls)) code ≡ ends_step me c cache (with_given place) code
ends_alone me c cache place told code t = ap (λ (xs : List Line). ends_step me c cache (λ ls. lines.Given place ∷ (xs ++ ls)) code) t

-- the next promises are given back
pub gives_alone : (me : Node) (c : ClientState) (place : ℕ) (act : Going) (gifts : List Gift) (told : List Line) → told ≡ [] → gives_by me c (λ ls. lines.Given place ∷ (told ++ ls)) act gifts ≡ gives_by me c (with_given place) act gifts
gives_alone me c place act gifts told t = ap (λ (xs : List Line). gives_by me c (λ ls. lines.Given place ∷ (xs ++ ls)) act gifts) t

pub each_act : (c : ClientState) (place : ℕ) (step other : Going → Step ClientState) (running : Option Going) → ((act : Going) → step act ≡ other act) → by_act c place step running ≡ by_act c place other running
each_act c place step other None h = refl
each_act c place step other (Some act) h = h act

-- ---- by what was asked for

pub wanted_some : {A : Type 0} (f : FsCall → Option A) (c : ClientState) (place : ℕ) (x : A) (step other : Going → FsCall → Step ClientState) (running : Option Going) → Some x ≡ wanted_of f (call_asked c running)
    → ((act : Going) → Some x ≡ f (call_of c act) → step act (call_of c act) ≡ other act (call_of c act)) → by_call c place step running ≡ by_call c place other running
wanted_some f c place x step other None e h = absurd cc
wanted_some f c place x step other (Some act) e h = h act e

pub wanted_none : {A : Type 0} (f : FsCall → Option A) (c : ClientState) (place : ℕ) (step other : Going → FsCall → Step ClientState) (running : Option Going) → None ≡ wanted_of f (call_asked c running)
    → ((act : Going) → None ≡ f (call_of c act) → step act (call_of c act) ≡ other act (call_of c act)) → by_call c place step running ≡ by_call c place other running
wanted_none f c place step other None e h = refl
wanted_none f c place step other (Some act) e h = h act e

pub holds_as : (b : Bool) (f : FsCall → Bool) (c : ClientState) (place : ℕ) (step other : Going → FsCall → Step ClientState) (running : Option Going) → b ≡ holds_of f (call_asked c running)
    → ((act : Going) → b ≡ f (call_of c act) → step act (call_of c act) ≡ other act (call_of c act)) → by_call c place step running ≡ by_call c place other running
holds_as b f c place step other None e h = refl
holds_as b f c place step other (Some act) e h = h act e

-- ---- a body

abbrev data_by : Node → ClientState → ℕ → ℕ → Going → List ℕ → AfsFetchStatus → AfsCallBack → AfsVolSync → FsCall → Option Fid → Step ClientState
data_by me c clock place act contents status callback sync call None = takes_plain me c place call
data_by me c clock place act contents status callback sync call (Some fid) =
    takes_entry me c clock place act (cache_entry_told c.callee fid status callback sync (Some (body_told status.file_type contents))) (seen.Contents (body_told status.file_type contents))

data_table : (me : Node) (c : ClientState) (clock place : ℕ) (act : Going) (contents : List ℕ) (status : AfsFetchStatus) (callback : AfsCallBack) (sync : AfsVolSync) (call : FsCall) → data_by me c clock place act contents status callback sync call (body_wanted call) ≡ takes_data me c clock place act contents status callback sync call
data_table me c clock place act contents status callback sync (calls.FetchData qf qp qn) = refl
data_table me c clock place act contents status callback sync (calls.FetchAcl qf) = refl
data_table me c clock place act contents status callback sync (calls.FetchStatus qf) = refl
data_table me c clock place act contents status callback sync (calls.StoreData qf qs qp qn ql qb) = refl
data_table me c clock place act contents status callback sync (calls.StoreAcl qf qa) = refl
data_table me c clock place act contents status callback sync (calls.StoreStatus qf qs) = refl
data_table me c clock place act contents status callback sync (calls.RemoveFile qd qn) = refl
data_table me c clock place act contents status callback sync (calls.CreateFile qd qn qs) = refl
data_table me c clock place act contents status callback sync (calls.Rename qd qn qe qm) = refl
data_table me c clock place act contents status callback sync (calls.Symlink qd qn qt qs) = refl
data_table me c clock place act contents status callback sync (calls.Link qd qn qf) = refl
data_table me c clock place act contents status callback sync (calls.MakeDir qd qn qs) = refl
data_table me c clock place act contents status callback sync (calls.RemoveDir qd qn) = refl
data_table me c clock place act contents status callback sync (calls.GiveUpCallBacks qfs qcs) = refl
data_table me c clock place act contents status callback sync (calls.GetVolumeStatus qv) = refl
data_table me c clock place act contents status callback sync calls.GetTime = refl
data_table me c clock place act contents status callback sync (calls.BulkStatus qfs) = refl
data_table me c clock place act contents status callback sync (calls.CallBack qfs qcs) = refl
data_table me c clock place act contents status callback sync calls.InitCallBackState = refl
data_table me c clock place act contents status callback sync calls.Probe = refl

pub data_as : (me : Node) (c : ClientState) (clock place : ℕ) (act : Going) (contents : List ℕ) (status : AfsFetchStatus) (callback : AfsCallBack) (sync : AfsVolSync) (call : FsCall) (o : Option Fid) → o ≡ body_wanted call
    → data_by me c clock place act contents status callback sync call o ≡ takes_data me c clock place act contents status callback sync call
data_as me c clock place act contents status callback sync call o e = ap (data_by me c clock place act contents status callback sync call) e ∙ data_table me c clock place act contents status callback sync call

-- ---- promises are given back

abbrev given_by : Node → ClientState → ℕ → Going → FsCall → Bool → Step ClientState
given_by me c place act call true = gives_by me c (with_given place) act (behind_batch c.gifts)
given_by me c place act call false = takes_plain me c place call

given_table : (me : Node) (c : ClientState) (place : ℕ) (act : Going) (call : FsCall) → given_by me c place act call (is_gift call) ≡ takes_given me c place act call
given_table me c place act (calls.FetchData qf qp qn) = refl
given_table me c place act (calls.FetchAcl qf) = refl
given_table me c place act (calls.FetchStatus qf) = refl
given_table me c place act (calls.StoreData qf qs qp qn ql qb) = refl
given_table me c place act (calls.StoreAcl qf qa) = refl
given_table me c place act (calls.StoreStatus qf qs) = refl
given_table me c place act (calls.RemoveFile qd qn) = refl
given_table me c place act (calls.CreateFile qd qn qs) = refl
given_table me c place act (calls.Rename qd qn qe qm) = refl
given_table me c place act (calls.Symlink qd qn qt qs) = refl
given_table me c place act (calls.Link qd qn qf) = refl
given_table me c place act (calls.MakeDir qd qn qs) = refl
given_table me c place act (calls.RemoveDir qd qn) = refl
given_table me c place act (calls.GiveUpCallBacks qfs qcs) = refl
given_table me c place act (calls.GetVolumeStatus qv) = refl
given_table me c place act calls.GetTime = refl
given_table me c place act (calls.BulkStatus qfs) = refl
given_table me c place act (calls.CallBack qfs qcs) = refl
given_table me c place act calls.InitCallBackState = refl
given_table me c place act calls.Probe = refl

pub given_as : (me : Node) (c : ClientState) (place : ℕ) (act : Going) (call : FsCall) (b : Bool) → b ≡ is_gift call → given_by me c place act call b ≡ takes_given me c place act call
given_as me c place act call b e = ap (given_by me c place act call) e ∙ given_table me c place act call

-- ---- a status: with it the act needs nothing from the cache

abbrev fid_in : Option Fid → Fid
fid_in None = record { volume = 0; vnode = 0; unique = 0 }
fid_in (Some f) = f

is_status : (call : FsCall) (fid : Fid) → Some fid ≡ status_wanted call → call ≡ calls.FetchStatus fid
is_status (calls.FetchData qf qp qn) x e = absurd cc
is_status (calls.FetchAcl qf) x e = absurd cc
is_status (calls.FetchStatus qf) x e = sym (ap (λ (o : Option Fid). calls.FetchStatus (fid_in o)) e)
is_status (calls.StoreData qf qs qp qn ql qb) x e = absurd cc
is_status (calls.StoreAcl qf qa) x e = absurd cc
is_status (calls.StoreStatus qf qs) x e = absurd cc
is_status (calls.RemoveFile qd qn) x e = absurd cc
is_status (calls.CreateFile qd qn qs) x e = absurd cc
is_status (calls.Rename qd qn qe qm) x e = absurd cc
is_status (calls.Symlink qd qn qt qs) x e = absurd cc
is_status (calls.Link qd qn qf) x e = absurd cc
is_status (calls.MakeDir qd qn qs) x e = absurd cc
is_status (calls.RemoveDir qd qn) x e = absurd cc
is_status (calls.GiveUpCallBacks qfs qcs) x e = absurd cc
is_status (calls.GetVolumeStatus qv) x e = absurd cc
is_status calls.GetTime x e = absurd cc
is_status (calls.BulkStatus qfs) x e = absurd cc
is_status (calls.CallBack qfs qcs) x e = absurd cc
is_status calls.InitCallBackState x e = absurd cc
is_status calls.Probe x e = absurd cc

walks_rested : (me : Node) (c : ClientState) (clock : ℕ) (front : List Line → List Line) (act : Going) (cache : List CacheEntry) → NeedsNoEntry (next act) → goes_on me c front (not_walked act cache) ≡ walks_on me c clock front act cache
walks_rested me c clock front act cache h = ap (goes_on me c front) (sym (walked_stays (most_reads act) clock act cache h))

if_trusted : (b : Bool) (x y z : Step ClientState) → x ≡ y → cond b x z ≡ cond b y z
if_trusted b x y z e = ap (λ (s : Step ClientState). cond b s z) e

shown_as : (me : Node) (c : ClientState) (clock place : ℕ) (act : Going) (entry : CacheEntry) → NeedsNoEntry (next (with_read entry.fid (seen.Status entry.status) act)) → shows_status me c clock place act entry ≡ takes_entry me c clock place act entry (seen.Status entry.status)
shown_as me c clock place act entry h =
    if_trusted (is_trusted clock entry) _ _ (calls_again me c place act) (walks_rested me c clock (read_lines me place (look_at Fetched entry (seen.Status entry.status))) (with_read entry.fid (seen.Status entry.status) act) (put_entry c.capacity entry c.cache) h)

abbrev shown_by : Node → ClientState → ℕ → ℕ → Going → AfsFetchStatus → AfsCallBack → AfsVolSync → FsCall → Option Fid → Step ClientState
shown_by me c clock place act status callback sync call None = takes_plain me c place call
shown_by me c clock place act status callback sync call (Some fid) = takes_entry me c clock place act (cache_entry_told c.callee fid status callback sync None) (seen.Status (status_told status))

shown_table : (me : Node) (c : ClientState) (clock place : ℕ) (act : Going) (status : AfsFetchStatus) (callback : AfsCallBack) (sync : AfsVolSync) (call : FsCall) → shown_by me c clock place act status callback sync call (status_wanted call) ≡ takes_shown me c clock place act status callback sync call
shown_table me c clock place act status callback sync (calls.FetchData qf qp qn) = refl
shown_table me c clock place act status callback sync (calls.FetchAcl qf) = refl
shown_table me c clock place act status callback sync (calls.FetchStatus qf) = refl
shown_table me c clock place act status callback sync (calls.StoreData qf qs qp qn ql qb) = refl
shown_table me c clock place act status callback sync (calls.StoreAcl qf qa) = refl
shown_table me c clock place act status callback sync (calls.StoreStatus qf qs) = refl
shown_table me c clock place act status callback sync (calls.RemoveFile qd qn) = refl
shown_table me c clock place act status callback sync (calls.CreateFile qd qn qs) = refl
shown_table me c clock place act status callback sync (calls.Rename qd qn qe qm) = refl
shown_table me c clock place act status callback sync (calls.Symlink qd qn qt qs) = refl
shown_table me c clock place act status callback sync (calls.Link qd qn qf) = refl
shown_table me c clock place act status callback sync (calls.MakeDir qd qn qs) = refl
shown_table me c clock place act status callback sync (calls.RemoveDir qd qn) = refl
shown_table me c clock place act status callback sync (calls.GiveUpCallBacks qfs qcs) = refl
shown_table me c clock place act status callback sync (calls.GetVolumeStatus qv) = refl
shown_table me c clock place act status callback sync calls.GetTime = refl
shown_table me c clock place act status callback sync (calls.BulkStatus qfs) = refl
shown_table me c clock place act status callback sync (calls.CallBack qfs qcs) = refl
shown_table me c clock place act status callback sync calls.InitCallBackState = refl
shown_table me c clock place act status callback sync calls.Probe = refl

pub status_as : (me : Node) (c : ClientState) (clock place : ℕ) (act : Going) (status : AfsFetchStatus) (callback : AfsCallBack) (sync : AfsVolSync) (fid : Fid) → Some fid ≡ status_wanted (call_of c act)
    → shows_status me c clock place act (cache_entry_told c.callee fid status callback sync None) ≡ takes_shown me c clock place act status callback sync (call_of c act)
status_as me c clock place act status callback sync fid e =
    shown_as me c clock place act (cache_entry_told c.callee fid status callback sync None) (status_rests c.gifts fid (status_told status) act (is_status (call_of c act) fid e))
    ∙ (ap (shown_by me c clock place act status callback sync (call_of c act)) e ∙ shown_table me c clock place act status callback sync (call_of c act))

pub status_none : (me : Node) (c : ClientState) (clock place : ℕ) (act : Going) (status : AfsFetchStatus) (callback : AfsCallBack) (sync : AfsVolSync) (call : FsCall) → None ≡ status_wanted call → takes_plain me c place call ≡ takes_shown me c clock place act status callback sync call
status_none me c clock place act status callback sync call e = ap (shown_by me c clock place act status callback sync call) e ∙ shown_table me c clock place act status callback sync call

-- ---- statuses

abbrev fids_in : Option (List Fid) → List Fid
fids_in None = []
fids_in (Some fs) = fs

is_bulk : (call : FsCall) (fids : List Fid) → Some fids ≡ statuses_wanted call → call ≡ calls.BulkStatus fids
is_bulk (calls.FetchData qf qp qn) x e = absurd cc
is_bulk (calls.FetchAcl qf) x e = absurd cc
is_bulk (calls.FetchStatus qf) x e = absurd cc
is_bulk (calls.StoreData qf qs qp qn ql qb) x e = absurd cc
is_bulk (calls.StoreAcl qf qa) x e = absurd cc
is_bulk (calls.StoreStatus qf qs) x e = absurd cc
is_bulk (calls.RemoveFile qd qn) x e = absurd cc
is_bulk (calls.CreateFile qd qn qs) x e = absurd cc
is_bulk (calls.Rename qd qn qe qm) x e = absurd cc
is_bulk (calls.Symlink qd qn qt qs) x e = absurd cc
is_bulk (calls.Link qd qn qf) x e = absurd cc
is_bulk (calls.MakeDir qd qn qs) x e = absurd cc
is_bulk (calls.RemoveDir qd qn) x e = absurd cc
is_bulk (calls.GiveUpCallBacks qfs qcs) x e = absurd cc
is_bulk (calls.GetVolumeStatus qv) x e = absurd cc
is_bulk calls.GetTime x e = absurd cc
is_bulk (calls.BulkStatus qfs) x e = sym (ap (λ (o : Option (List Fid)). calls.BulkStatus (fids_in o)) e)
is_bulk (calls.CallBack qfs qcs) x e = absurd cc
is_bulk calls.InitCallBackState x e = absurd cc
is_bulk calls.Probe x e = absurd cc

all_as : (me : Node) (c : ClientState) (clock place : ℕ) (act : Going) (entries : List CacheEntry) → NeedsNoEntry (next (with_statuses entries act)) → shows_statuses me c clock place act entries ≡ takes_entries me c clock place act entries
all_as me c clock place act entries h =
    ap (λ (s : Step ClientState). cond (list_any (λ (e : CacheEntry). not (is_trusted clock e)) entries) (calls_again me c place act) s)
    (walks_rested me c clock (λ ls. with_given place (looked me (map status_look entries) ls)) (with_statuses entries act) (put_entries c.capacity entries c.cache) h)

abbrev bulk_by : Node → ClientState → ℕ → ℕ → Going → List AfsFetchStatus → List AfsCallBack → AfsVolSync → FsCall → Option (List Fid) → Step ClientState
bulk_by me c clock place act statuses callbacks sync call None = takes_plain me c place call
bulk_by me c clock place act statuses callbacks sync call (Some fids) = takes_entries me c clock place act (entries_told c.callee sync fids statuses callbacks)

bulk_table : (me : Node) (c : ClientState) (clock place : ℕ) (act : Going) (statuses : List AfsFetchStatus) (callbacks : List AfsCallBack) (sync : AfsVolSync) (call : FsCall) → bulk_by me c clock place act statuses callbacks sync call (statuses_wanted call) ≡ takes_bulk me c clock place act statuses callbacks sync call
bulk_table me c clock place act statuses callbacks sync (calls.FetchData qf qp qn) = refl
bulk_table me c clock place act statuses callbacks sync (calls.FetchAcl qf) = refl
bulk_table me c clock place act statuses callbacks sync (calls.FetchStatus qf) = refl
bulk_table me c clock place act statuses callbacks sync (calls.StoreData qf qs qp qn ql qb) = refl
bulk_table me c clock place act statuses callbacks sync (calls.StoreAcl qf qa) = refl
bulk_table me c clock place act statuses callbacks sync (calls.StoreStatus qf qs) = refl
bulk_table me c clock place act statuses callbacks sync (calls.RemoveFile qd qn) = refl
bulk_table me c clock place act statuses callbacks sync (calls.CreateFile qd qn qs) = refl
bulk_table me c clock place act statuses callbacks sync (calls.Rename qd qn qe qm) = refl
bulk_table me c clock place act statuses callbacks sync (calls.Symlink qd qn qt qs) = refl
bulk_table me c clock place act statuses callbacks sync (calls.Link qd qn qf) = refl
bulk_table me c clock place act statuses callbacks sync (calls.MakeDir qd qn qs) = refl
bulk_table me c clock place act statuses callbacks sync (calls.RemoveDir qd qn) = refl
bulk_table me c clock place act statuses callbacks sync (calls.GiveUpCallBacks qfs qcs) = refl
bulk_table me c clock place act statuses callbacks sync (calls.GetVolumeStatus qv) = refl
bulk_table me c clock place act statuses callbacks sync calls.GetTime = refl
bulk_table me c clock place act statuses callbacks sync (calls.BulkStatus qfs) = refl
bulk_table me c clock place act statuses callbacks sync (calls.CallBack qfs qcs) = refl
bulk_table me c clock place act statuses callbacks sync calls.InitCallBackState = refl
bulk_table me c clock place act statuses callbacks sync calls.Probe = refl

pub bulk_as : (me : Node) (c : ClientState) (clock place : ℕ) (act : Going) (statuses : List AfsFetchStatus) (callbacks : List AfsCallBack) (sync : AfsVolSync) (fids : List Fid) → Some fids ≡ statuses_wanted (call_of c act)
    → shows_statuses me c clock place act (entries_told c.callee sync fids statuses callbacks) ≡ takes_bulk me c clock place act statuses callbacks sync (call_of c act)
bulk_as me c clock place act statuses callbacks sync fids e =
    all_as me c clock place act (entries_told c.callee sync fids statuses callbacks) (statuses_rest c.gifts fids (entries_told c.callee sync fids statuses callbacks) act (is_bulk (call_of c act) fids e))
    ∙ (ap (bulk_by me c clock place act statuses callbacks sync (call_of c act)) e ∙ bulk_table me c clock place act statuses callbacks sync (call_of c act))

pub bulk_none : (me : Node) (c : ClientState) (clock place : ℕ) (act : Going) (statuses : List AfsFetchStatus) (callbacks : List AfsCallBack) (sync : AfsVolSync) (call : FsCall) → None ≡ statuses_wanted call → takes_plain me c place call ≡ takes_bulk me c clock place act statuses callbacks sync call
bulk_none me c clock place act statuses callbacks sync call e = ap (bulk_by me c clock place act statuses callbacks sync call) e ∙ bulk_table me c clock place act statuses callbacks sync call

-- ---- rights

is_list : (call : FsCall) (fid : Fid) → Some fid ≡ rights_wanted call → call ≡ calls.FetchAcl fid
is_list (calls.FetchData qf qp qn) x e = absurd cc
is_list (calls.FetchAcl qf) x e = sym (ap (λ (o : Option Fid). calls.FetchAcl (fid_in o)) e)
is_list (calls.FetchStatus qf) x e = absurd cc
is_list (calls.StoreData qf qs qp qn ql qb) x e = absurd cc
is_list (calls.StoreAcl qf qa) x e = absurd cc
is_list (calls.StoreStatus qf qs) x e = absurd cc
is_list (calls.RemoveFile qd qn) x e = absurd cc
is_list (calls.CreateFile qd qn qs) x e = absurd cc
is_list (calls.Rename qd qn qe qm) x e = absurd cc
is_list (calls.Symlink qd qn qt qs) x e = absurd cc
is_list (calls.Link qd qn qf) x e = absurd cc
is_list (calls.MakeDir qd qn qs) x e = absurd cc
is_list (calls.RemoveDir qd qn) x e = absurd cc
is_list (calls.GiveUpCallBacks qfs qcs) x e = absurd cc
is_list (calls.GetVolumeStatus qv) x e = absurd cc
is_list calls.GetTime x e = absurd cc
is_list (calls.BulkStatus qfs) x e = absurd cc
is_list (calls.CallBack qfs qcs) x e = absurd cc
is_list calls.InitCallBackState x e = absurd cc
is_list calls.Probe x e = absurd cc

abbrev list_by : Node → ClientState → ℕ → ℕ → Going → List ℕ → AfsFetchStatus → AfsVolSync → FsCall → Option Fid → Step ClientState
list_by me c clock place act text status sync call None = takes_plain me c place call
list_by me c clock place act text status sync call (Some fid) = takes_rights me c clock place act fid status.sync_counter sync.release text

list_table : (me : Node) (c : ClientState) (clock place : ℕ) (act : Going) (text : List ℕ) (status : AfsFetchStatus) (sync : AfsVolSync) (call : FsCall) → list_by me c clock place act text status sync call (rights_wanted call) ≡ takes_list me c clock place act text status sync call
list_table me c clock place act text status sync (calls.FetchData qf qp qn) = refl
list_table me c clock place act text status sync (calls.FetchAcl qf) = refl
list_table me c clock place act text status sync (calls.FetchStatus qf) = refl
list_table me c clock place act text status sync (calls.StoreData qf qs qp qn ql qb) = refl
list_table me c clock place act text status sync (calls.StoreAcl qf qa) = refl
list_table me c clock place act text status sync (calls.StoreStatus qf qs) = refl
list_table me c clock place act text status sync (calls.RemoveFile qd qn) = refl
list_table me c clock place act text status sync (calls.CreateFile qd qn qs) = refl
list_table me c clock place act text status sync (calls.Rename qd qn qe qm) = refl
list_table me c clock place act text status sync (calls.Symlink qd qn qt qs) = refl
list_table me c clock place act text status sync (calls.Link qd qn qf) = refl
list_table me c clock place act text status sync (calls.MakeDir qd qn qs) = refl
list_table me c clock place act text status sync (calls.RemoveDir qd qn) = refl
list_table me c clock place act text status sync (calls.GiveUpCallBacks qfs qcs) = refl
list_table me c clock place act text status sync (calls.GetVolumeStatus qv) = refl
list_table me c clock place act text status sync calls.GetTime = refl
list_table me c clock place act text status sync (calls.BulkStatus qfs) = refl
list_table me c clock place act text status sync (calls.CallBack qfs qcs) = refl
list_table me c clock place act text status sync calls.InitCallBackState = refl
list_table me c clock place act text status sync calls.Probe = refl

pub rights_as : (me : Node) (c : ClientState) (clock place : ℕ) (act : Going) (text : List ℕ) (status : AfsFetchStatus) (sync : AfsVolSync) (fid : Fid) → Some fid ≡ rights_wanted (call_of c act)
    → shows_rights me c place act fid status.sync_counter sync.release text ≡ takes_list me c clock place act text status sync (call_of c act)
rights_as me c clock place act text status sync fid e =
    walks_rested me c clock
    (λ ls. read_lines me place (record { fid = fid; index = status.sync_counter; source = Fetched; body = seen.AccessList text }) (dropped me (filter (is_older fid status.sync_counter sync.release) c.cache) ls))
    (with_read fid (seen.AccessList text) act) (filter (λ (x : CacheEntry). not (is_older fid status.sync_counter sync.release x)) c.cache) (rights_rest c.gifts fid text act (is_list (call_of c act) fid e))
    ∙ (ap (list_by me c clock place act text status sync (call_of c act)) e ∙ list_table me c clock place act text status sync (call_of c act))

pub rights_none : (me : Node) (c : ClientState) (clock place : ℕ) (act : Going) (text : List ℕ) (status : AfsFetchStatus) (sync : AfsVolSync) (call : FsCall) → None ≡ rights_wanted call → takes_plain me c place call ≡ takes_list me c clock place act text status sync call
rights_none me c clock place act text status sync call e = ap (list_by me c clock place act text status sync call) e ∙ list_table me c clock place act text status sync call

-- ---- what was taken

pub some_taken : {E A : Type 0} (f : FsCall → Option A) (c : ClientState) (x : A) (step other : ℕ → Going → FsCall → Step ClientState) (old new : NodeState CopyState) (r : Result Outs E) → Some x ≡ wanted_of f (call_asked c c.running)
    → ((place : ℕ) (act : Going) → Some x ≡ f (call_of c act) → step place act (call_of c act) ≡ other place act (call_of c act)) → Takes (λ place. by_call c place (step place) c.running) old new r → Takes (λ place. by_call c place (other place) c.running) old new r
some_taken f c x step other old new r e h t = takes_same (λ place. by_call c place (step place) c.running) (λ place. by_call c place (other place) c.running) old new r (λ place. wanted_some f c place x (step place) (other place) c.running e (h place)) t

pub none_taken : {E A : Type 0} (f : FsCall → Option A) (c : ClientState) (step other : ℕ → Going → FsCall → Step ClientState) (old new : NodeState CopyState) (r : Result Outs E) → None ≡ wanted_of f (call_asked c c.running)
    → ((place : ℕ) (act : Going) → None ≡ f (call_of c act) → step place act (call_of c act) ≡ other place act (call_of c act)) → Takes (λ place. by_call c place (step place) c.running) old new r → Takes (λ place. by_call c place (other place) c.running) old new r
none_taken f c step other old new r e h t = takes_same (λ place. by_call c place (step place) c.running) (λ place. by_call c place (other place) c.running) old new r (λ place. wanted_none f c place (step place) (other place) c.running e (h place)) t

pub some_behind : {E A : Type 0} (f : FsCall → Option A) (c : ClientState) (x : A) (step other : ℕ → Going → FsCall → Step ClientState) (told : List Line) (old new : NodeState CopyState) (r : Result Outs E) → Some x ≡ wanted_of f (call_asked c c.running)
    → ((place : ℕ) (act : Going) → Some x ≡ f (call_of c act) → step place act (call_of c act) ≡ other place act (call_of c act)) → Takes (λ place. telling told (by_call c place (step place) c.running)) old new r → Takes (λ place. telling told (by_call c place (other place) c.running)) old new r
some_behind f c x step other told old new r e h t = takes_same (λ place. telling told (by_call c place (step place) c.running)) (λ place. telling told (by_call c place (other place) c.running)) old new r (λ place. ap (telling told) (wanted_some f c place x (step place) (other place) c.running e (h place))) t

pub none_behind : {E A : Type 0} (f : FsCall → Option A) (c : ClientState) (step other : ℕ → Going → FsCall → Step ClientState) (told : List Line) (old new : NodeState CopyState) (r : Result Outs E) → None ≡ wanted_of f (call_asked c c.running)
    → ((place : ℕ) (act : Going) → None ≡ f (call_of c act) → step place act (call_of c act) ≡ other place act (call_of c act)) → Takes (λ place. telling told (by_call c place (step place) c.running)) old new r → Takes (λ place. telling told (by_call c place (other place) c.running)) old new r
none_behind f c step other told old new r e h t = takes_same (λ place. telling told (by_call c place (step place) c.running)) (λ place. telling told (by_call c place (other place) c.running)) old new r (λ place. ap (telling told) (wanted_none f c place (step place) (other place) c.running e (h place))) t

pub holds_taken : {E : Type 0} (b : Bool) (f : FsCall → Bool) (c : ClientState) (step other : ℕ → Going → FsCall → Step ClientState) (old new : NodeState CopyState) (r : Result Outs E) → b ≡ holds_of f (call_asked c c.running)
    → ((place : ℕ) (act : Going) → b ≡ f (call_of c act) → step place act (call_of c act) ≡ other place act (call_of c act)) → Takes (λ place. by_call c place (step place) c.running) old new r → Takes (λ place. by_call c place (other place) c.running) old new r
holds_taken b f c step other old new r e h t = takes_same (λ place. by_call c place (step place) c.running) (λ place. by_call c place (other place) c.running) old new r (λ place. holds_as b f c place (step place) (other place) c.running e (h place)) t

pub chosen_then : (b : Bool) (x y : Step ClientState) → true ≡ b → x ≡ cond b x y
chosen_then true x y h = refl
chosen_then false x y h = absurd cc

pub chosen_else : (b : Bool) (x y : Step ClientState) → false ≡ b → y ≡ cond b x y
chosen_else true x y h = absurd cc
chosen_else false x y h = refl

-- a promise that has ended can't be used: the act calls again, whatever the reply showed
pub spent_taken : {E : Type 0} (me : Node) (c : ClientState) (b : Bool) (used : ℕ → Going → Step ClientState) (told : List Line) (old new : NodeState CopyState) (r : Result Outs E) → false ≡ b → Takes (λ place. telling told (by_act c place (calls_again me c place) c.running)) old new r
    → Takes (λ place. telling told (by_act c place (λ act. cond b (used place act) (calls_again me c place act)) c.running)) old new r
spent_taken me c b used told old new r e t = subst (λ (x : Bool). Takes (λ (place : ℕ). telling told (by_act c place (λ (act : Going). cond x (used place act) (calls_again me c place act)) c.running)) old new r) e t

-- the same of statuses, one of which can't be used
pub all_spent : {E : Type 0} (me : Node) (c : ClientState) (clock : ℕ) (all : List CacheEntry) (told : List Line) (old new : NodeState CopyState) (r : Result Outs E) → true ≡ list_any (λ (e : CacheEntry). not (is_trusted clock e)) all
    → Takes (λ place. telling told (by_act c place (calls_again me c place) c.running)) old new r → Takes (λ place. telling told (by_act c place (λ act. shows_statuses me c clock place act all) c.running)) old new r
all_spent me c clock all told old new r e t =
    takes_same (λ place. telling told (by_act c place (calls_again me c place) c.running)) (λ place. telling told (by_act c place (λ act. shows_statuses me c clock place act all) c.running)) old new r
    (λ place. ap (telling told) (each_act c place (calls_again me c place) (λ act. shows_statuses me c clock place act all) c.running
    (λ act. chosen_then (list_any (λ (e : CacheEntry). not (is_trusted clock e)) all) (calls_again me c place act) (goes_on me c (λ ls. with_given place (looked me (map status_look all) ls)) (not_walked (with_statuses all act) (put_entries c.capacity all c.cache))) e))) t

-- lines that were told before stand behind the one that names the message
goes_telling_by : (me : Node) (c : ClientState) (place : ℕ) (told : List Line) (f : List Line → List Line) (w : Walked) (need : Need) → goes_by me c (λ ls. lines.Given place ∷ (told ++ f ls)) w need ≡ telling told (goes_by me c (λ ls. lines.Given place ∷ f ls) w need)
goes_telling_by me c place told f w (going.reads x) = refl
goes_telling_by me c place told f w (going.reads_status x) = refl
goes_telling_by me c place told f w (going.reads_statuses x) = refl
goes_telling_by me c place told f w (going.reads_rights x) = refl
goes_telling_by me c place told f w (going.asks_for x) = refl
goes_telling_by me c place told f w going.gives_back = refl
goes_telling_by me c place told f w (going.locates x) = refl
goes_telling_by me c place told f w (going.answers x) = refl

goes_telling : (me : Node) (c : ClientState) (place : ℕ) (told : List Line) (f : List Line → List Line) (w : Walked) → goes_on me c (λ ls. lines.Given place ∷ (told ++ f ls)) w ≡ telling told (goes_on me c (λ ls. lines.Given place ∷ f ls) w)
goes_telling me c place told f w = goes_telling_by me c place told f w (next w.act)

-- the lines of reads behind those that were told before
read_behind : (place : ℕ) (told before : List Line) (reads : List Line) (ls : List Line) → told ≡ before ++ reads → lines.Given place ∷ (told ++ ls) ≡ lines.Given place ∷ (before ++ (reads ++ ls))
read_behind place told before reads ls t = ap (λ (xs : List Line). lines.Given place ∷ (xs ++ ls)) t ∙ ap (λ (xs : List Line). lines.Given place ∷ xs) (append_assoc before reads ls)

-- a body that can be used
pub entry_taken : (me : Node) (c : ClientState) (clock place : ℕ) (a : Asking) (before told : List Line) (going : Going) (entry entries : CacheEntry) (shown body : ReadBody) → Some a ≡ asking_of c.running c.gifts → shown ≡ body → told ≡ before ++ lines.Read me entries.fid entries.index Fetched shown ∷ []
    → going ≡ with_read entries.fid shown a.going → entry ≡ entries → true ≡ is_trusted clock entries → walks_on me c clock (λ ls. lines.Given place ∷ (told ++ ls)) going (put_entry c.capacity entry c.cache) ≡ telling before (by_act c place (λ act. takes_entry me c clock place act entries body) c.running)
entry_taken me c clock place a before told going entry entries shown body run same t g e b =
    goes_front me c (λ ls. lines.Given place ∷ (told ++ ls)) (λ ls. lines.Given place ∷ (before ++ (lines.Read me entries.fid entries.index Fetched shown ∷ ls))) (walked (most_reads going) clock going (put_entry c.capacity entry c.cache)) (λ ls. read_behind place told before (lines.Read me entries.fid entries.index Fetched shown ∷ []) ls t)
    ∙ (goes_telling me c place before (λ ls. lines.Read me entries.fid entries.index Fetched shown ∷ ls) (walked (most_reads going) clock going (put_entry c.capacity entry c.cache))
    ∙ ap (telling before)
    (ap (λ (x : Going). walks_on me c clock (read_lines me place (look_at Fetched entries shown)) x (put_entry c.capacity entry c.cache)) g
    ∙ (ap (λ (x : CacheEntry). walks_on me c clock (read_lines me place (look_at Fetched entries shown)) (with_read entries.fid shown a.going) (put_entry c.capacity x c.cache)) e
    ∙ (chosen_then (is_trusted clock entries) (walks_on me c clock (read_lines me place (look_at Fetched entries shown)) (with_read entries.fid shown a.going) (put_entry c.capacity entries c.cache)) (calls_again me c place a.going) b
    ∙ (ap (takes_entry me c clock place a.going entries) same ∙ with_act c place a (λ act. takes_entry me c clock place act entries body) run)))))

-- a status that can be used
pub status_taken : (me : Node) (c : ClientState) (clock place : ℕ) (a : Asking) (before told : List Line) (going : Going) (all : List CacheEntry) (entry : CacheEntry) → Some a ≡ asking_of c.running c.gifts → told ≡ before ++ lines.Read me entry.fid entry.index Fetched (seen.Status entry.status) ∷ []
    → going ≡ with_read entry.fid (seen.Status entry.status) a.going → all ≡ entry ∷ [] → true ≡ is_trusted clock entry
    → goes_on me c (λ ls. lines.Given place ∷ (told ++ ls)) (not_walked going (put_entries c.capacity all c.cache)) ≡ telling before (by_act c place (λ act. shows_status me c clock place act entry) c.running)
status_taken me c clock place a before told going all entry run t g e b =
    goes_front me c (λ ls. lines.Given place ∷ (told ++ ls)) (λ ls. lines.Given place ∷ (before ++ (lines.Read me entry.fid entry.index Fetched (seen.Status entry.status) ∷ ls))) (not_walked going (put_entries c.capacity all c.cache))
    (λ ls. read_behind place told before (lines.Read me entry.fid entry.index Fetched (seen.Status entry.status) ∷ []) ls t)
    ∙ (goes_telling me c place before (λ ls. lines.Read me entry.fid entry.index Fetched (seen.Status entry.status) ∷ ls) (not_walked going (put_entries c.capacity all c.cache))
    ∙ ap (telling before)
    (ap (λ (x : Going). goes_on me c (read_lines me place (look_at Fetched entry (seen.Status entry.status))) (not_walked x (put_entries c.capacity all c.cache))) g
    ∙ (ap (λ (es : List CacheEntry). goes_on me c (read_lines me place (look_at Fetched entry (seen.Status entry.status))) (not_walked (with_read entry.fid (seen.Status entry.status) a.going) (put_entries c.capacity es c.cache))) e
    ∙ (chosen_then (is_trusted clock entry) (goes_on me c (read_lines me place (look_at Fetched entry (seen.Status entry.status))) (not_walked (with_read entry.fid (seen.Status entry.status) a.going) (put_entry c.capacity entry c.cache))) (calls_again me c place a.going) b
    ∙ with_act c place a (λ act. shows_status me c clock place act entry) run))))

-- what is read of statuses is read by the same act
pub statuses_act : (es : List CacheEntry) (g : Going) → (with_statuses es g).act ≡ g.act
statuses_act [] g = refl
statuses_act (e ∷ es) g = statuses_act es (with_read e.fid (seen.Status e.status) g)

looked_told : (me : Node) (looks : List Look) (rest : List Line) → looked me looks [] ++ rest ≡ looked me looks rest
looked_told me looks rest = sym (looked_front me looks rest)

-- statuses that can be used
pub statuses_taken : (me : Node) (c : ClientState) (clock place : ℕ) (a : Asking) (before told : List Line) (going : Going) (all : List CacheEntry) → Some a ≡ asking_of c.running c.gifts → told ≡ before ++ looked me (map status_look all) [] → going ≡ with_statuses all a.going
    → false ≡ list_any (λ (e : CacheEntry). not (is_trusted clock e)) all → goes_on me c (λ ls. lines.Given place ∷ (told ++ ls)) (not_walked going (put_entries c.capacity all c.cache)) ≡ telling before (by_act c place (λ act. shows_statuses me c clock place act all) c.running)
statuses_taken me c clock place a before told going all run t g b =
    goes_front me c (λ ls. lines.Given place ∷ (told ++ ls)) (λ ls. lines.Given place ∷ (before ++ looked me (map status_look all) ls)) (not_walked going (put_entries c.capacity all c.cache))
    (λ ls. read_behind place told before (looked me (map status_look all) []) ls t ∙ ap (λ (xs : List Line). lines.Given place ∷ (before ++ xs)) (looked_told me (map status_look all) ls))
    ∙ (goes_telling me c place before (λ ls. looked me (map status_look all) ls) (not_walked going (put_entries c.capacity all c.cache))
    ∙ ap (telling before)
    (ap (λ (x : Going). goes_on me c (λ ls. with_given place (looked me (map status_look all) ls)) (not_walked x (put_entries c.capacity all c.cache))) g
    ∙ (chosen_else (list_any (λ (e : CacheEntry). not (is_trusted clock e)) all) (calls_again me c place a.going) (goes_on me c (λ ls. with_given place (looked me (map status_look all) ls)) (not_walked (with_statuses all a.going) (put_entries c.capacity all c.cache))) b
    ∙ with_act c place a (λ act. shows_statuses me c clock place act all) run)))

-- rights
pub rights_taken : (me : Node) (c : ClientState) (place : ℕ) (a : Asking) (before told : List Line) (going : Going) (fid : Fid) (index release : ℕ) (text : List ℕ) → Some a ≡ asking_of c.running c.gifts → told ≡ before ++ lines.Read me fid index Fetched (seen.AccessList text) ∷ []
    → going ≡ with_read fid (seen.AccessList text) a.going
    → goes_on me c (λ ls. lines.Given place ∷ (told ++ dropped me (filter (is_older fid index release) c.cache) ls)) (not_walked going (filter (λ (x : CacheEntry). not (is_older fid index release x)) c.cache)) ≡ telling before (by_act c place (λ act. shows_rights me c place act fid index release text) c.running)
rights_taken me c place a before told going fid index release text run t g =
    let gone : List Line → List Line = λ ls. dropped me (filter (is_older fid index release) c.cache) ls in
    let w : Walked = not_walked going (filter (λ (x : CacheEntry). not (is_older fid index release x)) c.cache) in
    goes_front me c (λ ls. lines.Given place ∷ (told ++ gone ls)) (λ ls. lines.Given place ∷ (before ++ (lines.Read me fid index Fetched (seen.AccessList text) ∷ gone ls))) w
    (λ ls. read_behind place told before (lines.Read me fid index Fetched (seen.AccessList text) ∷ []) (gone ls) t)
    ∙ (goes_telling me c place before (λ ls. lines.Read me fid index Fetched (seen.AccessList text) ∷ gone ls) w
    ∙ ap (telling before)
    (ap (λ (x : Going). goes_on me c (λ ls. lines.Given place ∷ lines.Read me fid index Fetched (seen.AccessList text) ∷ dropped me (filter (is_older fid index release) c.cache) ls) (not_walked x (filter (λ (y : CacheEntry). not (is_older fid index release y)) c.cache))) g
    ∙ with_act c place a (λ act. shows_rights me c place act fid index release text) run))

-- promises behind the batch that was given back
pub rest_taken : (me : Node) (c : ClientState) (place : ℕ) (a : Asking) (told : List Line) (going : Going) (rest : List Gift) → Some a ≡ asking_of c.running c.gifts → told ≡ [] → going ≡ a.going → rest ≡ behind_batch a.gifts
    → gives_by me c (λ ls. lines.Given place ∷ (told ++ ls)) going rest ≡ by_act c place (λ act. gives_by me c (with_given place) act (behind_batch c.gifts)) c.running
rest_taken me c place a told going rest run t g q =
    gives_alone me c place going rest told t
    ∙ (ap (λ (x : Going). gives_by me c (with_given place) x rest) g
    ∙ (ap (gives_by me c (with_given place) a.going) (q ∙ ap behind_batch (gifts_is c.running c.gifts a run)) ∙ with_act c place a (λ act. gives_by me c (with_given place) act (behind_batch c.gifts)) run))

-- ---- replies to changing calls

-- the entries of what the call may have changed go
pub plain_taken : (me : Node) (c : ClientState) (place : ℕ) (a : Asking) (told : List Line) (d : Drops) (call : FsCall) → Some a ≡ asking_of c.running c.gifts → ((e : CacheEntry) → drops_of d e ≡ may_change call e.fid) → call ≡ call_by a.gifts (next a.going)
    → ends_step me c (left d c.cache) (λ ls. lines.Given place ∷ (told ++ dropped me (filter (drops_of d) c.cache) ls)) zero_code ≡ telling told (by_call c place (λ act. takes_plain me c place) c.running)
plain_taken me c place a told d call run h e =
    ap (telling told) (plain_as me c d call place zero_code h ∙ (ap (takes_plain me c place) e ∙ with_call c place a (λ act. takes_plain me c place) run))

-- a trusted entry is as the store left it
pub stored_taken : (me : Node) (c : ClientState) (clock place : ℕ) (told : List Line) (fid : Fid) (index : ℕ) (shown status : ReadStatus) (made : Option Body → Option Body) → told ≡ [] → shown ≡ status
    → ends_step me (but_for c (map (refreshed clock fid index shown made) c.cache) c.busy c.moved) (map (refreshed clock fid index shown made) c.cache) (λ ls. lines.Given place ∷ (told ++ ls)) zero_code ≡ takes_stored me c clock place fid index status made
stored_taken me c clock place told fid index shown status made t e =
    ends_alone me c (map (refreshed clock fid index shown made) c.cache) place told zero_code t ∙ ap (λ (x : ReadStatus). takes_stored me c clock place fid index x made) e

pub each_call : (c : ClientState) (place : ℕ) (step other : Going → FsCall → Step ClientState) (running : Option Going) → ((act : Going) (call : FsCall) → step act call ≡ other act call) → by_call c place step running ≡ by_call c place other running
each_call c place step other None h = refl
each_call c place step other (Some act) h = h act (call_of c act)

-- by a test that doesn't look at the call
pub then_taken : {E : Type 0} (c : ClientState) (b : Bool) (a : Asking) (used : ℕ → Step ClientState) (plain : ℕ → FsCall → Step ClientState) (old new : NodeState CopyState) (r : Result Outs E) → Some a ≡ asking_of c.running c.gifts → true ≡ b → Takes used old new r
    → Takes (λ place. by_call c place (λ act call. cond b (used place) (plain place call)) c.running) old new r
then_taken c b a used plain old new r run e t =
    takes_same used (λ place. by_call c place (λ act call. cond b (used place) (plain place call)) c.running) old new r
    (λ place. chosen_then b (used place) (plain place (call_by a.gifts (next a.going))) e ∙ with_call c place a (λ act call. cond b (used place) (plain place call)) run) t

pub else_taken : {E : Type 0} (c : ClientState) (b : Bool) (used : ℕ → Step ClientState) (plain : ℕ → FsCall → Step ClientState) (old new : NodeState CopyState) (r : Result Outs E) → false ≡ b → Takes (λ place. by_call c place (λ act. plain place) c.running) old new r
    → Takes (λ place. by_call c place (λ act call. cond b (used place) (plain place call)) c.running) old new r
else_taken c b used plain old new r e t =
    takes_same (λ place. by_call c place (λ act. plain place) c.running) (λ place. by_call c place (λ act call. cond b (used place) (plain place call)) c.running) old new r
    (λ place. each_call c place (λ act. plain place) (λ act call. cond b (used place) (plain place call)) c.running (λ act call. chosen_else b (used place) (plain place call) e)) t

-- what was stored, where no break overtook the reply
pub spoiled_taken : {E : Type 0} (me : Node) (c : ClientState) (clock : ℕ) (fid : Fid) (status : AfsFetchStatus) (contents : List ℕ) (old new : NodeState CopyState) (r : Result Outs E) → true ≡ c.spoiled → Takes (λ place. by_call c place (λ act. takes_plain me c place) c.running) old new r
    → Takes (λ place. by_call c place (λ act. takes_bytes me c clock place fid status contents) c.running) old new r
spoiled_taken me c clock fid status contents old new r e t =
    takes_same (λ place. by_call c place (λ act. takes_plain me c place) c.running) (λ place. by_call c place (λ act. takes_bytes me c clock place fid status contents) c.running) old new r
    (λ place. each_call c place (λ act. takes_plain me c place) (λ act. takes_bytes me c clock place fid status contents) c.running
    (λ act call. chosen_then c.spoiled (takes_plain me c place call) (takes_stored me c clock place fid status.sync_counter (status_told status) (λ body. Some (bodies.File contents))) e)) t

pub unspoiled_taken : {E : Type 0} (me : Node) (c : ClientState) (clock : ℕ) (a : Asking) (fid : Fid) (status : AfsFetchStatus) (contents : List ℕ) (old new : NodeState CopyState) (r : Result Outs E) → Some a ≡ asking_of c.running c.gifts → false ≡ c.spoiled
    → Takes (λ place. takes_stored me c clock place fid status.sync_counter (status_told status) (λ body. Some (bodies.File contents))) old new r → Takes (λ place. by_call c place (λ act. takes_bytes me c clock place fid status contents) c.running) old new r
unspoiled_taken me c clock a fid status contents old new r run e t =
    takes_same (λ place. takes_stored me c clock place fid status.sync_counter (status_told status) (λ body. Some (bodies.File contents))) (λ place. by_call c place (λ act. takes_bytes me c clock place fid status contents) c.running) old new r
    (λ place. chosen_else c.spoiled (takes_plain me c place (call_by a.gifts (next a.going))) (takes_stored me c clock place fid status.sync_counter (status_told status) (λ body. Some (bodies.File contents))) e
    ∙ with_call c place a (λ act. takes_bytes me c clock place fid status contents) run) t

-- ---- what a break overtook

spent_some : (c : ClientState) (place : ℕ) (again other : Going → Step ClientState) (running : Option Going) → true ≡ spent_by c running → by_act c place again running ≡ by_act c place (λ act. cond (is_spent c act) (again act) (other act)) running
spent_some c place again other None e = refl
spent_some c place again other (Some act) e = chosen_then (is_spent c act) (again act) (other act) e

unspent_some : (c : ClientState) (place : ℕ) (again other : Going → Step ClientState) (running : Option Going) → false ≡ spent_by c running → by_act c place other running ≡ by_act c place (λ act. cond (is_spent c act) (again act) (other act)) running
unspent_some c place again other None e = refl
unspent_some c place again other (Some act) e = chosen_else (is_spent c act) (again act) (other act) e

pub spent_again : {E : Type 0} (c : ClientState) (again other : ℕ → Going → Step ClientState) (old new : NodeState CopyState) (r : Result Outs E) → true ≡ spent_by c c.running → Takes (λ place. by_act c place (again place) c.running) old new r
    → Takes (λ place. by_act c place (λ act. cond (is_spent c act) (again place act) (other place act)) c.running) old new r
spent_again c again other old new r e t = takes_same (λ place. by_act c place (again place) c.running) (λ place. by_act c place (λ act. cond (is_spent c act) (again place act) (other place act)) c.running) old new r (λ place. spent_some c place (again place) (other place) c.running e) t

pub unspent_heard : {E : Type 0} (c : ClientState) (again other : ℕ → Going → Step ClientState) (old new : NodeState CopyState) (r : Result Outs E) → false ≡ spent_by c c.running → Takes (λ place. by_act c place (other place) c.running) old new r
    → Takes (λ place. by_act c place (λ act. cond (is_spent c act) (again place act) (other place act)) c.running) old new r
unspent_heard c again other old new r e t = takes_same (λ place. by_act c place (other place) c.running) (λ place. by_act c place (λ act. cond (is_spent c act) (again place act) (other place act)) c.running) old new r (λ place. unspent_some c place (again place) (other place) c.running e) t

-- ---- what isn't awaited does nothing

awaited_as : (me : Node) (c : ClientState) (clock place : ℕ) (head : Head) (x : Carried) (running : Option Going) → true ≡ awaited_by c head running → by_act c place (λ act. counts me c clock place act head x) running ≡ awaits me c clock place head x running
awaited_as me c clock place head x None e = refl
awaited_as me c clock place head x (Some act) e = chosen_then (is_awaited c act head) (counts me c clock place act head x) (ignores c place) e

unawaited_as : (me : Node) (c : ClientState) (clock place : ℕ) (head : Head) (x : Carried) (running : Option Going) → false ≡ awaited_by c head running → ignores c place ≡ awaits me c clock place head x running
unawaited_as me c clock place head x None e = refl
unawaited_as me c clock place head x (Some act) e = chosen_else (is_awaited c act head) (counts me c clock place act head x) (ignores c place) e

pub awaited_taken : {E : Type 0} (me : Node) (c : ClientState) (clock : ℕ) (head : Head) (x : Carried) (old new : NodeState CopyState) (r : Result Outs E) → true ≡ awaited_by c head c.running
    → Takes (λ place. by_act c place (λ act. counts me c clock place act head x) c.running) old new r → Takes (λ place. awaits me c clock place head x c.running) old new r
awaited_taken me c clock head x old new r e t = takes_same (λ place. by_act c place (λ act. counts me c clock place act head x) c.running) (λ place. awaits me c clock place head x c.running) old new r (λ place. awaited_as me c clock place head x c.running e) t

pub unawaited_taken : {E : Type 0} (me : Node) (c : ClientState) (clock : ℕ) (head : Head) (x : Carried) (old new : NodeState CopyState) (r : Result Outs E) → false ≡ awaited_by c head c.running
    → Takes (λ place. ignores c place) old new r → Takes (λ place. awaits me c clock place head x c.running) old new r
unawaited_taken me c clock head x old new r e t = takes_same (λ place. ignores c place) (λ place. awaits me c clock place head x c.running) old new r (λ place. unawaited_as me c clock place head x c.running e) t

-- what a reply or a refusal does
pub counted_as : {E : Type 0} (me : Node) (c : ClientState) (clock : ℕ) (head : Head) (step : ℕ → Going → Step ClientState) (x : Carried) (old new : NodeState CopyState) (r : Result Outs E) → ((place : ℕ) (act : Going) → step place act ≡ counts me c clock place act head x)
    → Takes (λ place. by_act c place (step place) c.running) old new r → Takes (λ place. by_act c place (λ act. counts me c clock place act head x) c.running) old new r
counted_as me c clock head step x old new r h t = takes_same (λ place. by_act c place (step place) c.running) (λ place. by_act c place (λ act. counts me c clock place act head x) c.running) old new r (λ place. each_act c place (step place) (λ act. counts me c clock place act head x) c.running (h place)) t

pub replied_as : (me : Node) (c : ClientState) (clock place : ℕ) (act : Going) (head : Head) (reply : Reply) → counts_reply me c clock place act reply ≡ counts me c clock place act head (carried.Reply reply)
replied_as me c clock place act head (tell.File reply) = refl
replied_as me c clock place act head (tell.Volume reply) = refl
replied_as me c clock place act head (tell.Location reply) = refl

-- a reply of this kind was taken
pub taken_as : {E : Type 0} (me : Node) (c : ClientState) (clock : ℕ) (x reply : FsReply) (old new : NodeState CopyState) (r : Result Outs E) → x ≡ reply → Takes (λ place. by_call c place (λ act call. takes me c clock place act call x) c.running) old new r
    → Takes (λ place. by_call c place (λ act call. takes me c clock place act call reply) c.running) old new r
taken_as me c clock x reply old new r e t = subst (λ (y : FsReply). Takes (λ (place : ℕ). by_call c place (λ (act : Going) (call : FsCall). takes me c clock place act call y) c.running) old new r) e t

-- the same behind lines that were told before
pub reading_as : {E : Type 0} (me : Node) (c : ClientState) (clock : ℕ) (x reply : FsReply) (told : List Line) (old new : NodeState CopyState) (r : Result Outs E) → x ≡ reply → Takes (λ place. telling told (by_call c place (λ act call. takes me c clock place act call x) c.running)) old new r
    → Takes (λ place. telling told (by_call c place (λ act call. takes me c clock place act call reply) c.running)) old new r
reading_as me c clock x reply told old new r e t = subst (λ (y : FsReply). Takes (λ (place : ℕ). telling told (by_call c place (λ (act : Going) (call : FsCall). takes me c clock place act call y) c.running)) old new r) e t

-- and behind none
pub used_as : {E : Type 0} (me : Node) (c : ClientState) (clock : ℕ) (x reply : FsReply) (told : List Line) (old new : NodeState CopyState) (r : Result Outs E) → x ≡ reply → told ≡ [] → Takes (λ place. telling told (by_call c place (λ act call. takes me c clock place act call x) c.running)) old new r
    → Takes (λ place. by_call c place (λ act call. takes me c clock place act call reply) c.running) old new r
used_as me c clock x reply told old new r e n t = taken_as me c clock x reply old new r e (told_none (λ place. by_call c place (λ act call. takes me c clock place act call x) c.running) told old new r n t)

-- ---- refusals

-- an act that was told to wait asks again
pub later_as : (me : Node) (c : ClientState) (place : ℕ) (a : Asking) (told : List Line) → Some a ≡ asking_of c.running c.gifts → told ≡ []
    → calls_step me (record c { busy = c.busy + 1; gifts = a.gifts }) a.going (λ ls. lines.Given place ∷ (told ++ ls)) ≡ by_act c place (calls_again me (record c { busy = c.busy + 1 }) place) c.running
later_as me c place a told e t =
    ap (λ (xs : List Line). calls_step me (record c { busy = c.busy + 1; gifts = a.gifts }) a.going (λ ls. lines.Given place ∷ (xs ++ ls))) t
    ∙ (ap (λ (gs : List Gift). calls_step me (record c { busy = c.busy + 1; gifts = gs }) a.going (with_given place)) (gifts_is c.running c.gifts a e) ∙ with_act c place a (calls_again me (record c { busy = c.busy + 1 }) place) e)

pub later_taken : {E : Type 0} (me : Node) (c : ClientState) (code : Code) (old new : NodeState CopyState) (r : Result Outs E) → true ≡ (is_busy_code code && nat_lt c.busy most_busy)
    → Takes (λ place. by_act c place (calls_again me (record c { busy = c.busy + 1 }) place) c.running) old new r → Takes (λ place. by_act c place (λ act. refuses me c place act code) c.running) old new r
later_taken me c code old new r e t =
    takes_same (λ place. by_act c place (calls_again me (record c { busy = c.busy + 1 }) place) c.running) (λ place. by_act c place (λ act. refuses me c place act code) c.running) old new r
    (λ place. each_act c place (calls_again me (record c { busy = c.busy + 1 }) place) (λ act. refuses me c place act code) c.running
    (λ act. chosen_then (is_busy_code code && nat_lt c.busy most_busy) (calls_again me (record c { busy = c.busy + 1 }) place act) (refuses_for_good me c place act code) e)) t

pub refused_taken : {E : Type 0} (me : Node) (c : ClientState) (code : Code) (old new : NodeState CopyState) (r : Result Outs E) → false ≡ (is_busy_code code && nat_lt c.busy most_busy)
    → Takes (λ place. by_act c place (λ act. refuses_for_good me c place act code) c.running) old new r → Takes (λ place. by_act c place (λ act. refuses me c place act code) c.running) old new r
refused_taken me c code old new r e t =
    takes_same (λ place. by_act c place (λ act. refuses_for_good me c place act code) c.running) (λ place. by_act c place (λ act. refuses me c place act code) c.running) old new r
    (λ place. each_act c place (λ act. refuses_for_good me c place act code) (λ act. refuses me c place act code) c.running
    (λ act. chosen_else (is_busy_code code && nat_lt c.busy most_busy) (calls_again me (record c { busy = c.busy + 1 }) place act) (refuses_for_good me c place act code) e)) t

-- ---- a notice

pub resent_taken : (boot : ℕ) (a : Asking) (old new : NodeState CopyState) (outs : Outs) → Some a ≡ asking_of old.state.client.running old.state.client.gifts → new ≡ record old { state = with_client old.state (knows_boot old.state.client boot) } → outs.lines ≡ []
    → parcels_read outs.parcels ≡ messages_spelled (sent_to old.node old.state.client old.state.client.last old.state.client.callee boot (call_by a.gifts (next a.going)) ∷ []) → TakesStill {E = AllocError} (λ place. by_act old.state.client place (λ act. resends_step old.node old.state.client place act boot) old.state.client.running) old new (Ok outs)
resent_taken boot a old new outs run n l p =
    let me : Node = old.node in
    let c : ClientState = old.state.client in (
      ap (λ (s : NodeState CopyState). s.node) n,
      λ place. subst (λ (x : Step ClientState). Makes (as_it_is old.state x) new.state (λ ls. lines.Given place ∷ ls) outs) (with_act c place a (λ act. resends_step me c place act boot) run) (record {
        state = ap (λ (s : NodeState CopyState). s.state) n;
        lines = ap (λ (ls : List Line). lines.Given place ∷ ls) l;
        sent = p ∙ (ap (λ (gs : List Gift). messages_spelled (sent_to me c c.last c.callee boot (call_by gs (next a.going)) ∷ [])) (gifts_is c.running c.gifts a run)
            ∙ ap (λ (b : ℕ). messages_spelled (sent_to me c c.last c.callee b (call_by c.gifts (next a.going)) ∷ [])) (sym (boot_told_is c.callee boot c.boots)));
      }),
    )

pub resends_keep : (me : Node) (c : ClientState) (place boot : ℕ) (running : Option Going) → (by_act c place (λ act. resends_step me c place act boot) running).state.last ≡ c.last
resends_keep me c place boot None = refl
resends_keep me c place boot (Some act) = refl

-- ---- a call is given up

pub idle_given_up : {E : Type 0} (me : Node) (c : ClientState) (old new : NodeState CopyState) (r : Result Outs E) → None ≡ asking_of c.running c.gifts → AnswersStill (rests c) old new r → AnswersStill (given_up me c c.running) old new r
idle_given_up me c old new r e h = stills_answered (rests c) (given_up me c c.running) old new r (ap (given_up me c) (sym (idle_is c.running c.gifts e))) h

pub gives_up_as : (me : Node) (c : ClientState) (a : Asking) (told : List Line) (d : Drops) (call : FsCall) → Some a ≡ asking_of c.running c.gifts → told ≡ timeout_line me c 3 ∷ [] → d ≡ changed_in (volume_changed call) → call ≡ call_by a.gifts (next a.going)
    → ends_step me c (left d c.cache) (λ ls. told ++ dropped me (filter (drops_of d) c.cache) ls) dead_code ≡ given_up me c c.running
gives_up_as me c a told d call run t q e =
    ap (λ (xs : List Line). ends_step me c (left d c.cache) (λ ls. xs ++ dropped me (filter (drops_of d) c.cache) ls) dead_code) t
    ∙ (ap (λ (x : Drops). ends_step me c (left x c.cache) (λ ls. timeout_line me c 3 ∷ dropped me (filter (drops_of x) c.cache) ls) dead_code) q
    ∙ (ap (λ (es : List CacheEntry). ends_step me c es (λ ls. timeout_line me c 3 ∷ dropped me (filter (drops_of (changed_in (volume_changed call))) c.cache) ls) dead_code) (left_is (volume_changed call) c.cache)
    ∙ (ap (λ (es : List CacheEntry). ends_step me c (left_in (volume_changed call) c.cache) (λ ls. timeout_line me c 3 ∷ dropped me es ls) dead_code) (given_is (volume_changed call) c.cache)
    ∙ (ap (gives_up me c) (e ∙ ap (λ (gs : List Gift). call_by gs (next a.going)) (gifts_is c.running c.gifts a run)) ∙ ap (given_up me c) (sym (running_is c.running c.gifts a run))))))

-- its last step leaves no act
pub given_up_rests : (me : Node) (c : ClientState) (a : Asking) → Some a ≡ asking_of c.running c.gifts → (given_up me c c.running).state.running ≡ None
given_up_rests me c a run = ap (λ (o : Option Going). (given_up me c o).state.running) (running_is c.running c.gifts a run)

-- ---- replies of calls that show nothing

pub others_as : (me : Node) (c : ClientState) (clock place : ℕ) (act : Going) (call : FsCall) (reply : FsReply) → ((b : List ℕ) (s : AfsFetchStatus) (k : AfsCallBack) (y : AfsVolSync) → reply ≡ replies.FetchData b s k y → ⊥) → ((b : List ℕ) (s : AfsFetchStatus) (y : AfsVolSync) → reply ≡ replies.FetchAcl b s y → ⊥) → ((s : AfsFetchStatus) (k : AfsCallBack) (y : AfsVolSync) → reply ≡ replies.FetchStatus s k y → ⊥) → ((s : List AfsFetchStatus) (k : List AfsCallBack) (y : AfsVolSync) → reply ≡ replies.BulkStatus s k y → ⊥) → ((s : AfsFetchStatus) (y : AfsVolSync) → reply ≡ replies.StoreData s y → ⊥) → ((s : AfsFetchStatus) (y : AfsVolSync) → reply ≡ replies.StoreAcl s y → ⊥) → ((s : AfsFetchStatus) (y : AfsVolSync) → reply ≡ replies.StoreStatus s y → ⊥) → (reply ≡ replies.GiveUpCallBacks → ⊥)
    → takes_plain me c place call ≡ takes me c clock place act call reply
others_as me c clock place act call (replies.FetchData qb qs qk qy) no_data no_rights no_status no_statuses no_bytes no_acl no_fields no_gifts = absurd (no_data qb qs qk qy refl)
others_as me c clock place act call (replies.FetchAcl qa qs qy) no_data no_rights no_status no_statuses no_bytes no_acl no_fields no_gifts = absurd (no_rights qa qs qy refl)
others_as me c clock place act call (replies.FetchStatus qs qk qy) no_data no_rights no_status no_statuses no_bytes no_acl no_fields no_gifts = absurd (no_status qs qk qy refl)
others_as me c clock place act call (replies.StoreData qs qy) no_data no_rights no_status no_statuses no_bytes no_acl no_fields no_gifts = absurd (no_bytes qs qy refl)
others_as me c clock place act call (replies.StoreAcl qs qy) no_data no_rights no_status no_statuses no_bytes no_acl no_fields no_gifts = absurd (no_acl qs qy refl)
others_as me c clock place act call (replies.StoreStatus qs qy) no_data no_rights no_status no_statuses no_bytes no_acl no_fields no_gifts = absurd (no_fields qs qy refl)
others_as me c clock place act call (replies.RemoveFile qd qy) no_data no_rights no_status no_statuses no_bytes no_acl no_fields no_gifts = refl
others_as me c clock place act call (replies.CreateFile qf qs qd qk qy) no_data no_rights no_status no_statuses no_bytes no_acl no_fields no_gifts = refl
others_as me c clock place act call (replies.Rename qd qe qy) no_data no_rights no_status no_statuses no_bytes no_acl no_fields no_gifts = refl
others_as me c clock place act call (replies.Symlink qf qs qd qy) no_data no_rights no_status no_statuses no_bytes no_acl no_fields no_gifts = refl
others_as me c clock place act call (replies.Link qs qd qy) no_data no_rights no_status no_statuses no_bytes no_acl no_fields no_gifts = refl
others_as me c clock place act call (replies.MakeDir qf qs qd qk qy) no_data no_rights no_status no_statuses no_bytes no_acl no_fields no_gifts = refl
others_as me c clock place act call (replies.RemoveDir qd qy) no_data no_rights no_status no_statuses no_bytes no_acl no_fields no_gifts = refl
others_as me c clock place act call replies.GiveUpCallBacks no_data no_rights no_status no_statuses no_bytes no_acl no_fields no_gifts = absurd (no_gifts refl)
others_as me c clock place act call (replies.GetVolumeStatus qv qk qq qu qn) no_data no_rights no_status no_statuses no_bytes no_acl no_fields no_gifts = refl
others_as me c clock place act call (replies.GetTime qc qm) no_data no_rights no_status no_statuses no_bytes no_acl no_fields no_gifts = refl
others_as me c clock place act call (replies.BulkStatus qs qk qy) no_data no_rights no_status no_statuses no_bytes no_acl no_fields no_gifts = absurd (no_statuses qs qk qy refl)
others_as me c clock place act call replies.CallBack no_data no_rights no_status no_statuses no_bytes no_acl no_fields no_gifts = refl
others_as me c clock place act call replies.InitCallBackState no_data no_rights no_status no_statuses no_bytes no_acl no_fields no_gifts = refl
others_as me c clock place act call replies.Probe no_data no_rights no_status no_statuses no_bytes no_acl no_fields no_gifts = refl

-- ---- what was stored

abbrev set_by : Node → ClientState → ℕ → ℕ → AfsFetchStatus → FsCall → Option (Fid × List ℕ) → Step ClientState
set_by me c clock place status call None = takes_fields me c clock place status call
set_by me c clock place status call (Some x) = takes_bytes me c clock place x.0 status x.1 call

set_table : (me : Node) (c : ClientState) (clock place : ℕ) (status : AfsFetchStatus) (call : FsCall) → set_by me c clock place status call (bytes_stored call) ≡ takes_set me c clock place status call
set_table me c clock place status (calls.FetchData qf qp qn) = refl
set_table me c clock place status (calls.FetchAcl qf) = refl
set_table me c clock place status (calls.FetchStatus qf) = refl
set_table me c clock place status (calls.StoreData qf qs qp qn ql qb) = refl
set_table me c clock place status (calls.StoreAcl qf qa) = refl
set_table me c clock place status (calls.StoreStatus qf qs) = refl
set_table me c clock place status (calls.RemoveFile qd qn) = refl
set_table me c clock place status (calls.CreateFile qd qn qs) = refl
set_table me c clock place status (calls.Rename qd qn qe qm) = refl
set_table me c clock place status (calls.Symlink qd qn qt qs) = refl
set_table me c clock place status (calls.Link qd qn qf) = refl
set_table me c clock place status (calls.MakeDir qd qn qs) = refl
set_table me c clock place status (calls.RemoveDir qd qn) = refl
set_table me c clock place status (calls.GiveUpCallBacks qfs qcs) = refl
set_table me c clock place status (calls.GetVolumeStatus qv) = refl
set_table me c clock place status calls.GetTime = refl
set_table me c clock place status (calls.BulkStatus qfs) = refl
set_table me c clock place status (calls.CallBack qfs qcs) = refl
set_table me c clock place status calls.InitCallBackState = refl
set_table me c clock place status calls.Probe = refl

pub set_as : (me : Node) (c : ClientState) (clock place : ℕ) (status : AfsFetchStatus) (call : FsCall) (o : Option (Fid × List ℕ)) → o ≡ bytes_stored call → set_by me c clock place status call o ≡ takes_set me c clock place status call
set_as me c clock place status call o e = ap (set_by me c clock place status call) e ∙ set_table me c clock place status call

-- ---- what does nothing

ignored_by : (c : ClientState) (place : ℕ) (step : Going → Step ClientState) (running : Option Going) → ((act : Going) → ignores c place ≡ step act) → ignores c place ≡ by_act c place step running
ignored_by c place step None h = refl
ignored_by c place step (Some act) h = h act

pub ignored_taken : {E : Type 0} (c : ClientState) (step : ℕ → Going → Step ClientState) (old new : NodeState CopyState) (r : Result Outs E) → ((place : ℕ) (act : Going) → ignores c place ≡ step place act) → Takes (λ place. ignores c place) old new r → Takes (λ place. by_act c place (step place) c.running) old new r
ignored_taken c step old new r h t = takes_same (λ place. ignores c place) (λ place. by_act c place (step place) c.running) old new r (λ place. ignored_by c place (step place) c.running (h place)) t
