use Rattle.law_legal.proofs.ActCalls.{AskedIn, IsSeeking}
use Rattle.law_legal.proofs.ActCallsInRuns.{placed_in, told_in}
use Rattle.law_legal.proofs.ActFollows.{none_read}
use Rattle.spec_history.specs.declared.acts.Act.{Act}
use Rattle.spec_history.specs.declared.lines.Line.{Line}
use Rattle.spec_history.specs.declared.lines.Line.TheVariants as lines
use Rattle.spec_history.specs.declared.scripts.Script.{Script}
use Rattle.spec_ideal.specs.Operations.{is_number, volume_changed}
use Rattle.law_legal.proofs.ActLines.{last_key}
use Rattle.law_legal.proofs.ActSteps.{IsEnd, by_quiet, sought_quiet}
use Rattle.law_legal.proofs.KeptApart.{found_filter}
use Rattle.law_legal.proofs.ClientReplyArrives.{Arrives, index_is, around, arrives, brings_of, by_of, fetched, told_sent, zero_told}
use Rattle.law_legal.proofs.BaseLaws.{both, each_at, same_fid-refl, same_node-refl, yes_no}
use Rattle.law_legal.proofs.ReadReplies.{AllBrought, AllTrusted, IsBrought, IsShowing, IsTaken, bulk_result, entry_result, rights_result}
use Rattle.law_legal.proofs.BaseWords.{is_passing, IsKeptBody, Leaves}
use Rattle.law_legal.proofs.ReadFetches.{AreSights, Brings, IsSight}
use Rattle.law_legal.proofs.ServerRefusesForGood.{IsFirm}
use Rattle.law_legal.proofs.VolumesAreIdeal.{AreBlank}
use Rattle.law_legal.proofs.KeptRests.{not_true}
use Rattle.law_legal.proofs.KeptIsLookedAt.{HasNoZero, made_still}
use Rattle.law_legal.proofs.VolumeOperations.{stored_fid}
use Rattle.law_legal.proofs.KeptStepAsks.{Result, idle_done}
use Rattle.law_legal.proofs.ReadOwnStores.{IsStore, status_in, store_of}
use Rattle.law_legal.proofs.ReadRows.{AreUnread, IsFront, dropped_blank, dropped_unread, drops_blank, drops_silent, drops_unread, drops_zero, moved_result, quiet_result, walks_result, rest_result}
use Rattle.law_legal.specs.Breaks.{IsNamedIn}
use Rattle.law_legal.specs.ClientParts.{is_silent}
use Rattle.law_legal.specs.Grants.{is_promised}
use Rattle.law_legal.specs.Ideal.{HasVersion, is_zero_code, last_version, highest_reached, highest_over}
use Rattle.law_legal.specs.Past.{code_told, has_begun, lines_of, sent_of}
use Rattle.spec_model.specs.Calls as pairs
use Rattle.spec_model.specs.Calls.{Admitted, admitted}
use Rattle.afs_num.specs.Fids.{same_fid}
use Rattle.afs_num.specs.Nodes.{same_node}
use Rattle.afs_num.specs.declared.calls.AfsCallBack.{AfsCallBack}
use Rattle.afs_num.specs.declared.calls.AfsFetchStatus.{AfsFetchStatus}
use Rattle.afs_num.specs.declared.calls.AfsVolSync.{AfsVolSync}
use Rattle.afs_num.specs.declared.calls.FsCall.{FsCall}
use Rattle.afs_num.specs.declared.calls.FsCall.TheVariants as calls
use Rattle.afs_num.specs.declared.calls.FsReply.{FsReply}
use Rattle.afs_num.specs.declared.calls.FsReply.TheVariants as replies
use Rattle.afs_num.specs.declared.histories.Body.{Body}
use Rattle.afs_num.specs.declared.histories.Body.TheVariants as bodies
use Rattle.afs_num.specs.declared.histories.ReadBody.{ReadBody}
use Rattle.afs_num.specs.declared.histories.ReadBody.TheVariants as seen
use Rattle.afs_num.specs.declared.histories.ReadSource.TheVariants.{Fetched}
use Rattle.afs_num.specs.declared.messages.Call.TheVariants as ask
use Rattle.afs_num.specs.declared.messages.Carried.{Carried}
use Rattle.afs_num.specs.declared.messages.Carried.TheVariants as carried
use Rattle.afs_num.specs.declared.messages.Message.{Message}
use Rattle.afs_num.specs.declared.messages.Received.TheVariants.{Whole}
use Rattle.afs_num.specs.declared.messages.Reply.TheVariants as tell
use Rattle.afs_num.specs.declared.types.Code.{Code}
use Rattle.afs_num.specs.declared.types.Fid.{Fid}
use Rattle.afs_num.specs.declared.types.Head.{Head}
use Rattle.afs_num.specs.declared.types.Node.{Node}
use Rattle.afs_num.specs.declared.types.Node.TheVariants.{Client}
use Rattle.spec_rows.specs.ClientRow.{admits_call, awaits, knows_boot, is_reading, look_at, looked, put_entries, put_entry, read_lines, refuses, status_look, takes_plain, walks_on, with_statuses, begin_row, begins_by, behind_batch, body_told, breaks, call_of, calls_again, client_row, counts, dead_code, drop_line, dropped, entries_told, cache_entry_told, find_cached, gift_of, with_given, gives_by, hears, ignores, in_order, is_awaited, stands_below, is_among_fids, is_spent, is_trusted, most_busy, names_call, reborn, replies_step, runs_carried, status_told, takes, takes_bulk, takes_data, takes_given, takes_list, takes_set, takes_shown, takes_stored, timeout_line, timeout_row, trusted_in, untrusted_in, whole, without_fids, without_server, zero_code, refuses_for_good, is_gone_code, most_moved, volume_asked, sought_by, sought_ends, seek_timeout_row, seeks_on, is_sought}
use Rattle.spec_rows.specs.Going.{ClientState, Going, Need, began, gives_back, next, with_read, operand_in, Seek, Left}
use Rattle.spec_rows.specs.Runs.{Cell, Entry, message_at}
use Rattle.spec_rows.specs.Scopes.{may_change}
use Rattle.spec_rows.specs.States.{CacheEntry, Gift}
use Rattle.spec_rows.specs.Steps.{Step}
use Rattle.std.proofs.Common.{◌≡◌, ◌<◌, ◌+◌, ℕ, inl, inr, Bool, true, false, cond, not, eqb-true, nat_eq, ltb-true, lt-ltb, ℤ, List, [], ◌∷◌, map, Option, Some, None, pos, refl, sym, ap, subst, ◌∙◌, suc, zero, negsuc}
use Rattle.std.specs.List.{list_any}
use Rattle.std.specs.Prelude.{◌&&◌, ◌||◌, nat_lt}
use Rattle.law_legal.proofs.ReadParts.{Env, again_result, and_off, body_stays, data_whole, dead_result, either_parts, either_result, more_result, plain_result, refuse_result, stored_result, told_result, where_result}

-- ---- replies, by their calls

named_first : (f : Fid) → is_among_fids f (f ∷ []) ≡ true
named_first f = ap (λ (t : Bool). cond t true false) (same_fid-refl f)

or_here : (a b : Bool) → a ≡ true → (a || b) ≡ true
or_here true b e = refl
or_here false b e = absurd cc

or_later : (a b : Bool) → b ≡ true → (a || b) ≡ true
or_later true b e = refl
or_later false b e = e

not_false : (b : Bool) → not b ≡ false → b ≡ true
not_false true e = refl
not_false false e = absurd cc

spoiled_off : (a b : Bool) → b ≡ true → (a && b) ≡ false → a ≡ false
spoiled_off true b e h = let no_ : true ≡ false = sym e ∙ h in absurd cc
spoiled_off false b e h = refl

below_next : (clock index : ℕ) (u : CacheEntry) (t : Bool) → t ≡ true → cond t (nat_eq (u.index + 1) index) true ≡ true → u.index + 1 ≡ index
below_next clock index u true e h = eqb-true (u.index + 1) index h
below_next clock index u false e h = absurd cc

dropped_begun : (m : Node) (n : ℕ) (es : List CacheEntry) (end : List Line) → has_begun (Client n) end ≡ false → has_begun (Client n) (dropped m es end) ≡ false
dropped_begun m n [] end h = h
dropped_begun m n (e ∷ es) end h = dropped_begun m n es end h

-- an entry is used where its promise lasts
trusted_result : (t : Bool) (s : Script) (c : Cell) (past : List Entry) (n place : ℕ) (act : Going) (m : Message) (u : CacheEntry) (body : ReadBody) → Env s c past n → IsTaken s c past n place act m → is_promised body ≡ true → IsShowing u.status u.body body → is_trusted c.clock u ≡ t → IsBrought s n (c.clients n) m past u
    → Result s n (c.clients n) c.clock past (cond t (walks_on (Client n) (c.clients n) c.clock (read_lines (Client n) place (look_at Fetched u body)) (with_read u.fid body act) (put_entry (c.clients n).capacity u (c.clients n).cache)) (calls_again (Client n) (c.clients n) place act))
trusted_result true s c past n place act m u body E a p shows t F = entry_result s c past n place act m u body E.0 E.1 a p shows (ltb-true _ _ t) F
trusted_result false s c past n place act m u body E a p shows t F = again_result s c past n place (c.clients n) act E a.0.0.runs a.1.1 refl refl

-- what arrives and how
abbrev pub IsComing : Script → Cell → List Entry → ℕ → ℕ → Going → Message → FsReply → Type 0
IsComing s c past n place act m r = (Arrives s c past n act m × (message_at (sent_of past) place ≡ Some m)) × (m.carried ≡ carried.Reply (tell.File r))

abbrev taken : (s : Script) (c : Cell) (past : List Entry) (n place : ℕ) (act : Going) (m : Message) (r : FsReply) → IsComing s c past n place act m r → volume_changed (call_of (c.clients n) act) ≡ None → IsTaken s c past n place act m
taken s c past n place act m r a reading = (a.0, (zero_told m.carried r a.1, reading))

abbrev IsUnspent : ClientState → Going → Type 0
IsUnspent x act = volume_changed (call_of x act) ≡ None → x.spoiled ≡ false

data_result : (s : Script) (c : Cell) (past : List Entry) (n place : ℕ) (act : Going) (m : Message) (contents : List ℕ) (status : AfsFetchStatus) (callback : AfsCallBack) (sync : AfsVolSync) (call : FsCall) → Env s c past n → IsComing s c past n place act m (replies.FetchData contents status callback sync) → IsUnspent (c.clients n) act → call_of (c.clients n) act ≡ call
    → Result s n (c.clients n) c.clock past (takes_data (Client n) (c.clients n) c.clock place act contents status callback sync call)
data_result s c past n place act m contents status callback sync (calls.FetchData f position wanted) E a un same =
    let x : ClientState = c.clients n in
    let reading : volume_changed (call_of x act) ≡ None = ap volume_changed same in
    let r : FsReply = replies.FetchData contents status callback sync in
    let z : code_told m.carried ≡ Some (pos 0) = zero_told m.carried r a.1 in
    let body : Body = body_told status.file_type contents in
    let u : CacheEntry = cache_entry_told x.callee f status callback sync (Some body) in
    let sight : IsSight s n m past (by_of s c past n act m a.0.0 z) f status.sync_counter (status_told status) (Some body) callback.expiration_time = subst (λ (k : FsCall). Brings s n m past (by_of s c past n act m a.0.0 z) k r) same (brings_of s c past n act m r E.0 a.0.0 a.1 reading) in
    let F : IsBrought s n x m past u = fetched s c past n act m z f status.sync_counter (status_told status) (Some body) callback.expiration_time E.0 a.0.0 sight (ap (names_call (f ∷ [])) same ∙ named_first f) (un reading) (E.1.waits act a.0.0.runs) in
    trusted_result (is_trusted c.clock u) s c past n place act m u (seen.Contents body) E (taken s c past n place act m r a reading) refl refl refl F
data_result s c past n place act m contents status callback sync call E a un same = plain_result s c past n place act m (replies.FetchData contents status callback sync) call E a.0.0 a.1 same

shown_result : (s : Script) (c : Cell) (past : List Entry) (n place : ℕ) (act : Going) (m : Message) (status : AfsFetchStatus) (callback : AfsCallBack) (sync : AfsVolSync) (call : FsCall) → Env s c past n → IsComing s c past n place act m (replies.FetchStatus status callback sync) → IsUnspent (c.clients n) act → call_of (c.clients n) act ≡ call
    → Result s n (c.clients n) c.clock past (takes_shown (Client n) (c.clients n) c.clock place act status callback sync call)
shown_result s c past n place act m status callback sync (calls.FetchStatus f) E a un same =
    let x : ClientState = c.clients n in
    let reading : volume_changed (call_of x act) ≡ None = ap volume_changed same in
    let r : FsReply = replies.FetchStatus status callback sync in
    let z : code_told m.carried ≡ Some (pos 0) = zero_told m.carried r a.1 in
    let u : CacheEntry = cache_entry_told x.callee f status callback sync None in
    let sight : IsSight s n m past (by_of s c past n act m a.0.0 z) f status.sync_counter (status_told status) None callback.expiration_time = subst (λ (k : FsCall). Brings s n m past (by_of s c past n act m a.0.0 z) k r) same (brings_of s c past n act m r E.0 a.0.0 a.1 reading) in
    let F : IsBrought s n x m past u = fetched s c past n act m z f status.sync_counter (status_told status) None callback.expiration_time E.0 a.0.0 sight (ap (names_call (f ∷ [])) same ∙ named_first f) (un reading) (E.1.waits act a.0.0.runs) in
    trusted_result (is_trusted c.clock u) s c past n place act m u (seen.Status (status_told status)) E (taken s c past n place act m r a reading) refl refl refl F
shown_result s c past n place act m status callback sync call E a un same = plain_result s c past n place act m (replies.FetchStatus status callback sync) call E a.0.0 a.1 same

list_result : (s : Script) (c : Cell) (past : List Entry) (n place : ℕ) (act : Going) (m : Message) (text : List ℕ) (status : AfsFetchStatus) (sync : AfsVolSync) (call : FsCall) → Env s c past n → IsComing s c past n place act m (replies.FetchAcl text status sync) → call_of (c.clients n) act ≡ call
    → Result s n (c.clients n) c.clock past (takes_list (Client n) (c.clients n) c.clock place act text status sync call)
list_result s c past n place act m text status sync (calls.FetchAcl f) E a same =
    let reading : volume_changed (call_of (c.clients n) act) ≡ None = ap volume_changed same in
    let r : FsReply = replies.FetchAcl text status sync in
    let z : code_told m.carried ≡ Some (pos 0) = zero_told m.carried r a.1 in
    rights_result s c past n place act m f status.sync_counter sync.release text E.0 E.1 (taken s c past n place act m r a reading) (subst (λ (k : FsCall). Brings s n m past (by_of s c past n act m a.0.0 z) k r) same (brings_of s c past n act m r E.0 a.0.0 a.1 reading))
list_result s c past n place act m text status sync call E a same = plain_result s c past n place act m (replies.FetchAcl text status sync) call E a.0.0 a.1 same

-- several statuses
among_named : (f : Fid) (fids : List Fid) → IsNamedIn f fids → list_any (λ g. is_among_fids g (f ∷ [])) fids ≡ true
among_named f [] h = absurd h
among_named f (g ∷ fids) (inl e) = or_here (is_among_fids g (f ∷ [])) (list_any (λ k. is_among_fids k (f ∷ [])) fids) (subst (λ (k : Fid). is_among_fids k (f ∷ []) ≡ true) (sym e) (named_first f))
among_named f (g ∷ fids) (inr h) = or_later (is_among_fids g (f ∷ [])) (list_any (λ k. is_among_fids k (f ∷ [])) fids) (among_named f fids h)

all_brought : (s : Script) (c : Cell) (past : List Entry) (n : ℕ) (act : Going) (m : Message) (z : code_told m.carried ≡ Some (pos 0)) (all : List Fid) (sync : AfsVolSync) (fids : List Fid) (ts : List AfsFetchStatus) (cs : List AfsCallBack) → Env s c past n → (a : Arrives s c past n act m) → call_of (c.clients n) act ≡ calls.BulkStatus all → (c.clients n).spoiled ≡ false
    → ((f : Fid) → IsNamedIn f fids → IsNamedIn f all) → AreSights s n m past (by_of s c past n act m a z) fids ts cs → AllBrought s n (c.clients n) m past a.tells.ran.older (entries_told (c.clients n).callee sync fids ts cs)
all_brought s c past n act m z all sync [] ts cs E a same un w h = tt
all_brought s c past n act m z all sync (f ∷ fids) [] cs E a same un w h = tt
all_brought s c past n act m z all sync (f ∷ fids) (t ∷ ts) [] E a same un w h = tt
all_brought s c past n act m z all sync (f ∷ fids) (t ∷ ts) (k ∷ cs) E a same un w h = (
  (
    fetched s c past n act m z f t.sync_counter (status_told t) None k.expiration_time E.0 a h.0 (ap (names_call (f ∷ [])) same ∙ among_named f all (w f (inl refl))) un (E.1.waits act a.runs),
    index_is (last_version f (lines_of a.tells.ran.older)) t.sync_counter h.0.last,
  ),
  all_brought s c past n act m z all sync fids ts cs E a same un (λ g y. w g (inr y)) h.1,
)

trusted_all : (clock : ℕ) (es : List CacheEntry) → list_any (λ e. not (is_trusted clock e)) es ≡ false → AllTrusted clock es
trusted_all clock [] h = tt
trusted_all clock (e ∷ es) h = let p = either_parts (not (is_trusted clock e)) (list_any (λ u. not (is_trusted clock u)) es) h in (ltb-true _ _ (not_false (is_trusted clock e) p.0), trusted_all clock es p.1)

entries_result : (t : Bool) (s : Script) (c : Cell) (past older : List Entry) (n place : ℕ) (act : Going) (m : Message) (es : List CacheEntry) → Env s c past n → IsTaken s c past n place act m → AllBrought s n (c.clients n) m past older es → list_any (λ e. not (is_trusted c.clock e)) es ≡ t
    → Result s n (c.clients n) c.clock past (cond t (calls_again (Client n) (c.clients n) place act) (walks_on (Client n) (c.clients n) c.clock (λ ls. with_given place (looked (Client n) (map status_look es) ls)) (with_statuses es act) (put_entries (c.clients n).capacity es (c.clients n).cache)))
entries_result true s c past older n place act m es E a h t = again_result s c past n place (c.clients n) act E a.0.0.runs a.1.1 refl refl
entries_result false s c past older n place act m es E a h t = bulk_result s c past older n place act m es E.0 E.1 a (trusted_all c.clock es t) h

bulk_kind : (s : Script) (c : Cell) (past : List Entry) (n place : ℕ) (act : Going) (m : Message) (statuses : List AfsFetchStatus) (callbacks : List AfsCallBack) (sync : AfsVolSync) (call : FsCall) → Env s c past n → IsComing s c past n place act m (replies.BulkStatus statuses callbacks sync) → IsUnspent (c.clients n) act → call_of (c.clients n) act ≡ call
    → Result s n (c.clients n) c.clock past (takes_bulk (Client n) (c.clients n) c.clock place act statuses callbacks sync call)
bulk_kind s c past n place act m statuses callbacks sync (calls.BulkStatus fids) E a un same =
    let x : ClientState = c.clients n in
    let reading : volume_changed (call_of x act) ≡ None = ap volume_changed same in
    let r : FsReply = replies.BulkStatus statuses callbacks sync in
    let z : code_told m.carried ≡ Some (pos 0) = zero_told m.carried r a.1 in
    let es : List CacheEntry = entries_told x.callee sync fids statuses callbacks in
    entries_result (list_any (λ e. not (is_trusted c.clock e)) es) s c past a.0.0.tells.ran.older n place act m es E (taken s c past n place act m r a reading)
    (all_brought s c past n act m z fids sync fids statuses callbacks E a.0.0 same (un reading) (λ f y. y) (subst (λ (k : FsCall). Brings s n m past (by_of s c past n act m a.0.0 z) k r) same (brings_of s c past n act m r E.0 a.0.0 a.1 reading))) refl
bulk_kind s c past n place act m statuses callbacks sync call E a un same = plain_result s c past n place act m (replies.BulkStatus statuses callbacks sync) call E a.0.0 a.1 same

-- its own store
bytes_result : (t : Bool) (s : Script) (c : Cell) (past : List Entry) (n place : ℕ) (act : Going) (m : Message) (r : FsReply) (call : FsCall) (f : Fid) (status : AfsFetchStatus) (contents : List ℕ) → Env s c past n → IsComing s c past n place act m r → call_of (c.clients n) act ≡ call → stored_fid call ≡ Some f → ((h : Fid) → may_change call h ≡ same_fid f h) → status_in (carried.Reply (tell.File r)) ≡ Some status
    → ((i : ℕ) (ls : List Line) → Leaves call f i ls → HasVersion f i (bodies.File contents) ls)
    → Result s n (c.clients n) c.clock past (cond t (takes_plain (Client n) (c.clients n) place call) (takes_stored (Client n) (c.clients n) c.clock place f status.sync_counter (status_told status) (λ body. Some (bodies.File contents))))
bytes_result true s c past n place act m r call f status contents E a same is scope told w = plain_result s c past n place act m r call E a.0.0 a.1 same
bytes_result false s c past n place act m r call f status contents E a same is scope told w =
    let S : IsStore call f status (last_key n (c.clients n)) past = store_of s c past n act m r call f status E.0 a.0.0 a.1 same is (ap status_in a.1 ∙ told) in
    stored_result s c past n place act m r call f status (λ body. Some (bodies.File contents)) E a.0.0 a.1 same scope S (λ u found lasts. data_whole s past f status contents S.newer S.at S.older S.split (w status.sync_counter (lines_of (S.at ∷ S.older)) S.leaves') S.been)

status_result : (t : Bool) (s : Script) (c : Cell) (past : List Entry) (n place : ℕ) (act : Going) (m : Message) (r : FsReply) (call : FsCall) (f : Fid) (status : AfsFetchStatus) → Env s c past n → IsComing s c past n place act m r → call_of (c.clients n) act ≡ call → stored_fid call ≡ Some f → ((h : Fid) → may_change call h ≡ same_fid f h) → status_in (carried.Reply (tell.File r)) ≡ Some status
    → ((i : ℕ) (ls : List Line) → Leaves call f i ls → IsKeptBody f i ls) → (not (c.clients n).spoiled && stands_below c.clock status.sync_counter (find_cached f (c.clients n).cache)) ≡ t
    → Result s n (c.clients n) c.clock past (cond t (takes_stored (Client n) (c.clients n) c.clock place f status.sync_counter (status_told status) (λ body. body)) (takes_plain (Client n) (c.clients n) place call))
status_result false s c past n place act m r call f status E a same is scope told w t = plain_result s c past n place act m r call E a.0.0 a.1 same
status_result true s c past n place act m r call f status E a same is scope told w t =
    let x : ClientState = c.clients n in
    let S : IsStore call f status (last_key n x) past = store_of s c past n act m r call f status E.0 a.0.0 a.1 same is (ap status_in a.1 ∙ told) in
    let below : stands_below c.clock status.sync_counter (find_cached f x.cache) ≡ true = (both (not x.spoiled) (stands_below c.clock status.sync_counter (find_cached f x.cache)) t).1 in
    stored_result s c past n place act m r call f status (λ body. body) E a.0.0 a.1 same scope S (λ u found lasts. body_stays s past f u status S.newer S.at S.older (around s c past n E.0).agreed.ascend S.split
    (below_next c.clock status.sync_counter u (is_trusted c.clock u) (lt-ltb _ _ lasts) (ap (stands_below c.clock status.sync_counter) (sym found) ∙ below)) (w status.sync_counter (lines_of (S.at ∷ S.older)) S.leaves') S.been (E.1.entries f u found).rests.whole)

set_result : (s : Script) (c : Cell) (past : List Entry) (n place : ℕ) (act : Going) (m : Message) (r : FsReply) (status : AfsFetchStatus) (call : FsCall) → Env s c past n → IsComing s c past n place act m r → call_of (c.clients n) act ≡ call → status_in (carried.Reply (tell.File r)) ≡ Some status → Result s n (c.clients n) c.clock past (takes_set (Client n) (c.clients n) c.clock place status call)
set_result s c past n place act m r status (calls.StoreData f set position wanted file_length contents) E a same told = bytes_result (c.clients n).spoiled s c past n place act m r (calls.StoreData f set position wanted file_length contents) f status contents E a same refl (λ h. refl) told (λ i ls z. z)
set_result s c past n place act m r status (calls.StoreAcl f acl) E a same told = status_result (not (c.clients n).spoiled && stands_below c.clock status.sync_counter (find_cached f (c.clients n).cache)) s c past n place act m r (calls.StoreAcl f acl) f status E a same refl (λ h. refl) told (λ i ls z. z) refl
set_result s c past n place act m r status (calls.StoreStatus f set) E a same told = status_result (not (c.clients n).spoiled && stands_below c.clock status.sync_counter (find_cached f (c.clients n).cache)) s c past n place act m r (calls.StoreStatus f set) f status E a same refl (λ h. refl) told (λ i ls z. z) refl
set_result s c past n place act m r status call E a same told = plain_result s c past n place act m r call E a.0.0 a.1 same

given_result : (s : Script) (c : Cell) (past : List Entry) (n place : ℕ) (act : Going) (m : Message) (call : FsCall) → Env s c past n → IsComing s c past n place act m replies.GiveUpCallBacks → call_of (c.clients n) act ≡ call → Result s n (c.clients n) c.clock past (takes_given (Client n) (c.clients n) place act call)
given_result s c past n place act m (calls.GiveUpCallBacks fids callbacks) E a same = more_result s c past n place act (behind_batch (c.clients n).gifts) E a.0.0.runs (ap volume_changed same)
given_result s c past n place act m call E a same = plain_result s c past n place act m replies.GiveUpCallBacks call E a.0.0 a.1 same

takes_result : (s : Script) (c : Cell) (past : List Entry) (n place : ℕ) (act : Going) (m : Message) (call : FsCall) (reply : FsReply) → Env s c past n → IsComing s c past n place act m reply → IsUnspent (c.clients n) act → call_of (c.clients n) act ≡ call → Result s n (c.clients n) c.clock past (takes (Client n) (c.clients n) c.clock place act call reply)
takes_result s c past n place act m call (replies.FetchData contents status callback sync) E a un same = data_result s c past n place act m contents status callback sync call E a un same
takes_result s c past n place act m call (replies.FetchAcl text status sync) E a un same = list_result s c past n place act m text status sync call E a same
takes_result s c past n place act m call (replies.FetchStatus status callback sync) E a un same = shown_result s c past n place act m status callback sync call E a un same
takes_result s c past n place act m call (replies.BulkStatus statuses callbacks sync) E a un same = bulk_kind s c past n place act m statuses callbacks sync call E a un same
takes_result s c past n place act m call (replies.StoreData status sync) E a un same = set_result s c past n place act m (replies.StoreData status sync) status call E a same refl
takes_result s c past n place act m call (replies.StoreAcl status sync) E a un same = set_result s c past n place act m (replies.StoreAcl status sync) status call E a same refl
takes_result s c past n place act m call (replies.StoreStatus status sync) E a un same = set_result s c past n place act m (replies.StoreStatus status sync) status call E a same refl
takes_result s c past n place act m call replies.GiveUpCallBacks E a un same = given_result s c past n place act m call E a same
takes_result s c past n place act m call reply E a un same = plain_result s c past n place act m reply call E a.0.0 a.1 same

-- ---- the message that answers the unanswered call

abbrev pub IsHeard : Script → Cell → List Entry → ℕ → ℕ → Head → Carried → Type 0
IsHeard s c past n place head x = (message_at c.sent place ≡ Some (record { head = head; carried = x })) × (head.to ≡ Client n)

spent_reads : (x : ClientState) (act : Going) → is_spent x act ≡ true → volume_changed (call_of x act) ≡ None
spent_reads x act h = none_read (volume_changed (call_of x act)) (both x.spoiled (is_reading (volume_changed (call_of x act))) h).1

unspent : (x : ClientState) (act : Going) → is_spent x act ≡ false → IsUnspent x act
unspent x act h reading = spoiled_off x.spoiled (is_reading (volume_changed (call_of x act))) (ap is_reading reading) h

reply_result : (t : Bool) (s : Script) (c : Cell) (past : List Entry) (n place : ℕ) (act : Going) (m : Message) (reply : FsReply) → Env s c past n → IsComing s c past n place act m reply → is_spent (c.clients n) act ≡ t → Result s n (c.clients n) c.clock past (cond t (calls_again (Client n) (c.clients n) place act) (takes (Client n) (c.clients n) c.clock place act (call_of (c.clients n) act) reply))
reply_result true s c past n place act m reply E a t = again_result s c past n place (c.clients n) act E a.0.0.runs (spent_reads (c.clients n) act t) refl refl
reply_result false s c past n place act m reply E a t = takes_result s c past n place act m (call_of (c.clients n) act) reply E a (unspent (c.clients n) act t) refl

refusal_result : (t : Bool) (s : Script) (c : Cell) (past : List Entry) (n place : ℕ) (act : Going) (m : Message) (code : Code) → Env s c past n → Arrives s c past n act m → m.carried ≡ carried.Refusal code → is_passing code.0 ≡ false → is_spent (c.clients n) act ≡ t
    → Result s n (c.clients n) c.clock past (cond t (calls_again (Client n) (c.clients n) place act) (refuses (Client n) (c.clients n) place act code))
refusal_result true s c past n place act m code E a is firm t = again_result s c past n place (c.clients n) act E a.runs (spent_reads (c.clients n) act t) refl refl
refusal_result false s c past n place act m code E a is firm t =
    let p = either_parts (is_number code.0 0) (is_number code.0 106 || is_number code.0 110) firm in
    subst (λ (b : Bool). Result s n (c.clients n) c.clock past (cond (b && nat_lt (c.clients n).busy most_busy) (calls_again (Client n) (record (c.clients n) { busy = (c.clients n).busy + 1 }) place act) (refuses_for_good (Client n) (c.clients n) place act code))) (sym p.1)
    (either_result (is_gone_code code && nat_lt (c.clients n).moved most_moved) s n (c.clients n) c.clock past _ _ (where_result s c past n place act m code (operand_in act (volume_asked (call_of (c.clients n) act))) E a is p.0) (refuse_result s c past n place act m code E a is p.0))

counts_result : (s : Script) (c : Cell) (past : List Entry) (n place : ℕ) (act : Going) (head : Head) (x : Carried) → Env s c past n → IsHeard s c past n place head x → (c.clients n).running ≡ Some act → is_awaited (c.clients n) act head ≡ true → Result s n (c.clients n) c.clock past (counts (Client n) (c.clients n) c.clock place act head x)
counts_result s c past n place act head (carried.Call user call) E h r w = told_result s c past n place (c.clients n) [] E refl refl refl
counts_result s c past n place act head (carried.Refusal code) E h r w =
    let m : Message = record { head = head; carried = carried.Refusal code } in
    refusal_result (is_spent (c.clients n) act) s c past n place act m code E (arrives s c past n place act m E.0 h.0 tt h.1 r w) refl (each_at (λ (y : Message). IsFirm y.head y.carried) c.sent place m h.0 E.0.truthful.0.1.0.0.1).1 refl
counts_result s c past n place act head (carried.Reply (tell.File reply)) E h r w =
    let m : Message = record { head = head; carried = carried.Reply (tell.File reply) } in
    reply_result (is_spent (c.clients n) act) s c past n place act m reply E ((arrives s c past n place act m E.0 h.0 tt h.1 r w, ap (λ (ms : List Message). message_at ms place) (told_sent s c past E.0) ∙ h.0), refl) refl
counts_result s c past n place act head (carried.Reply reply) E h r w = told_result s c past n place (c.clients n) [] E refl refl refl
counts_result s c past n place act head carried.Notice E h r w = told_result s c past n place (knows_boot (c.clients n) head.boot) _ E refl refl refl

awaited_result : (t : Bool) (s : Script) (c : Cell) (past : List Entry) (n place : ℕ) (act : Going) (head : Head) (x : Carried) → Env s c past n → IsHeard s c past n place head x → (c.clients n).running ≡ Some act → is_awaited (c.clients n) act head ≡ t → Result s n (c.clients n) c.clock past (cond t (counts (Client n) (c.clients n) c.clock place act head x) (ignores (c.clients n) place))
awaited_result true s c past n place act head x E h r w = counts_result s c past n place act head x E h r w
awaited_result false s c past n place act head x E h r w = told_result s c past n place (c.clients n) [] E refl refl refl

awaits_result : (s : Script) (c : Cell) (past : List Entry) (n place : ℕ) (head : Head) (x : Carried) (o : Option Going) → Env s c past n → IsHeard s c past n place head x → (c.clients n).running ≡ o → Result s n (c.clients n) c.clock past (awaits (Client n) (c.clients n) c.clock place head x o)
awaits_result s c past n place head x None E h r = told_result s c past n place (c.clients n) [] E refl refl refl
awaits_result s c past n place head x (Some act) E h r = awaited_result (is_awaited (c.clients n) act head) s c past n place act head x E h r refl

-- ---- calls to it

break_result : (s : Script) (c : Cell) (past : List Entry) (n place : ℕ) (y : ClientState) (head : Head) (ls : List Line) (x : Carried) → Env s c past n → AreBlank ls → AreUnread ls → HasNoZero (Client n) ls → is_silent ls ≡ true → y.running ≡ (c.clients n).running → y.last ≡ (c.clients n).last → ((f : Fid) (e : CacheEntry) → find_cached f y.cache ≡ Some e → find_cached f (c.clients n).cache ≡ Some e)
    → Result s n (c.clients n) c.clock past (replies_step y place head ls x)
break_result s c past n place y head ls x E b u z q run last sub = quiet_result s n (c.clients n) c.clock past (replies_step y place head ls x) E.1 b u z q run last sub

breaks_result : (s : Script) (c : Cell) (past : List Entry) (n place : ℕ) (head : Head) (call : FsCall) → Env s c past n → Result s n (c.clients n) c.clock past (breaks (Client n) (c.clients n) place head call)
breaks_result s c past n place head (calls.CallBack fs callbacks) E = break_result s c past n place (without_fids (c.clients n) fs) head (map (drop_line (Client n)) fs) _ E (drops_blank (Client n) fs) (drops_unread (Client n) fs) (drops_zero (Client n) (Client n) fs) (drops_silent (Client n) fs) refl refl
    (λ f e found. (found_filter (λ u. not (is_among_fids u.fid fs)) f (c.clients n).cache e (E.0.kept.1 n).0 found).0)
breaks_result s c past n place head calls.InitCallBackState E = break_result s c past n place (without_server (c.clients n) head.from) head (lines.DropAll (Client n) head.from ∷ []) _ E refl refl tt refl refl refl
    (λ f e found. (found_filter (λ u. not (same_node u.server head.from)) f (c.clients n).cache e (E.0.kept.1 n).0 found).0)
breaks_result s c past n place head calls.Probe E = break_result s c past n place (c.clients n) head [] _ E refl refl tt refl refl refl (λ f e found. found)
breaks_result s c past n place head call E = break_result s c past n place (c.clients n) head [] _ E refl refl tt refl refl refl (λ f e found. found)

carried_result : (s : Script) (c : Cell) (past : List Entry) (n place : ℕ) (head : Head) (x : Carried) → Env s c past n → Result s n (c.clients n) c.clock past (runs_carried (Client n) (c.clients n) place head x)
carried_result s c past n place head (carried.Call user (ask.File call)) E = breaks_result s c past n place head call E
carried_result s c past n place head (carried.Call user call) E = break_result s c past n place (c.clients n) head [] _ E refl refl tt refl refl refl (λ f e found. found)
carried_result s c past n place head x E = told_result s c past n place (c.clients n) [] E refl refl refl

admits_result : (s : Script) (c : Cell) (past : List Entry) (n place : ℕ) (head : Head) (x : Carried) (o : Admitted Message) → Env s c past n → Result s n (c.clients n) c.clock past (admits_call (Client n) (c.clients n) place head (whole head x) o)
admits_result s c past n place head x pairs.runs E = carried_result s c past n place head x E
admits_result s c past n place head x (pairs.kept reply) E = told_result s c past n place (c.clients n) (reply ∷ []) E refl refl refl
admits_result s c past n place head x pairs.in_progress E = told_result s c past n place (c.clients n) [] E refl refl refl
admits_result s c past n place head x pairs.older E = told_result s c past n place (c.clients n) [] E refl refl refl
admits_result s c past n place head x (pairs.wrong_boot boot) E = told_result s c past n place (c.clients n) _ E refl refl refl

hears_result : (s : Script) (c : Cell) (past : List Entry) (n place : ℕ) (head : Head) (x : Carried) → Env s c past n → IsHeard s c past n place head x → Result s n (c.clients n) c.clock past (hears (Client n) (c.clients n) c.clock place head x)
hears_result s c past n place head (carried.Call user call) E h = admits_result s c past n place head (carried.Call user call) (admitted (c.clients n).epoch (c.clients n).seats head) E
hears_result s c past n place head x E h = awaits_result s c past n place head x (c.clients n).running E h refl

-- ---- its steps

pub message_result : (s : Script) (c : Cell) (past : List Entry) (n place : ℕ) (m : Message) → Env s c past n → message_at c.sent place ≡ Some m → m.head.to ≡ Client n → Result s n (c.clients n) c.clock past (client_row (Client n) (c.clients n) c.clock place (Whole m))
unfolding client_row
message_result s c past n place m E at to = either_result (same_node m.head.to (Client n)) s n (c.clients n) c.clock past _ _ (hears_result s c past n place m.head m.carried E (at, to)) (told_result s c past n place (c.clients n) [] E refl refl refl)

-- an act that gives its promises back
giving_result : (s : Script) (c : Cell) (past : List Entry) (n : ℕ) (act : Act) (st : Step ClientState) (end : List Line) → Env s c past n → (c.clients n).running ≡ None → st.lines ≡ lines.Begin (Client n) act ∷ dropped (Client n) (trusted_in c.clock (c.clients n).cache) end → st.state.cache ≡ untrusted_in c.clock (c.clients n).cache → AreBlank end → AreUnread end → has_begun (Client n) end ≡ false
    → Result s n (c.clients n) c.clock past st
giving_result s c past n act st end E none is cache b u nb =
    let x : ClientState = c.clients n in
    let es : List CacheEntry = trusted_in c.clock x.cache in
    let ls : List Line = lines.Begin (Client n) act ∷ dropped (Client n) es end in
    moved_result s n x c.clock past st (subst AreUnread (sym is) (dropped_unread (Client n) es end u))
    (λ z run l. (let yes : has_begun (Client n) st.lines ≡ true = ap (has_begun (Client n)) is ∙ ap (λ (t : Bool). cond t true (has_begun (Client n) (dropped (Client n) es end))) (same_node-refl (Client n)) in yes_no (has_begun (Client n) st.lines) yes z))
    (λ g run f. ap (λ (o : List Line). (highest_over (Client n) f past false (highest_reached (Client n) f past) o).made) is ∙ (made_still (Client n) f past false _ (dropped (Client n) es end) (dropped_blank (Client n) es end b) (dropped_begun (Client n) n es end nb) ∙ ap (λ (t : Bool). cond t 0 (highest_reached (Client n) f past).made) (same_node-refl (Client n))))
    (λ f e found.
    let p = found_filter (λ u. not (is_trusted c.clock u)) f x.cache e (E.0.kept.1 n).0 (ap (find_cached f) (sym cache) ∙ found) in
    let out : c.clock < e.expiry → ⊥ = λ lasts. yes_no (is_trusted c.clock e) (lt-ltb _ _ lasts) (not_true (is_trusted c.clock e) p.1) in
    record { found = p.0; done' = λ lasts S. absurd (out lasts); low = λ lasts. absurd (out lasts) })

gives_result : (s : Script) (c : Cell) (past : List Entry) (n : ℕ) (act : Act) (g : Going) (gs : List Gift) → Env s c past n → (c.clients n).running ≡ None
    → Result s n (c.clients n) c.clock past (gives_by (Client n) (record (c.clients n) { busy = 0; moved = 0; cache = untrusted_in c.clock (c.clients n).cache }) (λ ls. lines.Begin (Client n) act ∷ dropped (Client n) (trusted_in c.clock (c.clients n).cache) ls) g gs)
gives_result s c past n act g [] E none = giving_result s c past n act _ (lines.Answer (Client n) zero_code ∷ []) E none refl refl refl refl refl
gives_result s c past n act g (x ∷ gs) E none = giving_result s c past n act _ [] E none refl refl refl refl refl

begin_front : (s : Script) (c : Cell) (past : List Entry) (n : ℕ) (act : Act) → Env s c past n → (c.clients n).running ≡ None → IsFront s n (c.clients n) c.clock past (λ ls. lines.Begin (Client n) act ∷ ls) (lines.Begin (Client n) act ∷ []) (c.clients n).cache
begin_front s c past n act E none = record {
  on = λ tail. refl;
  blank = refl;
  shown = λ tail h. (tt, h);
  up = λ f. tt;
  zero' = λ f. ap (λ (t : Bool). cond t 0 (highest_reached (Client n) f past).made) (same_node-refl (Client n));
  ticks = E.0.ticks.1;
  each = λ f e found. inl (record { found = found; fetched = refl; spares = λ o d. d; low = λ lasts. (E.1.entries f e found).low lasts });
  done' = λ f server. idle_done n (c.clients n) f server past none;
}

first_result : (s : Script) (c : Cell) (past : List Entry) (n : ℕ) (act : Act) (g : Going) (need : Need) → Env s c past n → (c.clients n).running ≡ None → Result s n (c.clients n) c.clock past (begins_by (Client n) (record (c.clients n) { busy = 0; moved = 0 }) c.clock (λ ls. lines.Begin (Client n) act ∷ ls) g need)
first_result s c past n act g gives_back E none = gives_result s c past n act g (in_order (map gift_of (trusted_in c.clock (c.clients n).cache))) E none
first_result s c past n act g need E none =
    walks_result s n (c.clients n) (record (c.clients n) { busy = 0; moved = 0 }) c.clock past (λ ls. lines.Begin (Client n) act ∷ ls) (lines.Begin (Client n) act ∷ []) g (c.clients n).cache refl (begin_front s c past n act E none) E.1 (around s c past n E.0).agreed (λ f e found. (E.0.kept.1 n).1 f e found)
    (inl (λ tail. ap (λ (t : Bool). cond t true (has_begun (Client n) tail)) (same_node-refl (Client n))))

pub begin_result : (s : Script) (c : Cell) (past : List Entry) (n : ℕ) (act : Act) → Env s c past n → (c.clients n).running ≡ None → Result s n (c.clients n) c.clock past (begin_row (Client n) (c.clients n) c.clock act)
unfolding begin_row
begin_result s c past n act E none = first_result s c past n act (began (c.clients n).table act) (next (began (c.clients n).table act)) E none

pub wait_result : (s : Script) (c : Cell) (past : List Entry) (n : ℕ) (act : Going) → Env s c past n → (c.clients n).running ≡ Some act → Result s n (c.clients n) c.clock past (timeout_row (Client n) (c.clients n) act)
wait_result s c past n act E r = either_result (nat_lt (c.clients n).tries 2) s n (c.clients n) c.clock past _ _
    (quiet_result s n (c.clients n) c.clock past _ E.1 refl refl tt refl refl refl (λ f e found. found))
    (dead_result s c past n act E r (volume_changed (call_of (c.clients n) act)) refl)

-- an act that waits for the location database
no_zero : (code : Code) → is_zero_code code ≡ false → (n : ℕ) → (same_node (Client n) (Client n) && is_zero_code code) ≡ false
no_zero code none n = and_off (same_node (Client n) (Client n)) (is_zero_code code) none

gone_by : (z : ℤ) (t : Bool) → is_number z 0 ≡ t → (is_number z 103 || is_number z 111) ≡ true → t ≡ false
gone_by (pos zero) t e g = absurd cc
gone_by (pos (suc k)) true e g = let z : suc k ≡ 0 = eqb-true (suc k) 0 e in absurd cc
gone_by (pos (suc k)) false e g = refl
gone_by (negsuc k) t e g = sym e

gone_not : (code : Code) → is_gone_code code ≡ true → is_zero_code code ≡ false
gone_not code g = gone_by code.0 (is_zero_code code) refl g

sought_none : (k : Seek) (x : Carried) (code : Code) → ((left : Left) → k.left ≡ Some left → is_gone_code left.code ≡ true) → IsEnd k x code → is_zero_code code ≡ false
sought_none k x code gone (inl a) = ap (λ (z : ℤ). is_number z 0) a.1.1
sought_none k x code gone (inr (inl a)) = ap (λ (z : ℤ). is_number z 0) a.1.1.1
sought_none k x code gone (inr (inr a)) = ap is_zero_code a.1.1.0 ∙ gone_not a.0.code (gone a.0 a.1.0)

pub sought_result : (s : Script) (c : Cell) (past : List Entry) (n place : ℕ) (m : Message) (k : Seek) → Env s c past n → AskedIn s c past → message_at c.sent place ≡ Some m → (c.clients n).seeking ≡ Some k → is_sought (Client n) (c.clients n) k m.head m.carried ≡ true → Result s n (c.clients n) c.clock past (sought_by (Client n) (c.clients n) c.clock place k m.head m.carried)
sought_result s c past n place m k E A at z e =
    let x : ClientState = c.clients n in
    let q : IsSeeking s n x k past = A.seeks n k z in
    by_quiet (Result s n x c.clock past) n x place k m.head m.carried (sought_by (Client n) x c.clock place k m.head m.carried) (sought_quiet s n x c.clock place k m.head m.carried (placed_in s c past n k A z) (told_in s c past n place m k A at e))
    (λ code y has. rest_result s n x c.clock past (sought_ends (Client n) x (with_given place) code) E.1 refl refl (no_zero code (sought_none k m.carried code q.gone y) n, tt) q.idle q.idle refl (λ f u found. found))
    (told_result s c past n place x [] E refl refl refl) (told_result s c past n place _ _ E refl refl refl)

pub missed_result : (s : Script) (c : Cell) (past : List Entry) (n : ℕ) (k : Seek) → Env s c past n → (c.clients n).running ≡ None → Result s n (c.clients n) c.clock past (seek_timeout_row (Client n) (c.clients n) k)
missed_result s c past n k E none = either_result (nat_lt (c.clients n).tries 2) s n (c.clients n) c.clock past _ _
    (rest_result s n (c.clients n) c.clock past (seeks_on (Client n) (c.clients n) k) E.1 refl refl tt none none refl (λ f u found. found))
    (rest_result s n (c.clients n) c.clock past (sought_ends (Client n) (c.clients n) (λ ls. timeout_line (Client n) (c.clients n) 3 ∷ ls) dead_code) E.1 refl refl (no_zero dead_code refl n, tt) none none refl (λ f u found. found))

pub fall_result : (s : Script) (c : Cell) (past : List Entry) (n : ℕ) → Env s c past n → Result s n (c.clients n) c.clock past (record { state = reborn c.handed (c.clients n); lines = lines.Crash (Client n) ∷ []; sent = [] })
fall_result s c past n E = record {
  shown = (tt, tt);
  up = λ f. tt;
  quiet = λ nb act now run last. refl;
  zero' = λ act r. absurd cc;
  entries = λ f e found. absurd cc;
}

pub rise_result : (s : Script) (c : Cell) (past : List Entry) (n : ℕ) → Env s c past n → Result s n (c.clients n) c.clock past (record { state = c.clients n; lines = lines.Restart (Client n) (c.clients n).epoch ∷ []; sent = [] })
rise_result s c past n E = quiet_result s n (c.clients n) c.clock past _ E.1 refl refl tt refl refl refl (λ f e found. found)
