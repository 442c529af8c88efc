-- What a client keeps is of servers of its cell; so an act that gives promises back, and has none to give, drops none.
use Rattle.std.specs.Str.{bytes_eq}
use Rattle.law_legal.specs.LocLaws.{IsToldIn}
use Rattle.law_legal.proofs.ActSteps.{IsPlaced, by_quiet, sought_quiet}
use Rattle.afs_num.specs.declared.types.Code.{Code}
use Rattle.spec_history.specs.declared.acts.Operand.{Operand}
use Rattle.spec_history.specs.declared.acts.Operand.TheVariants as operands
use Rattle.spec_history.specs.declared.acts.Act.{Act}
use Rattle.spec_history.specs.declared.lines.Line.{Line}
use Rattle.spec_history.specs.declared.lines.Line.TheVariants as lines
use Rattle.spec_history.specs.declared.scripts.Script.{Script}
use Rattle.spec_history.specs.declared.scripts.VolumeLine.{VolumeLine}
use Rattle.spec_ideal.specs.Operations.{volume_changed}
use Rattle.law_legal.proofs.BaseLaws.{same_node-refl, some_of}
use Rattle.law_legal.proofs.ActFollows.{IsNoGift}
use Rattle.law_legal.proofs.ActWalks.{walked_keeps}
use Rattle.law_legal.specs.Cells.{AreInCell, IsOfCell}
use Rattle.spec_model.specs.Calls as pairs
use Rattle.spec_model.specs.Calls.{Admitted, admitted}
use Rattle.afs_num.specs.Fids.{same_fid}
use Rattle.afs_num.specs.Nodes.{same_node}
use Rattle.afs_num.specs.declared.calls.AfsCallBack.{AfsCallBack}
use Rattle.afs_num.specs.declared.calls.AfsFetchStatus.{AfsFetchStatus}
use Rattle.afs_num.specs.declared.calls.AfsVolSync.{AfsVolSync}
use Rattle.afs_num.specs.declared.calls.FsCall.{FsCall}
use Rattle.afs_num.specs.declared.calls.FsCall.TheVariants as calls
use Rattle.afs_num.specs.declared.calls.FsReply.{FsReply}
use Rattle.afs_num.specs.declared.calls.FsReply.TheVariants as replies
use Rattle.afs_num.specs.declared.histories.Body.{Body}
use Rattle.afs_num.specs.declared.histories.ReadBody.{ReadBody}
use Rattle.afs_num.specs.declared.histories.ReadBody.TheVariants as seen
use Rattle.afs_num.specs.declared.histories.ReadSource.TheVariants.{Fetched}
use Rattle.afs_num.specs.declared.histories.ReadStatus.{ReadStatus}
use Rattle.afs_num.specs.declared.messages.Call.TheVariants as ask
use Rattle.afs_num.specs.declared.messages.Carried.{Carried}
use Rattle.afs_num.specs.declared.messages.Carried.TheVariants as carried
use Rattle.afs_num.specs.declared.messages.Message.{Message}
use Rattle.afs_num.specs.declared.messages.Received.TheVariants.{Whole}
use Rattle.afs_num.specs.declared.messages.Reply.TheVariants as tell
use Rattle.afs_num.specs.declared.types.Fid.{Fid}
use Rattle.afs_num.specs.declared.types.Head.{Head}
use Rattle.afs_num.specs.declared.types.Node.{Node}
use Rattle.afs_num.specs.declared.types.Node.TheVariants.{Admin, Client, Loc, Server}
use Rattle.spec_rows.specs.ClientRow.{Walked, admits_call, asking, awaits, begin_row, begins_by, behind_batch, body_told, breaks, call_by, call_of, callee_by, client_row, counts, dropped, ended, entries_told, cache_entry_told, find_cached, gift_of, gifts_to, with_given, gives_by, goes_by, hears, in_order, is_awaited, stands_below, is_busy_code, is_older, is_spent, is_trusted, joined, left_after, left_in, look_at, looked, most_busy, most_reads, put_entries, put_entry, read_lines, refreshed, runs_carried, home_of, server_or_first, status_told, status_look, takes, takes_bulk, takes_data, takes_entry, takes_given, takes_list, takes_set, takes_shown, takes_status, timeout_row, trusted_in, untrusted_in, used_first, volume_asked, walked, walks_on, whole, with_statuses, asks_where, seeking_for, is_gone_code, most_moved, sought_by, seek_timeout_row, server_for}
use Rattle.spec_rows.specs.Going.{ClientState, Going, Need, answers, began, call_for, gives_back, next, with_read, operand_in, Seek, locates, has_number, base_of}
use Rattle.spec_rows.specs.Runs.{counts_later, location_by, locations, locations_in}
use Rattle.spec_rows.specs.Scopes.{may_change}
use Rattle.spec_rows.specs.States.{CacheEntry, Gift, Location}
use Rattle.spec_rows.specs.Steps.{Step}
use Rattle.std.proofs.Common.{zero, suc, ◌+◌, ◌≡◌, ◌≤◌, ℕ, Bool, true, false, cond, List, [], ◌∷◌, ◌++◌, map, flat_map, Option, Some, None, refl, sym, ap, subst, ◌∙◌, filter, find, take, not, nat_eq, arith}
use Rattle.std.specs.List.{list_any}
use Rattle.std.specs.Prelude.{⊤, ◌&&◌, nat_lt}

-- one of eight servers
abbrev pub IsOurs : Node → Type 0
IsOurs (Server k) = (1 ≤ k) × (k ≤ 8)
IsOurs n = ⊥

abbrev pub AreOurs : List CacheEntry → Type 0
AreOurs [] = ⊤
AreOurs (e ∷ es) = IsOurs e.server × AreOurs es

-- each volume that the client knows is at one
abbrev pub AreNear : ClientState → Type 0
AreNear c = (o : Option Operand) → IsOurs (Server (server_for c.table o))

pub record Ours (c : ClientState) : Type 0 where
  pub cache : AreOurs c.cache
  pub callee : (act : Going) → c.running ≡ Some act → (next act ≡ gives_back → ⊥) → IsOurs c.callee

-- ---- the cache

ours_if : (t : Bool) (e : CacheEntry) (es : List CacheEntry) → IsOurs e.server → AreOurs es → AreOurs (cond t (e ∷ es) es)
ours_if true e es h k = (h, k)
ours_if false e es h k = k

ours_filter : (p : CacheEntry → Bool) (es : List CacheEntry) → AreOurs es → AreOurs (filter p es)
ours_filter p [] h = tt
ours_filter p (e ∷ es) h = ours_if (p e) e (filter p es) h.0 (ours_filter p es h.1)

ours_take : (k : ℕ) (es : List CacheEntry) → AreOurs es → AreOurs (take k es)
ours_take zero es h = tt
ours_take (suc k) [] h = tt
ours_take (suc k) (e ∷ es) h = (h.0, ours_take k es h.1)

ours_first : (e : CacheEntry) (cache : List CacheEntry) → IsOurs e.server → AreOurs cache → AreOurs (used_first e cache)
ours_first e cache h k = (h, ours_filter (λ x. not (same_fid x.fid e.fid)) cache k)

ours_put : (capacity : ℕ) (e : CacheEntry) (cache : List CacheEntry) → IsOurs e.server → AreOurs cache → AreOurs (put_entry capacity e cache)
ours_put capacity e cache h k = ours_take capacity (used_first (joined e cache) cache) (ours_first (joined e cache) cache h k)

ours_puts : (capacity : ℕ) (es cache : List CacheEntry) → AreOurs es → AreOurs cache → AreOurs (put_entries capacity es cache)
ours_puts capacity [] cache h k = k
ours_puts capacity (e ∷ es) cache h k = ours_puts capacity es (put_entry capacity e cache) h.1 (ours_put capacity e cache h.0 k)

either_ours : (t : Bool) (a b : CacheEntry) → IsOurs a.server → IsOurs b.server → IsOurs (cond t a b).server
either_ours true a b h k = h
either_ours false a b h k = k

ours_refreshed : (clock : ℕ) (f : Fid) (index : ℕ) (status : ReadStatus) (made : Option Body → Option Body) (es : List CacheEntry) → AreOurs es → AreOurs (map (refreshed clock f index status made) es)
ours_refreshed clock f index status made [] h = tt
ours_refreshed clock f index status made (e ∷ es) h = (either_ours (same_fid e.fid f && is_trusted clock e) _ e h.0 h.0, ours_refreshed clock f index status made es h.1)

ours_left : (o : Option ℕ) (es : List CacheEntry) → AreOurs es → AreOurs (left_in o es)
ours_left None es h = h
ours_left (Some id) es h = ours_filter (λ e. not (nat_eq e.fid.volume id)) es h

found_by : (t : Bool) (x : CacheEntry) (o : Option CacheEntry) (e : CacheEntry) → IsOurs x.server → cond t (Some x) o ≡ Some e → (o ≡ Some e → IsOurs e.server) → IsOurs e.server
found_by true x o e h q w = subst (λ (y : CacheEntry). IsOurs y.server) (some_of x e q) h
found_by false x o e h q w = w q

ours_found : (f : Fid) (cache : List CacheEntry) (e : CacheEntry) → AreOurs cache → find_cached f cache ≡ Some e → IsOurs e.server
ours_found f [] e h q = absurd cc
ours_found f (x ∷ cache) e h q = found_by (same_fid x.fid f) x (find_cached f cache) e h.0 q (ours_found f cache e h.1)

ours_told : (server : Node) (sync : AfsVolSync) (fs : List Fid) (ss : List AfsFetchStatus) (cs : List AfsCallBack) → IsOurs server → AreOurs (entries_told server sync fs ss cs)
ours_told server sync [] ss cs h = tt
ours_told server sync (f ∷ fs) [] cs h = tt
ours_told server sync (f ∷ fs) (s ∷ ss) [] h = tt
ours_told server sync (f ∷ fs) (s ∷ ss) (c ∷ cs) h = (h, ours_told server sync fs ss cs h)

walked_ours : (k clock : ℕ) (act : Going) (cache : List CacheEntry) → AreOurs cache → AreOurs (walked k clock act cache).cache
walked_ours k clock act cache h = walked_keeps AreOurs (λ f u es found x. ours_first u es (ours_found u.fid es u x found) x) k clock act cache h

-- ---- ways of a step

callee_ours : (y : ClientState) (act : Going) (need : Need) → AreNear y → (need ≡ gives_back → ⊥) → IsOurs (callee_by y act need)
callee_ours y act gives_back t k = absurd (k refl)
callee_ours y act need t k = t (operand_in act (volume_asked (call_for need)))

asks_ours : (y : ClientState) (act : Going) → AreNear y → AreOurs y.cache → Ours (asking y act)
asks_ours y act t h = record { cache = h; callee = λ a r k. callee_ours y act (next act) t (λ z. k (ap next (sym (some_of act a r)) ∙ z)) }

ends_ours : (y : ClientState) (cache : List CacheEntry) → AreOurs cache → Ours (ended y cache)
ends_ours y cache h = record { cache = h; callee = λ a r. absurd cc }

-- it waits for no server
seeks_ours : (y : ClientState) (k : Seek) (cache : List CacheEntry) → AreOurs cache → Ours (seeking_for y k cache)
seeks_ours y k cache h = record { cache = h; callee = λ a r. absurd cc }

same_ours : (c y : ClientState) → Ours c → y.running ≡ c.running → y.callee ≡ c.callee → AreOurs y.cache → Ours y
same_ours c y h r q k = record { cache = k; callee = λ a e z. subst IsOurs (sym q) (h.callee a (sym r ∙ e) z) }

goes_ours : (n : ℕ) (y : ClientState) (front : List Line → List Line) (w : Walked) (need : Need) → AreNear y → AreOurs w.cache → Ours (goes_by (Client n) y front w need).state
goes_ours n y front w (answers k) t h = ends_ours y w.cache h
goes_ours n y front w (locates o) t h = seeks_ours y _ w.cache h
goes_ours n y front w need t h = asks_ours (record y { cache = w.cache }) w.act t h

walks_ours : (n clock : ℕ) (y : ClientState) (front : List Line → List Line) (act : Going) (cache : List CacheEntry) → AreNear y → AreOurs cache → Ours (walks_on (Client n) y clock front act cache).state
walks_ours n clock y front act cache t h = let w : Walked = walked (most_reads act) clock act cache in goes_ours n y front w (next w.act) t (walked_ours (most_reads act) clock act cache h)

either_state : (t : Bool) (a b : Step ClientState) → Ours a.state → Ours b.state → Ours (cond t a b).state
either_state true a b h k = h
either_state false a b h k = k

-- a call that gives nothing back is to one of them
callee_is : (c : ClientState) (act : Going) (call : FsCall) → Ours c → c.running ≡ Some act → call_of c act ≡ call → IsNoGift call → IsOurs c.callee
callee_is c act call h r same plain = h.callee act r (λ z. subst IsNoGift (sym same ∙ ap (call_by c.gifts) z) plain)

-- ---- replies

plain_ours : (c : ClientState) (call : FsCall) → Ours c → Ours (ended c (left_after call c.cache))
plain_ours c call h = ends_ours c (left_after call c.cache) (ours_filter (λ e. not (may_change call e.fid)) c.cache h.cache)

entry_ours : (n clock place : ℕ) (c : ClientState) (act : Going) (e : CacheEntry) (body : ReadBody) → AreNear c → Ours c → IsOurs e.server → Ours (takes_entry (Client n) c clock place act e body).state
entry_ours n clock place c act e body t h x = either_state (is_trusted clock e) _ _ (walks_ours n clock c (read_lines (Client n) place (look_at Fetched e body)) (with_read e.fid body act) (put_entry c.capacity e c.cache) t (ours_put c.capacity e c.cache x h.cache)) (asks_ours c act t h.cache)

data_ours : (n clock place : ℕ) (c : ClientState) (act : Going) (contents : List ℕ) (status : AfsFetchStatus) (callback : AfsCallBack) (sync : AfsVolSync) (call : FsCall) → AreNear c → Ours c → c.running ≡ Some act → call_of c act ≡ call → Ours (takes_data (Client n) c clock place act contents status callback sync call).state
data_ours n clock place c act contents status callback sync (calls.FetchData f position wanted) t h r same =
    entry_ours n clock place c act (cache_entry_told c.callee f status callback sync (Some (body_told status.file_type contents))) (seen.Contents (body_told status.file_type contents)) t h (callee_is c act (calls.FetchData f position wanted) h r same tt)
data_ours n clock place c act contents status callback sync call t h r same = plain_ours c call h

shown_ours : (n clock place : ℕ) (c : ClientState) (act : Going) (status : AfsFetchStatus) (callback : AfsCallBack) (sync : AfsVolSync) (call : FsCall) → AreNear c → Ours c → c.running ≡ Some act → call_of c act ≡ call → Ours (takes_shown (Client n) c clock place act status callback sync call).state
shown_ours n clock place c act status callback sync (calls.FetchStatus f) t h r same =
    entry_ours n clock place c act (cache_entry_told c.callee f status callback sync None) (seen.Status (status_told status)) t h (callee_is c act (calls.FetchStatus f) h r same tt)
shown_ours n clock place c act status callback sync call t h r same = plain_ours c call h

list_ours : (n clock place : ℕ) (c : ClientState) (act : Going) (text : List ℕ) (status : AfsFetchStatus) (sync : AfsVolSync) (call : FsCall) → AreNear c → Ours c → Ours (takes_list (Client n) c clock place act text status sync call).state
list_ours n clock place c act text status sync (calls.FetchAcl f) t h =
    let left : List CacheEntry = filter (λ e. not (is_older f status.sync_counter sync.release e)) c.cache in
    walks_ours n clock c (λ ls. read_lines (Client n) place (record { fid = f; index = status.sync_counter; source = Fetched; body = seen.AccessList text }) (dropped (Client n) (filter (is_older f status.sync_counter sync.release) c.cache) ls)) (with_read f (seen.AccessList text) act) left t (ours_filter (λ e. not (is_older f status.sync_counter sync.release e)) c.cache h.cache)
list_ours n clock place c act text status sync call t h = plain_ours c call h

stored_ours : (clock : ℕ) (c : ClientState) (f : Fid) (index : ℕ) (status : ReadStatus) (made : Option Body → Option Body) → Ours c → Ours (ended c (map (refreshed clock f index status made) c.cache))
stored_ours clock c f index status made h = ends_ours c (map (refreshed clock f index status made) c.cache) (ours_refreshed clock f index status made c.cache h.cache)

status_ours : (n clock place : ℕ) (c : ClientState) (f : Fid) (status : AfsFetchStatus) (call : FsCall) → Ours c → Ours (takes_status (Client n) c clock place f status call).state
status_ours n clock place c f status call h = either_state (not c.spoiled && stands_below clock status.sync_counter (find_cached f c.cache)) _ _ (stored_ours clock c f _ _ _ h) (plain_ours c call h)

set_ours : (n clock place : ℕ) (c : ClientState) (status : AfsFetchStatus) (call : FsCall) → Ours c → Ours (takes_set (Client n) c clock place status call).state
set_ours n clock place c status (calls.StoreData f set position wanted file_length contents) h = either_state c.spoiled _ _ (plain_ours c (calls.StoreData f set position wanted file_length contents) h) (stored_ours clock c f _ _ _ h)
set_ours n clock place c status (calls.StoreAcl f acl) h = status_ours n clock place c f status (calls.StoreAcl f acl) h
set_ours n clock place c status (calls.StoreStatus f set) h = status_ours n clock place c f status (calls.StoreStatus f set) h
set_ours n clock place c status call h = plain_ours c call h

bulk_ours : (n clock place : ℕ) (c : ClientState) (act : Going) (statuses : List AfsFetchStatus) (callbacks : List AfsCallBack) (sync : AfsVolSync) (call : FsCall) → AreNear c → Ours c → c.running ≡ Some act → call_of c act ≡ call → Ours (takes_bulk (Client n) c clock place act statuses callbacks sync call).state
bulk_ours n clock place c act statuses callbacks sync (calls.BulkStatus fids) t h r same =
    let es : List CacheEntry = entries_told c.callee sync fids statuses callbacks in
    either_state (list_any (λ e. not (is_trusted clock e)) es) _ _ (asks_ours c act t h.cache) (walks_ours n clock c (λ ls. with_given place (looked (Client n) (map status_look es) ls)) (with_statuses es act) (put_entries c.capacity es c.cache) t (ours_puts c.capacity es c.cache (ours_told c.callee sync fids statuses callbacks (callee_is c act (calls.BulkStatus fids) h r same tt)) h.cache))
bulk_ours n clock place c act statuses callbacks sync call t h r same = plain_ours c call h

gives_ours : (n : ℕ) (y : ClientState) (front : List Line → List Line) (act : Going) (gs : List Gift) → AreNear y → AreOurs y.cache → Ours (gives_by (Client n) y front act gs).state
gives_ours n y front act [] t h = ends_ours y y.cache h
gives_ours n y front act (g ∷ gs) t h = asks_ours (record y { gifts = g ∷ gs }) act t h

given_ours : (n place : ℕ) (c : ClientState) (act : Going) (call : FsCall) → AreNear c → Ours c → Ours (takes_given (Client n) c place act call).state
given_ours n place c act (calls.GiveUpCallBacks fids callbacks) t h = gives_ours n c (with_given place) act (behind_batch c.gifts) t h.cache
given_ours n place c act call t h = plain_ours c call h

takes_ours : (n clock place : ℕ) (c : ClientState) (act : Going) (call : FsCall) (reply : FsReply) → AreNear c → Ours c → c.running ≡ Some act → call_of c act ≡ call → Ours (takes (Client n) c clock place act call reply).state
takes_ours n clock place c act call (replies.FetchData contents status callback sync) t h r same = data_ours n clock place c act contents status callback sync call t h r same
takes_ours n clock place c act call (replies.FetchAcl text status sync) t h r same = list_ours n clock place c act text status sync call t h
takes_ours n clock place c act call (replies.FetchStatus status callback sync) t h r same = shown_ours n clock place c act status callback sync call t h r same
takes_ours n clock place c act call (replies.StoreData status sync) t h r same = set_ours n clock place c status call h
takes_ours n clock place c act call (replies.StoreAcl status sync) t h r same = set_ours n clock place c status call h
takes_ours n clock place c act call (replies.StoreStatus status sync) t h r same = set_ours n clock place c status call h
takes_ours n clock place c act call (replies.BulkStatus statuses callbacks sync) t h r same = bulk_ours n clock place c act statuses callbacks sync call t h r same
takes_ours n clock place c act call replies.GiveUpCallBacks t h r same = given_ours n place c act call t h
takes_ours n clock place c act call reply t h r same = plain_ours c call h

where_ours : (n place : ℕ) (c : ClientState) (act : Going) (code : Code) (o : Option Operand) → Ours c → Ours (asks_where (Client n) c place act code o).state
where_ours n place c act code None h = ends_ours c c.cache h.cache
where_ours n place c act code (Some o) h = seeks_ours (record c { moved = c.moved + 1 }) _ c.cache h.cache

counts_ours : (n clock place : ℕ) (c : ClientState) (act : Going) (head : Head) (x : Carried) → AreNear c → Ours c → c.running ≡ Some act → Ours (counts (Client n) c clock place act head x).state
counts_ours n clock place c act head (carried.Call user call) t h r = h
counts_ours n clock place c act head (carried.Refusal code) t h r =
    either_state (is_spent c act) _ _ (asks_ours c act t h.cache) (either_state (is_busy_code code && nat_lt c.busy most_busy) _ _ (asks_ours (record c { busy = c.busy + 1 }) act t h.cache) (either_state (is_gone_code code && nat_lt c.moved most_moved) _ _ (where_ours n place c act code (operand_in act (volume_asked (call_of c act))) h) (ends_ours c c.cache h.cache)))
counts_ours n clock place c act head (carried.Reply (tell.File reply)) t h r = either_state (is_spent c act) _ _ (asks_ours c act t h.cache) (takes_ours n clock place c act (call_of c act) reply t h r refl)
counts_ours n clock place c act head (carried.Reply reply) t h r = h
counts_ours n clock place c act head carried.Notice t h r = record { cache = h.cache; callee = h.callee }

awaits_ours : (n clock place : ℕ) (c : ClientState) (head : Head) (x : Carried) (o : Option Going) → AreNear c → Ours c → c.running ≡ o → Ours (awaits (Client n) c clock place head x o).state
awaits_ours n clock place c head x None t h r = h
awaits_ours n clock place c head x (Some act) t h r = either_state (is_awaited c act head) _ _ (counts_ours n clock place c act head x t h r) h

-- ---- calls to it

breaks_ours : (n place : ℕ) (c : ClientState) (head : Head) (call : FsCall) → Ours c → Ours (breaks (Client n) c place head call).state
breaks_ours n place c head (calls.CallBack fs callbacks) h = same_ours c _ h refl refl (ours_filter _ c.cache h.cache)
breaks_ours n place c head calls.InitCallBackState h = same_ours c _ h refl refl (ours_filter _ c.cache h.cache)
breaks_ours n place c head calls.Probe h = same_ours c _ h refl refl h.cache
breaks_ours n place c head call h = same_ours c _ h refl refl h.cache

carried_ours : (n place : ℕ) (c : ClientState) (head : Head) (x : Carried) → Ours c → Ours (runs_carried (Client n) c place head x).state
carried_ours n place c head (carried.Call user (ask.File call)) h = breaks_ours n place c head call h
carried_ours n place c head (carried.Call user call) h = same_ours c _ h refl refl h.cache
carried_ours n place c head x h = h

admits_ours : (n place : ℕ) (c : ClientState) (head : Head) (x : Carried) (o : Admitted Message) → Ours c → Ours (admits_call (Client n) c place head (whole head x) o).state
admits_ours n place c head x pairs.runs h = carried_ours n place c head x h
admits_ours n place c head x (pairs.kept reply) h = h
admits_ours n place c head x pairs.in_progress h = h
admits_ours n place c head x pairs.older h = h
admits_ours n place c head x (pairs.wrong_boot boot) h = h

hears_ours : (n clock place : ℕ) (c : ClientState) (head : Head) (x : Carried) → AreNear c → Ours c → Ours (hears (Client n) c clock place head x).state
hears_ours n clock place c head (carried.Call user call) t h = admits_ours n place c head (carried.Call user call) (admitted c.epoch c.seats head) h
hears_ours n clock place c head x t h = awaits_ours n clock place c head x c.running t h refl

-- ---- its steps

pub given_our : (n clock place : ℕ) (c : ClientState) (m : Message) → AreNear c → Ours c → Ours (client_row (Client n) c clock place (Whole m)).state
unfolding client_row
given_our n clock place c m t h = either_state (same_node m.head.to (Client n)) _ _ (hears_ours n clock place c m.head m.carried t h) h

first_ours : (n clock : ℕ) (y : ClientState) (front : List Line → List Line) (act : Going) (need : Need) → AreNear y → AreOurs y.cache → Ours (begins_by (Client n) y clock front act need).state
first_ours n clock y front act gives_back t h = gives_ours n (record y { cache = untrusted_in clock y.cache }) (λ ls. front (dropped (Client n) (trusted_in clock y.cache) ls)) act (in_order (map gift_of (trusted_in clock y.cache))) t (ours_filter (λ e. not (is_trusted clock e)) y.cache h)
first_ours n clock y front act need t h = walks_ours n clock y front act y.cache t h

pub begins_our : (n clock : ℕ) (c : ClientState) (act : Act) → AreNear c → Ours c → Ours (begin_row (Client n) c clock act).state
unfolding begin_row
begins_our n clock c act t h = first_ours n clock (record c { busy = 0; moved = 0 }) (λ ls. lines.Begin (Client n) act ∷ ls) (began c.table act) (next (began c.table act)) t h.cache

pub sought_our : (S : Script) (n clock place : ℕ) (c : ClientState) (k : Seek) (m : Message) → IsPlaced S c k → IsToldIn S m.carried → Ours c → Ours (sought_by (Client n) c clock place k m.head m.carried).state
sought_our S n clock place c k m p w h =
    by_quiet (λ st. Ours st.state) n c place k m.head m.carried (sought_by (Client n) c clock place k m.head m.carried) (sought_quiet S n c clock place k m.head m.carried p w)
    (λ code y z. record { cache = h.cache; callee = h.callee }) h (record { cache = h.cache; callee = h.callee })

pub missed_our : (n : ℕ) (c : ClientState) (k : Seek) → Ours c → Ours (seek_timeout_row (Client n) c k).state
missed_our n c k h = either_state (nat_lt c.tries 2) _ _ (record { cache = h.cache; callee = h.callee }) (record { cache = h.cache; callee = h.callee })

pub waits_our : (n : ℕ) (c : ClientState) (act : Going) → Ours c → Ours (timeout_row (Client n) c act).state
waits_our n c act h = either_state (nat_lt c.tries 2) _ _ (record { cache = h.cache; callee = h.callee }) (ends_ours c _ (ours_left (volume_changed (call_of c act)) c.cache h.cache))

-- ---- where nothing is given back nothing was trusted

abbrev AreNone : List Gift → List ℕ → Type 0
AreNone gs [] = ⊤
AreNone gs (k ∷ ks) = (gifts_to gs k ≡ []) × AreNone gs ks

none_left : (a b : List Gift) → a ++ b ≡ [] → (a ≡ []) × (b ≡ [])
none_left [] b e = (refl, e)
none_left (g ∷ a) b e = absurd cc

none_to : (gs : List Gift) (ks : List ℕ) → flat_map (gifts_to gs) ks ≡ [] → AreNone gs ks
none_to gs [] e = tt
none_to gs (k ∷ ks) e = let q = none_left (gifts_to gs k) (flat_map (gifts_to gs) ks) e in (q.0, none_to gs ks q.1)

none_at : (gs : List Gift) (k : ℕ) → 1 ≤ k → k ≤ 8 → AreNone gs (1 ∷ 2 ∷ 3 ∷ 4 ∷ 5 ∷ 6 ∷ 7 ∷ 8 ∷ []) → gifts_to gs k ≡ []
none_at gs zero a b h = absurd (omega arith)
none_at gs (suc zero) a b h = h.0
none_at gs (suc (suc zero)) a b h = h.1.0
none_at gs (suc (suc (suc zero))) a b h = h.1.1.0
none_at gs (suc (suc (suc (suc zero)))) a b h = h.1.1.1.0
none_at gs (suc (suc (suc (suc (suc zero))))) a b h = h.1.1.1.1.0
none_at gs (suc (suc (suc (suc (suc (suc zero)))))) a b h = h.1.1.1.1.1.0
none_at gs (suc (suc (suc (suc (suc (suc (suc zero))))))) a b h = h.1.1.1.1.1.1.0
none_at gs (suc (suc (suc (suc (suc (suc (suc (suc zero)))))))) a b h = h.1.1.1.1.1.1.1.0
none_at gs (suc (suc (suc (suc (suc (suc (suc (suc (suc k))))))))) a b h = absurd (omega arith)

some_given : (g : Gift) (gs : List Gift) (n : Node) → g.server ≡ n → IsOurs n → in_order (g ∷ gs) ≡ [] → ⊥
some_given g gs (Server k) e h none =
    let no_ : gifts_to (g ∷ gs) k ≡ [] = none_at (g ∷ gs) k h.0 h.1 (none_to (g ∷ gs) (1 ∷ 2 ∷ 3 ∷ 4 ∷ 5 ∷ 6 ∷ 7 ∷ 8 ∷ []) none) in
    let yes : gifts_to (g ∷ gs) k ≡ g ∷ gifts_to gs k = ap (λ (t : Bool). cond t (g ∷ gifts_to gs k) (gifts_to gs k)) (ap (λ (q : Node). same_node q (Server k)) e ∙ same_node-refl (Server k)) in
    let both_ : g ∷ gifts_to gs k ≡ [] = sym yes ∙ no_ in absurd cc
some_given g gs (Client j) e h none = h
some_given g gs (Admin j) e h none = h
some_given g gs Loc e h none = h

pub none_trusted : (es : List CacheEntry) → AreOurs es → in_order (map gift_of es) ≡ [] → es ≡ []
none_trusted [] h e = refl
none_trusted (x ∷ es) h e = absurd (some_given (gift_of x) (map gift_of es) x.server refl h.0 e)

pub trusted_ours' : (clock : ℕ) (es : List CacheEntry) → AreOurs es → AreOurs (trusted_in clock es)
trusted_ours' clock es h = ours_filter (is_trusted clock) es h

-- ---- what the script has

abbrev AreAt : List Location → Type 0
AreAt [] = ⊤
AreAt (l ∷ ls) = IsOurs (Server (home_of l)) × AreAt ls

located : (t : Bool) (v : VolumeLine) (ls : List Location) → IsOurs (Server v.server) → AreAt ls → AreAt (location_by t v ls)
located true v ls h k = k
located false v ls h k = (h, k)

all_located : (n : ℕ) (vs : List VolumeLine) → n ≤ 8 → AreInCell n vs → AreAt (locations_in vs)
all_located n [] le h = tt
all_located n (v ∷ vs) le h = located (counts_later v.id vs) v (locations_in vs) (h.0.0, (let a : v.server ≤ n = h.0.1 in omega arith)) (all_located n vs le h.1)

near_by : (t : Bool) (l : Location) (o : Option Location) → IsOurs (Server (home_of l)) → IsOurs (Server (server_or_first o)) → IsOurs (Server (server_or_first (cond t (Some l) o)))
near_by true l o h k = h
near_by false l o h k = k

near_in : (test : Location → Bool) (ls : List Location) → AreAt ls → IsOurs (Server (server_or_first (find test ls)))
near_in test [] h = (omega arith, omega arith)
near_in test (l ∷ ls) h = near_by (test l) l (find test ls) h.0 (near_in test ls h.1)

near_for : (ls : List Location) (o : Option Operand) → AreAt ls → IsOurs (Server (server_for ls o))
near_for ls None h = (omega arith, omega arith)
near_for ls (Some (operands.Path p)) h = near_in (λ l. bytes_eq l.name (base_of p.volume)) ls h
near_for ls (Some (operands.Fid f)) h = near_in (has_number f.volume) ls h

pub near_all : (s : Script) → IsOfCell s → (o : Option Operand) → IsOurs (Server (server_for (locations s) o))
near_all s h o = near_for (locations s) o (all_located s.servers s.volumes h.servers h.volumes)
