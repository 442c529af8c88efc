-- What a client keeps is of the servers of its volumes, and so is what it gives back; and an act that gives promises back has some to give.
use Rattle.law_legal.proofs.ActCallsInRuns.{quietly, placed_in, told_in}
use Rattle.law_legal.proofs.ActCalls.{AskedIn}
use Rattle.spec_history.specs.declared.acts.Operand.{Operand}
use Rattle.law_legal.proofs.ActLines.{runs_act}
use Rattle.afs_num.specs.declared.types.Code.{Code}
use Rattle.spec_history.specs.declared.acts.Act.{Act}
use Rattle.spec_history.specs.declared.acts.Act.TheVariants as acts
use Rattle.spec_history.specs.declared.lines.Line.{Line}
use Rattle.spec_history.specs.declared.lines.Line.TheVariants as lines
use Rattle.spec_history.specs.declared.scripts.Script.{Script}
use Rattle.spec_ideal.specs.Operations.{volume_changed}
use Rattle.law_legal.proofs.ClientCallsAtHome.{Addressed, AsksOf, IsOneIn, asked_at, gives_is, homes_first, homes_kept}
use Rattle.law_legal.proofs.BaseLaws.{at_put, each_at, same_node-refl, same_node-true, some_of}
use Rattle.law_legal.proofs.ServerRefusesForGood.{IsFirm}
use Rattle.law_legal.proofs.ActFollows.{AreOpen, Follows, IsNoGift, begins_follow, falls_follow, given_follow, rises_follow, waits_follow, sought_follow, missed_follow}
use Rattle.law_legal.proofs.ActNamesVolumes.{running_homes}
use Rattle.law_legal.proofs.RunWalk.{Behind, EachMove, IsKept, each_moved}
use Rattle.law_legal.proofs.ActNeedsNext.{asks_change}
use Rattle.law_legal.proofs.ActWalks.{statuses_act, walked_act, walked_keeps}
use Rattle.law_legal.specs.Ideal.{IsPutAt, set_up_entry}
use Rattle.law_legal.specs.Legal.{GivesSome, IsOpen}
use Rattle.law_legal.specs.Past.{lines_of}
use Rattle.spec_model.specs.Calls as pairs
use Rattle.spec_model.specs.Calls.{Admitted, admitted}
use Rattle.afs_num.specs.Fids.{same_fid}
use Rattle.afs_num.specs.Nodes.{same_node}
use Rattle.afs_num.specs.declared.calls.AfsCallBack.{AfsCallBack}
use Rattle.afs_num.specs.declared.calls.AfsFetchStatus.{AfsFetchStatus}
use Rattle.afs_num.specs.declared.calls.AfsVolSync.{AfsVolSync}
use Rattle.afs_num.specs.declared.calls.FsCall.{FsCall}
use Rattle.afs_num.specs.declared.calls.FsCall.TheVariants as calls
use Rattle.afs_num.specs.declared.calls.FsReply.{FsReply}
use Rattle.afs_num.specs.declared.calls.FsReply.TheVariants as replies
use Rattle.afs_num.specs.declared.histories.Body.{Body}
use Rattle.afs_num.specs.declared.histories.ReadBody.{ReadBody}
use Rattle.afs_num.specs.declared.histories.ReadBody.TheVariants as seen
use Rattle.afs_num.specs.declared.histories.ReadSource.TheVariants.{Fetched}
use Rattle.afs_num.specs.declared.histories.ReadStatus.{ReadStatus}
use Rattle.afs_num.specs.declared.messages.Call.TheVariants as ask
use Rattle.afs_num.specs.declared.messages.Carried.{Carried}
use Rattle.afs_num.specs.declared.messages.Carried.TheVariants as carried
use Rattle.afs_num.specs.declared.messages.Message.{Message}
use Rattle.afs_num.specs.declared.messages.Received.TheVariants.{Whole}
use Rattle.afs_num.specs.declared.messages.Reply.TheVariants as tell
use Rattle.afs_num.specs.declared.types.Fid.{Fid}
use Rattle.afs_num.specs.declared.types.Head.{Head}
use Rattle.afs_num.specs.declared.types.Node.{Node}
use Rattle.afs_num.specs.declared.types.Node.TheVariants.{Client, Server}
use Rattle.spec_rows.specs.Callbacks.{put}
use Rattle.spec_rows.specs.ClientRow.{Walked, admits_call, asking, awaits, batch, batch_to, begin_row, begins_by, behind_batch, body_told, breaks, call_by, call_of, callee_by, client_row, counts, dropped, ended, entries_told, cache_entry_told, find_cached, first_server_of, gift_of, gifts_to, with_given, gives_by, goes_by, hears, in_order, is_awaited, stands_below, is_busy_code, is_older, is_spent, is_trusted, joined, left_after, left_in, look_at, looked, most_busy, most_given, most_reads, put_entries, put_entry, read_lines, reborn, refreshed, runs_carried, status_look, status_told, takes, takes_bulk, takes_data, takes_entry, takes_given, takes_list, takes_set, takes_shown, takes_status, timeout_row, trusted_in, untrusted_in, used_first, walked, walks_on, whole, with_statuses, seeking_for, asks_where, volume_asked, is_gone_code, most_moved}
use Rattle.spec_rows.specs.Going.{ClientState, Going, Need, answers, asks_for, began, gives_back, locates, next, reads, reads_rights, reads_status, reads_statuses, with_read, Seek, operand_in}
use Rattle.spec_rows.specs.Runs.{Cell, Entry, start}
use Rattle.spec_rows.specs.Scopes.{may_change}
use Rattle.spec_rows.specs.States.{CacheEntry, Gift, Location}
use Rattle.spec_rows.specs.Steps.{Step}
use Rattle.std.proofs.Common.{zero, suc, ◌+◌, ◌≡◌, ℕ, inl, inr, Bool, true, false, cond, List, [], ◌∷◌, ◌++◌, map, flat_map, Option, Some, None, refl, sym, ap, subst, ◌∙◌, filter, take, drop, length, not, nat_eq}
use Rattle.std.specs.List.{list_any}
use Rattle.std.specs.Prelude.{⊤, ◌&&◌, nat_lt}

-- `P` tells of a volume and a node that the one is at the other

abbrev pub AreKept : (ℕ → Node → Type 0) → List CacheEntry → Type 0
AreKept P [] = ⊤
AreKept P (e ∷ es) = P e.fid.volume e.server × AreKept P es

abbrev pub AreGiven : (ℕ → Node → Type 0) → List Gift → Type 0
AreGiven P [] = ⊤
AreGiven P (g ∷ gs) = P g.fid.volume g.server × AreGiven P gs

-- an act that gives promises back has some to give
abbrev pub HasGifts : ClientState → Type 0
HasGifts c = (act : Going) → c.running ≡ Some act → act.act ≡ acts.GiveUp → c.gifts ≡ [] → ⊥

pub record Homed (P : ℕ → Node → Type 0) (c : ClientState) : Type 0 where
  pub cache : AreKept P c.cache
  pub gifts : AreGiven P c.gifts
  pub some : HasGifts c

-- the volumes of which the call that it waits for asks are at its callee
abbrev pub AsksHome : (ℕ → Node → Type 0) → ClientState → Type 0
AsksHome P c = (act : Going) → c.running ≡ Some act → (id : ℕ) → AsksOf (call_of c act) id → P id c.callee

-- ---- the cache

kept_if : (P : ℕ → Node → Type 0) (t : Bool) (e : CacheEntry) (es : List CacheEntry) → P e.fid.volume e.server → AreKept P es → AreKept P (cond t (e ∷ es) es)
kept_if P true e es h k = (h, k)
kept_if P false e es h k = k

kept_filter : (P : ℕ → Node → Type 0) (p : CacheEntry → Bool) (es : List CacheEntry) → AreKept P es → AreKept P (filter p es)
kept_filter P p [] h = tt
kept_filter P p (e ∷ es) h = kept_if P (p e) e (filter p es) h.0 (kept_filter P p es h.1)

kept_take : (P : ℕ → Node → Type 0) (k : ℕ) (es : List CacheEntry) → AreKept P es → AreKept P (take k es)
kept_take P zero es h = tt
kept_take P (suc k) [] h = tt
kept_take P (suc k) (e ∷ es) h = (h.0, kept_take P k es h.1)

kept_first : (P : ℕ → Node → Type 0) (e : CacheEntry) (cache : List CacheEntry) → P e.fid.volume e.server → AreKept P cache → AreKept P (used_first e cache)
kept_first P e cache h k = (h, kept_filter P (λ x. not (same_fid x.fid e.fid)) cache k)

kept_put : (P : ℕ → Node → Type 0) (capacity : ℕ) (e : CacheEntry) (cache : List CacheEntry) → P e.fid.volume e.server → AreKept P cache → AreKept P (put_entry capacity e cache)
kept_put P capacity e cache h k = kept_take P capacity (used_first (joined e cache) cache) (kept_first P (joined e cache) cache h k)

kept_puts : (P : ℕ → Node → Type 0) (capacity : ℕ) (es cache : List CacheEntry) → AreKept P es → AreKept P cache → AreKept P (put_entries capacity es cache)
kept_puts P capacity [] cache h k = k
kept_puts P capacity (e ∷ es) cache h k = kept_puts P capacity es (put_entry capacity e cache) h.1 (kept_put P capacity e cache h.0 k)

either_kept : (P : ℕ → Node → Type 0) (t : Bool) (a b : CacheEntry) → P a.fid.volume a.server → P b.fid.volume b.server → P (cond t a b).fid.volume (cond t a b).server
either_kept P true a b h k = h
either_kept P false a b h k = k

kept_refreshed : (P : ℕ → Node → Type 0) (clock : ℕ) (f : Fid) (index : ℕ) (status : ReadStatus) (made : Option Body → Option Body) (es : List CacheEntry) → AreKept P es → AreKept P (map (refreshed clock f index status made) es)
kept_refreshed P clock f index status made [] h = tt
kept_refreshed P clock f index status made (e ∷ es) h = (either_kept P (same_fid e.fid f && is_trusted clock e) _ e h.0 h.0, kept_refreshed P clock f index status made es h.1)

kept_left : (P : ℕ → Node → Type 0) (o : Option ℕ) (es : List CacheEntry) → AreKept P es → AreKept P (left_in o es)
kept_left P None es h = h
kept_left P (Some id) es h = kept_filter P (λ e. not (nat_eq e.fid.volume id)) es h

found_by : (P : ℕ → Node → Type 0) (t : Bool) (x : CacheEntry) (o : Option CacheEntry) (e : CacheEntry) → P x.fid.volume x.server → cond t (Some x) o ≡ Some e → (o ≡ Some e → P e.fid.volume e.server) → P e.fid.volume e.server
found_by P true x o e h q w = subst (λ (y : CacheEntry). P y.fid.volume y.server) (some_of x e q) h
found_by P false x o e h q w = w q

pub kept_found : (P : ℕ → Node → Type 0) (f : Fid) (cache : List CacheEntry) (e : CacheEntry) → AreKept P cache → find_cached f cache ≡ Some e → P e.fid.volume e.server
kept_found P f [] e h q = absurd cc
kept_found P f (x ∷ cache) e h q = found_by P (same_fid x.fid f) x (find_cached f cache) e h.0 q (kept_found P f cache e h.1)

kept_told : (P : ℕ → Node → Type 0) (server : Node) (sync : AfsVolSync) (fs : List Fid) (ss : List AfsFetchStatus) (cs : List AfsCallBack) → ((id : ℕ) → IsOneIn id fs → P id server) → AreKept P (entries_told server sync fs ss cs)
kept_told P server sync [] ss cs h = tt
kept_told P server sync (f ∷ fs) [] cs h = tt
kept_told P server sync (f ∷ fs) (s ∷ ss) [] h = tt
kept_told P server sync (f ∷ fs) (s ∷ ss) (c ∷ cs) h = (h f.volume (inl refl), kept_told P server sync fs ss cs (λ id x. h id (inr x)))

walked_kept : (P : ℕ → Node → Type 0) (k clock : ℕ) (act : Going) (cache : List CacheEntry) → AreKept P cache → AreKept P (walked k clock act cache).cache
walked_kept P k clock act cache h = walked_keeps (AreKept P) (λ f u es found x. kept_first P u es (kept_found P u.fid es u x found) x) k clock act cache h

-- ---- what is given back

given_if : (P : ℕ → Node → Type 0) (t : Bool) (g : Gift) (gs : List Gift) → P g.fid.volume g.server → AreGiven P gs → AreGiven P (cond t (g ∷ gs) gs)
given_if P true g gs h k = (h, k)
given_if P false g gs h k = k

given_to : (P : ℕ → Node → Type 0) (gs : List Gift) (k : ℕ) → AreGiven P gs → AreGiven P (gifts_to gs k)
given_to P [] k h = tt
given_to P (g ∷ gs) k h = given_if P (same_node g.server (Server k)) g (gifts_to gs k) h.0 (given_to P gs k h.1)

both_given : (P : ℕ → Node → Type 0) (gs hs : List Gift) → AreGiven P gs → AreGiven P hs → AreGiven P (gs ++ hs)
both_given P [] hs h k = k
both_given P (g ∷ gs) hs h k = (h.0, both_given P gs hs h.1 k)

ordered_given : (P : ℕ → Node → Type 0) (gs : List Gift) (ks : List ℕ) → AreGiven P gs → AreGiven P (flat_map (gifts_to gs) ks)
ordered_given P gs [] h = tt
ordered_given P gs (k ∷ ks) h = both_given P (gifts_to gs k) (flat_map (gifts_to gs) ks) (given_to P gs k h) (ordered_given P gs ks h)

of_cache : (P : ℕ → Node → Type 0) (es : List CacheEntry) → AreKept P es → AreGiven P (map gift_of es)
of_cache P [] h = tt
of_cache P (e ∷ es) h = (h.0, of_cache P es h.1)

rest_given : (P : ℕ → Node → Type 0) (n : ℕ) (gs : List Gift) → AreGiven P gs → AreGiven P (drop n gs)
rest_given P zero gs h = h
rest_given P (suc n) [] h = h
rest_given P (suc n) (g ∷ gs) h = rest_given P n gs h.1

-- ---- ways of a step

-- an act that reads gives nothing back
abbrev IsNoGive : Going → Type 0
IsNoGive act = act.act ≡ acts.GiveUp → ⊥

asks_homed : (P : ℕ → Node → Type 0) (y : ClientState) (act : Going) → IsNoGive act → AreKept P y.cache → AreGiven P y.gifts → Homed P (asking y act)
asks_homed P y act plain h g = record { cache = h; gifts = g; some = λ a r k z. plain (ap (λ (x : Going). x.act) (some_of act a r) ∙ k) }

ends_homed : (P : ℕ → Node → Type 0) (y : ClientState) (cache : List CacheEntry) → AreKept P cache → Homed P (ended y cache)
ends_homed P y cache h = record { cache = h; gifts = tt; some = λ a r. absurd cc }

-- the same act goes on with the same gifts
same_homed : (P : ℕ → Node → Type 0) (c y : ClientState) → Homed P c → y.running ≡ c.running → y.gifts ≡ c.gifts → AreKept P y.cache → Homed P y
same_homed P c y h r g k = record { cache = k; gifts = subst (AreGiven P) (sym g) h.gifts; some = λ a e give none. h.some a (sym r ∙ e) give (sym g ∙ none) }

again_homed : (P : ℕ → Node → Type 0) (c : ClientState) (act : Going) → Homed P c → c.running ≡ Some act → Homed P (asking c act)
again_homed P c act h run = record { cache = h.cache; gifts = h.gifts; some = λ a r give none. h.some a (run ∙ r) give none }

-- it waits for no server
seeks_homed : (P : ℕ → Node → Type 0) (y : ClientState) (k : Seek) (cache : List CacheEntry) → AreKept P cache → Homed P (seeking_for y k cache)
seeks_homed P y k cache h = record { cache = h; gifts = tt; some = λ a r. absurd cc }

goes_homed : (P : ℕ → Node → Type 0) (n : ℕ) (y : ClientState) (front : List Line → List Line) (w : Walked) (need : Need) → IsNoGive w.act → AreKept P w.cache → AreGiven P y.gifts → Homed P (goes_by (Client n) y front w need).state
goes_homed P n y front w (answers k) plain h g = ends_homed P y w.cache h
goes_homed P n y front w (locates o) plain h g = seeks_homed P y _ w.cache h
goes_homed P n y front w need plain h g = asks_homed P (record y { cache = w.cache }) w.act plain h g

walks_homed : (P : ℕ → Node → Type 0) (n clock : ℕ) (y : ClientState) (front : List Line → List Line) (act : Going) (cache : List CacheEntry) → IsNoGive act → AreKept P cache → AreGiven P y.gifts → Homed P (walks_on (Client n) y clock front act cache).state
walks_homed P n clock y front act cache plain h g =
    let w : Walked = walked (most_reads act) clock act cache in
    goes_homed P n y front w (next w.act) (λ e. plain (sym (walked_act (most_reads act) clock act cache) ∙ e)) (walked_kept P (most_reads act) clock act cache h) g

either_homed : (P : ℕ → Node → Type 0) (t : Bool) (a b : Step ClientState) → Homed P a.state → Homed P b.state → Homed P (cond t a b).state
either_homed P true a b h k = h
either_homed P false a b h k = k

need_of_give : (act : Going) → act.act ≡ acts.GiveUp → next act ≡ gives_back
need_of_give act e = ap (λ (a : Act). next (record act { act = a })) e

-- an act that waits for another call gives nothing back
no_give : (c : ClientState) (act : Going) (call : FsCall) → call_of c act ≡ call → IsNoGift call → IsNoGive act
no_give c act call same plain e = subst IsNoGift (sym same ∙ ap (call_by c.gifts) (need_of_give act e)) plain

-- ---- replies

plain_homed : (P : ℕ → Node → Type 0) (c : ClientState) (call : FsCall) → Homed P c → Homed P (ended c (left_after call c.cache))
plain_homed P c call h = ends_homed P c (left_after call c.cache) (kept_filter P (λ e. not (may_change call e.fid)) c.cache h.cache)

entry_homed : (P : ℕ → Node → Type 0) (n clock place : ℕ) (c : ClientState) (act : Going) (e : CacheEntry) (body : ReadBody) → Homed P c → IsNoGive act → P e.fid.volume e.server → Homed P (takes_entry (Client n) c clock place act e body).state
entry_homed P n clock place c act e body h plain x =
    either_homed P (is_trusted clock e) _ _ (walks_homed P n clock c (read_lines (Client n) place (look_at Fetched e body)) (with_read e.fid body act) (put_entry c.capacity e c.cache) plain (kept_put P c.capacity e c.cache x h.cache) h.gifts) (asks_homed P c act plain h.cache h.gifts)

-- what the call asks of is at its callee
called_at : (P : ℕ → Node → Type 0) (c : ClientState) (act : Going) (call : FsCall) → AsksHome P c → c.running ≡ Some act → call_of c act ≡ call → (id : ℕ) → AsksOf call id → P id c.callee
called_at P c act call t r same id x = t act r id (subst (λ (f : FsCall). AsksOf f id) (sym same) x)

data_homed : (P : ℕ → Node → Type 0) (n clock place : ℕ) (c : ClientState) (act : Going) (contents : List ℕ) (status : AfsFetchStatus) (callback : AfsCallBack) (sync : AfsVolSync) (call : FsCall) → AsksHome P c → Homed P c → c.running ≡ Some act → call_of c act ≡ call → Homed P (takes_data (Client n) c clock place act contents status callback sync call).state
data_homed P n clock place c act contents status callback sync (calls.FetchData f position wanted) t h r same =
    entry_homed P n clock place c act (cache_entry_told c.callee f status callback sync (Some (body_told status.file_type contents))) (seen.Contents (body_told status.file_type contents)) h (no_give c act (calls.FetchData f position wanted) same tt) (called_at P c act (calls.FetchData f position wanted) t r same f.volume refl)
data_homed P n clock place c act contents status callback sync call t h r same = plain_homed P c call h

shown_homed : (P : ℕ → Node → Type 0) (n clock place : ℕ) (c : ClientState) (act : Going) (status : AfsFetchStatus) (callback : AfsCallBack) (sync : AfsVolSync) (call : FsCall) → AsksHome P c → Homed P c → c.running ≡ Some act → call_of c act ≡ call → Homed P (takes_shown (Client n) c clock place act status callback sync call).state
shown_homed P n clock place c act status callback sync (calls.FetchStatus f) t h r same =
    entry_homed P n clock place c act (cache_entry_told c.callee f status callback sync None) (seen.Status (status_told status)) h (no_give c act (calls.FetchStatus f) same tt) (called_at P c act (calls.FetchStatus f) t r same f.volume refl)
shown_homed P n clock place c act status callback sync call t h r same = plain_homed P c call h

list_homed : (P : ℕ → Node → Type 0) (n clock place : ℕ) (c : ClientState) (act : Going) (text : List ℕ) (status : AfsFetchStatus) (sync : AfsVolSync) (call : FsCall) → Homed P c → call_of c act ≡ call → Homed P (takes_list (Client n) c clock place act text status sync call).state
list_homed P n clock place c act text status sync (calls.FetchAcl f) h same =
    let left : List CacheEntry = filter (λ e. not (is_older f status.sync_counter sync.release e)) c.cache in
    walks_homed P n clock c (λ ls. read_lines (Client n) place (record { fid = f; index = status.sync_counter; source = Fetched; body = seen.AccessList text }) (dropped (Client n) (filter (is_older f status.sync_counter sync.release) c.cache) ls)) (with_read f (seen.AccessList text) act) left (no_give c act (calls.FetchAcl f) same tt)
    (kept_filter P (λ e. not (is_older f status.sync_counter sync.release e)) c.cache h.cache) h.gifts
list_homed P n clock place c act text status sync call h same = plain_homed P c call h

stored_homed : (P : ℕ → Node → Type 0) (clock : ℕ) (c : ClientState) (f : Fid) (index : ℕ) (status : ReadStatus) (made : Option Body → Option Body) → Homed P c → Homed P (ended c (map (refreshed clock f index status made) c.cache))
stored_homed P clock c f index status made h = ends_homed P c (map (refreshed clock f index status made) c.cache) (kept_refreshed P clock f index status made c.cache h.cache)

status_homed : (P : ℕ → Node → Type 0) (n clock place : ℕ) (c : ClientState) (f : Fid) (status : AfsFetchStatus) (call : FsCall) → Homed P c → Homed P (takes_status (Client n) c clock place f status call).state
status_homed P n clock place c f status call h = either_homed P (not c.spoiled && stands_below clock status.sync_counter (find_cached f c.cache)) _ _ (stored_homed P clock c f _ _ _ h) (plain_homed P c call h)

set_homed : (P : ℕ → Node → Type 0) (n clock place : ℕ) (c : ClientState) (status : AfsFetchStatus) (call : FsCall) → Homed P c → Homed P (takes_set (Client n) c clock place status call).state
set_homed P n clock place c status (calls.StoreData f set position wanted file_length contents) h = either_homed P c.spoiled _ _ (plain_homed P c (calls.StoreData f set position wanted file_length contents) h) (stored_homed P clock c f _ _ _ h)
set_homed P n clock place c status (calls.StoreAcl f acl) h = status_homed P n clock place c f status (calls.StoreAcl f acl) h
set_homed P n clock place c status (calls.StoreStatus f set) h = status_homed P n clock place c f status (calls.StoreStatus f set) h
set_homed P n clock place c status call h = plain_homed P c call h

bulk_homed : (P : ℕ → Node → Type 0) (n clock place : ℕ) (c : ClientState) (act : Going) (statuses : List AfsFetchStatus) (callbacks : List AfsCallBack) (sync : AfsVolSync) (call : FsCall) → AsksHome P c → Homed P c → c.running ≡ Some act → call_of c act ≡ call → Homed P (takes_bulk (Client n) c clock place act statuses callbacks sync call).state
bulk_homed P n clock place c act statuses callbacks sync (calls.BulkStatus fids) t h r same =
    let es : List CacheEntry = entries_told c.callee sync fids statuses callbacks in
    let plain : IsNoGive act = no_give c act (calls.BulkStatus fids) same tt in
    let at : AreKept P es = kept_told P c.callee sync fids statuses callbacks (called_at P c act (calls.BulkStatus fids) t r same) in
    either_homed P (list_any (λ e. not (is_trusted clock e)) es) _ _ (asks_homed P c act plain h.cache h.gifts)
    (walks_homed P n clock c (λ ls. with_given place (looked (Client n) (map status_look es) ls)) (with_statuses es act) (put_entries c.capacity es c.cache) (λ e. plain (sym (statuses_act es act) ∙ e)) (kept_puts P c.capacity es c.cache at h.cache) h.gifts)
bulk_homed P n clock place c act statuses callbacks sync call t h r same = plain_homed P c call h

gives_homed : (P : ℕ → Node → Type 0) (n : ℕ) (y : ClientState) (front : List Line → List Line) (act : Going) (gs : List Gift) → AreKept P y.cache → AreGiven P gs → Homed P (gives_by (Client n) y front act gs).state
gives_homed P n y front act [] h k = ends_homed P y y.cache h
gives_homed P n y front act (g ∷ gs) h k = record { cache = h; gifts = k; some = λ a r give none. absurd cc }

given_homed : (P : ℕ → Node → Type 0) (n place : ℕ) (c : ClientState) (act : Going) (call : FsCall) → Homed P c → Homed P (takes_given (Client n) c place act call).state
given_homed P n place c act (calls.GiveUpCallBacks fids callbacks) h = gives_homed P n c (with_given place) act (behind_batch c.gifts) h.cache (rest_given P (length (batch c.gifts)) c.gifts h.gifts)
given_homed P n place c act call h = plain_homed P c call h

takes_homed : (P : ℕ → Node → Type 0) (n clock place : ℕ) (c : ClientState) (act : Going) (call : FsCall) (reply : FsReply) → AsksHome P c → Homed P c → c.running ≡ Some act → call_of c act ≡ call → Homed P (takes (Client n) c clock place act call reply).state
takes_homed P n clock place c act call (replies.FetchData contents status callback sync) t h r same = data_homed P n clock place c act contents status callback sync call t h r same
takes_homed P n clock place c act call (replies.FetchAcl text status sync) t h r same = list_homed P n clock place c act text status sync call h same
takes_homed P n clock place c act call (replies.FetchStatus status callback sync) t h r same = shown_homed P n clock place c act status callback sync call t h r same
takes_homed P n clock place c act call (replies.StoreData status sync) t h r same = set_homed P n clock place c status call h
takes_homed P n clock place c act call (replies.StoreAcl status sync) t h r same = set_homed P n clock place c status call h
takes_homed P n clock place c act call (replies.StoreStatus status sync) t h r same = set_homed P n clock place c status call h
takes_homed P n clock place c act call (replies.BulkStatus statuses callbacks sync) t h r same = bulk_homed P n clock place c act statuses callbacks sync call t h r same
takes_homed P n clock place c act call replies.GiveUpCallBacks t h r same = given_homed P n place c act call h
takes_homed P n clock place c act call reply t h r same = plain_homed P c call h

where_homed : (P : ℕ → Node → Type 0) (n place : ℕ) (c : ClientState) (act : Going) (code : Code) (o : Option Operand) → Homed P c → Homed P (asks_where (Client n) c place act code o).state
where_homed P n place c act code None h = ends_homed P c c.cache h.cache
where_homed P n place c act code (Some o) h = seeks_homed P (record c { moved = c.moved + 1 }) _ c.cache h.cache

counts_homed : (P : ℕ → Node → Type 0) (n clock place : ℕ) (c : ClientState) (act : Going) (head : Head) (x : Carried) → AsksHome P c → Homed P c → c.running ≡ Some act → Homed P (counts (Client n) c clock place act head x).state
counts_homed P n clock place c act head (carried.Call user call) t h r = h
counts_homed P n clock place c act head (carried.Refusal code) t h r =
    either_homed P (is_spent c act) _ _ (again_homed P c act h r) (either_homed P (is_busy_code code && nat_lt c.busy most_busy) _ _ (again_homed P (record c { busy = c.busy + 1 }) act (same_homed P c _ h refl refl h.cache) r) (either_homed P (is_gone_code code && nat_lt c.moved most_moved) _ _ (where_homed P n place c act code (operand_in act (volume_asked (call_of c act))) h) (ends_homed P c c.cache h.cache)))
counts_homed P n clock place c act head (carried.Reply (tell.File reply)) t h r = either_homed P (is_spent c act) _ _ (again_homed P c act h r) (takes_homed P n clock place c act (call_of c act) reply t h r refl)
counts_homed P n clock place c act head (carried.Reply reply) t h r = h
counts_homed P n clock place c act head carried.Notice t h r = same_homed P c _ h refl refl h.cache

awaits_homed : (P : ℕ → Node → Type 0) (n clock place : ℕ) (c : ClientState) (head : Head) (x : Carried) (o : Option Going) → AsksHome P c → Homed P c → c.running ≡ o → Homed P (awaits (Client n) c clock place head x o).state
awaits_homed P n clock place c head x None t h r = h
awaits_homed P n clock place c head x (Some act) t h r = either_homed P (is_awaited c act head) _ _ (counts_homed P n clock place c act head x t h r) h

-- ---- calls to it

breaks_homed : (P : ℕ → Node → Type 0) (n place : ℕ) (c : ClientState) (head : Head) (call : FsCall) → Homed P c → Homed P (breaks (Client n) c place head call).state
breaks_homed P n place c head (calls.CallBack fs callbacks) h = same_homed P c _ h refl refl (kept_filter P _ c.cache h.cache)
breaks_homed P n place c head calls.InitCallBackState h = same_homed P c _ h refl refl (kept_filter P _ c.cache h.cache)
breaks_homed P n place c head calls.Probe h = same_homed P c _ h refl refl h.cache
breaks_homed P n place c head call h = same_homed P c _ h refl refl h.cache

carried_homed : (P : ℕ → Node → Type 0) (n place : ℕ) (c : ClientState) (head : Head) (x : Carried) → Homed P c → Homed P (runs_carried (Client n) c place head x).state
carried_homed P n place c head (carried.Call user (ask.File call)) h = breaks_homed P n place c head call h
carried_homed P n place c head (carried.Call user call) h = same_homed P c _ h refl refl h.cache
carried_homed P n place c head x h = h

admits_homed : (P : ℕ → Node → Type 0) (n place : ℕ) (c : ClientState) (head : Head) (x : Carried) (o : Admitted Message) → Homed P c → Homed P (admits_call (Client n) c place head (whole head x) o).state
admits_homed P n place c head x pairs.runs h = carried_homed P n place c head x h
admits_homed P n place c head x (pairs.kept reply) h = h
admits_homed P n place c head x pairs.in_progress h = h
admits_homed P n place c head x pairs.older h = h
admits_homed P n place c head x (pairs.wrong_boot boot) h = h

hears_homed : (P : ℕ → Node → Type 0) (n clock place : ℕ) (c : ClientState) (head : Head) (x : Carried) → AsksHome P c → Homed P c → Homed P (hears (Client n) c clock place head x).state
hears_homed P n clock place c head (carried.Call user call) t h = admits_homed P n place c head (carried.Call user call) (admitted c.epoch c.seats head) h
hears_homed P n clock place c head x t h = awaits_homed P n clock place c head x c.running t h refl

-- ---- its steps

given_home : (P : ℕ → Node → Type 0) (n clock place : ℕ) (c : ClientState) (m : Message) → AsksHome P c → Homed P c → Homed P (client_row (Client n) c clock place (Whole m)).state
unfolding client_row
given_home P n clock place c m t h = either_homed P (same_node m.head.to (Client n)) _ _ (hears_homed P n clock place c m.head m.carried t h) h

not_given : (act : Going) (need : Need) → next act ≡ need → (need ≡ gives_back → ⊥) → IsNoGive act
not_given act need is plain e = plain (sym is ∙ need_of_give act e)

first_homed : (P : ℕ → Node → Type 0) (n clock : ℕ) (y : ClientState) (front : List Line → List Line) (act : Going) (need : Need) → next act ≡ need → AreKept P y.cache → AreGiven P y.gifts → Homed P (begins_by (Client n) y clock front act need).state
first_homed P n clock y front act gives_back is h g =
    gives_homed P n (record y { cache = untrusted_in clock y.cache }) (λ ls. front (dropped (Client n) (trusted_in clock y.cache) ls)) act (in_order (map gift_of (trusted_in clock y.cache))) (kept_filter P (λ e. not (is_trusted clock e)) y.cache h)
    (ordered_given P (map gift_of (trusted_in clock y.cache)) (1 ∷ 2 ∷ 3 ∷ 4 ∷ 5 ∷ 6 ∷ 7 ∷ 8 ∷ []) (of_cache P (trusted_in clock y.cache) (kept_filter P (is_trusted clock) y.cache h)))
first_homed P n clock y front act need is h g = walks_homed P n clock y front act y.cache (not_given act need is (λ e. absurd cc)) h g

begins_home : (P : ℕ → Node → Type 0) (n clock : ℕ) (c : ClientState) (act : Act) → Homed P c → Homed P (begin_row (Client n) c clock act).state
unfolding begin_row
begins_home P n clock c act h = first_homed P n clock (record c { busy = 0; moved = 0 }) (λ ls. lines.Begin (Client n) act ∷ ls) (began c.table act) (next (began c.table act)) refl h.cache h.gifts

waits_home : (P : ℕ → Node → Type 0) (n : ℕ) (c : ClientState) (act : Going) → Homed P c → Homed P (timeout_row (Client n) c act).state
waits_home P n c act h = either_homed P (nat_lt c.tries 2) _ _ (same_homed P c _ h refl refl h.cache) (ends_homed P c _ (kept_left P (volume_changed (call_of c act)) c.cache h.cache))

falls_home : (P : ℕ → Node → Type 0) (handed : List Location) (c : ClientState) → Homed P (reborn handed c)
falls_home P handed c = record { cache = tt; gifts = tt; some = λ a r. absurd cc }

-- ---- every step

abbrev pub IsAt : Script → ℕ → Node → Type 0
IsAt s id n = IsPutAt id n s.volumes

pub record AtHome (s : Script) (c : ClientState) : Type 0 where
  pub homed : Homed (IsAt s) c
  pub open' : AreOpen c

abbrev pub AtHomeIn : Script → Cell → List Entry → Type 0
AtHomeIn s c past = (j : ℕ) → AtHome s (c.clients j)

abbrev pub HomedIn : Script → Cell → List Entry → Type 0
HomedIn s c past = Addressed s c past × AtHomeIn s c past

-- what a client that waits asks of is at its callee
asks_home : (s : Script) (c : Cell) (past : List Entry) (n : ℕ) → Addressed s c past → AsksHome (IsAt s) (c.clients n)
asks_home s c past n h act r id x =
    let A = h.0.0.0.0.1 in
    asked_at s (c.clients n) act (A.table n) (h.1.0.0 n act r) (running_homes s (Client n) (lines_of past) act (A.acts n ∙ runs_act (c.clients n) act r)) id x

client_home : (s : Script) (c : Cell) (past : List Entry) (n : ℕ) (st : Step ClientState) → AtHomeIn s c past → Follows n (c.clients n) st → Homed (IsAt s) st.state → (j : ℕ) → AtHome s (put n st.state c.clients j)
client_home s c past n st h f home j = at_put n j (AtHome s) st.state c.clients (λ same. record { homed = home; open' = f.opens (h n).open' }) (λ other. h j)

home_moves : (s : Script) → EachMove (HomedIn s) (Behind (AtHomeIn s))
home_moves s = record {
  void = λ c past h. h.1;
  ticked = λ c past n h. h.1;
  begun = λ c past n act h r z0. client_home s c past n _ h.1 (begins_follow n (c.clients n) c.clock act (h.0.0.1 n).0 r) (begins_home (IsAt s) n c.clock (c.clients n) act (h.1 n).homed);
  told = λ c past n place m h at to un. client_home s c past n _ h.1 (given_follow n (c.clients n) c.clock place m (h.0.0.1 n).0 (each_at (λ m. IsFirm m.head m.carried) c.sent place m at h.0.0.0.1)) (given_home (IsAt s) n c.clock place (c.clients n) m (asks_home s c past n h.0) (h.1 n).homed);
  sought = λ c past n place m k h at to z e. (let A : AskedIn s c past = h.0.0.0.0.0.1 in
      client_home s c past n _ h.1 (sought_follow s n (c.clients n) c.clock place k m.head m.carried (placed_in s c past n k A z) (told_in s c past n place m k A at e) (h.0.0.1 n).0)
      (quietly s c past n place m k (λ st. Homed (IsAt s) st.state) A at z e (λ code. same_homed (IsAt s) (c.clients n) _ (h.1 n).homed refl refl (h.1 n).homed.cache) (h.1 n).homed (same_homed (IsAt s) (c.clients n) _ (h.1 n).homed refl refl (h.1 n).homed.cache)));
  missed = λ c past n k h r z. client_home s c past n _ h.1 (missed_follow n (c.clients n) k r (h.0.0.1 n).0) (either_homed (IsAt s) (nat_lt (c.clients n).tries 2) _ _ (same_homed (IsAt s) (c.clients n) _ (h.1 n).homed refl refl (h.1 n).homed.cache) (same_homed (IsAt s) (c.clients n) _ (h.1 n).homed refl refl (h.1 n).homed.cache));
  loc = λ c past l ls ms h st. h.1;
  waited = λ c past n act h r. client_home s c past n _ h.1 (waits_follow n (c.clients n) act (h.0.0.1 n).0) (waits_home (IsAt s) n (c.clients n) act (h.1 n).homed);
  fallen = λ c past n h. client_home s c past n _ h.1 (falls_follow n c.handed (c.clients n)) (falls_home (IsAt s) c.handed (c.clients n));
  risen = λ c past n h. client_home s c past n _ h.1 (rises_follow n (c.clients n) (h.0.0.1 n).0) (h.1 n).homed;
  served = λ c past i place m armed h up at to. h.1;
  cut = λ c past i place m t h up at to. h.1;
  stopped = λ c past i h up. h.1;
  stop_set = λ c past i calls pick armed h up. h.1;
  fail_set = λ c past i call armed h up. h.1;
  timed = λ c past i n b armed h up at. h.1;
  woken = λ c past i armed h up. h.1;
  started = λ c past i after fall h down. h.1;
  early = λ c past i fall h down. h.1;
  midway = λ c past i after fall h down. h.1;
  full = λ c past i after fall h down. h.1;
}

pub homed_kept : (s : Script) → IsKept (HomedIn s)
homed_kept s c past x so h = (homes_kept s c past x so h.0, each_moved (HomedIn s) (Behind (AtHomeIn s)) (home_moves s) c past x so h)

pub homed_first : (s : Script) → HomedIn s (start s) (set_up_entry s ∷ [])
homed_first s = (homes_first s, λ j. record { homed = record { cache = tt; gifts = tt; some = λ a r. absurd cc }; open' = λ a r. absurd cc })

-- ---- a call that gives promises back is to the server of each fid that it names, and names one

-- of the fids that are given back by a call
abbrev pub GivesHome : Script → Node → FsCall → Type 0
GivesHome s n (calls.GiveUpCallBacks fids callbacks) = (id : ℕ) → IsOneIn id fids → IsPutAt id n s.volumes
GivesHome s n call = ⊤

batch_if : (s : Script) (n : Node) (t : Bool) (g : Gift) (rest : List Gift) → (t ≡ true → IsAt s g.fid.volume n) → ((id : ℕ) → IsOneIn id (map (λ (x : Gift). x.fid) rest) → IsAt s id n) → (id : ℕ) → IsOneIn id (map (λ (x : Gift). x.fid) (cond t (g ∷ rest) [])) → IsAt s id n
batch_if s n true g rest w more id (inl e) = subst (λ (k : ℕ). IsAt s k n) e (w refl)
batch_if s n true g rest w more id (inr x) = more id x
batch_if s n false g rest w more id x = absurd x

batch_at : (s : Script) (n : Node) (k : ℕ) (gs : List Gift) → AreGiven (IsAt s) gs → (id : ℕ) → IsOneIn id (map (λ (x : Gift). x.fid) (batch_to n k gs)) → IsAt s id n
batch_at s n zero gs h id x = absurd x
batch_at s n (suc k) [] h id x = absurd x
batch_at s n (suc k) (g ∷ gs) h id x = batch_if s n (same_node g.server n) g (batch_to n k gs) (λ t. subst (IsAt s g.fid.volume) (same_node-true g.server n t) h.0) (batch_at s n k gs h.1) id x

gift_at : (s : Script) (gs : List Gift) → AreGiven (IsAt s) gs → (id : ℕ) → IsOneIn id (map (λ (x : Gift). x.fid) (batch gs)) → IsAt s id (first_server_of gs)
gift_at s [] h id x = absurd x
gift_at s (g ∷ gs) h id x = batch_at s g.server most_given (g ∷ gs) h id x

asks_at : (s : Script) (c : ClientState) (act : Going) (need : Need) → ((call : FsCall) → need ≡ asks_for call → IsNoGift call) → AreGiven (IsAt s) c.gifts → GivesHome s (callee_by c act need) (call_by c.gifts need)
asks_at s c act (reads f) w h = tt
asks_at s c act (reads_status f) w h = tt
asks_at s c act (reads_statuses fs) w h = tt
asks_at s c act (reads_rights f) w h = tt
asks_at s c act (asks_for (calls.GiveUpCallBacks fids callbacks)) w h = absurd (w (calls.GiveUpCallBacks fids callbacks) refl)
asks_at s c act (asks_for call) w h = tt
asks_at s c act gives_back w h = gift_at s c.gifts h
asks_at s c act (locates o) w h = tt
asks_at s c act (answers n) w h = tt

first_in : (t : Bool) (g : Gift) (rest : List Gift) → t ≡ true → cond t (g ∷ rest) [] ≡ [] → ⊥
first_in true g rest e h = absurd cc
first_in false g rest e h = absurd cc

some_in : (gs : List Gift) → (gs ≡ [] → ⊥) → batch gs ≡ [] → ⊥
some_in [] w e = w refl
some_in (g ∷ gs) w e = first_in (same_node g.server g.server) g (batch_to g.server 49 gs) (same_node-refl g.server) e

gives_some : (gs : List Gift) (callbacks : List AfsCallBack) → (gs ≡ [] → ⊥) → GivesSome (calls.GiveUpCallBacks (map (λ (g : Gift). g.fid) gs) callbacks)
gives_some [] callbacks w = w refl
gives_some (g ∷ gs) callbacks w = tt

asks_some : (gs : List Gift) (need : Need) → ((call : FsCall) → need ≡ asks_for call → IsNoGift call) → (need ≡ gives_back → gs ≡ [] → ⊥) → GivesSome (call_by gs need)
asks_some gs (reads f) w h = tt
asks_some gs (reads_status f) w h = tt
asks_some gs (reads_statuses fs) w h = tt
asks_some gs (reads_rights f) w h = tt
asks_some gs (asks_for (calls.GiveUpCallBacks fids callbacks)) w h = absurd (w (calls.GiveUpCallBacks fids callbacks) refl)
asks_some gs (asks_for call) w h = tt
asks_some gs gives_back w h = gives_some (batch gs) _ (λ e. some_in gs (h refl) e)
asks_some gs (locates o) w h = tt
asks_some gs (answers n) w h = tt

-- ---- the call of an act that runs

pub record IsAsked (s : Script) (c : ClientState) (act : Going) : Type 0 where
  pub unended : IsOpen (next act)
  pub home : GivesHome s c.callee (call_of c act)
  pub gives : GivesSome (call_of c act)

changes_more : (call : FsCall) → (volume_changed call ≡ None → ⊥) → IsNoGift call
changes_more (calls.GiveUpCallBacks fids callbacks) w = absurd (w refl)
changes_more call w = tt

pub is_asked : (s : Script) (c : Cell) (past : List Entry) (n : ℕ) (act : Going) → HomedIn s c past → (c.clients n).running ≡ Some act → IsAsked s (c.clients n) act
is_asked s c past n act h r =
    let A = h.0.0.0.0.0.1 in
    let x : ClientState = c.clients n in
    let plain : (call : FsCall) → next act ≡ asks_for call → IsNoGift call = λ call e. changes_more call (asks_change act call e) in
    let homes = running_homes s (Client n) (lines_of past) act (A.acts n ∙ runs_act x act r) in
    record {
      unended = (h.1 n).open' act r;
      home = subst (λ (q : Node). GivesHome s q (call_of x act)) (sym (h.0.1.0.0 n act r)) (asks_at s x act (next act) plain (h.1 n).homed.gifts);
      gives = asks_some x.gifts (next act) plain (λ e. (h.1 n).homed.some act r (gives_is s act homes e));
    }
