-- What follows a step of a client, however many servers its cell has: what it gives back then it dropped in the very act; and where its
-- act asks further, its last call changed nothing.
use Rattle.law_legal.specs.LocLaws.{IsToldIn}
use Rattle.spec_history.specs.declared.acts.Act.{Act}
use Rattle.spec_history.specs.declared.lines.Line.{Line}
use Rattle.spec_history.specs.declared.lines.Line.TheVariants as lines
use Rattle.spec_ideal.specs.Operations.{is_number, volume_changed}
use Rattle.law_legal.proofs.BaseLaws.{both, same_node-refl, same_node-true, some_of}
use Rattle.law_legal.proofs.BaseWords.{IsOpen, fids_of_gifts, is_passing}
use Rattle.spec_history.specs.declared.acts.Operand.{Operand}
use Rattle.spec_history.specs.declared.scripts.Script.{Script}
use Rattle.law_legal.proofs.ActSteps.{IsPlaced, by_quiet, sought_quiet}
use Rattle.law_legal.proofs.ServerRefusesForGood.{IsFirm}
use Rattle.spec_rows.specs.ClientRow.{asks_where, dead_code, is_gone_code, most_moved, seek_timeout_row, sought_by, sought_ends, timeout_line, volume_asked}
use Rattle.law_legal.proofs.ClientGiftsStay.{ordered_dropped}
use Rattle.law_legal.proofs.KeptPasses.{all_dropped_onto, dropped_rest}
use Rattle.law_legal.specs.Breaks.{HasTimeout, IsNamedIn}
use Rattle.law_legal.specs.ClientParts.{is_silent}
use Rattle.law_legal.specs.Grants.{IsDropped, has_fetched}
use Rattle.law_legal.specs.Legal.{AreDropped, HasDropped}
use Rattle.law_legal.specs.Past.{has_begun, onto}
use Rattle.spec_model.specs.Calls as pairs
use Rattle.spec_model.specs.Calls.{Admitted, admitted}
use Rattle.afs_num.specs.Fids.{same_fid}
use Rattle.afs_num.specs.Nodes.{same_node}
use Rattle.afs_num.specs.declared.calls.AfsCallBack.{AfsCallBack}
use Rattle.afs_num.specs.declared.calls.AfsFetchStatus.{AfsFetchStatus}
use Rattle.afs_num.specs.declared.calls.AfsVolSync.{AfsVolSync}
use Rattle.afs_num.specs.declared.calls.FsCall.{FsCall}
use Rattle.afs_num.specs.declared.calls.FsCall.TheVariants as calls
use Rattle.afs_num.specs.declared.calls.FsReply.{FsReply}
use Rattle.afs_num.specs.declared.calls.FsReply.TheVariants as replies
use Rattle.afs_num.specs.declared.histories.ReadBody.{ReadBody}
use Rattle.afs_num.specs.declared.histories.ReadBody.TheVariants as seen
use Rattle.afs_num.specs.declared.histories.ReadSource.TheVariants.{Fetched}
use Rattle.afs_num.specs.declared.messages.Call.TheVariants as ask
use Rattle.afs_num.specs.declared.messages.Carried.{Carried}
use Rattle.afs_num.specs.declared.messages.Carried.TheVariants as carried
use Rattle.afs_num.specs.declared.messages.Message.{Message}
use Rattle.afs_num.specs.declared.messages.Received.TheVariants.{Whole}
use Rattle.afs_num.specs.declared.messages.Reply.TheVariants as tell
use Rattle.afs_num.specs.declared.types.Code.{Code}
use Rattle.afs_num.specs.declared.types.Fid.{Fid}
use Rattle.afs_num.specs.declared.types.Head.{Head}
use Rattle.afs_num.specs.declared.types.Node.{Node}
use Rattle.afs_num.specs.declared.types.Node.TheVariants.{Client, Server}
use Rattle.spec_rows.specs.ClientRow.{Walked, admits_call, awaits, batch, begin_row, begins_by, behind_batch, body_told, breaks, call_by, call_of, calls_again, client_row, counts, drop_line, dropped, entries_told, cache_entry_told, find_cached, gift_of, gifts_to, with_given, gives_by, goes_by, hears, in_order, is_awaited, stands_below, is_busy_code, is_among_fids, is_older, is_reading, is_spent, is_spoiled_by_all, is_trusted, is_waiting, look_at, looked, most_busy, most_reads, names_act, names_call, put_entries, put_entry, read_lines, reborn, refuses, replies_step, runs_carried, status_look, status_told, takes, takes_bulk, takes_data, takes_entries, takes_entry, takes_given, takes_list, takes_set, takes_shown, takes_status, timeout_row, told_step, trusted_in, untrusted_in, walked, walks_on, whole, with_statuses}
use Rattle.spec_rows.specs.Going.{ClientState, Going, Need, Seek, locates, operand_in, answers, began, gives_back, next, with_read}
use Rattle.spec_rows.specs.States.{CacheEntry, Gift, Location}
use Rattle.spec_rows.specs.Steps.{Step}
use Rattle.std.proofs.Common.{zero, suc, drop, flat_map, ◌++◌, ◌+◌, ◌≡◌, ℕ, ◌⊎◌, inl, inr, Bool, true, false, cond, List, [], ◌∷◌, map, length, Option, Some, None, refl, sym, subst, filter, not, ap, ◌∙◌, arith}
use Rattle.std.specs.List.{list_any}
use Rattle.std.specs.Prelude.{◌&&◌, ◌||◌, nat_lt, ⊤}

-- without an act it gives nothing back, nor for one that needs something else
pub record IsSpared (c : ClientState) : Type 0 where
  pub none : c.running ≡ None → c.gifts ≡ []
  pub some : (act : Going) → c.running ≡ Some act → (next act ≡ gives_back → ⊥) → c.gifts ≡ []

-- the call that it waits for, if it does, changes nothing
abbrev pub IsReading : ClientState → Type 0
IsReading c = (act : Going) → c.running ≡ Some act → volume_changed (call_of c act) ≡ None

-- these lines begin no act of the client, and no read of them was fetched
abbrev pub IsStill : ℕ → List Line → Type 0
IsStill j ls = (has_begun (Client j) ls ≡ false) × ((f : Fid) → has_fetched (Client j) f ls ≡ false)

-- It waits for the call for which it waited, and each timeout of that was told. It reads nothing and is answered nothing; and unless its
-- reply is spoiled now, it was not before, and nothing was dropped that this may promise
pub record WaitsOn (j : ℕ) (c : ClientState) (s : Step ClientState) : Type 0 where
  pub running : s.state.running ≡ c.running
  pub callee : s.state.callee ≡ c.callee
  pub epoch : s.state.epoch ≡ c.epoch
  pub last : s.state.last ≡ c.last
  pub tries : (s.state.tries ≡ c.tries) ⊎ ((s.state.tries ≡ c.tries + 1) × ((o : List Line) → HasTimeout (Client j) c.callee c.epoch c.last (c.tries + 1) (onto o s.lines)))
  pub silent : is_silent s.lines ≡ true
  pub unspoiled : s.state.spoiled ≡ false → c.spoiled ≡ false
  pub undropped : s.state.spoiled ≡ false → (act : Going) → c.running ≡ Some act → (f : Fid) → names_call (f ∷ []) (call_of c act) ≡ true → (o : List Line) → IsDropped c.callee (Client j) f (onto o s.lines) → IsDropped c.callee (Client j) f o

-- each promise that is to be given back is one of a server
abbrev pub AreOfServers : List Gift → Type 0
AreOfServers [] = ⊤
AreOfServers (g ∷ gs) = ((i : ℕ) × (g.server ≡ Server i)) × AreOfServers gs

-- the act that runs isn't at its end
abbrev pub AreOpen : ClientState → Type 0
AreOpen c = (act : Going) → c.running ≡ Some act → IsOpen (next act)

pub record Follows (j : ℕ) (c : ClientState) (s : Step ClientState) : Type 0 where
  pub servers : AreOfServers c.gifts → AreOfServers s.state.gifts
  pub opens : AreOpen c → AreOpen s.state
  pub spared : IsSpared s.state
  pub dropped : (o : List Line) → AreDropped (Client j) (fids_of_gifts c.gifts) o → AreDropped (Client j) (fids_of_gifts s.state.gifts) (onto o s.lines)
  pub reads : (b : Going) → s.state.running ≡ Some b → (s.state.last ≡ c.last → ⊥) → IsReading c
  pub fresh : (b : Going) → s.state.running ≡ Some b → (s.state.last ≡ c.last → ⊥) → s.state.tries ≡ 0
  pub stays : (b : Going) → s.state.running ≡ Some b → s.state.last ≡ c.last → WaitsOn j c s

-- ---- ways of a step

pub none_runs : (o : Option Going) (act : Going) → o ≡ None → o ≡ Some act → ⊥
none_runs o act e f = let no : None ≡ Some act = sym e ∙ f in absurd cc

no_gifts : (j : ℕ) (gs : List Gift) (ls : List Line) → gs ≡ [] → AreDropped (Client j) (fids_of_gifts gs) ls
no_gifts j gs ls e = subst (λ (xs : List Gift). AreDropped (Client j) (fids_of_gifts xs) ls) (sym e) tt

pub more_not : (a b : ℕ) → a ≡ b + 1 → a ≡ b → ⊥
more_not a b e f = absurd (omega arith)

on_same : (j : ℕ) (c : ClientState) (s : Step ClientState) → s.state.running ≡ c.running → s.state.callee ≡ c.callee → s.state.epoch ≡ c.epoch → s.state.last ≡ c.last → s.state.tries ≡ c.tries → is_silent s.lines ≡ true → (s.state.spoiled ≡ false → c.spoiled ≡ false) → (s.state.spoiled ≡ false → (act : Going) → c.running ≡ Some act → (f : Fid) → names_call (f ∷ []) (call_of c act) ≡ true → (o : List Line) → IsDropped c.callee (Client j) f (onto o s.lines) → IsDropped c.callee (Client j) f o) → WaitsOn j c s
on_same j c s r q e l t quiet u d = record { running = r; callee = q; epoch = e; last = l; tries = inl t; silent = quiet; unspoiled = u; undropped = d }

-- its act ends
ends_follows : (j : ℕ) (c : ClientState) (s : Step ClientState) → s.state.running ≡ None → s.state.gifts ≡ [] → Follows j c s
ends_follows j c s n e = record { servers = λ w. subst AreOfServers (sym e) tt; opens = λ o b r. absurd (none_runs s.state.running b n r); spared = record { none = λ r. e; some = λ a r k. e }; dropped = λ o h. no_gifts j s.state.gifts (onto o s.lines) e; reads = λ b r. absurd (none_runs s.state.running b n r); fresh = λ b r. absurd (none_runs s.state.running b n r); stays = λ b r. absurd (none_runs s.state.running b n r) }

-- it goes on with nothing to give back
bare_follows : (j : ℕ) (c : ClientState) (s : Step ClientState) → (AreOpen c → AreOpen s.state) → IsReading c → s.state.gifts ≡ [] → s.state.last ≡ c.last + 1 → s.state.tries ≡ 0 → Follows j c s
bare_follows j c s o v e l t = record { servers = λ w. subst AreOfServers (sym e) tt; opens = o; spared = record { none = λ r. e; some = λ a r k. e }; dropped = λ o h. no_gifts j s.state.gifts (onto o s.lines) e; reads = λ b r k. v; fresh = λ b r k. t; stays = λ b r z. absurd (more_not s.state.last c.last l z) }

still_dropped : (j : ℕ) (gs hs : List Gift) (ls o : List Line) → hs ≡ gs → IsStill j ls → AreDropped (Client j) (fids_of_gifts gs) o → AreDropped (Client j) (fids_of_gifts hs) (onto o ls)
still_dropped j gs hs ls o e st h = subst (λ (xs : List Gift). AreDropped (Client j) (fids_of_gifts xs) (onto o ls)) (sym e) (all_dropped_onto (Client j) (fids_of_gifts gs) ls o st.0 st.1 h)

-- it makes no call
rests_follows : (j : ℕ) (c : ClientState) (s : Step ClientState) → WaitsOn j c s → IsSpared s.state → s.state.gifts ≡ c.gifts → IsStill j s.lines → Follows j c s
rests_follows j c s p sp e st = record { servers = λ w. subst AreOfServers (sym e) w; opens = λ o b r. o b (sym p.running ∙ r); spared = sp; dropped = λ o h. still_dropped j c.gifts s.state.gifts s.lines o e st h; reads = λ b r k. absurd (k p.last); fresh = λ b r k. absurd (k p.last); stays = λ b r z. p }

-- it calls again
again_follows : (j : ℕ) (c : ClientState) (s : Step ClientState) (act : Going) → IsSpared c → IsReading c → c.running ≡ Some act → s.state.running ≡ Some act → s.state.gifts ≡ c.gifts → IsStill j s.lines → s.state.last ≡ c.last + 1 → s.state.tries ≡ 0 → Follows j c s
again_follows j c s act sp v r run e st l t = record {
  servers = λ w. subst AreOfServers (sym e) w;
  opens = λ o b q. o b (r ∙ (sym run ∙ q));
  spared = record { none = λ q. absurd (none_runs s.state.running act q run); some = λ a q k. e ∙ sp.some a (r ∙ (sym run ∙ q)) k };
  dropped = λ o h. still_dropped j c.gifts s.state.gifts s.lines o e st h;
  reads = λ b q k. v;
  fresh = λ b q k. t;
  stays = λ b q z. absurd (more_not s.state.last c.last l z);
}

reading_by : (c : ClientState) (act : Going) (call : FsCall) → c.running ≡ Some act → call_of c act ≡ call → volume_changed call ≡ None → IsReading c
reading_by c act call r same v a q = ap (λ (g : Going). volume_changed (call_of c g)) (some_of a act (sym q ∙ r)) ∙ (ap volume_changed same ∙ v)

-- a call that doesn't give promises back
abbrev pub IsNoGift : FsCall → Type 0
IsNoGift (calls.GiveUpCallBacks fids callbacks) = ⊥
IsNoGift call = ⊤

bare_by : (c : ClientState) (act : Going) (call : FsCall) → IsSpared c → c.running ≡ Some act → call_of c act ≡ call → IsNoGift call → c.gifts ≡ []
bare_by c act call sp r same plain = sp.some act r (λ z. subst IsNoGift (sym same ∙ ap (call_by c.gifts) z) plain)

either_follows : (t : Bool) (j : ℕ) (c : ClientState) (a b : Step ClientState) → Follows j c a → Follows j c b → Follows j c (cond t a b)
either_follows true j c a b h k = h
either_follows false j c a b h k = k

-- ---- replies to its calls

told_follows : (j : ℕ) (c : ClientState) (place : ℕ) (ms : List Message) → IsSpared c → Follows j c (told_step c place ms)
told_follows j c place ms sp = rests_follows j c (told_step c place ms) (on_same j c (told_step c place ms) refl refl refl refl refl refl (λ z. z) (λ z act r f n o x. x)) sp refl (refl, λ f. refl)

-- what it asks for now it needs
asks_open : (act : Going) (need : Need) → next act ≡ need → IsOpen need → (b : Going) → Some act ≡ Some b → IsOpen (next b)
asks_open act need e h b r = subst IsOpen (sym e ∙ ap next (some_of act b r)) h

goes_follows : (j : ℕ) (c y : ClientState) (front : List Line → List Line) (w : Walked) (need : Need) → next w.act ≡ need → IsReading c → y.gifts ≡ [] → y.last ≡ c.last → Follows j c (goes_by (Client j) y front w need)
goes_follows j c y front w (answers n) is v e l = ends_follows j c (goes_by (Client j) y front w (answers n)) refl refl
goes_follows j c y front w (locates o) is v e l = ends_follows j c (goes_by (Client j) y front w (locates o)) refl refl
goes_follows j c y front w need is v e l = bare_follows j c (goes_by (Client j) y front w need) (λ o. asks_open w.act need is tt) v e (ap (λ (n : ℕ). n + 1) l) refl

walks_follows : (j : ℕ) (c y : ClientState) (clock : ℕ) (front : List Line → List Line) (act : Going) (cache : List CacheEntry) → IsReading c → y.gifts ≡ [] → y.last ≡ c.last → Follows j c (walks_on (Client j) y clock front act cache)
walks_follows j c y clock front act cache v e l = let w : Walked = walked (most_reads act) clock act cache in goes_follows j c y front w (next w.act) refl v e l

entry_follows : (j : ℕ) (c : ClientState) (clock place : ℕ) (act : Going) (e : CacheEntry) (body : ReadBody) → c.running ≡ Some act → IsReading c → c.gifts ≡ [] → Follows j c (takes_entry (Client j) c clock place act e body)
entry_follows j c clock place act e body r v none =
    either_follows (is_trusted clock e) j c _ _ (walks_follows j c c clock (read_lines (Client j) place (look_at Fetched e body)) (with_read e.fid body act) (put_entry c.capacity e c.cache) v none refl) (bare_follows j c (calls_again (Client j) c place act) (λ o b q. o b (r ∙ q)) v none refl refl)

entries_follows : (j : ℕ) (c : ClientState) (clock place : ℕ) (act : Going) (es : List CacheEntry) → c.running ≡ Some act → IsReading c → c.gifts ≡ [] → Follows j c (takes_entries (Client j) c clock place act es)
entries_follows j c clock place act es r v none =
    either_follows (list_any (λ e. not (is_trusted clock e)) es) j c _ _ (bare_follows j c (calls_again (Client j) c place act) (λ o b q. o b (r ∙ q)) v none refl refl)
    (walks_follows j c c clock (λ ls. with_given place (looked (Client j) (map status_look es) ls)) (with_statuses es act) (put_entries c.capacity es c.cache) v none refl)

status_follows : (j : ℕ) (c : ClientState) (clock place : ℕ) (f : Fid) (status : AfsFetchStatus) (call : FsCall) → Follows j c (takes_status (Client j) c clock place f status call)
status_follows j c clock place f status call = either_follows (not c.spoiled && stands_below clock status.sync_counter (find_cached f c.cache)) j c _ _ (ends_follows j c _ refl refl) (ends_follows j c _ refl refl)

data_follows : (j : ℕ) (c : ClientState) (clock place : ℕ) (act : Going) (contents : List ℕ) (status : AfsFetchStatus) (callback : AfsCallBack) (sync : AfsVolSync) (call : FsCall) → IsSpared c → c.running ≡ Some act → call_of c act ≡ call → Follows j c (takes_data (Client j) c clock place act contents status callback sync call)
data_follows j c clock place act contents status callback sync (calls.FetchData f position wanted) sp r same =
    entry_follows j c clock place act (cache_entry_told c.callee f status callback sync (Some (body_told status.file_type contents))) (seen.Contents (body_told status.file_type contents)) r (reading_by c act (calls.FetchData f position wanted) r same refl) (bare_by c act (calls.FetchData f position wanted) sp r same tt)
data_follows j c clock place act contents status callback sync call sp r same = ends_follows j c _ refl refl

shown_follows : (j : ℕ) (c : ClientState) (clock place : ℕ) (act : Going) (status : AfsFetchStatus) (callback : AfsCallBack) (sync : AfsVolSync) (call : FsCall) → IsSpared c → c.running ≡ Some act → call_of c act ≡ call → Follows j c (takes_shown (Client j) c clock place act status callback sync call)
shown_follows j c clock place act status callback sync (calls.FetchStatus f) sp r same =
    entry_follows j c clock place act (cache_entry_told c.callee f status callback sync None) (seen.Status (status_told status)) r (reading_by c act (calls.FetchStatus f) r same refl) (bare_by c act (calls.FetchStatus f) sp r same tt)
shown_follows j c clock place act status callback sync call sp r same = ends_follows j c _ refl refl

list_follows : (j : ℕ) (c : ClientState) (clock place : ℕ) (act : Going) (text : List ℕ) (status : AfsFetchStatus) (sync : AfsVolSync) (call : FsCall) → IsSpared c → c.running ≡ Some act → call_of c act ≡ call → Follows j c (takes_list (Client j) c clock place act text status sync call)
list_follows j c clock place act text status sync (calls.FetchAcl f) sp r same =
    walks_follows j c c clock (λ ls. read_lines (Client j) place (record { fid = f; index = status.sync_counter; source = Fetched; body = seen.AccessList text }) (dropped (Client j) (filter (is_older f status.sync_counter sync.release) c.cache) ls)) (with_read f (seen.AccessList text) act) (filter (λ e. not (is_older f status.sync_counter sync.release e)) c.cache) (reading_by c act (calls.FetchAcl f) r same refl) (bare_by c act (calls.FetchAcl f) sp r same tt) refl
list_follows j c clock place act text status sync call sp r same = ends_follows j c _ refl refl

set_follows : (j : ℕ) (c : ClientState) (clock place : ℕ) (status : AfsFetchStatus) (call : FsCall) → Follows j c (takes_set (Client j) c clock place status call)
set_follows j c clock place status (calls.StoreData f set position wanted file_length contents) = either_follows c.spoiled j c _ _ (ends_follows j c _ refl refl) (ends_follows j c _ refl refl)
set_follows j c clock place status (calls.StoreAcl f acl) = status_follows j c clock place f status (calls.StoreAcl f acl)
set_follows j c clock place status (calls.StoreStatus f set) = status_follows j c clock place f status (calls.StoreStatus f set)
set_follows j c clock place status call = ends_follows j c _ refl refl

bulk_follows : (j : ℕ) (c : ClientState) (clock place : ℕ) (act : Going) (statuses : List AfsFetchStatus) (callbacks : List AfsCallBack) (sync : AfsVolSync) (call : FsCall) → IsSpared c → c.running ≡ Some act → call_of c act ≡ call → Follows j c (takes_bulk (Client j) c clock place act statuses callbacks sync call)
bulk_follows j c clock place act statuses callbacks sync (calls.BulkStatus fids) sp r same =
    entries_follows j c clock place act (entries_told c.callee sync fids statuses callbacks) r (reading_by c act (calls.BulkStatus fids) r same refl) (bare_by c act (calls.BulkStatus fids) sp r same tt)
bulk_follows j c clock place act statuses callbacks sync call sp r same = ends_follows j c _ refl refl

rest_servers : (n : ℕ) (gs : List Gift) → AreOfServers gs → AreOfServers (drop n gs)
rest_servers zero gs h = h
rest_servers (suc n) [] h = h
rest_servers (suc n) (g ∷ gs) h = rest_servers n gs h.1

-- the rest of its promises
more_follows : (j : ℕ) (c : ClientState) (place : ℕ) (act : Going) (more : List Gift) → IsSpared c → IsReading c → c.running ≡ Some act → behind_batch c.gifts ≡ more → Follows j c (gives_by (Client j) c (with_given place) act more)
more_follows j c place act [] sp v r is = ends_follows j c _ refl refl
more_follows j c place act (g ∷ more) sp v r is = record {
  servers = λ w. subst AreOfServers is (rest_servers (length (batch c.gifts)) c.gifts w);
  opens = λ o b q. o b (r ∙ q);
  spared = record {
    none = λ q. absurd cc;
    some = λ a q k. let no : [] ≡ g ∷ more = sym (ap behind_batch (sp.some a (r ∙ q) k)) ∙ is in absurd cc;
  };
  dropped = λ o h. subst (λ (xs : List Gift). AreDropped (Client j) (fids_of_gifts xs) (lines.Given place ∷ o)) is (dropped_rest (Client j) (length (batch c.gifts)) c.gifts (lines.Given place ∷ o) (all_dropped_onto (Client j) (fids_of_gifts c.gifts) (lines.Given place ∷ []) o refl (λ f. refl) h));
  reads = λ b q k. v;
  fresh = λ b q k. refl;
  stays = λ b q z. absurd (more_not (c.last + 1) c.last refl z);
}

given_follows : (j : ℕ) (c : ClientState) (place : ℕ) (act : Going) (call : FsCall) → IsSpared c → c.running ≡ Some act → call_of c act ≡ call → Follows j c (takes_given (Client j) c place act call)
given_follows j c place act (calls.GiveUpCallBacks fids callbacks) sp r same = more_follows j c place act (behind_batch c.gifts) sp (reading_by c act (calls.GiveUpCallBacks fids callbacks) r same refl) r refl
given_follows j c place act call sp r same = ends_follows j c _ refl refl

takes_follows : (j : ℕ) (c : ClientState) (clock place : ℕ) (act : Going) (call : FsCall) (reply : FsReply) → IsSpared c → c.running ≡ Some act → call_of c act ≡ call → Follows j c (takes (Client j) c clock place act call reply)
takes_follows j c clock place act call (replies.FetchData contents status callback sync) sp r same = data_follows j c clock place act contents status callback sync call sp r same
takes_follows j c clock place act call (replies.FetchAcl text status sync) sp r same = list_follows j c clock place act text status sync call sp r same
takes_follows j c clock place act call (replies.FetchStatus status callback sync) sp r same = shown_follows j c clock place act status callback sync call sp r same
takes_follows j c clock place act call (replies.StoreData status sync) sp r same = set_follows j c clock place status call
takes_follows j c clock place act call (replies.StoreAcl status sync) sp r same = set_follows j c clock place status call
takes_follows j c clock place act call (replies.StoreStatus status sync) sp r same = set_follows j c clock place status call
takes_follows j c clock place act call (replies.BulkStatus statuses callbacks sync) sp r same = bulk_follows j c clock place act statuses callbacks sync call sp r same
takes_follows j c clock place act call replies.GiveUpCallBacks sp r same = given_follows j c place act call sp r same
takes_follows j c clock place act call reply sp r same = ends_follows j c _ refl refl

or_left : (p q : Bool) → p ≡ true → (p || q) ≡ true
or_left true q e = refl
or_left false q e = absurd cc

or_right : (p q : Bool) → q ≡ true → (p || q) ≡ true
or_right true q e = refl
or_right false q e = e

-- a firm refusal ends the act
pub firm_busy : (a b : Bool) → (a || b) ≡ false → b ≡ false
firm_busy true b e = absurd cc
firm_busy false b e = e

busy_follows : (t u : Bool) (j : ℕ) (c : ClientState) (a b : Step ClientState) → t ≡ false → Follows j c b → Follows j c (cond (t && u) a b)
busy_follows true u j c a b e k = absurd cc
busy_follows false u j c a b e k = k

where_follows : (j : ℕ) (c : ClientState) (place : ℕ) (act : Going) (code : Code) (o : Option Operand) → Follows j c (asks_where (Client j) c place act code o)
where_follows j c place act code None = ends_follows j c _ refl refl
where_follows j c place act code (Some o) = ends_follows j c _ refl refl

refuses_follows : (j : ℕ) (c : ClientState) (place : ℕ) (act : Going) (code : Code) → is_passing code.0 ≡ false → Follows j c (refuses (Client j) c place act code)
refuses_follows j c place act code firm = busy_follows (is_busy_code code) (nat_lt c.busy most_busy) j c _ _ (firm_busy (is_number code.0 0) (is_busy_code code) firm) (either_follows (is_gone_code code && nat_lt c.moved most_moved) j c _ _ (where_follows j c place act code (operand_in act (volume_asked (call_of c act)))) (ends_follows j c _ refl refl))

pub none_read : (o : Option ℕ) → is_reading o ≡ true → o ≡ None
none_read None e = refl
none_read (Some id) e = absurd cc

-- a reply that a break overtook is one to a call that reads
spent_follows : (t : Bool) (j : ℕ) (c : ClientState) (place : ℕ) (act : Going) (b : Step ClientState) → IsSpared c → c.running ≡ Some act → is_spent c act ≡ t → Follows j c b → Follows j c (cond t (calls_again (Client j) c place act) b)
spent_follows true j c place act b sp r e k =
    again_follows j c (calls_again (Client j) c place act) act sp (reading_by c act (call_of c act) r refl (none_read (volume_changed (call_of c act)) (both c.spoiled (is_reading (volume_changed (call_of c act))) e).1)) r refl refl (refl, λ f. refl) refl refl
spent_follows false j c place act b sp r e k = k

counts_follows : (j : ℕ) (c : ClientState) (clock place : ℕ) (act : Going) (head : Head) (x : Carried) → IsSpared c → c.running ≡ Some act → IsFirm head x → Follows j c (counts (Client j) c clock place act head x)
counts_follows j c clock place act head (carried.Call user call) sp r firm = told_follows j c place [] sp
counts_follows j c clock place act head (carried.Refusal code) sp r firm = spent_follows (is_spent c act) j c place act _ sp r refl (refuses_follows j c place act code firm.1)
counts_follows j c clock place act head (carried.Reply (tell.File reply)) sp r firm = spent_follows (is_spent c act) j c place act _ sp r refl (takes_follows j c clock place act (call_of c act) reply sp r refl)
counts_follows j c clock place act head (carried.Reply reply) sp r firm = told_follows j c place [] sp
counts_follows j c clock place act head carried.Notice sp r firm = rests_follows j c _ (on_same j c _ refl refl refl refl refl refl (λ z. z) (λ z act r f n o x. x)) (record { none = sp.none; some = sp.some }) refl (refl, λ f. refl)

awaits_follows : (j : ℕ) (c : ClientState) (clock place : ℕ) (head : Head) (x : Carried) (o : Option Going) → IsSpared c → c.running ≡ o → IsFirm head x → Follows j c (awaits (Client j) c clock place head x o)
awaits_follows j c clock place head x None sp r firm = told_follows j c place [] sp
awaits_follows j c clock place head x (Some act) sp r firm = either_follows (is_awaited c act head) j c _ _ (counts_follows j c clock place act head x sp r firm) (told_follows j c place [] sp)

-- ---- calls to it

drops_still : (j : ℕ) (fs : List Fid) → IsStill j (map (drop_line (Client j)) fs)
drops_still j [] = (refl, λ f. refl)
drops_still j (g ∷ fs) = drops_still j fs

drops_silent : (j : ℕ) (fs : List Fid) → is_silent (map (drop_line (Client j)) fs) ≡ true
drops_silent j [] = refl
drops_silent j (g ∷ fs) = drops_silent j fs

spoiled_by : (t b : Bool) → cond t true b ≡ false → b ≡ false
spoiled_by true b e = absurd cc
spoiled_by false b e = e

not_spoiled : (t b : Bool) → cond t true b ≡ false → t ≡ false
not_spoiled true b e = absurd cc
not_spoiled false b e = refl

-- a call that names a fid is named by a list that has it
same_if : (t b : Bool) → (t ≡ true → b ≡ true) → cond t true false ≡ true → b ≡ true
same_if true b w e = w refl
same_if false b w e = absurd cc

named_first : (t b : Bool) → t ≡ true → cond t true b ≡ true
named_first true b e = refl
named_first false b e = absurd cc

pub named_later : (t b : Bool) → b ≡ true → cond t true b ≡ true
named_later true b e = refl
named_later false b e = e

pub in_named : (g f : Fid) (fs : List Fid) → same_fid f g ≡ true → IsNamedIn f fs → is_among_fids g fs ≡ true
in_named g f [] e x = absurd x
in_named g f (h ∷ fs) e (inl q) = named_first (same_fid h g) (is_among_fids g fs) (ap (λ (y : Fid). same_fid y g) q ∙ e)
in_named g f (h ∷ fs) e (inr x) = named_later (same_fid h g) (is_among_fids g fs) (in_named g f fs e x)

more_named : (g f : Fid) (fs : List Fid) → is_among_fids g (f ∷ []) ≡ true → IsNamedIn f fs → is_among_fids g fs ≡ true
more_named g f fs e x = same_if (same_fid f g) (is_among_fids g fs) (λ z. in_named g f fs z x) e

either_true : (a b p q : Bool) → (a || b) ≡ true → (a ≡ true → p ≡ true) → (b ≡ true → q ≡ true) → (p || q) ≡ true
either_true true b p q e u w = or_left p q (u refl)
either_true false b p q e u w = or_right p q (w e)

any_named : (gs : List Fid) (f : Fid) (fs : List Fid) → list_any (λ g. is_among_fids g (f ∷ [])) gs ≡ true → IsNamedIn f fs → list_any (λ g. is_among_fids g fs) gs ≡ true
any_named [] f fs e x = absurd cc
any_named (g ∷ gs) f fs e x = either_true (is_among_fids g (f ∷ [])) (list_any (λ y. is_among_fids y (f ∷ [])) gs) (is_among_fids g fs) (list_any (λ y. is_among_fids y fs) gs) e (λ z. more_named g f fs z x) (λ z. any_named gs f fs z x)

names_more : (call : FsCall) (f : Fid) (fs : List Fid) → names_call (f ∷ []) call ≡ true → IsNamedIn f fs → names_call fs call ≡ true
names_more (calls.FetchData g position wanted) f fs e x = more_named g f fs e x
names_more (calls.FetchAcl g) f fs e x = more_named g f fs e x
names_more (calls.FetchStatus g) f fs e x = more_named g f fs e x
names_more (calls.StoreData g status position wanted file_length contents) f fs e x = more_named g f fs e x
names_more (calls.StoreAcl g acl) f fs e x = more_named g f fs e x
names_more (calls.StoreStatus g status) f fs e x = more_named g f fs e x
names_more (calls.RemoveFile g name) f fs e x = more_named g f fs e x
names_more (calls.CreateFile g name status) f fs e x = more_named g f fs e x
names_more (calls.Rename g name h other) f fs e x = either_true (is_among_fids g (f ∷ [])) (is_among_fids h (f ∷ [])) (is_among_fids g fs) (is_among_fids h fs) e (λ z. more_named g f fs z x) (λ z. more_named h f fs z x)
names_more (calls.Symlink g name target status) f fs e x = more_named g f fs e x
names_more (calls.Link g name h) f fs e x = either_true (is_among_fids g (f ∷ [])) (is_among_fids h (f ∷ [])) (is_among_fids g fs) (is_among_fids h fs) e (λ z. more_named g f fs z x) (λ z. more_named h f fs z x)
names_more (calls.MakeDir g name status) f fs e x = more_named g f fs e x
names_more (calls.RemoveDir g name) f fs e x = more_named g f fs e x
names_more (calls.BulkStatus gs) f fs e x = any_named gs f fs e x
names_more call f fs e x = absurd cc

names_spoiled : (call : FsCall) (f : Fid) → names_call (f ∷ []) call ≡ true → is_spoiled_by_all call ≡ true
names_spoiled (calls.GiveUpCallBacks fids callbacks) f e = absurd cc
names_spoiled call f e = refl

-- what a break drops is what it names
pub dropped_named : (q : Node) (j : ℕ) (f : Fid) (fs : List Fid) (o : List Line) → IsDropped q (Client j) f (onto o (map (drop_line (Client j)) fs)) → IsNamedIn f fs ⊎ IsDropped q (Client j) f o
dropped_named q j f [] o x = inr x
dropped_named q j f (g ∷ fs) o x = elim (dropped_named q j f fs (lines.Drop (Client j) g ∷ o) x) [
  | inl y ↦ inl (inr y)
  | inr y ↦ elim y [
    | inl z ↦ inl (inl z.1)
    | inr z ↦ inr z
  ]
]

drops_kept : (j : ℕ) (c : ClientState) (fs : List Fid) (act : Going) (f : Fid) (o : List Line) → c.running ≡ Some act → names_act c fs c.running ≡ false → names_call (f ∷ []) (call_of c act) ≡ true → IsDropped c.callee (Client j) f (onto o (map (drop_line (Client j)) fs)) → IsDropped c.callee (Client j) f o
drops_kept j c fs act f o r none names x = elim (dropped_named c.callee j f fs o x) [
  | inl y ↦ (let no_ : false ≡ true = sym none ∙ (ap (names_act c fs) r ∙ names_more (call_of c act) f fs names y) in absurd cc)
  | inr y ↦ y
]

all_kept : (j : ℕ) (c : ClientState) (q : Node) (act : Going) (f : Fid) (o : List Line) → c.running ≡ Some act → is_waiting c q c.running ≡ false → names_call (f ∷ []) (call_of c act) ≡ true → IsDropped c.callee (Client j) f (lines.DropAll (Client j) q ∷ o) → IsDropped c.callee (Client j) f o
all_kept j c q act f o r none names (inl e) =
    let yes : (same_node c.callee q && is_spoiled_by_all (call_of c act)) ≡ true = rw (names_spoiled (call_of c act) f names, ap (same_node c.callee) e.1 ∙ same_node-refl c.callee) refl in
    let no_ : false ≡ true = sym none ∙ (ap (is_waiting c q) r ∙ yes) in absurd cc
all_kept j c q act f o r none names (inr x) = x

replies_follows : (j : ℕ) (c y : ClientState) (place : ℕ) (head : Head) (ls : List Line) (x : Carried) → IsSpared c → WaitsOn j c (replies_step y place head ls x) → y.running ≡ c.running → y.gifts ≡ c.gifts → IsStill j ls → Follows j c (replies_step y place head ls x)
replies_follows j c y place head ls x sp l r g st =
    rests_follows j c (replies_step y place head ls x) l (record { none = λ q. g ∙ sp.none (sym r ∙ q); some = λ a q k. g ∙ sp.some a (sym r ∙ q) k }) g st

breaks_follows : (j : ℕ) (c : ClientState) (place : ℕ) (head : Head) (call : FsCall) → IsSpared c → Follows j c (breaks (Client j) c place head call)
breaks_follows j c place head (calls.CallBack fs callbacks) sp = replies_follows j c _ place head _ _ sp (on_same j c _ refl refl refl refl refl (drops_silent j fs) (λ z. spoiled_by (names_act c fs c.running) c.spoiled z) (λ z act r f n o x. drops_kept j c fs act f (lines.Given place ∷ o) r (not_spoiled (names_act c fs c.running) c.spoiled z) n x)) refl refl (drops_still j fs)
breaks_follows j c place head calls.InitCallBackState sp = replies_follows j c _ place head _ _ sp (on_same j c _ refl refl refl refl refl refl (λ z. spoiled_by (is_waiting c head.from c.running) c.spoiled z) (λ z act r f n o x. all_kept j c head.from act f (lines.Given place ∷ o) r (not_spoiled (is_waiting c head.from c.running) c.spoiled z) n x)) refl refl (refl, λ f. refl)
breaks_follows j c place head calls.Probe sp = replies_follows j c c place head [] _ sp (on_same j c _ refl refl refl refl refl refl (λ z. z) (λ z act r f n o x. x)) refl refl (refl, λ f. refl)
breaks_follows j c place head call sp = replies_follows j c c place head [] _ sp (on_same j c _ refl refl refl refl refl refl (λ z. z) (λ z act r f n o x. x)) refl refl (refl, λ f. refl)

carried_follows : (j : ℕ) (c : ClientState) (place : ℕ) (head : Head) (x : Carried) → IsSpared c → Follows j c (runs_carried (Client j) c place head x)
carried_follows j c place head (carried.Call user (ask.File call)) sp = breaks_follows j c place head call sp
carried_follows j c place head (carried.Call user call) sp = replies_follows j c c place head [] _ sp (on_same j c _ refl refl refl refl refl refl (λ z. z) (λ z act r f n o x. x)) refl refl (refl, λ f. refl)
carried_follows j c place head x sp = told_follows j c place [] sp

admits_follows : (j : ℕ) (c : ClientState) (place : ℕ) (head : Head) (x : Carried) (o : Admitted Message) → IsSpared c → Follows j c (admits_call (Client j) c place head (whole head x) o)
admits_follows j c place head x pairs.runs sp = carried_follows j c place head x sp
admits_follows j c place head x (pairs.kept reply) sp = told_follows j c place (reply ∷ []) sp
admits_follows j c place head x pairs.in_progress sp = told_follows j c place [] sp
admits_follows j c place head x pairs.older sp = told_follows j c place [] sp
admits_follows j c place head x (pairs.wrong_boot boot) sp = told_follows j c place _ sp

hears_follows : (j : ℕ) (c : ClientState) (clock place : ℕ) (head : Head) (x : Carried) → IsSpared c → IsFirm head x → Follows j c (hears (Client j) c clock place head x)
hears_follows j c clock place head (carried.Call user call) sp firm = admits_follows j c place head (carried.Call user call) (admitted c.epoch c.seats head) sp
hears_follows j c clock place head x sp firm = awaits_follows j c clock place head x c.running sp refl firm

-- ---- its steps

pub given_follow : (j : ℕ) (c : ClientState) (clock place : ℕ) (m : Message) → IsSpared c → IsFirm m.head m.carried → Follows j c (client_row (Client j) c clock place (Whole m))
unfolding client_row
given_follow j c clock place m sp firm = either_follows (same_node m.head.to (Client j)) j c _ _ (hears_follows j c clock place m.head m.carried sp firm) (told_follows j c place [] sp)

-- what is given back was dropped in that step
dropped_here : (j : ℕ) (es : List CacheEntry) (f : Fid) (o : List Line) → HasDropped (Client j) f o → HasDropped (Client j) f (onto o (dropped (Client j) es []))
dropped_here j [] f o h = h
dropped_here j (u ∷ es) f o h = dropped_here j es f (lines.Drop (Client j) u.fid ∷ o) (inr h)

dropped_each : (j : ℕ) (es : List CacheEntry) (o : List Line) → AreDropped (Client j) (fids_of_gifts (map gift_of es)) (onto o (dropped (Client j) es []))
dropped_each j [] o = tt
dropped_each j (u ∷ es) o = (dropped_here j es u.fid (lines.Drop (Client j) u.fid ∷ o) (inl (refl, refl)), dropped_each j es (lines.Drop (Client j) u.fid ∷ o))

-- those in order are, whatever the cache has
if_servers : (t : Bool) (g : Gift) (k : ℕ) (gs : List Gift) → (t ≡ true → g.server ≡ Server k) → AreOfServers gs → AreOfServers (cond t (g ∷ gs) gs)
if_servers true g k gs is h = ((k, is refl), h)
if_servers false g k gs is h = h

to_servers : (gs : List Gift) (k : ℕ) → AreOfServers (gifts_to gs k)
to_servers [] k = tt
to_servers (g ∷ gs) k = if_servers (same_node g.server (Server k)) g k (gifts_to gs k) (same_node-true g.server (Server k)) (to_servers gs k)

both_servers : (gs hs : List Gift) → AreOfServers gs → AreOfServers hs → AreOfServers (gs ++ hs)
both_servers [] hs h k = k
both_servers (g ∷ gs) hs h k = (h.0, both_servers gs hs h.1 k)

ordered_servers : (gs : List Gift) (ks : List ℕ) → AreOfServers (flat_map (gifts_to gs) ks)
ordered_servers gs [] = tt
ordered_servers gs (k ∷ ks) = both_servers (gifts_to gs k) (flat_map (gifts_to gs) ks) (to_servers gs k) (ordered_servers gs ks)

first_gives : (j : ℕ) (c y : ClientState) (act : Act) (going : Going) (es : List CacheEntry) (gs : List Gift) → c.running ≡ None → y.last ≡ c.last → next going ≡ gives_back → in_order (map gift_of es) ≡ gs → Follows j c (gives_by (Client j) y (λ ls. lines.Begin (Client j) act ∷ dropped (Client j) es ls) going gs)
first_gives j c y act going es [] idle l by is = ends_follows j c _ refl refl
first_gives j c y act going es (g ∷ gs) idle l by is = record {
  servers = λ w. subst AreOfServers is (ordered_servers (map gift_of es) (1 ∷ 2 ∷ 3 ∷ 4 ∷ 5 ∷ 6 ∷ 7 ∷ 8 ∷ []));
  opens = λ o b q. subst IsOpen (sym by ∙ ap next (some_of going b q)) tt;
  spared = record { none = λ q. absurd cc; some = λ a q k. absurd (k (ap next (some_of a going (sym q)) ∙ by)) };
  dropped = λ o h. subst (λ (xs : List Gift). AreDropped (Client j) (fids_of_gifts xs) (onto (lines.Begin (Client j) act ∷ o) (dropped (Client j) es []))) is
      (ordered_dropped (Client j) (map gift_of es) (onto (lines.Begin (Client j) act ∷ o) (dropped (Client j) es [])) (dropped_each j es (lines.Begin (Client j) act ∷ o)));
  reads = λ b q k a z. absurd (none_runs c.running a idle z);
  fresh = λ b q k. refl;
  stays = λ b q z. absurd (more_not (y.last + 1) c.last (ap (λ (n : ℕ). n + 1) l) z);
}

first_follows : (j : ℕ) (c y : ClientState) (clock : ℕ) (act : Act) (going : Going) (need : Need) → IsSpared c → c.running ≡ None → y.last ≡ c.last → y.gifts ≡ c.gifts → next going ≡ need → Follows j c (begins_by (Client j) y clock (λ ls. lines.Begin (Client j) act ∷ ls) going need)
first_follows j c y clock act going gives_back sp idle l g by = first_gives j c (record y { cache = untrusted_in clock y.cache }) act going (trusted_in clock y.cache) (in_order (map gift_of (trusted_in clock y.cache))) idle l by refl
first_follows j c y clock act going need sp idle l g by = walks_follows j c y clock (λ ls. lines.Begin (Client j) act ∷ ls) going y.cache (λ a z. absurd (none_runs c.running a idle z)) (g ∙ sp.none idle) l

pub begins_follow : (j : ℕ) (c : ClientState) (clock : ℕ) (act : Act) → IsSpared c → c.running ≡ None → Follows j c (begin_row (Client j) c clock act)
unfolding begin_row
begins_follow j c clock act sp idle = first_follows j c (record c { busy = 0; moved = 0 }) clock act (began c.table act) (next (began c.table act)) sp idle refl refl refl

pub waits_follow : (j : ℕ) (c : ClientState) (act : Going) → IsSpared c → Follows j c (timeout_row (Client j) c act)
waits_follow j c act sp = either_follows (nat_lt c.tries 2) j c _ _ (rests_follows j c _ (record { running = refl; callee = refl; epoch = refl; last = refl; tries = inr (refl, λ o. inl (refl, (refl, (refl, (refl, refl))))); silent = refl; unspoiled = λ z. z; undropped = λ z act r f n o x. x }) (record { none = sp.none; some = sp.some }) refl (refl, λ f. refl)) (ends_follows j c _ refl refl)

pub falls_follow : (j : ℕ) (handed : List Location) (c : ClientState) → Follows j c (record { state = reborn handed c; lines = lines.Crash (Client j) ∷ []; sent = [] })
falls_follow j handed c = ends_follows j c _ refl refl

pub rises_follow : (j : ℕ) (c : ClientState) → IsSpared c → Follows j c (record { state = c; lines = lines.Restart (Client j) c.epoch ∷ []; sent = [] })
rises_follow j c sp = rests_follows j c _ (on_same j c _ refl refl refl refl refl refl (λ z. z) (λ z act r f n o x. x)) sp refl (refl, λ f. refl)

-- ---- an act that waits for the location database

pub sought_ends_follow : (j : ℕ) (c : ClientState) (front : List Line → List Line) (code : Code) → c.running ≡ None → IsSpared c → Follows j c (sought_ends (Client j) c front code)
sought_ends_follow j c front code none sp = ends_follows j c _ none (sp.none none)

pub sought_follow : (S : Script) (j : ℕ) (c : ClientState) (clock place : ℕ) (k : Seek) (head : Head) (x : Carried) → IsPlaced S c k → IsToldIn S x → IsSpared c → Follows j c (sought_by (Client j) c clock place k head x)
sought_follow S j c clock place k head x p w sp =
    by_quiet (Follows j c) j c place k head x (sought_by (Client j) c clock place k head x) (sought_quiet S j c clock place k head x p w)
    (λ code e h. sought_ends_follow j c (with_given place) code p.idle sp)
    (told_follows j c place [] sp)
    (rests_follows j c _ (on_same j c _ refl refl refl refl refl refl (λ z. z) (λ z act r f n o x. x)) (record { none = sp.none; some = sp.some }) refl (refl, λ f. refl))

pub missed_follow : (j : ℕ) (c : ClientState) (k : Seek) → c.running ≡ None → IsSpared c → Follows j c (seek_timeout_row (Client j) c k)
missed_follow j c k none sp = either_follows (nat_lt c.tries 2) j c _ _
    (rests_follows j c _ (record { running = refl; callee = refl; epoch = refl; last = refl; tries = inr (refl, λ o. inl (refl, (refl, (refl, (refl, refl))))); silent = refl; unspoiled = λ z. z; undropped = λ z act r f n o x. x }) (record { none = sp.none; some = sp.some }) refl (refl, λ f. refl))
    (sought_ends_follow j c (λ ls. timeout_line (Client j) c 3 ∷ ls) dead_code none sp)
