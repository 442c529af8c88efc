use Rattle.spec_history.specs.declared.acts.Operand.{Operand}
use Rattle.law_legal.specs.LocLaws.{IsToldIn}
use Rattle.spec_history.specs.declared.acts.Act.{Act}
use Rattle.spec_history.specs.declared.lines.Line.{Line}
use Rattle.spec_history.specs.declared.lines.Line.TheVariants as lines
use Rattle.spec_history.specs.declared.scripts.Script.{Script}
use Rattle.spec_ideal.specs.Operations.{volume_changed}
use Rattle.law_legal.proofs.ActLines.{Acts, is_of, who_at}
use Rattle.law_legal.proofs.ActSteps.{begins_acts, falls_acts, given_acts, rises_acts, waits_acts, IsPlaced, by_quiet, sought_quiet, missed_acts}
use Rattle.law_legal.proofs.KeptApart.{found_filter}
use Rattle.law_legal.proofs.OwedPasses.{all_lines}
use Rattle.law_legal.proofs.BaseLaws.{at_put, both, found-cached-fid, found-refreshed, same_fid-true, same_node-refl, some_of}
use Rattle.law_legal.proofs.VolumeChanges.{run_each}
use Rattle.law_legal.proofs.ServerChooses.{disk_works, one_from, risen_from, risen_lines, serves_works, starts_works, times_works, wakes_works}
use Rattle.law_legal.proofs.ClientReplyArrives.{Based, arrives, based_first, based_kept}
use Rattle.law_legal.proofs.KeptAtHome.{AreKept, HomedIn, IsAt, homed_first, homed_kept, kept_found}
use Rattle.law_legal.proofs.VolumesAreIdeal.{at_home, one_place}
use Rattle.law_legal.proofs.KeptRests.{mapped}
use Rattle.law_legal.proofs.KeptOwnStores.{store_made}
use Rattle.law_legal.proofs.VolumeOperations.{stored_fid}
use Rattle.law_legal.proofs.ReadOwnStores.{status_in}
use Rattle.law_legal.proofs.CallKeysOnce.{IsKnown, any_told, by_key}
use Rattle.law_legal.proofs.RunWalk.{EachMove, IsKept, each_moved}
use Rattle.law_legal.proofs.ActNeedsNext.{as_changed}
use Rattle.law_legal.proofs.ActCallsInRuns.{any_cut, any_message, blow_idle, idle_works, loc_idle, sought_acts_in, placed_in, told_in}
use Rattle.law_legal.proofs.ActCalls.{is_idle, of_client, other_node, server_apart, handed_same}
use Rattle.law_legal.proofs.ClientSent.{call_is}
use Rattle.law_legal.proofs.BaseWords.{AreApart}
use Rattle.law_legal.specs.Ideal.{Unless, IsPutAt, set_up_entry}
use Rattle.law_legal.specs.Legal.{ChangesIn, HasBrought, HasLearned, HasMadeItself, Loses, Sets, SetsBy, Stores, StoresBy, StoresInto, StoresIntoBy, as_asked}
use Rattle.law_legal.specs.Parts.{EachLine}
use Rattle.law_legal.specs.Past.{HasCode, lines_of, onto, running}
use Rattle.law_legal.specs.ServerParts.{CachedAreBrought, IsBroughtGood}
use Rattle.spec_model.specs.Calls as pairs
use Rattle.spec_model.specs.Calls.{Admitted, admitted}
use Rattle.afs_num.specs.Fids.{same_fid}
use Rattle.afs_num.specs.Nodes.{same_node}
use Rattle.afs_num.specs.declared.calls.AfsCallBack.{AfsCallBack}
use Rattle.afs_num.specs.declared.calls.AfsFetchStatus.{AfsFetchStatus}
use Rattle.afs_num.specs.declared.calls.AfsVolSync.{AfsVolSync}
use Rattle.afs_num.specs.declared.calls.FsCall.{FsCall}
use Rattle.afs_num.specs.declared.calls.FsCall.TheVariants as calls
use Rattle.afs_num.specs.declared.calls.FsReply.{FsReply}
use Rattle.afs_num.specs.declared.calls.FsReply.TheVariants as replies
use Rattle.afs_num.specs.declared.histories.Actor.{Actor}
use Rattle.afs_num.specs.declared.histories.Actor.TheVariants as actors
use Rattle.afs_num.specs.declared.histories.Body.{Body}
use Rattle.afs_num.specs.declared.histories.Body.TheVariants as bodies
use Rattle.afs_num.specs.declared.histories.ReadBody.TheVariants as seen
use Rattle.afs_num.specs.declared.histories.ReadSource.TheVariants.{Fetched}
use Rattle.afs_num.specs.declared.histories.ReadStatus.{ReadStatus}
use Rattle.afs_num.specs.declared.messages.Call.TheVariants as ask
use Rattle.afs_num.specs.declared.messages.Carried.{Carried}
use Rattle.afs_num.specs.declared.messages.Carried.TheVariants as carried
use Rattle.afs_num.specs.declared.messages.Message.{Message}
use Rattle.afs_num.specs.declared.messages.Received.TheVariants.{Whole}
use Rattle.afs_num.specs.declared.messages.Reply.TheVariants as tell
use Rattle.afs_num.specs.declared.types.Code.{Code}
use Rattle.afs_num.specs.declared.types.Fid.{Fid}
use Rattle.afs_num.specs.declared.types.Head.{Head}
use Rattle.afs_num.specs.declared.types.Node.{Node}
use Rattle.afs_num.specs.declared.types.Node.TheVariants.{Client, Server, Loc}
use Rattle.spec_rows.specs.Callbacks.{put}
use Rattle.spec_rows.specs.ClientRow.{admits_call, awaits, begin_row, begins_by, behind_batch, body_told, breaks, call_of, client_row, counts, dead_code, dropped, dropped_after, ended, entries_told, cache_entry_told, find_cached, gift_of, with_given, given_up_in, gives_by, gives_up, hears, ignores, in_order, is_awaited, stands_below, is_busy_code, is_among_fids, is_older, is_spent, is_trusted, left_after, left_in, most_busy, read_lines, refreshed, runs_carried, status_told, takes, takes_bulk, takes_data, takes_given, takes_list, takes_set, takes_shown, takes_status, timeout_line, timeout_row, tries_again, trusted_in, untrusted_in, whole, zero_code, act_by, asks_where, is_gone_code, most_moved, volume_asked, sought_by, seek_timeout_row, seeks_on, sought_ends}
use Rattle.spec_rows.specs.Going.{ClientState, Going, Need, asked, began, gives_back, next, with_read, Seek, operand_in}
use Rattle.law_legal.proofs.RunSteps.{blow_line, server_falls, server_moves, server_rises, server_set, server_stays, loc_becomes}
use Rattle.spec_rows.specs.Runs.{Cell, Entry, Moved, at_rest, begun_by_disk, in_boot, in_step, message_at, start, ticked, voided}
use Rattle.law_legal.proofs.RunSteps.{loc_becomes}
use Rattle.spec_rows.specs.Scopes.{may_change}
use Rattle.spec_rows.specs.ServerSteps.{back_timeout_row, server_row, wake_row}
use Rattle.spec_rows.specs.States.{CacheEntry, Gift}
use Rattle.spec_rows.specs.Steps.{Step}
use Rattle.std.proofs.Common.{suc, ◌≡◌, ◌<◌, ℕ, ◌+◌, arith, eq-eqb, eqb-true, ltb-true, ◌⊎◌, inl, inr, Bool, true, false, cond, List, [], ◌∷◌, ◌++◌, map, Option, Some, None, refl, sym, ap, subst, ◌∙◌, filter, not, nat_eq, nat_lt}
use Rattle.std.specs.Prelude.{◌&&◌}
use Rattle.law_legal.proofs.KeptCame.{Carries, Had, IsHad, IsNow, Spared, Told, Within, bare_steady, bare_step, bare_told, bodiless, dropped_bare, dropped_steady, drops_bare, either_carries, entries_carry, entry_carries, had_onto, is_bare, is_mild, is_tame, learned_onto, mild_lines, mild_onto, named_sparing, onto_append, onto_more, spared_filter, tame_step, walks_carry, within_filter}

-- ---- changes

plain_carries : (s : Script) (n place : ℕ) (c : ClientState) (past : List Entry) (call : FsCall) (code : Code) → IsNow s n c past → Carries s n past (record { state = ended c (left_after call c.cache); lines = with_given place (dropped (Client n) (dropped_after call c.cache) (lines.Answer (Client n) code ∷ [])); sent = [] })
plain_carries s n place c past call code N = bare_step s n c past _ N (dropped_bare (Client n) (dropped_after call c.cache) (lines.Answer (Client n) code ∷ []) refl) (spared_filter (Client n) (λ e. may_change call e.fid) c.cache (lines.Answer (Client n) code ∷ []) N.apart refl) (within_filter (λ e. not (may_change call e.fid)) c.cache N.apart)

made_at : (t : Bool) (u x e : CacheEntry) (b : Body) → cond t x u ≡ e → e.body ≡ Some b → ((t ≡ true) × ((x.body ≡ Some b) × (x.index ≡ e.index))) ⊎ ((u.body ≡ Some b) × (u.index ≡ e.index))
made_at true u x e b is h = inl (refl, (ap (λ (v : CacheEntry). v.body) is ∙ h, ap (λ (v : CacheEntry). v.index) is))
made_at false u x e b is h = inr (ap (λ (v : CacheEntry). v.body) is ∙ h, ap (λ (v : CacheEntry). v.index) is)

index_by : (t : Bool) (u x e : CacheEntry) → cond t x u ≡ e → ((t ≡ true) × (x.index ≡ e.index)) ⊎ (u.index ≡ e.index)
index_by true u x e is = inl (refl, ap (λ (v : CacheEntry). v.index) is)
index_by false u x e is = inr (ap (λ (v : CacheEntry). v.index) is)

-- the client's own store made this version
stored_carries : (s : Script) (n place clock : ℕ) (c : ClientState) (past : List Entry) (g : Fid) (index : ℕ) (status : ReadStatus) (made : Option Body → Option Body) → ((f : Fid) → g ≡ f → StoresIntoBy (running s (Client n) (lines_of past)) f) → HasMadeItself (Client n) g index (lines_of past) → ((f : Fid) (u : CacheEntry) (b : Body) → g ≡ f → find_cached f c.cache ≡ Some u → is_trusted clock u ≡ true → made u.body ≡ Some b → HasBrought s (Client n) f index b (lines.Answer (Client n) zero_code ∷ lines.Given place ∷ lines_of past)) → IsNow s n c past
    → Carries s n past (record { state = ended c (map (refreshed clock g index status made) c.cache); lines = with_given place (lines.Answer (Client n) zero_code ∷ []); sent = [] })
stored_carries s n place clock c past g index status made into itself new N = record {
  told = (tt, (tt, tt));
  after = λ f e found.
      let u = mapped (find_cached f c.cache) (refreshed clock g index status made) e (sym (found-refreshed clock g f index status made c.cache) ∙ found) in
      let t : Bool = same_fid u.0.fid g && is_trusted clock u.0 in
      let x : CacheEntry = record u.0 { index = index; status = status; body = made u.0.body } in
      let fid : t ≡ true → g ≡ f = λ z. sym (same_fid-true u.0.fid g (both (same_fid u.0.fid g) (is_trusted clock u.0) z).0) ∙ same_fid-true u.0.fid f (found-cached-fid f c.cache u.0 u.1.0) in (
        elim (index_by t u.0 x e u.1.1) [
          | inl y ↦ inl (refl, (refl, (into f (fid y.0), subst (λ (i : ℕ). HasMadeItself (Client n) f i (lines.Given place ∷ lines_of past)) y.1 (subst (λ (h : Fid). HasMadeItself (Client n) h index (lines_of past)) (fid y.0) itself))))
          | inr y ↦ inr (subst (λ (i : ℕ). HasLearned s (Client n) f i (lines_of past)) y (N.had f u.0 u.1.0).0)
        ],
        λ b body. elim (made_at t u.0 x e b u.1.1 body) [
          | inl y ↦ subst (λ (i : ℕ). HasBrought s (Client n) f i b (lines.Answer (Client n) zero_code ∷ lines.Given place ∷ lines_of past)) y.1.1 (new f u.0 b (fid y.0) u.1.0 (both (same_fid u.0.fid g) (is_trusted clock u.0) y.0).1 y.1.0)
          | inr y ↦ inr (subst (λ (i : ℕ). HasBrought s (Client n) f i b (lines_of past)) y.1 ((N.had f u.0 u.1.0).1 b y.0))
        ],
      );
}

-- the act that runs asks for this call
asks_call : (s : Script) (n : ℕ) (c : ClientState) (past : List Entry) (act : Going) (call : FsCall) (P : Option Going → Type 0) → running s (Client n) (lines_of past) ≡ Some act → P (Some act) → P (running s (Client n) (lines_of past))
asks_call s n c past act call P runs h = subst P (sym runs) h

asked_is : (c : ClientState) (act : Going) (call : FsCall) → call_of c act ≡ call → as_asked call ≡ call → asked act ≡ call
asked_is c act call same plain = sym (call_is c act) ∙ (ap as_asked same ∙ plain)

-- and it is of just this object
into_by : (s : Script) (n : ℕ) (c : ClientState) (past : List Entry) (act : Going) (call : FsCall) (f : Fid) → running s (Client n) (lines_of past) ≡ Some act → call_of c act ≡ call → as_asked call ≡ call → StoresInto call f → StoresIntoBy (running s (Client n) (lines_of past)) f
into_by s n c past act call f runs same plain h = asks_call s n c past act call (λ o. StoresIntoBy o f) runs (subst (λ (k : FsCall). StoresInto k f) (sym (asked_is c act call same plain)) h)

-- a store of the whole
stores_by : (s : Script) (n place : ℕ) (c : ClientState) (past : List Entry) (act : Going) (call : FsCall) (f : Fid) (index : ℕ) (b : Body) → HasMadeItself (Client n) f index (lines_of past) → running s (Client n) (lines_of past) ≡ Some act → call_of c act ≡ call → as_asked call ≡ call → Stores call f b → HasBrought s (Client n) f index b (lines.Answer (Client n) zero_code ∷ lines.Given place ∷ lines_of past)
stores_by s n place c past act call f index b itself runs same plain h =
    inl (refl, (refl, (itself, inl (asks_call s n c past act call (λ o. StoresBy o f b) runs (subst (λ (k : FsCall). Stores k f b) (sym (asked_is c act call same plain)) h)))))

-- and a setting of what isn't in the object, over contents of the index below
sets_by : (s : Script) (n place : ℕ) (c : ClientState) (past : List Entry) (act : Going) (call : FsCall) (f : Fid) (index below : ℕ) (b : Body) → HasMadeItself (Client n) f index (lines_of past) → index ≡ below + 1 → running s (Client n) (lines_of past) ≡ Some act → call_of c act ≡ call → as_asked call ≡ call → Sets call f → HasBrought s (Client n) f below b (lines_of past) → HasBrought s (Client n) f index b (lines.Answer (Client n) zero_code ∷ lines.Given place ∷ lines_of past)
sets_by s n place c past act call f index below b itself above runs same plain h had =
    inl (refl, (refl, (itself, inr (below, (above, (asks_call s n c past act call (λ o. SetsBy o f) runs (subst (λ (k : FsCall). Sets k f) (sym (asked_is c act call same plain)) h), had))))))

if_carries : (t : Bool) (s : Script) (n : ℕ) (past : List Entry) (a b : Step ClientState) → (t ≡ true → Carries s n past a) → Carries s n past b → Carries s n past (cond t a b)
if_carries true s n past a b h k = h refl
if_carries false s n past a b h k = k

-- a trusted entry that stands below the index is of the one below
below_by : (clock index : ℕ) (u : CacheEntry) → is_trusted clock u ≡ true → stands_below clock index (Some u) ≡ true → index ≡ u.index + 1
below_by clock index u trusted low =
    let one : nat_eq (u.index + 1) index ≡ true = sym (ap (λ (t : Bool). cond t (nat_eq (u.index + 1) index) true) trusted) ∙ low in
    sym (eqb-true (u.index + 1) index one)

status_carries : (s : Script) (n clock place : ℕ) (c : ClientState) (past : List Entry) (act : Going) (f : Fid) (status : AfsFetchStatus) (call : FsCall) → ((g : Fid) → f ≡ g → StoresIntoBy (running s (Client n) (lines_of past)) g) → HasMadeItself (Client n) f status.sync_counter (lines_of past) → c.running ≡ Some act → call_of c act ≡ call → as_asked call ≡ call → Sets call f → IsNow s n c past → Carries s n past (takes_status (Client n) c clock place f status call)
status_carries s n clock place c past act f status call into itself run same plain sets N =
    let index : ℕ = status.sync_counter in
    if_carries (not c.spoiled && stands_below clock index (find_cached f c.cache)) s n past _ _
    (λ t. stored_carries s n place clock c past f index (status_told status) (λ body. body) into itself
    (λ g u b e found trusted body.
    let low : stands_below clock index (find_cached f c.cache) ≡ true = (both (not c.spoiled) (stands_below clock index (find_cached f c.cache)) t).1 in
    let at : find_cached f c.cache ≡ Some u = ap (λ (h : Fid). find_cached h c.cache) e ∙ found in
    let above : index ≡ u.index + 1 = below_by clock index u trusted (subst (λ (o : Option CacheEntry). stands_below clock index o ≡ true) at low) in
    subst (λ (h : Fid). HasBrought s (Client n) h index b (lines.Answer (Client n) zero_code ∷ lines.Given place ∷ lines_of past)) e (sets_by s n place c past act call f index u.index b itself above (N.runs act run) same plain sets ((N.had f u at).1 b body)))
    N)
    (plain_carries s n place c past call zero_code N)

-- what the act's store made, by the status in its reply
abbrev Made : ℕ → List Entry → FsCall → AfsFetchStatus → Type 0
Made n past call status = (f : Fid) → stored_fid call ≡ Some f → HasMadeItself (Client n) f status.sync_counter (lines_of past)

set_carries : (s : Script) (n clock place : ℕ) (c : ClientState) (past : List Entry) (act : Going) (status : AfsFetchStatus) (call : FsCall) → Made n past call status → c.running ≡ Some act → call_of c act ≡ call → IsNow s n c past → Carries s n past (takes_set (Client n) c clock place status call)
set_carries s n clock place c past act status (calls.StoreData f set position wanted file_length contents) M run same N =
    either_carries c.spoiled s n past _ _ (plain_carries s n place c past (calls.StoreData f set position wanted file_length contents) zero_code N)
    (stored_carries s n place clock c past f status.sync_counter (status_told status) (λ body. Some (bodies.File contents)) (λ g e. into_by s n c past act (calls.StoreData f set position wanted file_length contents) g (N.runs act run) same refl e) (M f refl) (λ g u b e found trusted body. stores_by s n place c past act (calls.StoreData f set position wanted file_length contents) g status.sync_counter b (subst (λ (h : Fid). HasMadeItself (Client n) h status.sync_counter (lines_of past)) e (M f refl)) (N.runs act run) same refl (e, sym (some_of (bodies.File contents) b body))) N)
set_carries s n clock place c past act status (calls.StoreAcl f acl) M run same N = status_carries s n clock place c past act f status (calls.StoreAcl f acl) (λ g e. into_by s n c past act (calls.StoreAcl f acl) g (N.runs act run) same refl e) (M f refl) run same refl refl N
set_carries s n clock place c past act status (calls.StoreStatus f set) M run same N = status_carries s n clock place c past act f status (calls.StoreStatus f set) (λ g e. into_by s n c past act (calls.StoreStatus f set) g (N.runs act run) same refl e) (M f refl) run same refl refl N
set_carries s n clock place c past act status call M run same N = plain_carries s n place c past call zero_code N

-- ---- replies, by their calls

data_carries : (s : Script) (n clock place : ℕ) (c : ClientState) (past : List Entry) (act : Going) (contents : List ℕ) (status : AfsFetchStatus) (callback : AfsCallBack) (sync : AfsVolSync) (call : FsCall) → IsNow s n c past → Carries s n past (takes_data (Client n) c clock place act contents status callback sync call)
data_carries s n clock place c past act contents status callback sync (calls.FetchData f position wanted) N =
    entry_carries s n clock place c past act (cache_entry_told c.callee f status callback sync (Some (body_told status.file_type contents))) (seen.Contents (body_told status.file_type contents)) refl (λ b e. ap seen.Contents (some_of (body_told status.file_type contents) b e)) N
data_carries s n clock place c past act contents status callback sync call N = plain_carries s n place c past call zero_code N

shown_carries : (s : Script) (n clock place : ℕ) (c : ClientState) (past : List Entry) (act : Going) (status : AfsFetchStatus) (callback : AfsCallBack) (sync : AfsVolSync) (call : FsCall) → IsNow s n c past → Carries s n past (takes_shown (Client n) c clock place act status callback sync call)
shown_carries s n clock place c past act status callback sync (calls.FetchStatus f) N = entry_carries s n clock place c past act (cache_entry_told c.callee f status callback sync None) (seen.Status (status_told status)) refl (λ b e. absurd cc) N
shown_carries s n clock place c past act status callback sync call N = plain_carries s n place c past call zero_code N

drops_more : (m : Node) (es : List CacheEntry) (tail : List Line) → dropped m es tail ≡ dropped m es [] ++ tail
drops_more m [] tail = refl
drops_more m (e ∷ es) tail = ap (λ (o : List Line). lines.Drop m e.fid ∷ o) (drops_more m es tail)

drops_told : (s : Script) (n : ℕ) (past : List Entry) (es : List CacheEntry) (own tail : List Line) → Told s n past (onto own (dropped (Client n) es [])) tail → Told s n past own (dropped (Client n) es tail)
drops_told s n past [] own tail h = h
drops_told s n past (e ∷ es) own tail h = (tt, drops_told s n past es (lines.Drop (Client n) e.fid ∷ own) tail h)

list_carries : (s : Script) (n clock place : ℕ) (c : ClientState) (past : List Entry) (act : Going) (text : List ℕ) (status : AfsFetchStatus) (sync : AfsVolSync) (call : FsCall) → IsNow s n c past → Carries s n past (takes_list (Client n) c clock place act text status sync call)
list_carries s n clock place c past act text status sync (calls.FetchAcl g) N =
    let es : List CacheEntry = filter (is_older g status.sync_counter sync.release) c.cache in
    let kept_ : List CacheEntry = filter (λ e. not (is_older g status.sync_counter sync.release e)) c.cache in
    let r : Line = lines.Read (Client n) g status.sync_counter Fetched (seen.AccessList text) in
    let gone : List Line = dropped (Client n) es [] in
    let own : List Line = onto (r ∷ lines.Given place ∷ []) gone in
    let on : onto (r ∷ lines.Given place ∷ lines_of past) gone ≡ own ++ lines_of past = onto_append gone (r ∷ lines.Given place ∷ []) (lines_of past) in
    walks_carry s n clock c past (λ ls. read_lines (Client n) place (record { fid = g; index = status.sync_counter; source = Fetched; body = seen.AccessList text }) (dropped (Client n) es ls)) own (with_read g (seen.AccessList text) act) kept_ (record {
      rule = λ tail h. (tt, (tt, drops_told s n past es (r ∷ lines.Given place ∷ []) tail h));
      comes = λ tail. ap (onto (r ∷ lines.Given place ∷ lines_of past)) (drops_more (Client n) es tail) ∙ (onto_more (r ∷ lines.Given place ∷ lines_of past) gone tail ∙ ap (λ (o : List Line). onto o tail) on);
      had = subst (Had s n kept_) on (had_onto s n kept_ gone (r ∷ lines.Given place ∷ lines_of past) (dropped_steady (Client n) es [] refl) (spared_filter (Client n) (is_older g status.sync_counter sync.release) c.cache [] N.apart refl) (mild_onto s n kept_ (lines.Given place ∷ r ∷ []) (lines_of past) refl (λ f e x. N.had f e (within_filter (λ e. not (is_older g status.sync_counter sync.release e)) c.cache N.apart f e x))));
    })
list_carries s n clock place c past act text status sync call N = plain_carries s n place c past call zero_code N

bulk_carries : (s : Script) (n clock place : ℕ) (c : ClientState) (past : List Entry) (act : Going) (statuses : List AfsFetchStatus) (callbacks : List AfsCallBack) (sync : AfsVolSync) (call : FsCall) → IsNow s n c past → Carries s n past (takes_bulk (Client n) c clock place act statuses callbacks sync call)
bulk_carries s n clock place c past act statuses callbacks sync (calls.BulkStatus fids) N = entries_carry s n clock place c past act (entries_told c.callee sync fids statuses callbacks) (bodiless c.callee sync fids statuses callbacks) N
bulk_carries s n clock place c past act statuses callbacks sync call N = plain_carries s n place c past call zero_code N

gives_carry : (s : Script) (n place : ℕ) (c : ClientState) (past : List Entry) (act : Going) (gs : List Gift) → IsNow s n c past → Carries s n past (gives_by (Client n) c (with_given place) act gs)
gives_carry s n place c past act [] N = tame_step s n c past _ N refl (λ f e x. x)
gives_carry s n place c past act (g ∷ gs) N = tame_step s n c past _ N refl (λ f e x. x)

given_carries : (s : Script) (n place : ℕ) (c : ClientState) (past : List Entry) (act : Going) (call : FsCall) → IsNow s n c past → Carries s n past (takes_given (Client n) c place act call)
given_carries s n place c past act (calls.GiveUpCallBacks fids callbacks) N = gives_carry s n place c past act (behind_batch c.gifts) N
given_carries s n place c past act call N = plain_carries s n place c past call zero_code N

takes_carry : (s : Script) (n clock place : ℕ) (c : ClientState) (past : List Entry) (act : Going) (call : FsCall) (reply : FsReply) → ((status : AfsFetchStatus) → status_in (carried.Reply (tell.File reply)) ≡ Some status → Made n past call status) → c.running ≡ Some act → call_of c act ≡ call → IsNow s n c past → Carries s n past (takes (Client n) c clock place act call reply)
takes_carry s n clock place c past act call (replies.FetchData contents status callback sync) M run same N = data_carries s n clock place c past act contents status callback sync call N
takes_carry s n clock place c past act call (replies.FetchAcl text status sync) M run same N = list_carries s n clock place c past act text status sync call N
takes_carry s n clock place c past act call (replies.FetchStatus status callback sync) M run same N = shown_carries s n clock place c past act status callback sync call N
takes_carry s n clock place c past act call (replies.StoreData status sync) M run same N = set_carries s n clock place c past act status call (M status refl) run same N
takes_carry s n clock place c past act call (replies.StoreAcl status sync) M run same N = set_carries s n clock place c past act status call (M status refl) run same N
takes_carry s n clock place c past act call (replies.StoreStatus status sync) M run same N = set_carries s n clock place c past act status call (M status refl) run same N
takes_carry s n clock place c past act call (replies.BulkStatus statuses callbacks sync) M run same N = bulk_carries s n clock place c past act statuses callbacks sync call N
takes_carry s n clock place c past act call replies.GiveUpCallBacks M run same N = given_carries s n place c past act call N
takes_carry s n clock place c past act call reply M run same N = plain_carries s n place c past call zero_code N

-- what the reply for which the act waits tells of its store
abbrev AllMade : ℕ → ClientState → Going → Carried → List Entry → Type 0
AllMade n c act x past = (r : FsReply) (status : AfsFetchStatus) → x ≡ carried.Reply (tell.File r) → status_in x ≡ Some status → Made n past (call_of c act) status

where_carries : (s : Script) (n place : ℕ) (c : ClientState) (act : Going) (code : Code) (past : List Entry) (o : Option Operand) → IsNow s n c past → Carries s n past (asks_where (Client n) c place act code o)
where_carries s n place c act code past None N = tame_step s n c past _ N refl (λ f e z. z)
where_carries s n place c act code past (Some o) N = tame_step s n c past _ N refl (λ f e z. z)

counts_carry : (s : Script) (n clock place : ℕ) (c : ClientState) (act : Going) (head : Head) (x : Carried) (past : List Entry) → AllMade n c act x past → c.running ≡ Some act → IsNow s n c past → Carries s n past (counts (Client n) c clock place act head x)
counts_carry s n clock place c act head (carried.Call user call) past M run N = tame_step s n c past _ N refl (λ f e z. z)
counts_carry s n clock place c act head (carried.Refusal code) past M run N =
    either_carries (is_spent c act) s n past _ _ (tame_step s n c past _ N refl (λ f e z. z))
    (either_carries (is_busy_code code && nat_lt c.busy most_busy) s n past _ _ (tame_step s n c past _ N refl (λ f e z. z))
    (either_carries (is_gone_code code && nat_lt c.moved most_moved) s n past _ _ (where_carries s n place c act code past (operand_in act (volume_asked (call_of c act))) N) (tame_step s n c past _ N refl (λ f e z. z))))
counts_carry s n clock place c act head (carried.Reply (tell.File reply)) past M run N =
    either_carries (is_spent c act) s n past _ _ (tame_step s n c past _ N refl (λ f e z. z)) (takes_carry s n clock place c past act (call_of c act) reply (λ status e. M reply status refl e) run refl N)
counts_carry s n clock place c act head (carried.Reply reply) past M run N = tame_step s n c past _ N refl (λ f e z. z)
counts_carry s n clock place c act head carried.Notice past M run N = tame_step s n c past _ N refl (λ f e z. z)

awaited_carry : (s : Script) (n clock place : ℕ) (c : ClientState) (act : Going) (head : Head) (x : Carried) (past : List Entry) (t : Bool) → is_awaited c act head ≡ t → (is_awaited c act head ≡ true → AllMade n c act x past) → c.running ≡ Some act → IsNow s n c past → Carries s n past (cond t (counts (Client n) c clock place act head x) (ignores c place))
awaited_carry s n clock place c act head x past true e M run N = counts_carry s n clock place c act head x past (M e) run N
awaited_carry s n clock place c act head x past false e M run N = tame_step s n c past _ N refl (λ f e z. z)

-- of whichever act runs
abbrev AnyMade : ℕ → ClientState → Head → Carried → List Entry → Type 0
AnyMade n c head x past = (act : Going) → c.running ≡ Some act → is_awaited c act head ≡ true → AllMade n c act x past

awaits_carry : (s : Script) (n clock place : ℕ) (c : ClientState) (head : Head) (x : Carried) (past : List Entry) (o : Option Going) → AnyMade n c head x past → c.running ≡ o → IsNow s n c past → Carries s n past (awaits (Client n) c clock place head x o)
awaits_carry s n clock place c head x past None M run N = tame_step s n c past _ N refl (λ f e z. z)
awaits_carry s n clock place c head x past (Some act) M run N = awaited_carry s n clock place c act head x past (is_awaited c act head) refl (M act run) run N

-- ---- calls to it

not_false : (t : Bool) → not t ≡ true → t ≡ false
not_false true h = absurd cc
not_false false h = refl

-- what stays where all of one server goes is of another's volume
of_other : (s : Script) (f : Fid) (cache : List CacheEntry) (e : CacheEntry) (server : Node) → find_cached f cache ≡ Some e → not (same_node e.server server) ≡ true → AreKept (IsAt s) cache → IsPutAt f.volume server s.volumes → ⊥
of_other s f cache e server found away home at =
    let mine : IsPutAt f.volume e.server s.volumes = subst (λ (g : Fid). IsPutAt g.volume e.server s.volumes) (same_fid-true e.fid f (found-cached-fid f cache e found)) (kept_found (IsAt s) f cache e home found) in
    let same : e.server ≡ server = one_place f.volume e.server server s.volumes mine at in
    let no_ : not true ≡ true = sym (ap not (ap (λ (q : Node). same_node q server) same ∙ same_node-refl server)) ∙ away in absurd cc

breaks_carry : (s : Script) (n place : ℕ) (c : ClientState) (head : Head) (call : FsCall) (past : List Entry) → IsNow s n c past → Carries s n past (breaks (Client n) c place head call)
breaks_carry s n place c head (calls.CallBack fs callbacks) past N =
    bare_step s n c past _ N (drops_bare (Client n) fs)
    (λ f e found. named_sparing (Client n) f fs (subst (λ (g : Fid). is_among_fids g fs ≡ false) (same_fid-true e.fid f (found-cached-fid f (filter (λ u. not (is_among_fids u.fid fs)) c.cache) e found)) (not_false (is_among_fids e.fid fs) (found_filter (λ u. not (is_among_fids u.fid fs)) f c.cache e N.apart found).1)))
    (within_filter (λ e. not (is_among_fids e.fid fs)) c.cache N.apart)
breaks_carry s n place c head calls.InitCallBackState past N = record {
  told = bare_told s (actors.Node (Client n)) past [] (lines.Given place ∷ lines.DropAll (Client n) head.from ∷ []) refl;
  after = λ f e found.
      let was = found_filter (λ u. not (same_node u.server head.from)) f c.cache e N.apart found in
      let old : IsHad s n f e (lines_of past) = N.had f e was.0 in
      (learned_onto s (Client n) f e.index (lines.Given place ∷ lines.DropAll (Client n) head.from ∷ []) (lines_of past) refl old.0, λ b y. (λ same at. of_other s f c.cache e head.from was.0 was.1 N.home (at_home s f.volume head.from (lines.Given place ∷ lines_of past) at), old.1 b y));
}
breaks_carry s n place c head calls.Probe past N = tame_step s n c past _ N refl (λ f e z. z)
breaks_carry s n place c head call past N = tame_step s n c past _ N refl (λ f e z. z)

runs_carry : (s : Script) (n place : ℕ) (c : ClientState) (head : Head) (x : Carried) (past : List Entry) → IsNow s n c past → Carries s n past (runs_carried (Client n) c place head x)
runs_carry s n place c head (carried.Call user (ask.File call)) past N = breaks_carry s n place c head call past N
runs_carry s n place c head (carried.Call user call) past N = tame_step s n c past _ N refl (λ f e z. z)
runs_carry s n place c head x past N = tame_step s n c past _ N refl (λ f e z. z)

admits_carry : (s : Script) (n place : ℕ) (c : ClientState) (head : Head) (x : Carried) (o : Admitted Message) (past : List Entry) → IsNow s n c past → Carries s n past (admits_call (Client n) c place head (whole head x) o)
admits_carry s n place c head x pairs.runs past N = runs_carry s n place c head x past N
admits_carry s n place c head x (pairs.kept reply) past N = tame_step s n c past _ N refl (λ f e z. z)
admits_carry s n place c head x pairs.in_progress past N = tame_step s n c past _ N refl (λ f e z. z)
admits_carry s n place c head x pairs.older past N = tame_step s n c past _ N refl (λ f e z. z)
admits_carry s n place c head x (pairs.wrong_boot boot) past N = tame_step s n c past _ N refl (λ f e z. z)

hears_carry : (s : Script) (n clock place : ℕ) (c : ClientState) (head : Head) (x : Carried) (past : List Entry) → AnyMade n c head x past → IsNow s n c past → Carries s n past (hears (Client n) c clock place head x)
hears_carry s n clock place c head (carried.Call user call) past M N = admits_carry s n place c head (carried.Call user call) (admitted c.epoch c.seats head) past N
hears_carry s n clock place c head x past M N = awaits_carry s n clock place c head x past c.running M refl N

-- ---- its steps

told_carries : (s : Script) (n clock place : ℕ) (c : ClientState) (m : Message) (past : List Entry) → AnyMade n c m.head m.carried past → IsNow s n c past → Carries s n past (client_row (Client n) c clock place (Whole m))
unfolding client_row
told_carries s n clock place c m past M N = either_carries (same_node m.head.to (Client n)) s n past _ _ (hears_carry s n clock place c m.head m.carried past M N) (tame_step s n c past _ N refl (λ f e z. z))

first_gives : (s : Script) (n clock : ℕ) (c y : ClientState) (act : Act) (g : Going) (past : List Entry) (gs : List Gift) → y.cache ≡ c.cache → IsNow s n c past → Carries s n past (gives_by (Client n) (record y { cache = untrusted_in clock y.cache }) (λ ls. lines.Begin (Client n) act ∷ dropped (Client n) (trusted_in clock y.cache) ls) g gs)
first_gives s n clock c y act g past [] same N =
    bare_step s n c past _ N (dropped_bare (Client n) (trusted_in clock y.cache) (lines.Answer (Client n) zero_code ∷ []) refl) (spared_filter (Client n) (is_trusted clock) y.cache (lines.Answer (Client n) zero_code ∷ []) (subst AreApart (sym same) N.apart) refl) (λ f e x. subst (Within (filter (λ u. not (is_trusted clock u)) y.cache)) same (within_filter (λ u. not (is_trusted clock u)) y.cache (subst AreApart (sym same) N.apart)) f e x)
first_gives s n clock c y act g past (x ∷ gs) same N =
    bare_step s n c past _ N (dropped_bare (Client n) (trusted_in clock y.cache) [] refl) (spared_filter (Client n) (is_trusted clock) y.cache [] (subst AreApart (sym same) N.apart) refl) (λ f e x. subst (Within (filter (λ u. not (is_trusted clock u)) y.cache)) same (within_filter (λ u. not (is_trusted clock u)) y.cache (subst AreApart (sym same) N.apart)) f e x)

first_carries : (s : Script) (n clock : ℕ) (c : ClientState) (act : Act) (g : Going) (need : Need) (past : List Entry) → IsNow s n c past → Carries s n past (begins_by (Client n) (record c { busy = 0; moved = 0 }) clock (λ ls. lines.Begin (Client n) act ∷ ls) g need)
first_carries s n clock c act g gives_back past N = first_gives s n clock c (record c { busy = 0; moved = 0 }) act g past (in_order (map gift_of (trusted_in clock c.cache))) refl N
first_carries s n clock c act g need past N =
    walks_carry s n clock (record c { busy = 0; moved = 0 }) past (λ ls. lines.Begin (Client n) act ∷ ls) (lines.Begin (Client n) act ∷ []) g c.cache (record { rule = λ tail h. (tt, h); comes = λ tail. refl; had = N.had })

begun_carries : (s : Script) (n clock : ℕ) (c : ClientState) (act : Act) (past : List Entry) → IsNow s n c past → Carries s n past (begin_row (Client n) c clock act)
unfolding begin_row
begun_carries s n clock c act past N = first_carries s n clock c act (began c.table act) (next (began c.table act)) past N

spared_left : (m : Node) (o : Option ℕ) (cache : List CacheEntry) (ls : List Line) → AreApart cache → all_lines is_mild ls ≡ true → Spared (left_in o cache) (dropped m (given_up_in o cache) ls)
spared_left m None cache ls apart h f e found = (mild_lines f ls h).1
spared_left m (Some id) cache ls apart h f e found = spared_filter m (λ u. nat_eq u.fid.volume id) cache ls apart h f e found

within_left : (o : Option ℕ) (cache : List CacheEntry) → AreApart cache → Within (left_in o cache) cache
within_left None cache apart f e x = x
within_left (Some id) cache apart f e x = within_filter (λ u. not (nat_eq u.fid.volume id)) cache apart f e x

-- its first and its second timeout take nothing
not_by : (t : Bool) → (t ≡ true → ⊥) → not t ≡ true
not_by true w = absurd (w refl)
not_by false w = refl

few_tame : (n : ℕ) (c : ClientState) → nat_lt c.tries 2 ≡ true → all_lines is_tame (timeout_line (Client n) c (c.tries + 1) ∷ []) ≡ true
few_tame n c few =
    let below : c.tries < 2 = ltb-true c.tries 2 few in
    let no_third : not (nat_eq (c.tries + 1) 3) ≡ true = not_by (nat_eq (c.tries + 1) 3) (λ e. (let third : c.tries + 1 ≡ 3 = eqb-true (c.tries + 1) 3 e in absurd (omega (arith, below, third)))) in
    rw (no_third) refl

-- by the third it gives up what it has of the volume that the call changes
left_not : (o : Option ℕ) (f : Fid) (cache : List CacheEntry) (e : CacheEntry) → AreApart cache → find_cached f (left_in o cache) ≡ Some e → o ≡ Some f.volume → ⊥
left_not None f cache e apart found is = absurd cc
left_not (Some id) f cache e apart found is =
    let a = found_filter (λ u. not (nat_eq u.fid.volume id)) f cache e apart found in
    let same : e.fid.volume ≡ id = ap (λ (g : Fid). g.volume) (same_fid-true e.fid f (found-cached-fid f cache e a.0)) ∙ sym (some_of id f.volume is) in
    let no_ : not true ≡ true = sym (ap not (eq-eqb e.fid.volume id same)) ∙ a.1 in absurd cc

left_had : (s : Script) (n : ℕ) (c : ClientState) (act : Going) (past : List Entry) → IsNow s n c past → c.running ≡ Some act → Had s n (left_in (volume_changed (call_of c act)) c.cache) (timeout_line (Client n) c 3 ∷ lines_of past)
left_had s n c act past N r f e found =
    let had : IsHad s n f e (lines_of past) = N.had f e (within_left (volume_changed (call_of c act)) c.cache N.apart f e found) in
    let spared : Loses s (Client n) f.volume (Client n) c.callee 3 (lines_of past) → ⊥ =
    λ x. left_not (volume_changed (call_of c act)) f c.cache e N.apart found (sym (as_changed (call_of c act)) ∙ (ap volume_changed (call_is c act) ∙ subst (ChangesIn f.volume) (N.runs act r) x.1.1.1)) in
    ((spared, had.0), λ b y. (spared, had.1 b y))

gives_up_carries : (s : Script) (n : ℕ) (c : ClientState) (act : Going) (past : List Entry) → IsNow s n c past → c.running ≡ Some act → Carries s n past (gives_up (Client n) c (call_of c act))
gives_up_carries s n c act past N r =
    let o : Option ℕ = volume_changed (call_of c act) in
    let rest : List Line = dropped (Client n) (given_up_in o c.cache) (lines.Answer (Client n) dead_code ∷ []) in
    let bare : all_lines is_bare rest ≡ true = dropped_bare (Client n) (given_up_in o c.cache) (lines.Answer (Client n) dead_code ∷ []) refl in
    record {
      told = (tt, bare_told s (actors.Node (Client n)) past (timeout_line (Client n) c 3 ∷ []) rest bare);
      after = had_onto s n (left_in o c.cache) rest (timeout_line (Client n) c 3 ∷ lines_of past) (bare_steady rest bare) (spared_left (Client n) o c.cache (lines.Answer (Client n) dead_code ∷ []) N.apart refl) (left_had s n c act past N r);
    }

waits_by : (s : Script) (n : ℕ) (c : ClientState) (act : Going) (past : List Entry) (t : Bool) → nat_lt c.tries 2 ≡ t → IsNow s n c past → c.running ≡ Some act → Carries s n past (cond t (tries_again (Client n) c act) (gives_up (Client n) c (call_of c act)))
waits_by s n c act past true few N r = tame_step s n c past _ N (few_tame n c few) (λ f e z. z)
waits_by s n c act past false few N r = gives_up_carries s n c act past N r

waits_carry : (s : Script) (n : ℕ) (c : ClientState) (act : Going) (past : List Entry) → IsNow s n c past → c.running ≡ Some act → Carries s n past (timeout_row (Client n) c act)
waits_carry s n c act past N r = waits_by s n c act past (nat_lt c.tries 2) refl N r

-- an act that waits for the location database brings nothing
sought_carries : (s : Script) (n : ℕ) (c : ClientState) (clock place : ℕ) (k : Seek) (m : Message) (past : List Entry) → IsPlaced s c k → IsToldIn s m.carried → IsNow s n c past → Carries s n past (sought_by (Client n) c clock place k m.head m.carried)
sought_carries s n c clock place k m past p w N =
    by_quiet (Carries s n past) n c place k m.head m.carried (sought_by (Client n) c clock place k m.head m.carried) (sought_quiet s n c clock place k m.head m.carried p w)
    (λ code x y. tame_step s n c past _ N refl (λ f e z. z))
    (tame_step s n c past _ N refl (λ f e z. z)) (tame_step s n c past _ N refl (λ f e z. z))

-- where it is timed out for the third time nothing is lost: no server was asked for a change
missed_by : (s : Script) (n : ℕ) (c : ClientState) (k : Seek) (past : List Entry) (t : Bool) → nat_lt c.tries 2 ≡ t → c.callee ≡ Loc → IsNow s n c past → Carries s n past (cond t (seeks_on (Client n) c k) (sought_ends (Client n) c (λ ls. timeout_line (Client n) c 3 ∷ ls) dead_code))
missed_by s n c k past true few loc N = tame_step s n c past _ N (few_tame n c few) (λ f e z. z)
missed_by s n c k past false few loc N =
    let rest : List Line = lines.Answer (Client n) dead_code ∷ [] in
    record {
      told = (tt, bare_told s (actors.Node (Client n)) past (timeout_line (Client n) c 3 ∷ []) rest refl);
      after = had_onto s n c.cache rest (timeout_line (Client n) c 3 ∷ lines_of past) (bare_steady rest refl) (λ f e x. refl)
          (λ f e found. (let spared : Loses s (Client n) f.volume (Client n) c.callee 3 (lines_of past) → ⊥ = λ x. x.1.1.0 loc in ((spared, (N.had f e found).0), λ b y. (spared, (N.had f e found).1 b y))));
    }

missed_carries : (s : Script) (n : ℕ) (c : ClientState) (k : Seek) (past : List Entry) → c.callee ≡ Loc → IsNow s n c past → Carries s n past (seek_timeout_row (Client n) c k)
missed_carries s n c k past loc N = missed_by s n c k past (nat_lt c.tries 2) refl loc N

-- ---- every step

abbrev pub BroughtIn : Script → Cell → List Entry → Type 0
BroughtIn s c past = (j : ℕ) → Had s j (c.clients j).cache (lines_of past)

abbrev pub GivenBrought : Script → Cell → List Entry → Type 0
GivenBrought s c past = (Based s c past × HomedIn s c past) × BroughtIn s c past

now_at : (s : Script) (c : Cell) (past : List Entry) (n : ℕ) → GivenBrought s c past → IsNow s n (c.clients n) past
now_at s c past n h = record { apart = (h.0.0.kept.1 n).0; home = (h.0.1.1 n).homed.cache; had = h.1 n; runs = λ act r. h.0.0.kept.0.0.0.0.1.acts n ∙ ap (λ (a : Option Going). act_by a (c.clients n).seeking) r }

-- the reply for which the client waits
reply_code : (x : Carried) (r : FsReply) → x ≡ carried.Reply (tell.File r) → HasCode x
reply_code x r e = subst HasCode (sym e) tt

any_made : (s : Script) (c : Cell) (past : List Entry) (n place : ℕ) (m : Message) → Based s c past → message_at c.sent place ≡ Some m → m.head.to ≡ Client n → AnyMade n (c.clients n) m.head m.carried past
any_made s c past n place m B at to act run awaited r status file told f is = store_made s c past n act m r (call_of (c.clients n) act) f status B (arrives s c past n place act m B at (reply_code m.carried r file) to run awaited) file refl is told

-- a line by which this client may lose something that it keeps
abbrev is_taking : ℕ → Line → Bool
is_taking j (lines.Timeout n q e k count) = same_node n (Client j)
is_taking j (lines.Crash n) = same_node n (Client j)
is_taking j (lines.Drop n g) = same_node n (Client j)
is_taking j (lines.DropAll n q) = same_node n (Client j)
is_taking j l = false

apart_not : (j : ℕ) (n : Node) → same_node n (Client j) ≡ false → n ≡ Client j → ⊥
apart_not j n h same = let no_ : true ≡ false = sym (ap (λ (x : Node). same_node x (Client j)) same ∙ same_node-refl (Client j)) ∙ h in absurd cc

else_line : (s : Script) (j : ℕ) (f : Fid) (i : ℕ) (b : Body) (l : Line) (o : List Line) → is_taking j l ≡ false → HasBrought s (Client j) f i b o → HasBrought s (Client j) f i b (l ∷ o)
else_line s j f i b (lines.Crash n) o h k = subst (λ (t : Bool). Unless t (HasBrought s (Client j) f i b o)) (sym h) k
else_line s j f i b (lines.Drop n g) o h k = subst (λ (t : Bool). Unless (t && same_fid g f) (HasBrought s (Client j) f i b o)) (sym h) k
else_line s j f i b (lines.DropAll n q) o h k = ((λ same at. apart_not j n h same), k)
else_line s j f i b (lines.Timeout n q e number count) o h k = ((λ x. apart_not j n h x.0), k)
else_line s j f i b (lines.Read m g index source body) o h k = inr k
else_line s j f i b (lines.Answer m code) o h k = inr k
else_line s j f i b l o h k = k

else_learned : (s : Script) (j : ℕ) (f : Fid) (i : ℕ) (l : Line) (o : List Line) → is_taking j l ≡ false → HasLearned s (Client j) f i o → HasLearned s (Client j) f i (l ∷ o)
else_learned s j f i (lines.Crash n) o h k = subst (λ (t : Bool). Unless t (HasLearned s (Client j) f i o)) (sym h) k
else_learned s j f i (lines.Timeout n q e number count) o h k = ((λ x. apart_not j n h x.0), k)
else_learned s j f i (lines.Read m g index source body) o h k = inr k
else_learned s j f i (lines.Answer m code) o h k = inr k
else_learned s j f i l o h k = k

-- another node's lines take nothing from it
other_taking : (i j : ℕ) (l : Line) → is_of i l ≡ true → (i ≡ j → ⊥) → is_taking j l ≡ false
other_taking i j (lines.Timeout n q e k count) h ne = other_node n i j h ne
other_taking i j (lines.Crash n) h ne = other_node n i j h ne
other_taking i j (lines.Drop n g) h ne = other_node n i j h ne
other_taking i j (lines.DropAll n q) h ne = other_node n i j h ne
other_taking i j l h ne = refl

else_had : (s : Script) (j : ℕ) (cache : List CacheEntry) (l : Line) (o : List Line) → is_taking j l ≡ false → Had s j cache o → Had s j cache (l ∷ o)
else_had s j cache l o h k f e x = (else_learned s j f e.index l o h (k f e x).0, λ b y. else_line s j f e.index b l o h ((k f e x).1 b y))

other_onto : (s : Script) (i j : ℕ) (cache : List CacheEntry) (ls o : List Line) → all_lines (is_of i) ls ≡ true → (i ≡ j → ⊥) → Had s j cache o → Had s j cache (onto o ls)
other_onto s i j cache [] o h ne k = k
other_onto s i j cache (l ∷ ls) o h ne k = let q = both (is_of i l) (all_lines (is_of i) ls) h in other_onto s i j cache ls (l ∷ o) q.1 ne (else_had s j cache l o (other_taking i j l q.0 ne) k)

idle_taking : (j : ℕ) (l : Line) → is_idle l ≡ true → is_taking j l ≡ false
idle_taking j (lines.Timeout n q e k count) h = server_apart n j h
idle_taking j (lines.Crash n) h = server_apart n j h
idle_taking j (lines.Drop n g) h = server_apart n j h
idle_taking j (lines.DropAll n q) h = server_apart n j h
idle_taking j l h = refl

idle_onto : (s : Script) (j : ℕ) (cache : List CacheEntry) (ls o : List Line) → all_lines is_idle ls ≡ true → Had s j cache o → Had s j cache (onto o ls)
idle_onto s j cache [] o h k = k
idle_onto s j cache (l ∷ ls) o h k = let q = both (is_idle l) (all_lines is_idle ls) h in idle_onto s j cache ls (l ∷ o) q.1 (else_had s j cache l o (idle_taking j l q.0) k)

idle_told : (s : Script) (who : Actor) (past : List Entry) (own ls : List Line) → all_lines is_idle ls ≡ true → EachLine (IsBroughtGood s) who past own ls
idle_told s who past own [] h = tt
idle_told s who past own (lines.Read n f index source body ∷ ls) h = absurd cc
idle_told s who past own (l ∷ ls) h = (tt, idle_told s who past (l ∷ own) ls (both (is_idle l) (all_lines is_idle ls) h).1)

record Done (s : Script) (m : Moved) (past : List Entry) : Type 0 where
  had : BroughtIn s m.cell (m.entry ∷ past)
  told : EachLine (IsBroughtGood s) m.entry.actor past [] m.entry.lines

abbrev BroughtStep : Script → Cell → List Entry → Moved → Type 0
BroughtStep s c past m = Done s m past

own_had : (s : Script) (c : Cell) (past : List Entry) (n : ℕ) (st : Step ClientState) → GivenBrought s c past → Acts n (who_at (c.clients n)) (c.clients n).gifts st → Had s n st.state.cache (onto (lines_of past) st.lines) → (j : ℕ) → Had s j (put n st.state c.clients j).cache (onto (lines_of past) st.lines)
own_had s c past n st h a k j =
    at_put n j (λ (x : ClientState). Had s j x.cache (onto (lines_of past) st.lines)) st.state c.clients
    (λ same. subst (λ (i : ℕ). Had s i st.state.cache (onto (lines_of past) st.lines)) same k)
    (λ other. other_onto s n j (c.clients j).cache st.lines (lines_of past) a.of other (h.1 j))

client_done : (s : Script) (c : Cell) (past : List Entry) (n : ℕ) (st : Step ClientState) → GivenBrought s c past → Acts n (who_at (c.clients n)) (c.clients n).gifts st → Carries s n past st → (j : ℕ) → Had s j (put n st.state c.clients j).cache (lines_of (of_client n st ∷ past))
client_done s c past n st h a k = own_had s c past n st h a k.after

idle_had : (s : Script) (c : Cell) (past : List Entry) (y : Entry) → GivenBrought s c past → all_lines is_idle y.lines ≡ true → BroughtIn s c (y ∷ past)
idle_had s c past y h idle j = idle_onto s j (c.clients j).cache y.lines (lines_of past) idle (h.1 j)

brought_moves : (s : Script) → EachMove (GivenBrought s) (BroughtStep s)
brought_moves s = record {
  void = λ c past h. record { had = idle_had s c past (voided c).entry h refl; told = (tt, tt) };
  ticked = λ c past n h. record { had = idle_had s c past (ticked c (suc n)).entry h refl; told = (tt, tt) };
  begun = λ c past n act h r z. (let k = begun_carries s n c.clock (c.clients n) act past (now_at s c past n h) in record { had = client_done s c past n _ h (begins_acts n (c.clients n) c.clock act r z) k; told = k.told });
  told = λ c past n place m h at to un. (let k = told_carries s n c.clock place (c.clients n) m past (any_made s c past n place m h.0.0 at to) (now_at s c past n h) in record { had = client_done s c past n _ h (given_acts (by_key (IsKnown h.0.0.kept.0.0.0.0.0.keys.callees c.clients)) any_told n (c.clients n) c.clock place m (h.0.0.kept.0.0.0.0.0.keys.replies n) (h.0.0.kept.0.0.0.0.1.seats n)) k; told = k.told });
  sought = λ c past n place m k h at to z e. (let k' = sought_carries s n (c.clients n) c.clock place k m past (placed_in s c past n k h.0.0.kept.0.0.0.0.1 z) (told_in s c past n place m k h.0.0.kept.0.0.0.0.1 at e) (now_at s c past n h) in record { had = client_done s c past n _ h (sought_acts_in s c past n place m k h.0.0.kept.0.0.0.0.1 at z e) k'; told = k'.told });
  missed = λ c past n k h r z. (let k' = missed_carries s n (c.clients n) k past (h.0.0.kept.0.0.0.0.1.seeks n k z).callee (now_at s c past n h) in record { had = client_done s c past n _ h (missed_acts n (c.clients n) k r z) k'; told = k'.told });
  loc = λ c past l ls ms h st. record { had = idle_had s c past (loc_becomes c l ls ms).entry h (loc_idle ls st.lines); told = idle_told s (actors.Node Loc) past [] ls (loc_idle ls st.lines) };
  waited = λ c past n act h r. (let k = waits_carry s n (c.clients n) act past (now_at s c past n h) r in record { had = client_done s c past n _ h (waits_acts n (c.clients n) act r) k; told = k.told });
  fallen = λ c past n h. record { had = own_had s c past n _ h (falls_acts n c.handed (c.clients n) (handed_same s c past (h.0.0.kept.0.0.0.0.1) n)) (λ f e x. absurd cc); told = (tt, tt) };
  risen = λ c past n h. record { had = own_had s c past n _ h (rises_acts n (c.clients n)) (h.1 n); told = (tt, tt) };
  served = λ c past i place m armed h up at to. (let z = idle_works any_message i (c.hosts i).state _ _ (serves_works any_message (Server i) (c.hosts i).state c.clock place m (λ rest. tt)) in record { had = idle_had s c past (server_moves c i armed (server_row (Server i) (c.hosts i).state c.clock place (Whole m))).entry h z; told = idle_told s (actors.Node (Server i)) past [] _ z });
  cut = λ c past i place m t h up at to. record { had = idle_had s c past (server_falls c i (lines.Given place ∷ blow_line i t.stops ∷ []) (in_step m c.clock t)).entry h (blow_idle i t.stops); told = idle_told s (actors.Node (Server i)) past [] (lines.Given place ∷ blow_line i t.stops ∷ []) (blow_idle i t.stops) };
  stopped = λ c past i h up. record { had = idle_had s c past (server_falls c i (lines.Crash (Server i) ∷ []) at_rest).entry h refl; told = (tt, tt) };
  stop_set = λ c past i calls pick armed h up. record { had = idle_had s c past (server_set c i (lines.Stop (Server i) calls pick) armed).entry h refl; told = (tt, tt) };
  fail_set = λ c past i call armed h up. record { had = idle_had s c past (server_set c i (lines.Fail (Server i) call) armed).entry h refl; told = (tt, tt) };
  timed = λ c past i n b armed h up at. (let z = idle_works any_message i (c.hosts i).state _ _ (times_works any_message (Server i) (c.hosts i).state c.clock n b) in record { had = idle_had s c past (server_moves c i armed (back_timeout_row (Server i) (c.hosts i).state c.clock n b)).entry h z; told = idle_told s (actors.Node (Server i)) past [] _ z });
  woken = λ c past i armed h up. (let z = idle_works any_message i (c.hosts i).state _ _ (wakes_works any_message (Server i) (c.hosts i).state c.clock) in record { had = idle_had s c past (server_moves c i armed (wake_row (Server i) (c.hosts i).state c.clock)).entry h z; told = idle_told s (actors.Node (Server i)) past [] _ z });
  started = λ c past i after fall h down.
      (let z = idle_works any_message i (c.hosts i).state _ _ (starts_works any_message (Server i) (c.hosts i).state c.clock c.count (begun_by_disk (Server i) (c.hosts i).state after fall) (disk_works any_message (Server i) (c.hosts i).state after fall (risen_lines (Server i) c.clock c.count (begun_by_disk (Server i) (c.hosts i).state after fall)) (any_cut fall) (risen_from (Server i) c.clock c.count (begun_by_disk (Server i) (c.hosts i).state after fall)))) in
      record { had = idle_had s c past (server_rises c i (begun_by_disk (Server i) (c.hosts i).state after fall)).entry h z; told = idle_told s (actors.Node (Server i)) past [] _ z });
  early = λ c past i fall h down. record { had = idle_had s c past (server_falls c i (lines.Fault (Server i) ∷ []) fall).entry h refl; told = (tt, tt) };
  midway = λ c past i after fall h down. (let z = idle_works any_message i (c.hosts i).state _ _ (disk_works any_message (Server i) (c.hosts i).state after fall (lines.Fault (Server i) ∷ []) (any_cut fall) (one_from (Server i) true refl)) in record { had = idle_had s c past (server_stays c i (begun_by_disk (Server i) (c.hosts i).state after fall) (lines.Fault (Server i)) in_boot).entry h z; told = idle_told s (actors.Node (Server i)) past [] _ z });
  full = λ c past i after fall h down. (let z = idle_works any_message i (c.hosts i).state _ _ (disk_works any_message (Server i) (c.hosts i).state after fall (lines.Full (Server i) ∷ []) (any_cut fall) (one_from (Server i) true refl)) in record { had = idle_had s c past (server_stays c i (begun_by_disk (Server i) (c.hosts i).state after fall) (lines.Full (Server i)) at_rest).entry h z; told = idle_told s (actors.Node (Server i)) past [] _ z });
}

pub brought_kept : (s : Script) → IsKept (GivenBrought s)
brought_kept s c past x so h = ((based_kept s c past x so h.0.0, homed_kept s c past x so h.0.1), (each_moved (GivenBrought s) (BroughtStep s) (brought_moves s) c past x so h).had)

pub brought_first : (s : Script) → GivenBrought s (start s) (set_up_entry s ∷ [])
brought_first s = ((based_first s, homed_first s), λ j f e x. absurd cc)

pub run_brought : CachedAreBrought
run_brought s h end r =
    run_each (GivenBrought s) (λ past e. EachLine (IsBroughtGood s) e.actor past [] e.lines) (brought_kept s) (λ c past x so k. (each_moved (GivenBrought s) (BroughtStep s) (brought_moves s) c past x so k).told) r.inputs s (set_up_entry s ∷ []) h end (brought_first s) r.leads
