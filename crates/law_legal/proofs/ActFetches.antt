-- What an act fetches is of replies to its own calls, and each answer has its cause, however many servers a cell has.
use Rattle.law_legal.proofs.ClientCallsAtHome.{IsServer}
use Rattle.spec_history.specs.declared.lines.Line.{Line}
use Rattle.spec_history.specs.declared.lines.Line.TheVariants as lines
use Rattle.spec_history.specs.declared.scripts.Script.{Script}
use Rattle.spec_ideal.specs.Operations.{volume_changed}
use Rattle.law_legal.proofs.ActLines.{read_all, walked_reads}
use Rattle.law_legal.proofs.ClientSent.{call_is}
use Rattle.law_legal.proofs.OwedPasses.{all_lines}
use Rattle.law_legal.proofs.BaseLaws.{both, same_node-refl, some_of}
use Rattle.law_legal.proofs.ActCalls.{is_idle}
use Rattle.law_legal.proofs.KeptPasses.{sent_either}
use Rattle.law_legal.specs.Breaks.{IsNamedIn}
use Rattle.law_legal.specs.ClientParts.{IsDue, IsDueCode, IsUsed}
use Rattle.law_legal.specs.Grants.{is_promised}
use Rattle.law_legal.specs.Ideal.{callee_under, user_of}
use Rattle.law_legal.specs.Legal.{Brings, EndsAct, GoesOn, HasUsed, IsLastCall, IsOnItsWay, IsUse, has_read}
use Rattle.law_legal.specs.Parts.{EachLine}
use Rattle.law_legal.specs.Legal.{IsKind}
use Rattle.law_legal.specs.Past.{CalledSince, IsReply, answered_key, code_told, given_message, has_begun, lines_of, running, sent_of}
use Rattle.afs_num.specs.Nodes.{same_node}
use Rattle.afs_num.specs.declared.calls.AfsCallBack.{AfsCallBack}
use Rattle.afs_num.specs.declared.calls.AfsFetchStatus.{AfsFetchStatus}
use Rattle.afs_num.specs.declared.calls.AfsVolSync.{AfsVolSync}
use Rattle.afs_num.specs.declared.calls.FsCall.{FsCall}
use Rattle.afs_num.specs.declared.calls.FsCall.TheVariants as calls
use Rattle.afs_num.specs.declared.histories.Actor.{Actor}
use Rattle.afs_num.specs.declared.histories.Actor.TheVariants as actors
use Rattle.afs_num.specs.declared.histories.Body.{Body}
use Rattle.afs_num.specs.declared.histories.ReadBody.{ReadBody}
use Rattle.afs_num.specs.declared.histories.ReadBody.TheVariants as seen
use Rattle.afs_num.specs.declared.histories.ReadSource.{ReadSource}
use Rattle.afs_num.specs.declared.histories.ReadSource.TheVariants.{Cached, Fetched}
use Rattle.afs_num.specs.declared.messages.Carried.{Carried}
use Rattle.afs_num.specs.declared.messages.Message.{Message}
use Rattle.afs_num.specs.declared.types.Code.{Code}
use Rattle.afs_num.specs.declared.types.Fid.{Fid}
use Rattle.afs_num.specs.declared.types.Node.{Node}
use Rattle.afs_num.specs.declared.types.Node.TheVariants.{Client}
use Rattle.spec_rows.specs.ClientRow.{Look, Walked, body_seen, call_by, call_of, dropped, entries_told, find_cached, with_given, goes_by, is_trusted, look_at, looked, most_reads, put_entries, put_entry, read_lines, shown_by, status_look, not_walked, takes_entries, takes_entry, used_first, walked, walked_at, walked_by, walked_with, walks_on, with_statuses}
use Rattle.spec_rows.specs.Going.{ClientState, Going, Need, answers, asks_for, gives_back, next, reads, reads_rights, reads_status, reads_statuses, with_read, locates}
use Rattle.spec_rows.specs.Runs.{Entry, message_at}
use Rattle.spec_rows.specs.States.{CacheEntry, Gift}
use Rattle.spec_rows.specs.Steps.{Step}
use Rattle.std.proofs.Common.{zero, suc, ◌≡◌, ℕ, inl, inr, Bool, true, false, cond, List, [], ◌∷◌, ◌++◌, map, Option, Some, None, refl, sym, ap, subst, ◌∙◌, not, pos}
use Rattle.std.specs.List.{list_any}
use Rattle.std.specs.Prelude.{⊤}

-- ---- lines that are no reads and no answers

pub idle_due : (s : Script) (who : Actor) (past : List Entry) (own ls : List Line) → all_lines is_idle ls ≡ true → EachLine (IsDue s) who past own ls
idle_due s who past own [] h = tt
idle_due s who past own (lines.Read n f index source body ∷ ls) h = absurd cc
idle_due s who past own (lines.Answer n code ∷ ls) h = absurd cc
idle_due s who past own (l ∷ ls) h = (tt, idle_due s who past (l ∷ own) ls (both (is_idle l) (all_lines is_idle ls) h).1)

-- those of a client
abbrev pub Due : Script → ℕ → List Entry → List Line → List Line → Type 0
Due s n past own ls = EachLine (IsDue s) (actors.Node (Client n)) past own ls

abbrev pub Runs : Script → ℕ → List Entry → List Line → Going → Type 0
Runs s n past own g = running s (Client n) (own ++ lines_of past) ≡ Some g

-- what the client's reads and drops leave of the lines before
pub record IsSteady (n : ℕ) (K : List Line → Type 0) : Type 0 where
  pub reads' : (own : List Line) (f : Fid) (index : ℕ) (source : ReadSource) (body : ReadBody) → K own → K (lines.Read (Client n) f index source body ∷ own)
  pub drops' : (own : List Line) (f : Fid) → K own → K (lines.Drop (Client n) f ∷ own)

abbrev pub Rest : Script → ℕ → List Entry → (List Line → Type 0) → Going → List Line → Type 0
Rest s n past K g ls = (o : List Line) → K o → Runs s n past o g → Due s n past o ls

pub drops_due : (s : Script) (n : ℕ) (past : List Entry) (K : List Line → Type 0) → IsSteady n K → (es : List CacheEntry) (own ls : List Line) (g : Going) → K own → Runs s n past own g → Rest s n past K g ls → Due s n past own (dropped (Client n) es ls)
drops_due s n past K st [] own ls g k r w = w own k r
drops_due s n past K st (e ∷ es) own ls g k r w = (tt, drops_due s n past K st es (lines.Drop (Client n) e.fid ∷ own) ls g (st.drops' own e.fid k) r w)

pub read_runs : (s : Script) (n : ℕ) (o : List Line) (f : Fid) (index : ℕ) (source : ReadSource) (body : ReadBody) (g : Going) → running s (Client n) o ≡ Some g → running s (Client n) (lines.Read (Client n) f index source body ∷ o) ≡ Some (with_read f body g)
read_runs s n o f index source body g r = rw (same_node-refl (Client n), r) refl

-- ---- reads from the cache

abbrev pub AreCached : List Look → Type 0
AreCached [] = ⊤
AreCached (l ∷ looks) = ((l.source ≡ Cached) × (is_promised l.body ≡ true)) × AreCached looks

cached_use : (s : Script) (c : Node) (f : Fid) (source : ReadSource) (body : ReadBody) (past : List Entry) (own : List Line) (t : Bool) → t ≡ true → source ≡ Cached → GoesOn s c past own → IsUsed s t c f source body past own
cached_use s c f source body past own true e is on = ((λ z. let no_ : Cached ≡ Fetched = sym is ∙ z in absurd cc), subst (λ (x : ReadSource). IsOnItsWay s c x past own) (sym is) on)
cached_use s c f source body past own false e is on = absurd cc

-- where K holds the act is on its way
abbrev pub IsEnough : Script → ℕ → List Entry → (List Line → Type 0) → Type 0
IsEnough s n past K = (o : List Line) → K o → GoesOn s (Client n) past o

looks_due : (s : Script) (n : ℕ) (past : List Entry) (K : List Line → Type 0) → IsSteady n K → IsEnough s n past K → (looks : List Look) → AreCached looks → (own ls : List Line) (g : Going) → K own → Runs s n past own g → Rest s n past K (read_all looks g) ls → Due s n past own (looked (Client n) looks ls)
looks_due s n past K st enough [] h own ls g k r w = w own k r
looks_due s n past K st enough (l ∷ looks) h own ls g k r w = (
  cached_use s (Client n) l.fid l.source l.body past own (is_promised l.body) h.0.1 h.0.0 (enough own k),
  looks_due s n past K st enough looks h.1 (lines.Read (Client n) l.fid l.index l.source l.body ∷ own) ls (with_read l.fid l.body g) (st.reads' own l.fid l.index l.source l.body k) (read_runs s n (own ++ lines_of past) l.fid l.index l.source l.body g r) w,
)

abbrev pub Caches : (Going → List CacheEntry → Walked) → Type 0
Caches more = (act : Going) (cache : List CacheEntry) → AreCached (more act cache).looks

abbrev ArePromised : Option ReadBody → Type 0
ArePromised o = (body : ReadBody) → o ≡ Some body → is_promised body ≡ true

with_cached : (more : Going → List CacheEntry → Walked) (act : Going) (cache : List CacheEntry) (e : CacheEntry) (o : Option ReadBody) → ArePromised o → Caches more → AreCached (walked_with more act cache e o).looks
with_cached more act cache e None p w = tt
with_cached more act cache e (Some body) p w = ((refl, p body refl), w (with_read e.fid body act) (used_first e cache))

trusted_cached : (t : Bool) (more : Going → List CacheEntry → Walked) (act : Going) (cache : List CacheEntry) (e : CacheEntry) (o : Option ReadBody) → ArePromised o → Caches more → AreCached (cond t (walked_with more act cache e o) (not_walked act cache)).looks
trusted_cached true more act cache e o p w = with_cached more act cache e o p w
trusted_cached false more act cache e o p w = tt

at_cached : (more : Going → List CacheEntry → Walked) (clock : ℕ) (act : Going) (cache : List CacheEntry) (need : Need) (o : Option CacheEntry) → ((e : CacheEntry) → ArePromised (shown_by need e)) → Caches more → AreCached (walked_at more clock act cache need o).looks
at_cached more clock act cache need None p w = tt
at_cached more clock act cache need (Some e) p w = trusted_cached (is_trusted clock e) more act cache e (shown_by need e) (p e) w

seen_promised : (o : Option Body) → ArePromised (body_seen o)
seen_promised None body e = absurd cc
seen_promised (Some b) body e = subst (λ (x : ReadBody). is_promised x ≡ true) (some_of (seen.Contents b) body e) refl

status_promised : (e : CacheEntry) → ArePromised (Some (seen.Status e.status))
status_promised e body q = subst (λ (x : ReadBody). is_promised x ≡ true) (some_of (seen.Status e.status) body q) refl

by_cached : (more : Going → List CacheEntry → Walked) (clock : ℕ) (act : Going) (cache : List CacheEntry) (need : Need) → Caches more → AreCached (walked_by more clock act cache need).looks
by_cached more clock act cache (reads f) w = at_cached more clock act cache (reads f) (find_cached f cache) (λ e. seen_promised e.body) w
by_cached more clock act cache (reads_status f) w = at_cached more clock act cache (reads_status f) (find_cached f cache) status_promised w
by_cached more clock act cache need w = tt

pub walked_cached : (k clock : ℕ) → Caches (walked k clock)
walked_cached zero clock act cache = tt
walked_cached (suc k) clock act cache = by_cached (walked k clock) clock act cache (next act) (walked_cached k clock)

-- ---- an act goes on

abbrev pub Fronts : Script → ℕ → List Entry → (List Line → Type 0) → Going → (List Line → List Line) → Type 0
Fronts s n past K g front = (ls : List Line) → Rest s n past K g ls → Due s n past [] (front ls)

goes_due : (s : Script) (n : ℕ) (past : List Entry) (K : List Line → Type 0) → IsSteady n K → IsEnough s n past K → (y : ClientState) (front : List Line → List Line) (g : Going) (w : Walked) (need : Need) → next w.act ≡ need → Fronts s n past K g front → AreCached w.looks → read_all w.looks g ≡ w.act → Due s n past [] (goes_by (Client n) y front w need).lines
goes_due s n past K st enough y front g w (answers k) e f c same =
    f (looked (Client n) w.looks (lines.Answer (Client n) (record { 0 = pos k }) ∷ []))
    (λ o x r. looks_due s n past K st enough w.looks c o (lines.Answer (Client n) (record { 0 = pos k }) ∷ []) g x r
    (λ p y' q. (record { act = w.act; runs = q ∙ ap (λ (h : Going). Some h) same; cause = inr (inl (record { number = k; is = refl; by = e; last = enough p y' })) }, tt)))
goes_due s n past K st enough y front g w need e f c same = f (looked (Client n) w.looks []) (λ o x r. looks_due s n past K st enough w.looks c o [] g x r (λ p y' q. tt))

pub walks_due : (s : Script) (n : ℕ) (past : List Entry) (K : List Line → Type 0) → IsSteady n K → IsEnough s n past K → (y : ClientState) (clock : ℕ) (front : List Line → List Line) (g : Going) (cache : List CacheEntry) → Fronts s n past K g front → Due s n past [] (walks_on (Client n) y clock front g cache).lines
walks_due s n past K st enough y clock front g cache f =
    let w : Walked = walked (most_reads g) clock g cache in
    goes_due s n past K st enough y front g w (next w.act) refl f (walked_cached (most_reads g) clock g cache) (walked_reads (most_reads g) clock g cache)

pub either_due : (s : Script) (n : ℕ) (past : List Entry) (t : Bool) (a b : Step ClientState) → Due s n past [] a.lines → Due s n past [] b.lines → Due s n past [] (cond t a b).lines
either_due s n past true a b h k = h
either_due s n past false a b h k = k

-- ---- behind a reply to the call of the act that runs

pub record IsTold (s : Script) (n place : ℕ) (c : ClientState) (act : Going) (m : Message) (past : List Entry) : Type 0 where
  pub runs : running s (Client n) (lines_of past) ≡ Some act
  pub at : message_at (sent_of past) place ≡ Some m
  pub reply : IsReply m
  pub to : m.head.to ≡ Client n
  pub server : IsServer m.head.from
  pub called : CalledSince (answered_key m.head) (user_of s (Client n)) (call_of c act) past
  pub from : callee_under (answered_key m.head) (sent_of past) ≡ Some m.head.from
  pub last : IsLastCall (answered_key m.head) (sent_of past)

-- this message was given, and no act begun
abbrev pub IsGiven : ℕ → Message → List Entry → List Line → Type 0
IsGiven n m past own = (given_message own (sent_of past) ≡ Some m) × (has_begun (Client n) own ≡ false)

-- and something was read
abbrev pub IsRead : ℕ → Message → List Entry → List Line → Type 0
IsRead n m past own = IsGiven n m past own × (has_read (Client n) own ≡ true)

given_steady : (n : ℕ) (m : Message) (past : List Entry) → IsSteady n (IsGiven n m past)
given_steady n m past = record { reads' = λ own f index source body k. k; drops' = λ own f k. k }

pub read_steady : (n : ℕ) (m : Message) (past : List Entry) → IsSteady n (IsRead n m past)
read_steady n m past = record { reads' = λ own f index source body k. (k.0, sent_either (same_node (Client n) (Client n)) (has_read (Client n) own) k.1); drops' = λ own f k. k }

now_used : (s : Script) (n place : ℕ) (c : ClientState) (act : Going) (m : Message) (past : List Entry) (own : List Line) → IsTold s n place c act m past → code_told m.carried ≡ Some (pos 0) → IsGiven n m past own → HasUsed s (Client n) past own
now_used s n place c act m past own q zero_told k = record { reply = m; by = k.0; is_reply = q.reply; told = zero_told; to = q.to; before = k.1; call = call_of c act; called = q.called; from = q.from; last = q.last }

now_use : (s : Script) (n place : ℕ) (c : ClientState) (act : Going) (m : Message) (past : List Entry) (own : List Line) (f : Fid) (body : ReadBody) → Brings (call_of c act) f body → IsTold s n place c act m past → code_told m.carried ≡ Some (pos 0) → IsGiven n m past own → IsUse s (Client n) f body past own
now_use s n place c act m past own f body of q zero_told k = record { used = record { reply = m; by = k.0; is_reply = q.reply; told = zero_told; to = q.to; before = k.1; call = call_of c act; called = q.called; from = q.from; last = q.last }; of = of }

pub read_enough : (s : Script) (n place : ℕ) (c : ClientState) (act : Going) (m : Message) (past : List Entry) → IsTold s n place c act m past → code_told m.carried ≡ Some (pos 0) → IsEnough s n past (IsRead n m past)
read_enough s n place c act m past q zero_told o k = inr (now_used s n place c act m past o q zero_told k.0, k.1)

-- a reply of the call's kind has this code, where that is 0, only where the act ends with this call
abbrev pub IsEnd : ClientState → Going → Carried → Code → Type 0
IsEnd c act x code = IsKind (call_of c act) x → code.0 ≡ pos 0 → EndsAct (next act)

by_reply : (s : Script) (n place : ℕ) (c : ClientState) (act : Going) (m : Message) (past : List Entry) (code : Code) → IsTold s n place c act m past → code_told m.carried ≡ Some code.0 → IsEnd c act m.carried code → (own : List Line) → IsGiven n m past own → Runs s n past own act → IsDueCode s (Client n) code past own
by_reply s n place c act m past code q told w own k r = record { act = act; runs = r; cause = inl (record { reply = m; by = k.0; is_reply = q.reply; told = told; to = q.to; from = q.server; before = k.1; call = call_of c act; asks = call_is c act; called = q.called; last = q.last; ends = w }) }

-- its act is answered, and what it may have changed dropped
pub ends_due : (s : Script) (n place : ℕ) (c : ClientState) (act : Going) (m : Message) (past : List Entry) (es : List CacheEntry) (code : Code) → IsTold s n place c act m past → code_told m.carried ≡ Some code.0 → IsEnd c act m.carried code → Due s n past [] (with_given place (dropped (Client n) es (lines.Answer (Client n) code ∷ [])))
ends_due s n place c act m past es code q told w =
    (tt, drops_due s n past (IsGiven n m past) (given_steady n m past) es (lines.Given place ∷ []) (lines.Answer (Client n) code ∷ []) act (q.at, refl) q.runs (λ o k r. (by_reply s n place c act m past code q told w o k r, tt)))

use_by : (s : Script) (c : Node) (f : Fid) (body : ReadBody) (past : List Entry) (own : List Line) (t : Bool) → t ≡ true → IsUse s c f body past own → IsUsed s t c f Fetched body past own
use_by s c f body past own true e h = ((λ z. h), tt)
use_by s c f body past own false e h = absurd cc

pub has_now : (n : ℕ) (m : Message) (past : List Entry) (place : ℕ) (f : Fid) (index : ℕ) (source : ReadSource) (body : ReadBody) → message_at (sent_of past) place ≡ Some m → IsRead n m past (lines.Read (Client n) f index source body ∷ lines.Given place ∷ [])
has_now n m past place f index source body at = ((at, refl), ap (λ (t : Bool). cond t true false) (same_node-refl (Client n)))

pub entry_due : (s : Script) (n clock place : ℕ) (c : ClientState) (act : Going) (m : Message) (past : List Entry) (e : CacheEntry) (body : ReadBody) → is_promised body ≡ true → Brings (call_of c act) e.fid body → IsTold s n place c act m past → code_told m.carried ≡ Some (pos 0) → Due s n past [] (takes_entry (Client n) c clock place act e body).lines
entry_due s n clock place c act m past e body p of q zero_told =
    either_due s n past (is_trusted clock e) _ _
    (walks_due s n past (IsRead n m past) (read_steady n m past) (read_enough s n place c act m past q zero_told) c clock (read_lines (Client n) place (look_at Fetched e body)) (with_read e.fid body act) (put_entry c.capacity e c.cache)
    (λ ls w. (
      tt,
      (
        use_by s (Client n) e.fid body past (lines.Given place ∷ []) (is_promised body) p (now_use s n place c act m past (lines.Given place ∷ []) e.fid body of q zero_told (q.at, refl)),
        w (lines.Read (Client n) e.fid e.index Fetched body ∷ lines.Given place ∷ []) (has_now n m past place e.fid e.index Fetched body q.at) (read_runs s n (lines_of past) e.fid e.index Fetched body act q.runs),
      ),
    ))) (tt, tt)

-- the call reads all of these
abbrev pub AreReadBy : FsCall → List CacheEntry → Type 0
AreReadBy call [] = ⊤
AreReadBy call (e ∷ es) = Brings call e.fid (seen.Status e.status) × AreReadBy call es

pub told_by_bulk : (server : Node) (sync : AfsVolSync) (all fs : List Fid) (ss : List AfsFetchStatus) (cs : List AfsCallBack) → ((f : Fid) → IsNamedIn f fs → IsNamedIn f all) → AreReadBy (calls.BulkStatus all) (entries_told server sync fs ss cs)
told_by_bulk server sync all [] ss cs w = tt
told_by_bulk server sync all (f ∷ fs) [] cs w = tt
told_by_bulk server sync all (f ∷ fs) (s ∷ ss) [] w = tt
told_by_bulk server sync all (f ∷ fs) (s ∷ ss) (c ∷ cs) w = (w f (inl refl), told_by_bulk server sync all fs ss cs (λ g x. w g (inr x)))

-- several statuses
statuses_due : (s : Script) (n place : ℕ) (c : ClientState) (act : Going) (m : Message) (past : List Entry) (es : List CacheEntry) (own ls : List Line) (g : Going) → AreReadBy (call_of c act) es → IsTold s n place c act m past → code_told m.carried ≡ Some (pos 0) → IsRead n m past own → Runs s n past own g → Rest s n past (IsRead n m past) (with_statuses es g) ls → Due s n past own (looked (Client n) (map status_look es) ls)
statuses_due s n place c act m past [] own ls g of q zero_told k r w = w own k r
statuses_due s n place c act m past (e ∷ es) own ls g of q zero_told k r w = (
  ((λ z. now_use s n place c act m past own e.fid (seen.Status e.status) of.0 q zero_told k.0), tt),
  statuses_due s n place c act m past es (lines.Read (Client n) e.fid e.index Fetched (seen.Status e.status) ∷ own) ls (with_read e.fid (seen.Status e.status) g) of.1 q zero_told ((read_steady n m past).reads' own e.fid e.index Fetched (seen.Status e.status) k) (read_runs s n (own ++ lines_of past) e.fid e.index Fetched (seen.Status e.status) g r) w,
)

no_walk : (k clock : ℕ) (act : Going) (cache : List CacheEntry) (fids : List Fid) → next act ≡ reads_statuses fids → walked k clock act cache ≡ not_walked act cache
no_walk zero clock act cache fids e = refl
no_walk (suc k) clock act cache fids e = ap (walked_by (walked k clock) clock act cache) e

-- where none is told the act needs them still
none_due : (s : Script) (n clock place : ℕ) (c : ClientState) (act : Going) (past : List Entry) (cache : List CacheEntry) (fids : List Fid) → next act ≡ reads_statuses fids → Due s n past [] (walks_on (Client n) c clock (with_given place) act cache).lines
none_due s n clock place c act past cache fids e =
    subst (λ (w : Walked). Due s n past [] (goes_by (Client n) c (with_given place) w (next w.act)).lines) (sym (no_walk (most_reads act) clock act cache fids e))
    (subst (λ (need : Need). Due s n past [] (goes_by (Client n) c (with_given place) (not_walked act cache) need).lines) (sym e) (tt, tt))

pub entries_due : (s : Script) (n clock place : ℕ) (c : ClientState) (act : Going) (m : Message) (past : List Entry) (es : List CacheEntry) (fids : List Fid) → next act ≡ reads_statuses fids → AreReadBy (call_of c act) es → IsTold s n place c act m past → code_told m.carried ≡ Some (pos 0) → Due s n past [] (takes_entries (Client n) c clock place act es).lines
entries_due s n clock place c act m past [] fids need of q zero_told = none_due s n clock place c act past (put_entries c.capacity [] c.cache) fids need
entries_due s n clock place c act m past (e ∷ es) fids need of q zero_told =
    either_due s n past (list_any (λ e. not (is_trusted clock e)) (e ∷ es)) _ _ (tt, tt)
    (walks_due s n past (IsRead n m past) (read_steady n m past) (read_enough s n place c act m past q zero_told) c clock (λ ls. with_given place (looked (Client n) (map status_look (e ∷ es)) ls)) (with_statuses (e ∷ es) act) (put_entries c.capacity (e ∷ es) c.cache)
    (λ ls w. (
      tt,
      (
        ((λ z. now_use s n place c act m past (lines.Given place ∷ []) e.fid (seen.Status e.status) of.0 q zero_told (q.at, refl)), tt),
        statuses_due s n place c act m past es (lines.Read (Client n) e.fid e.index Fetched (seen.Status e.status) ∷ lines.Given place ∷ []) ls (with_read e.fid (seen.Status e.status) act) of.1 q zero_told (has_now n m past place e.fid e.index Fetched (seen.Status e.status) q.at) (read_runs s n (lines_of past) e.fid e.index Fetched (seen.Status e.status) act q.runs) w,
      ),
    )))

-- which need a call is for
pub statuses_needed : (gs : List Gift) (need : Need) (fids : List Fid) → ((call : FsCall) → need ≡ asks_for call → volume_changed call ≡ None → ⊥) → call_by gs need ≡ calls.BulkStatus fids → need ≡ reads_statuses fids
statuses_needed gs (reads g) fids w e = absurd cc
statuses_needed gs (reads_status g) fids w e = absurd cc
statuses_needed gs (reads_statuses fs) fids w e = let same : fs ≡ fids = cc in ap reads_statuses same
statuses_needed gs (reads_rights g) fids w e = absurd cc
statuses_needed gs (asks_for call) fids w e = absurd (w call refl (ap volume_changed e))
statuses_needed gs gives_back fids w e = absurd cc
statuses_needed gs (locates o) fids w e = absurd cc
statuses_needed gs (answers code) fids w e = absurd cc

pub rights_needed : (gs : List Gift) (need : Need) (f : Fid) → ((call : FsCall) → need ≡ asks_for call → volume_changed call ≡ None → ⊥) → call_by gs need ≡ calls.FetchAcl f → need ≡ reads_rights f
rights_needed gs (reads g) f w e = absurd cc
rights_needed gs (reads_status g) f w e = absurd cc
rights_needed gs (reads_statuses fs) f w e = absurd cc
rights_needed gs (reads_rights g) f w e = let same : g ≡ f = cc in ap reads_rights same
rights_needed gs (asks_for call) f w e = absurd (w call refl (ap volume_changed e))
rights_needed gs gives_back f w e = absurd cc
rights_needed gs (locates o) f w e = absurd cc
rights_needed gs (answers code) f w e = absurd cc
