-- An act that gives promises back is answered 0 only where its calls gave back all that its client gave up when it began.
use Rattle.spec_history.specs.declared.acts.Operand.{Operand}
use Rattle.spec_history.specs.declared.lines.Line.{Line}
use Rattle.spec_history.specs.declared.lines.Line.TheVariants as lines
use Rattle.law_legal.proofs.BaseLaws.{same_node-refl}
use Rattle.law_legal.proofs.KeptOfCell.{AreOurs, IsOurs}
use Rattle.law_legal.proofs.BaseWords.{fids_of_gifts}
use Rattle.law_legal.proofs.ActWalks.{statuses_act, walked_act}
use Rattle.law_legal.specs.Breaks.{IsNamedIn}
use Rattle.law_legal.specs.Legal.{drops_in}
use Rattle.law_legal.specs.Past.{has_begun}
use Rattle.spec_model.specs.Calls as pairs
use Rattle.spec_model.specs.Calls.{Admitted, admitted}
use Rattle.afs_num.specs.Nodes.{same_node}
use Rattle.afs_num.specs.declared.calls.AfsCallBack.{AfsCallBack}
use Rattle.afs_num.specs.declared.calls.AfsFetchStatus.{AfsFetchStatus}
use Rattle.afs_num.specs.declared.calls.AfsVolSync.{AfsVolSync}
use Rattle.afs_num.specs.declared.calls.FsCall.{FsCall}
use Rattle.afs_num.specs.declared.calls.FsCall.TheVariants as calls
use Rattle.afs_num.specs.declared.calls.FsReply.{FsReply}
use Rattle.afs_num.specs.declared.calls.FsReply.TheVariants as replies
use Rattle.afs_num.specs.declared.histories.Body.TheVariants as bodies
use Rattle.afs_num.specs.declared.histories.ReadBody.{ReadBody}
use Rattle.afs_num.specs.declared.histories.ReadBody.TheVariants as seen
use Rattle.afs_num.specs.declared.histories.ReadSource.TheVariants.{Fetched}
use Rattle.afs_num.specs.declared.messages.Call.TheVariants as ask
use Rattle.afs_num.specs.declared.messages.Carried.{Carried}
use Rattle.afs_num.specs.declared.messages.Carried.TheVariants as carried
use Rattle.afs_num.specs.declared.messages.Message.{Message}
use Rattle.afs_num.specs.declared.messages.Received.TheVariants.{Whole}
use Rattle.afs_num.specs.declared.messages.Reply.TheVariants as tell
use Rattle.afs_num.specs.declared.types.Code.{Code}
use Rattle.afs_num.specs.declared.types.Fid.{Fid}
use Rattle.afs_num.specs.declared.types.Head.{Head}
use Rattle.afs_num.specs.declared.types.Node.{Node}
use Rattle.afs_num.specs.declared.types.Node.TheVariants.{Admin, Client, Loc, Server}
use Rattle.spec_rows.specs.ClientRow.{Look, Walked, admits_call, awaits, batch, batch_to, behind_batch, body_told, breaks, call_of, calls_again, client_row, counts, drop_line, dropped, dropped_after, entries_told, cache_entry_told, find_cached, gift_of, gifts_to, with_given, gives_by, goes_by, hears, in_order, is_awaited, stands_below, is_busy_code, is_older, is_spent, is_trusted, look_at, looked, most_busy, most_given, most_reads, put_entries, put_entry, read_lines, refuses, runs_carried, status_look, status_told, takes, takes_bulk, takes_bytes, takes_data, takes_entries, takes_entry, takes_given, takes_list, takes_plain, takes_rights, takes_set, takes_shown, takes_status, takes_stored, walked, walks_on, whole, with_statuses, zero_code, is_gone_code, asks_where, refuses_for_good, volume_asked, most_moved}
use Rattle.spec_rows.specs.Going.{locates, ClientState, Going, Need, answers, next, with_read, operand_in}
use Rattle.spec_rows.specs.States.{CacheEntry, Gift}
use Rattle.spec_rows.specs.Steps.{Step}
use Rattle.std.proofs.Common.{zero, suc, ◌≡◌, ◌+◌, ◌≤◌, ◌⊎◌, inl, inr, ℕ, pos, Bool, true, false, cond, List, [], ◌∷◌, ◌++◌, map, Option, Some, None, refl, sym, ap, subst, ◌∙◌, arith, drop, filter, length, not}
use Rattle.std.specs.List.{list_any}
use Rattle.std.specs.Prelude.{◌&&◌, nat_lt}

-- ---- what a batch leaves

abbrev pub Has : Fid → List Gift → Type 0
Has f gs = IsNamedIn f (fids_of_gifts gs)

batch_case : (t : Bool) (g : Gift) (gs b : List Gift) (f : Fid) → Has f (g ∷ gs) → (Has f gs → Has f b ⊎ Has f (drop (length b) gs)) → Has f (cond t (g ∷ b) []) ⊎ Has f (drop (length (cond t (g ∷ b) [])) (g ∷ gs))
batch_case true g gs b f (inl e) w = inl (inl e)
batch_case true g gs b f (inr h) w = elim (w h) [ inl x ↦ inl (inr x) | inr x ↦ inr x ]
batch_case false g gs b f h w = inr h

batch_by : (server : Node) (k : ℕ) (gs : List Gift) (f : Fid) → Has f gs → Has f (batch_to server k gs) ⊎ Has f (drop (length (batch_to server k gs)) gs)
batch_by server zero gs f h = inr h
batch_by server (suc k) [] f h = absurd h
batch_by server (suc k) (g ∷ gs) f h = batch_case (same_node g.server server) g gs (batch_to server k gs) f h (batch_by server k gs f)

pub batch_has : (gs : List Gift) (f : Fid) → Has f gs → Has f (batch gs) ⊎ Has f (behind_batch gs)
batch_has [] f h = absurd h
batch_has (g ∷ gs) f h = batch_by g.server most_given (g ∷ gs) f h

-- ---- all that is given up is given back

more_to : (t : Bool) (g : Gift) (gs : List Gift) (f : Fid) → Has f gs → Has f (cond t (g ∷ gs) gs)
more_to true g gs f h = inr h
more_to false g gs f h = h

has_left : (f : Fid) (a b : List Gift) → Has f a → Has f (a ++ b)
has_left f [] b h = absurd h
has_left f (g ∷ a) b (inl e) = inl e
has_left f (g ∷ a) b (inr h) = inr (has_left f a b h)

has_right : (f : Fid) (a b : List Gift) → Has f b → Has f (a ++ b)
has_right f [] b h = h
has_right f (g ∷ a) b h = inr (has_right f a b h)

in_order_has : (gs : List Gift) (k : ℕ) (f : Fid) → 1 ≤ k → k ≤ 8 → Has f (gifts_to gs k) → Has f (in_order gs)
in_order_has gs zero f a b h = absurd (omega (arith, a))
in_order_has gs (suc zero) f a b h = has_left f (gifts_to gs 1) _ h
in_order_has gs (suc (suc zero)) f a b h = has_right f (gifts_to gs 1) _ (has_left f (gifts_to gs 2) _ h)
in_order_has gs (suc (suc (suc zero))) f a b h = has_right f (gifts_to gs 1) _ (has_right f (gifts_to gs 2) _ (has_left f (gifts_to gs 3) _ h))
in_order_has gs (suc (suc (suc (suc zero)))) f a b h = has_right f (gifts_to gs 1) _ (has_right f (gifts_to gs 2) _ (has_right f (gifts_to gs 3) _ (has_left f (gifts_to gs 4) _ h)))
in_order_has gs (suc (suc (suc (suc (suc zero))))) f a b h = has_right f (gifts_to gs 1) _ (has_right f (gifts_to gs 2) _ (has_right f (gifts_to gs 3) _ (has_right f (gifts_to gs 4) _ (has_left f (gifts_to gs 5) _ h))))
in_order_has gs (suc (suc (suc (suc (suc (suc zero)))))) f a b h = has_right f (gifts_to gs 1) _ (has_right f (gifts_to gs 2) _ (has_right f (gifts_to gs 3) _ (has_right f (gifts_to gs 4) _ (has_right f (gifts_to gs 5) _ (has_left f (gifts_to gs 6) _ h)))))
in_order_has gs (suc (suc (suc (suc (suc (suc (suc zero))))))) f a b h = has_right f (gifts_to gs 1) _ (has_right f (gifts_to gs 2) _ (has_right f (gifts_to gs 3) _ (has_right f (gifts_to gs 4) _ (has_right f (gifts_to gs 5) _ (has_right f (gifts_to gs 6) _ (has_left f (gifts_to gs 7) _ h))))))
in_order_has gs (suc (suc (suc (suc (suc (suc (suc (suc zero)))))))) f a b h = has_right f (gifts_to gs 1) _ (has_right f (gifts_to gs 2) _ (has_right f (gifts_to gs 3) _ (has_right f (gifts_to gs 4) _ (has_right f (gifts_to gs 5) _ (has_right f (gifts_to gs 6) _ (has_right f (gifts_to gs 7) _ (has_left f (gifts_to gs 8) _ h)))))))
in_order_has gs (suc (suc (suc (suc (suc (suc (suc (suc (suc k))))))))) f a b h = absurd (omega (arith, b))

-- it is given back to a server of the eight
record HasServer (f : Fid) (gs : List Gift) : Type 0 where
  number : ℕ
  low : 1 ≤ number
  high : number ≤ 8
  has : Has f (gifts_to gs number)

own_server : (g : Gift) (gs : List Gift) (n : Node) → g.server ≡ n → IsOurs n → HasServer g.fid (g ∷ gs)
own_server g gs (Server k) e h = record {
  number = k;
  low = h.0;
  high = h.1;
  has = subst (λ (t : Bool). Has g.fid (cond t (g ∷ gifts_to gs k) (gifts_to gs k))) (sym (ap (λ (q : Node). same_node q (Server k)) e ∙ same_node-refl (Server k))) (inl refl);
}
own_server g gs (Client j) e h = absurd h
own_server g gs (Admin j) e h = absurd h
own_server g gs Loc e h = absurd h

has_server : (es : List CacheEntry) (f : Fid) → AreOurs es → Has f (map gift_of es) → HasServer f (map gift_of es)
has_server [] f h x = absurd x
has_server (e ∷ es) f h (inl same) = subst (λ (g : Fid). HasServer g (map gift_of (e ∷ es))) same (own_server (gift_of e) (map gift_of es) e.server refl h.0)
has_server (e ∷ es) f h (inr x) = let y : HasServer f (map gift_of es) = has_server es f h.1 x in record { number = y.number; low = y.low; high = y.high; has = more_to (same_node e.server (Server y.number)) (gift_of e) (gifts_to (map gift_of es) y.number) f y.has }

pub all_in_order : (es : List CacheEntry) (f : Fid) → AreOurs es → Has f (map gift_of es) → Has f (in_order (map gift_of es))
all_in_order es f h x = let y : HasServer f (map gift_of es) = has_server es f h x in in_order_has (map gift_of es) y.number f y.low y.high y.has

-- ---- what is dropped

drop_case : (t : Bool) (g f : Fid) (fs : List Fid) (X : Type 0) → t ≡ true → IsNamedIn f (cond t (g ∷ fs) fs) → (g ≡ f → X) → (IsNamedIn f fs → X) → X
drop_case true g f fs X e h a b = elim h [ inl x ↦ a x | inr x ↦ b x ]
drop_case false g f fs X e h a b = absurd cc

pub dropped_names : (n : ℕ) (es : List CacheEntry) (tail : List Line) (f : Fid) → drops_in (Client n) tail ≡ [] → IsNamedIn f (drops_in (Client n) (dropped (Client n) es tail)) → Has f (map gift_of es)
dropped_names n [] tail f none h = absurd (subst (IsNamedIn f) none h)
dropped_names n (e ∷ es) tail f none h = drop_case (same_node (Client n) (Client n)) e.fid f (drops_in (Client n) (dropped (Client n) es tail)) (Has f (map gift_of (e ∷ es))) (same_node-refl (Client n)) h (λ x. inl x) (λ x. inr (dropped_names n es tail f none x))

-- ---- no act begins in these lines

pub dropped_begins : (n : ℕ) (m : Node) (es : List CacheEntry) (ls : List Line) → has_begun (Client n) (dropped m es ls) ≡ has_begun (Client n) ls
dropped_begins n m [] ls = refl
dropped_begins n m (e ∷ es) ls = dropped_begins n m es ls

looked_begins : (n : ℕ) (m : Node) (looks : List Look) (ls : List Line) → has_begun (Client n) (looked m looks ls) ≡ has_begun (Client n) ls
looked_begins n m [] ls = refl
looked_begins n m (l ∷ looks) ls = looked_begins n m looks ls

drops_begins : (n : ℕ) (m : Node) (fs : List Fid) → has_begun (Client n) (map (drop_line m) fs) ≡ false
drops_begins n m [] = refl
drops_begins n m (f ∷ fs) = drops_begins n m fs

abbrev Quiet : ℕ → (List Line → List Line) → Type 0
Quiet n front = (ls : List Line) → has_begun (Client n) (front ls) ≡ has_begun (Client n) ls

-- ---- what a step leaves to be given back

pub record Keeps (n : ℕ) (o : Option Going) (gs : List Gift) (s : Step ClientState) : Type 0 where
  pub goes : (b : Going) → s.state.running ≡ Some b → (a : Going) × ((o ≡ Some a) × ((b.act ≡ a.act) × ((f : Fid) → Has f gs → Has f s.state.gifts ⊎ Has f (batch gs))))
  pub begins : has_begun (Client n) s.lines ≡ false

same_keeps : (n : ℕ) (o : Option Going) (gs : List Gift) (s : Step ClientState) → s.state.running ≡ o → s.state.gifts ≡ gs → has_begun (Client n) s.lines ≡ false → Keeps n o gs s
same_keeps n o gs s r g q = record { goes = λ b e. (b, (sym r ∙ e, (refl, λ f h. inl (subst (Has f) (sym g) h)))); begins = q }

none_keeps : (n : ℕ) (o : Option Going) (gs : List Gift) (s : Step ClientState) → s.state.running ≡ None → has_begun (Client n) s.lines ≡ false → Keeps n o gs s
none_keeps n o gs s r q = record { goes = λ b e. (let no_ : None ≡ Some b = sym r ∙ e in absurd cc); begins = q }

pub one_going : (a b : Going) → Some a ≡ Some b → a ≡ b
one_going a b e = cc

-- the act that goes on is the one that ran
runs_keeps : (n : ℕ) (o : Option Going) (gs : List Gift) (s : Step ClientState) (a b : Going) → o ≡ Some a → s.state.running ≡ Some b → b.act ≡ a.act → ((f : Fid) → Has f gs → Has f s.state.gifts ⊎ Has f (batch gs)) → has_begun (Client n) s.lines ≡ false → Keeps n o gs s
runs_keeps n o gs s a b e r same w q = record { goes = λ c p. (a, (e, (subst (λ (x : Going). x.act ≡ a.act) (one_going b c (sym r ∙ p)) same, w))); begins = q }

either_keeps : (t : Bool) (n : ℕ) (o : Option Going) (gs : List Gift) (a b : Step ClientState) → Keeps n o gs a → Keeps n o gs b → Keeps n o gs (cond t a b)
either_keeps true n o gs a b h k = h
either_keeps false n o gs a b h k = k

goes_keeps : (o : Option Going) (n : ℕ) (c : ClientState) (front : List Line → List Line) (w : Walked) (need : Need) (a : Going) → Quiet n front → o ≡ Some a → w.act.act ≡ a.act → Keeps n o c.gifts (goes_by (Client n) c front w need)
goes_keeps o n c front w (answers k) a q e same = none_keeps n o c.gifts _ refl (q (looked (Client n) w.looks (lines.Answer (Client n) (record { 0 = pos k }) ∷ [])) ∙ looked_begins n (Client n) w.looks (lines.Answer (Client n) (record { 0 = pos k }) ∷ []))
goes_keeps o n c front w (locates x) a q e same = none_keeps n o c.gifts _ refl (q (looked (Client n) w.looks []) ∙ looked_begins n (Client n) w.looks [])
goes_keeps o n c front w need a q e same = runs_keeps n o c.gifts _ a w.act e refl same (λ f h. inl h) (q (looked (Client n) w.looks []) ∙ looked_begins n (Client n) w.looks [])

walks_keeps : (o : Option Going) (n : ℕ) (c : ClientState) (clock : ℕ) (front : List Line → List Line) (act : Going) (cache : List CacheEntry) (a : Going) → Quiet n front → o ≡ Some a → act.act ≡ a.act → Keeps n o c.gifts (walks_on (Client n) c clock front act cache)
walks_keeps o n c clock front act cache a q e same = goes_keeps o n c front (walked (most_reads act) clock act cache) (next (walked (most_reads act) clock act cache).act) a q e (walked_act (most_reads act) clock act cache ∙ same)

gives_keeps : (n : ℕ) (c : ClientState) (front : List Line → List Line) (act : Going) (gs : List Gift) → Quiet n front → c.running ≡ Some act → ((f : Fid) → Has f c.gifts → Has f gs ⊎ Has f (batch c.gifts)) → Keeps n c.running c.gifts (gives_by (Client n) c front act gs)
gives_keeps n c front act [] q r w = none_keeps n c.running c.gifts _ refl (q (lines.Answer (Client n) zero_code ∷ []))
gives_keeps n c front act (g ∷ gs) q r w = runs_keeps n c.running c.gifts _ act act r refl refl w (q [])

again_keeps : (n : ℕ) (c : ClientState) (place : ℕ) (act : Going) → c.running ≡ Some act → Keeps n c.running c.gifts (calls_again (Client n) c place act)
again_keeps n c place act r = runs_keeps n c.running c.gifts _ act act r refl refl (λ f h. inl h) refl

plain_keeps : (n : ℕ) (c : ClientState) (place : ℕ) (call : FsCall) → Keeps n c.running c.gifts (takes_plain (Client n) c place call)
plain_keeps n c place call = none_keeps n c.running c.gifts _ refl (dropped_begins n (Client n) (dropped_after call c.cache) (lines.Answer (Client n) zero_code ∷ []))

entry_keeps : (n : ℕ) (c : ClientState) (clock place : ℕ) (act : Going) (e : CacheEntry) (body : ReadBody) → c.running ≡ Some act → Keeps n c.running c.gifts (takes_entry (Client n) c clock place act e body)
entry_keeps n c clock place act e body r = either_keeps (is_trusted clock e) n c.running c.gifts _ _ (walks_keeps c.running n c clock (read_lines (Client n) place (look_at Fetched e body)) (with_read e.fid body act) (put_entry c.capacity e c.cache) act (λ ls. refl) r refl) (again_keeps n c place act r)

entries_keeps : (n : ℕ) (c : ClientState) (clock place : ℕ) (act : Going) (es : List CacheEntry) → c.running ≡ Some act → Keeps n c.running c.gifts (takes_entries (Client n) c clock place act es)
entries_keeps n c clock place act es r = either_keeps (list_any (λ e. not (is_trusted clock e)) es) n c.running c.gifts _ _ (again_keeps n c place act r) (walks_keeps c.running n c clock (λ ls. with_given place (looked (Client n) (map status_look es) ls)) (with_statuses es act) (put_entries c.capacity es c.cache) act (λ ls. looked_begins n (Client n) (map status_look es) ls) r (statuses_act es act))

rights_keeps : (n : ℕ) (c : ClientState) (clock place : ℕ) (act : Going) (f : Fid) (index release : ℕ) (text : List ℕ) → c.running ≡ Some act → Keeps n c.running c.gifts (takes_rights (Client n) c clock place act f index release text)
rights_keeps n c clock place act f index release text r =
    walks_keeps c.running n c clock (λ ls. read_lines (Client n) place (record { fid = f; index = index; source = Fetched; body = seen.AccessList text }) (dropped (Client n) (filter (is_older f index release) c.cache) ls)) (with_read f (seen.AccessList text) act) (filter (λ e. not (is_older f index release e)) c.cache) act (λ ls. dropped_begins n (Client n) (filter (is_older f index release) c.cache) ls) r refl

bytes_keeps : (n : ℕ) (c : ClientState) (clock place : ℕ) (f : Fid) (status : AfsFetchStatus) (contents : List ℕ) (call : FsCall) → Keeps n c.running c.gifts (takes_bytes (Client n) c clock place f status contents call)
bytes_keeps n c clock place f status contents call = either_keeps c.spoiled n c.running c.gifts (takes_plain (Client n) c place call) (takes_stored (Client n) c clock place f status.sync_counter (status_told status) (λ body. Some (bodies.File contents))) (plain_keeps n c place call) (none_keeps n c.running c.gifts _ refl refl)

status_keeps : (n : ℕ) (c : ClientState) (clock place : ℕ) (f : Fid) (status : AfsFetchStatus) (call : FsCall) → Keeps n c.running c.gifts (takes_status (Client n) c clock place f status call)
status_keeps n c clock place f status call = either_keeps (not c.spoiled && stands_below clock status.sync_counter (find_cached f c.cache)) n c.running c.gifts (takes_stored (Client n) c clock place f status.sync_counter (status_told status) (λ body. body)) (takes_plain (Client n) c place call) (none_keeps n c.running c.gifts _ refl refl) (plain_keeps n c place call)

data_keeps : (n : ℕ) (c : ClientState) (clock place : ℕ) (act : Going) (contents : List ℕ) (status : AfsFetchStatus) (callback : AfsCallBack) (sync : AfsVolSync) (call : FsCall) → c.running ≡ Some act → Keeps n c.running c.gifts (takes_data (Client n) c clock place act contents status callback sync call)
data_keeps n c clock place act contents status callback sync (calls.FetchData f position wanted) r = entry_keeps n c clock place act (cache_entry_told c.callee f status callback sync (Some (body_told status.file_type contents))) (seen.Contents (body_told status.file_type contents)) r
data_keeps n c clock place act contents status callback sync call r = plain_keeps n c place call

shown_keeps : (n : ℕ) (c : ClientState) (clock place : ℕ) (act : Going) (status : AfsFetchStatus) (callback : AfsCallBack) (sync : AfsVolSync) (call : FsCall) → c.running ≡ Some act → Keeps n c.running c.gifts (takes_shown (Client n) c clock place act status callback sync call)
shown_keeps n c clock place act status callback sync (calls.FetchStatus f) r = entry_keeps n c clock place act (cache_entry_told c.callee f status callback sync None) (seen.Status (status_told status)) r
shown_keeps n c clock place act status callback sync call r = plain_keeps n c place call

list_keeps : (n : ℕ) (c : ClientState) (clock place : ℕ) (act : Going) (text : List ℕ) (status : AfsFetchStatus) (sync : AfsVolSync) (call : FsCall) → c.running ≡ Some act → Keeps n c.running c.gifts (takes_list (Client n) c clock place act text status sync call)
list_keeps n c clock place act text status sync (calls.FetchAcl f) r = rights_keeps n c clock place act f status.sync_counter sync.release text r
list_keeps n c clock place act text status sync call r = plain_keeps n c place call

set_keeps : (n : ℕ) (c : ClientState) (clock place : ℕ) (status : AfsFetchStatus) (call : FsCall) → Keeps n c.running c.gifts (takes_set (Client n) c clock place status call)
set_keeps n c clock place status (calls.StoreData f set position wanted file_length contents) = bytes_keeps n c clock place f status contents (calls.StoreData f set position wanted file_length contents)
set_keeps n c clock place status (calls.StoreAcl f acl) = status_keeps n c clock place f status (calls.StoreAcl f acl)
set_keeps n c clock place status (calls.StoreStatus f set) = status_keeps n c clock place f status (calls.StoreStatus f set)
set_keeps n c clock place status call = plain_keeps n c place call

bulk_keeps : (n : ℕ) (c : ClientState) (clock place : ℕ) (act : Going) (statuses : List AfsFetchStatus) (callbacks : List AfsCallBack) (sync : AfsVolSync) (call : FsCall) → c.running ≡ Some act → Keeps n c.running c.gifts (takes_bulk (Client n) c clock place act statuses callbacks sync call)
bulk_keeps n c clock place act statuses callbacks sync (calls.BulkStatus fids) r = entries_keeps n c clock place act (entries_told c.callee sync fids statuses callbacks) r
bulk_keeps n c clock place act statuses callbacks sync call r = plain_keeps n c place call

given_keeps : (n : ℕ) (c : ClientState) (place : ℕ) (act : Going) (call : FsCall) → c.running ≡ Some act → Keeps n c.running c.gifts (takes_given (Client n) c place act call)
given_keeps n c place act (calls.GiveUpCallBacks fids callbacks) r = gives_keeps n c (with_given place) act (behind_batch c.gifts) (λ ls. refl) r (λ f h. elim (batch_has c.gifts f h) [ inl x ↦ inr x | inr x ↦ inl x ])
given_keeps n c place act call r = plain_keeps n c place call

takes_keeps : (n : ℕ) (c : ClientState) (clock place : ℕ) (act : Going) (call : FsCall) (reply : FsReply) → c.running ≡ Some act → Keeps n c.running c.gifts (takes (Client n) c clock place act call reply)
takes_keeps n c clock place act call (replies.FetchData contents status callback sync) r = data_keeps n c clock place act contents status callback sync call r
takes_keeps n c clock place act call (replies.FetchAcl text status sync) r = list_keeps n c clock place act text status sync call r
takes_keeps n c clock place act call (replies.FetchStatus status callback sync) r = shown_keeps n c clock place act status callback sync call r
takes_keeps n c clock place act call (replies.BulkStatus statuses callbacks sync) r = bulk_keeps n c clock place act statuses callbacks sync call r
takes_keeps n c clock place act call (replies.StoreData status sync) r = set_keeps n c clock place status call
takes_keeps n c clock place act call (replies.StoreAcl status sync) r = set_keeps n c clock place status call
takes_keeps n c clock place act call (replies.StoreStatus status sync) r = set_keeps n c clock place status call
takes_keeps n c clock place act call replies.GiveUpCallBacks r = given_keeps n c place act call r
takes_keeps n c clock place act call reply r = plain_keeps n c place call

where_keeps : (n : ℕ) (c : ClientState) (place : ℕ) (act : Going) (code : Code) (o : Option Operand) → Keeps n c.running c.gifts (asks_where (Client n) c place act code o)
where_keeps n c place act code None = none_keeps n c.running c.gifts _ refl refl
where_keeps n c place act code (Some o) = none_keeps n c.running c.gifts _ refl refl

refuses_keeps : (n : ℕ) (c : ClientState) (place : ℕ) (act : Going) (code : Code) → c.running ≡ Some act → Keeps n c.running c.gifts (refuses (Client n) c place act code)
refuses_keeps n c place act code r = either_keeps (is_busy_code code && nat_lt c.busy most_busy) n c.running c.gifts (calls_again (Client n) (record c { busy = c.busy + 1 }) place act) (refuses_for_good (Client n) c place act code) (runs_keeps n c.running c.gifts _ act act r refl refl (λ f h. inl h) refl)
    (either_keeps (is_gone_code code && nat_lt c.moved most_moved) n c.running c.gifts _ _ (where_keeps n c place act code (operand_in act (volume_asked (call_of c act)))) (none_keeps n c.running c.gifts _ refl refl))

counts_keeps : (n : ℕ) (c : ClientState) (clock place : ℕ) (act : Going) (head : Head) (x : Carried) → c.running ≡ Some act → Keeps n c.running c.gifts (counts (Client n) c clock place act head x)
counts_keeps n c clock place act head (carried.Call user call) r = same_keeps n c.running c.gifts _ refl refl refl
counts_keeps n c clock place act head (carried.Refusal code) r = either_keeps (is_spent c act) n c.running c.gifts _ _ (again_keeps n c place act r) (refuses_keeps n c place act code r)
counts_keeps n c clock place act head (carried.Reply (tell.File reply)) r = either_keeps (is_spent c act) n c.running c.gifts _ _ (again_keeps n c place act r) (takes_keeps n c clock place act (call_of c act) reply r)
counts_keeps n c clock place act head (carried.Reply reply) r = same_keeps n c.running c.gifts _ refl refl refl
counts_keeps n c clock place act head carried.Notice r = same_keeps n c.running c.gifts _ refl refl refl

awaits_keeps : (n : ℕ) (c : ClientState) (clock place : ℕ) (head : Head) (x : Carried) (o : Option Going) → c.running ≡ o → Keeps n c.running c.gifts (awaits (Client n) c clock place head x o)
awaits_keeps n c clock place head x None r = same_keeps n c.running c.gifts _ refl refl refl
awaits_keeps n c clock place head x (Some act) r = either_keeps (is_awaited c act head) n c.running c.gifts _ _ (counts_keeps n c clock place act head x r) (same_keeps n c.running c.gifts _ refl refl refl)

breaks_keeps : (n : ℕ) (c : ClientState) (place : ℕ) (head : Head) (call : FsCall) → Keeps n c.running c.gifts (breaks (Client n) c place head call)
breaks_keeps n c place head (calls.CallBack fs callbacks) = same_keeps n c.running c.gifts _ refl refl (drops_begins n (Client n) fs)
breaks_keeps n c place head calls.InitCallBackState = same_keeps n c.running c.gifts _ refl refl refl
breaks_keeps n c place head calls.Probe = same_keeps n c.running c.gifts _ refl refl refl
breaks_keeps n c place head call = same_keeps n c.running c.gifts _ refl refl refl

carried_keeps : (n : ℕ) (c : ClientState) (place : ℕ) (head : Head) (x : Carried) → Keeps n c.running c.gifts (runs_carried (Client n) c place head x)
carried_keeps n c place head (carried.Call user (ask.File call)) = breaks_keeps n c place head call
carried_keeps n c place head (carried.Call user call) = same_keeps n c.running c.gifts _ refl refl refl
carried_keeps n c place head x = same_keeps n c.running c.gifts _ refl refl refl

admits_keeps : (n : ℕ) (c : ClientState) (place : ℕ) (head : Head) (x : Carried) (o : Admitted Message) → Keeps n c.running c.gifts (admits_call (Client n) c place head (whole head x) o)
admits_keeps n c place head x pairs.runs = carried_keeps n c place head x
admits_keeps n c place head x (pairs.kept reply) = same_keeps n c.running c.gifts _ refl refl refl
admits_keeps n c place head x pairs.in_progress = same_keeps n c.running c.gifts _ refl refl refl
admits_keeps n c place head x pairs.older = same_keeps n c.running c.gifts _ refl refl refl
admits_keeps n c place head x (pairs.wrong_boot boot) = same_keeps n c.running c.gifts _ refl refl refl

hears_keeps : (n : ℕ) (c : ClientState) (clock place : ℕ) (head : Head) (x : Carried) → Keeps n c.running c.gifts (hears (Client n) c clock place head x)
hears_keeps n c clock place head (carried.Call user call) = admits_keeps n c place head (carried.Call user call) (admitted c.epoch c.seats head)
hears_keeps n c clock place head x = awaits_keeps n c clock place head x c.running refl

pub told_keeps : (n : ℕ) (c : ClientState) (clock place : ℕ) (m : Message) → Keeps n c.running c.gifts (client_row (Client n) c clock place (Whole m))
unfolding client_row
told_keeps n c clock place m = either_keeps (same_node m.head.to (Client n)) n c.running c.gifts _ _ (hears_keeps n c clock place m.head m.carried) (same_keeps n c.running c.gifts _ refl refl refl)
