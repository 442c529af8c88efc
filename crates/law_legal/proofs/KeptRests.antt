-- What a client keeps rests on a reply that it was given, and it dropped nothing of it since, however many servers a cell has.
use Rattle.spec_history.specs.declared.acts.Act.{Act}
use Rattle.spec_history.specs.declared.lines.Line.{Line}
use Rattle.spec_history.specs.declared.lines.Line.TheVariants as lines
use Rattle.law_legal.proofs.KeptApart.{apart_filter, apart_put, apart_refreshed, found_filter, found_out, put_found}
use Rattle.law_legal.proofs.BaseLaws.{found-refreshed, same_fid-refl, same_fid-true, same_node-refl, some_of}
use Rattle.law_legal.proofs.ActFetches.{AreCached, walked_cached}
use Rattle.law_legal.proofs.BaseWords.{AreApart}
use Rattle.law_legal.proofs.ActWalks.{walked_apart, walked_found}
use Rattle.law_legal.specs.Grants.{IsDropped, has_fetched, is_promised}
use Rattle.law_legal.specs.Past.{IsReply, code_told, given_message, onto, sent_of}
use Rattle.afs_num.specs.Fids.{same_fid}
use Rattle.afs_num.specs.Nodes.{same_node}
use Rattle.afs_num.specs.declared.calls.AfsCallBack.{AfsCallBack}
use Rattle.afs_num.specs.declared.calls.AfsFetchStatus.{AfsFetchStatus}
use Rattle.afs_num.specs.declared.calls.AfsVolSync.{AfsVolSync}
use Rattle.afs_num.specs.declared.calls.FsCall.{FsCall}
use Rattle.afs_num.specs.declared.histories.Body.{Body}
use Rattle.afs_num.specs.declared.histories.ReadBody.{ReadBody}
use Rattle.afs_num.specs.declared.histories.ReadSource.{ReadSource}
use Rattle.afs_num.specs.declared.histories.ReadSource.TheVariants.{Cached, Fetched}
use Rattle.afs_num.specs.declared.histories.ReadStatus.{ReadStatus}
use Rattle.afs_num.specs.declared.messages.Message.{Message}
use Rattle.afs_num.specs.declared.types.Code.{Code}
use Rattle.afs_num.specs.declared.types.Fid.{Fid}
use Rattle.afs_num.specs.declared.types.Node.{Node}
use Rattle.afs_num.specs.declared.types.Node.TheVariants.{Client}
use Rattle.spec_rows.specs.ClientRow.{Look, Walked, calls_again, dropped, dropped_after, ended, entries_told, find_cached, with_given, goes_by, is_trusted, left_after, look_at, looked, most_reads, put_entries, put_entry, read_lines, refreshed, status_look, takes_entries, takes_entry, walked, walks_on, with_statuses, zero_code}
use Rattle.spec_rows.specs.Going.{ClientState, Going, Need, answers, next, with_read}
use Rattle.spec_rows.specs.Runs.{Entry, message_at}
use Rattle.spec_rows.specs.Scopes.{may_change}
use Rattle.spec_rows.specs.States.{CacheEntry}
use Rattle.spec_rows.specs.Steps.{Step}
use Rattle.std.proofs.Common.{◌≡◌, ℕ, ◌⊎◌, inl, inr, Bool, true, false, cond, List, [], ◌∷◌, map, Option, Some, None, refl, sym, ap, subst, ◌∙◌, filter, not, pos}
use Rattle.std.specs.List.{list_any}
use Rattle.std.specs.Option.{option_map}
use Rattle.std.specs.Prelude.{⊤, ◌&&◌}

-- ---- lines that drop and fetch nothing of an object

abbrev pub Spares : Node → ℕ → Fid → List Line → Type 0
Spares q n f ls = (o : List Line) → IsDropped q (Client n) f (onto o ls) → IsDropped q (Client n) f o

-- the end of a step
pub record IsTail (n : ℕ) (ls : List Line) : Type 0 where
  pub fetched : (f : Fid) → has_fetched (Client n) f ls ≡ false
  pub spares : (q : Node) (f : Fid) → Spares q n f ls

pub no_tail : (n : ℕ) → IsTail n []
no_tail n = record { fetched = λ f. refl; spares = λ q f o x. x }

pub answer_tail : (n : ℕ) (code : Code) → IsTail n (lines.Answer (Client n) code ∷ [])
answer_tail n code = record { fetched = λ f. refl; spares = λ q f o x. x }

cached_skip : (n : ℕ) (c : Node) (f g : Fid) (index : ℕ) (source : ReadSource) (body : ReadBody) (ls : List Line) → source ≡ Cached → has_fetched (Client n) f (lines.Read c g index source body ∷ ls) ≡ has_fetched (Client n) f ls
cached_skip n c f g index Cached body ls e = refl
cached_skip n c f g index Fetched body ls e = absurd cc

looks_tail : (n : ℕ) (looks : List Look) (ls : List Line) → AreCached looks → IsTail n ls → IsTail n (looked (Client n) looks ls)
looks_tail n [] ls h t = t
looks_tail n (l ∷ looks) ls h t =
    let r : IsTail n (looked (Client n) looks ls) = looks_tail n looks ls h.1 t in
    record {
      fetched = λ f. cached_skip n (Client n) f l.fid l.index l.source l.body (looked (Client n) looks ls) h.0.0 ∙ r.fetched f;
      spares = λ q f o x. r.spares q f (lines.Read (Client n) l.fid l.index l.source l.body ∷ o) x;
    }

-- none of these entries is of the object
abbrev pub AreElse : Fid → List CacheEntry → Type 0
AreElse f [] = ⊤
AreElse f (e ∷ es) = (e.fid ≡ f → ⊥) × AreElse f es

pub dropped_fetched : (n : ℕ) (f : Fid) (es : List CacheEntry) (ls : List Line) → has_fetched (Client n) f (dropped (Client n) es ls) ≡ has_fetched (Client n) f ls
dropped_fetched n f [] ls = refl
dropped_fetched n f (e ∷ es) ls = dropped_fetched n f es ls

pub dropped_spares : (q : Node) (n : ℕ) (f : Fid) (es : List CacheEntry) (ls : List Line) → AreElse f es → Spares q n f ls → Spares q n f (dropped (Client n) es ls)
dropped_spares q n f [] ls h w o x = w o x
dropped_spares q n f (e ∷ es) ls h w o x = elim (dropped_spares q n f es ls h.1 w (lines.Drop (Client n) e.fid ∷ o) x) [
  | inl y ↦ absurd (h.0 y.1)
  | inr y ↦ y
]

else_by : (t : Bool) (f : Fid) (e : CacheEntry) (o : Option CacheEntry) → same_fid e.fid f ≡ t → cond t (Some e) o ≡ None → (e.fid ≡ f → ⊥) × (o ≡ None)
else_by true f e o q z = absurd cc
else_by false f e o q z = ((λ same. let no_ : false ≡ true = sym q ∙ (ap (λ (g : Fid). same_fid g f) same ∙ same_fid-refl f) in absurd cc), z)

pub else_none : (f : Fid) (es : List CacheEntry) → find_cached f es ≡ None → AreElse f es
else_none f [] e = tt
else_none f (x ∷ es) e = let p = else_by (same_fid x.fid f) f x (find_cached f es) refl e in (p.0, else_none f es p.1)

-- ---- an entry behind a step

-- it was there, and nothing of it was dropped or fetched
pub record IsOldEntry (n : ℕ) (cache : List CacheEntry) (ls : List Line) (f : Fid) (e : CacheEntry) : Type 0 where
  pub was : CacheEntry
  pub found : find_cached f cache ≡ Some was
  pub server : was.server ≡ e.server
  pub fetched : has_fetched (Client n) f ls ≡ false
  pub spares : Spares e.server n f ls

-- or it was fetched
pub record IsNewEntry (n : ℕ) (past : List Entry) (ls : List Line) (f : Fid) (e : CacheEntry) : Type 0 where
  pub fetched : has_fetched (Client n) f ls ≡ true
  pub reply : Message
  pub given : given_message ls (sent_of past) ≡ Some reply
  pub is_reply : IsReply reply
  pub told : code_told reply.carried ≡ Some (pos 0)
  pub to : reply.head.to ≡ Client n
  pub from : reply.head.from ≡ e.server
  pub kept : IsDropped e.server (Client n) f (onto [] ls) → ⊥

abbrev pub Entries : ℕ → List CacheEntry → List Entry → List Line → List CacheEntry → Type 0
Entries n cache past ls after = (f : Fid) (e : CacheEntry) → find_cached f after ≡ Some e → IsOldEntry n cache ls f e ⊎ IsNewEntry n past ls f e

-- and each object has one
pub record Keeps (n : ℕ) (cache : List CacheEntry) (past : List Entry) (s : Step ClientState) : Type 0 where
  pub apart : AreApart s.state.cache
  pub each : Entries n cache past s.lines s.state.cache

pub either_keeps : (t : Bool) (n : ℕ) (cache : List CacheEntry) (past : List Entry) (a b : Step ClientState) → Keeps n cache past a → Keeps n cache past b → Keeps n cache past (cond t a b)
either_keeps true n cache past a b h k = h
either_keeps false n cache past a b h k = k

-- the same cache
pub same_entries : (n : ℕ) (cache : List CacheEntry) (past : List Entry) (ls : List Line) → IsTail n ls → Entries n cache past ls cache
same_entries n cache past ls t f e found = inl (record { was = e; found = found; server = refl; fetched = t.fetched f; spares = t.spares e.server f })

-- some are left out, and dropped
pub not_true : (b : Bool) → not b ≡ true → b ≡ false
not_true true e = absurd cc
not_true false e = refl

-- behind a message, or the first line of an act
pub then_given : (n place : ℕ) (cache : List CacheEntry) (past : List Entry) (ls : List Line) (after : List CacheEntry) → ((f : Fid) (e : CacheEntry) → find_cached f after ≡ Some e → IsOldEntry n cache ls f e) → Entries n cache past (lines.Given place ∷ ls) after
then_given n place cache past ls after h f e found = let x : IsOldEntry n cache ls f e = h f e found in inl (record { was = x.was; found = x.found; server = x.server; fetched = x.fetched; spares = λ o y. x.spares (lines.Given place ∷ o) y })

pub then_begun : (n : ℕ) (act : Act) (cache : List CacheEntry) (past : List Entry) (ls : List Line) (after : List CacheEntry) → ((f : Fid) (e : CacheEntry) → find_cached f after ≡ Some e → IsOldEntry n cache ls f e) → Entries n cache past (lines.Begin (Client n) act ∷ ls) after
then_begun n act cache past ls after h f e found = let x : IsOldEntry n cache ls f e = h f e found in inl (record { was = x.was; found = x.found; server = x.server; fetched = x.fetched; spares = λ o y. x.spares (lines.Begin (Client n) act ∷ o) y })

pub left_old : (n : ℕ) (cache : List CacheEntry) (out : CacheEntry → Bool) (ls : List Line) → AreApart cache → IsTail n ls → (f : Fid) (e : CacheEntry) → find_cached f (filter (λ x. not (out x)) cache) ≡ Some e → IsOldEntry n cache (dropped (Client n) (filter out cache) ls) f e
left_old n cache out ls apart t f e found =
    let p = found_filter (λ x. not (out x)) f cache e apart found in
    let none : AreElse f (filter out cache) = else_none f (filter out cache) (found_out out f cache e apart p.0 (not_true (out e) p.1)) in
    record { was = e; found = p.0; server = refl; fetched = dropped_fetched n f (filter out cache) ls ∙ t.fetched f; spares = dropped_spares e.server n f (filter out cache) ls none (t.spares e.server f) }

pub same_old : (n : ℕ) (cache : List CacheEntry) (ls : List Line) → IsTail n ls → (f : Fid) (e : CacheEntry) → find_cached f cache ≡ Some e → IsOldEntry n cache ls f e
same_old n cache ls t f e found = record { was = e; found = found; server = refl; fetched = t.fetched f; spares = t.spares e.server f }

-- ---- an act goes on

goes_keeps : (n : ℕ) (y : ClientState) (cache first : List CacheEntry) (past : List Entry) (front : List Line → List Line) (w : Walked) (need : Need) → ((ls : List Line) → IsTail n ls → Entries n cache past (front ls) first) → AreCached w.looks → ((f : Fid) (e : CacheEntry) → find_cached f w.cache ≡ Some e → find_cached f first ≡ Some e) → AreApart w.cache → Keeps n cache past (goes_by (Client n) y front w need)
goes_keeps n y cache first past front w (answers k) h c u apart = record { apart = apart; each = λ f e found. h (looked (Client n) w.looks (lines.Answer (Client n) (record { 0 = pos k }) ∷ [])) (looks_tail n w.looks (lines.Answer (Client n) (record { 0 = pos k }) ∷ []) c (answer_tail n (record { 0 = pos k }))) f e (u f e found) }
goes_keeps n y cache first past front w need h c u apart = record { apart = apart; each = λ f e found. h (looked (Client n) w.looks []) (looks_tail n w.looks [] c (no_tail n)) f e (u f e found) }

pub walks_keeps : (n : ℕ) (y : ClientState) (clock : ℕ) (cache first : List CacheEntry) (past : List Entry) (front : List Line → List Line) (act : Going) → ((ls : List Line) → IsTail n ls → Entries n cache past (front ls) first) → AreApart first → Keeps n cache past (walks_on (Client n) y clock front act first)
walks_keeps n y clock cache first past front act h apart =
    let w : Walked = walked (most_reads act) clock act first in
    goes_keeps n y cache first past front w (next w.act) h (walked_cached (most_reads act) clock act first) (λ f e found. walked_found (most_reads act) clock act first f e found) (walked_apart (most_reads act) clock act first apart)

-- ---- behind a reply

pub record IsFrom (n place : ℕ) (c : ClientState) (m : Message) (past : List Entry) : Type 0 where
  pub at : message_at (sent_of past) place ≡ Some m
  pub reply : IsReply m
  pub told : code_told m.carried ≡ Some (pos 0)
  pub to : m.head.to ≡ Client n
  pub from : m.head.from ≡ c.callee

pub again_keeps : (n place : ℕ) (c y : ClientState) (past : List Entry) (act : Going) → AreApart c.cache → y.cache ≡ c.cache → Keeps n c.cache past (calls_again (Client n) y place act)
again_keeps n place c y past act apart same = record { apart = subst AreApart (sym same) apart; each = λ f e found. same_entries n c.cache past (lines.Given place ∷ []) (record { fetched = λ g. refl; spares = λ q g o x. x }) f e (ap (find_cached f) (sym same) ∙ found) }

pub told_keeps : (n place : ℕ) (c y : ClientState) (past : List Entry) (ms : List Message) → AreApart c.cache → y.cache ≡ c.cache → Keeps n c.cache past (record { state = y; lines = lines.Given place ∷ []; sent = ms })
told_keeps n place c y past ms apart same = record { apart = subst AreApart (sym same) apart; each = λ f e found. same_entries n c.cache past (lines.Given place ∷ []) (record { fetched = λ g. refl; spares = λ q g o x. x }) f e (ap (find_cached f) (sym same) ∙ found) }

pub plain_keeps : (n place : ℕ) (c : ClientState) (past : List Entry) (call : FsCall) (code : Code) → AreApart c.cache → Keeps n c.cache past (record { state = ended c (left_after call c.cache); lines = with_given place (dropped (Client n) (dropped_after call c.cache) (lines.Answer (Client n) code ∷ [])); sent = [] })
plain_keeps n place c past call code apart = record {
  apart = apart_filter (λ e. not (may_change call e.fid)) c.cache apart;
  each = then_given n place c.cache past (dropped (Client n) (dropped_after call c.cache) (lines.Answer (Client n) code ∷ [])) (left_after call c.cache) (left_old n c.cache (λ e. may_change call e.fid) (lines.Answer (Client n) code ∷ []) apart (answer_tail n code));
}

refreshed_by : (t : Bool) (e x : CacheEntry) → x.server ≡ e.server → (cond t x e).server ≡ e.server
refreshed_by true e x h = h
refreshed_by false e x h = refl

refreshed_server : (clock : ℕ) (g : Fid) (index : ℕ) (status : ReadStatus) (made : Option Body → Option Body) (e : CacheEntry) → (refreshed clock g index status made e).server ≡ e.server
refreshed_server clock g index status made e = refreshed_by (same_fid e.fid g && is_trusted clock e) e _ refl

pub mapped : (o : Option CacheEntry) (r : CacheEntry → CacheEntry) (e : CacheEntry) → option_map r o ≡ Some e → (u : CacheEntry) × ((o ≡ Some u) × (r u ≡ e))
mapped None r e q = absurd cc
mapped (Some u) r e q = (u, (refl, some_of (r u) e q))

pub stored_keeps : (n place clock : ℕ) (c : ClientState) (past : List Entry) (g : Fid) (index : ℕ) (status : ReadStatus) (made : Option Body → Option Body) → AreApart c.cache → Keeps n c.cache past (record { state = ended c (map (refreshed clock g index status made) c.cache); lines = with_given place (lines.Answer (Client n) zero_code ∷ []); sent = [] })
stored_keeps n place clock c past g index status made apart = record {
  apart = apart_refreshed clock g index status made c.cache apart;
  each = λ f e found.
      let u = mapped (find_cached f c.cache) (refreshed clock g index status made) e (sym (found-refreshed clock g f index status made c.cache) ∙ found) in
      inl (record { was = u.0; found = u.1.0; server = sym (refreshed_server clock g index status made u.0) ∙ ap (λ (x : CacheEntry). x.server) u.1.1; fetched = refl; spares = λ o x. x });
}

-- what was fetched
pub fetched_on : (p a b c : Bool) → p ≡ true → a ≡ true → b ≡ true → cond (p && (a && b)) true c ≡ true
fetched_on p a b c e f g = rw (e, f, g) refl

pub fetched_off : (p a b c : Bool) → b ≡ false → cond (p && (a && b)) true c ≡ c
fetched_off true true b c e = rw e refl
fetched_off true false b c e = refl
fetched_off false a b c e = refl

pub other_fid : (g f : Fid) (t : Bool) → same_fid g f ≡ t → (g ≡ f → ⊥) → same_fid g f ≡ false
other_fid g f true e ne = absurd (ne (same_fid-true g f e))
other_fid g f false e ne = e

pub entry_keeps : (n clock place : ℕ) (c : ClientState) (m : Message) (past : List Entry) (act : Going) (u : CacheEntry) (body : ReadBody) → is_promised body ≡ true → u.server ≡ c.callee → AreApart c.cache → IsFrom n place c m past → Keeps n c.cache past (takes_entry (Client n) c clock place act u body)
entry_keeps n clock place c m past act u body p server apart q =
    either_keeps (is_trusted clock u) n c.cache past _ _
    (walks_keeps n c clock c.cache (put_entry c.capacity u c.cache) past (read_lines (Client n) place (look_at Fetched u body)) (with_read u.fid body act)
    (λ ls t f e found. elim (put_found c.capacity f u c.cache e found) [
      | inl x ↦ inr (record {
        fetched = fetched_on (is_promised body) (same_node (Client n) (Client n)) (same_fid u.fid f) (has_fetched (Client n) f ls) p (same_node-refl (Client n)) (ap (λ (g : Fid). same_fid g f) x.0 ∙ same_fid-refl f);
        reply = m;
        given = q.at;
        is_reply = q.reply;
        told = q.told;
        to = q.to;
        from = q.from ∙ (sym server ∙ ap (λ (y : CacheEntry). y.server) x.1);
        kept = λ d. t.spares e.server f (lines.Read (Client n) u.fid u.index Fetched body ∷ lines.Given place ∷ []) d;
      })
      | inr x ↦ inl (record {
        was = e;
        found = x.1;
        server = refl;
        fetched = fetched_off (is_promised body) (same_node (Client n) (Client n)) (same_fid u.fid f) (has_fetched (Client n) f ls) (other_fid u.fid f (same_fid u.fid f) refl x.0) ∙ t.fetched f;
        spares = λ o d. t.spares e.server f (lines.Read (Client n) u.fid u.index Fetched body ∷ lines.Given place ∷ o) d;
      })
    ]) (apart_put c.capacity u c.cache apart))
    (again_keeps n place c c past act apart refl)

-- several statuses
abbrev pub IsAmong : Fid → List CacheEntry → Type 0
IsAmong f [] = ⊥
IsAmong f (e ∷ es) = (e.fid ≡ f) ⊎ IsAmong f es

abbrev pub AreOf : Node → List CacheEntry → Type 0
AreOf q [] = ⊤
AreOf q (e ∷ es) = (e.server ≡ q) × AreOf q es

puts_found : (capacity : ℕ) (q : Node) (f : Fid) (es cache : List CacheEntry) (e : CacheEntry) → AreOf q es → find_cached f (put_entries capacity es cache) ≡ Some e → (IsAmong f es × (e.server ≡ q)) ⊎ (AreElse f es × (find_cached f cache ≡ Some e))
puts_found capacity q f [] cache e h found = inr (tt, found)
puts_found capacity q f (x ∷ es) cache e h found = elim (puts_found capacity q f es (put_entry capacity x cache) e h.1 found) [
  | inl y ↦ inl (inr y.0, y.1)
  | inr y ↦ elim (put_found capacity f x cache e y.1) [
    | inl z ↦ inl (inl z.0, ap (λ (u : CacheEntry). u.server) (sym z.1) ∙ h.0)
    | inr z ↦ inr ((z.0, y.0), z.1)
  ]
]

pub or_true : (b c : Bool) → c ≡ true → cond b true c ≡ true
or_true true c e = refl
or_true false c e = e

pub all_fetched : (n : ℕ) (f : Fid) (es : List CacheEntry) (ls : List Line) → IsAmong f es → has_fetched (Client n) f (looked (Client n) (map status_look es) ls) ≡ true
all_fetched n f [] ls h = absurd h
all_fetched n f (e ∷ es) ls (inl x) = fetched_on true (same_node (Client n) (Client n)) (same_fid e.fid f) (has_fetched (Client n) f (looked (Client n) (map status_look es) ls)) refl (same_node-refl (Client n)) (ap (λ (g : Fid). same_fid g f) x ∙ same_fid-refl f)
all_fetched n f (e ∷ es) ls (inr x) = or_true (true && (same_node (Client n) (Client n) && same_fid e.fid f)) (has_fetched (Client n) f (looked (Client n) (map status_look es) ls)) (all_fetched n f es ls x)

pub none_fetched : (n : ℕ) (f : Fid) (es : List CacheEntry) (ls : List Line) → AreElse f es → has_fetched (Client n) f (looked (Client n) (map status_look es) ls) ≡ has_fetched (Client n) f ls
none_fetched n f [] ls h = refl
none_fetched n f (e ∷ es) ls h = fetched_off true (same_node (Client n) (Client n)) (same_fid e.fid f) (has_fetched (Client n) f (looked (Client n) (map status_look es) ls)) (other_fid e.fid f (same_fid e.fid f) refl h.0) ∙ none_fetched n f es ls h.1

pub looks_spare : (q : Node) (n : ℕ) (f : Fid) (looks : List Look) (ls : List Line) → Spares q n f ls → Spares q n f (looked (Client n) looks ls)
looks_spare q n f [] ls w o x = w o x
looks_spare q n f (l ∷ looks) ls w o x = looks_spare q n f looks ls w (lines.Read (Client n) l.fid l.index l.source l.body ∷ o) x

pub of_callee : (server : Node) (sync : AfsVolSync) (fs : List Fid) (ss : List AfsFetchStatus) (cs : List AfsCallBack) → AreOf server (entries_told server sync fs ss cs)
of_callee server sync [] ss cs = tt
of_callee server sync (f ∷ fs) [] cs = tt
of_callee server sync (f ∷ fs) (s ∷ ss) [] = tt
of_callee server sync (f ∷ fs) (s ∷ ss) (c ∷ cs) = (refl, of_callee server sync fs ss cs)

puts_apart : (capacity : ℕ) (es cache : List CacheEntry) → AreApart cache → AreApart (put_entries capacity es cache)
puts_apart capacity [] cache h = h
puts_apart capacity (e ∷ es) cache h = puts_apart capacity es (put_entry capacity e cache) (apart_put capacity e cache h)

pub entries_keep : (n clock place : ℕ) (c : ClientState) (m : Message) (past : List Entry) (act : Going) (es : List CacheEntry) → AreOf c.callee es → AreApart c.cache → IsFrom n place c m past → Keeps n c.cache past (takes_entries (Client n) c clock place act es)
entries_keep n clock place c m past act es of_ apart q =
    either_keeps (list_any (λ e. not (is_trusted clock e)) es) n c.cache past _ _ (again_keeps n place c c past act apart refl)
    (walks_keeps n c clock c.cache (put_entries c.capacity es c.cache) past (λ ls. with_given place (looked (Client n) (map status_look es) ls)) (with_statuses es act)
    (λ ls t f e found. elim (puts_found c.capacity c.callee f es c.cache e of_ found) [
      | inl x ↦ inr (record {
        fetched = all_fetched n f es ls x.0;
        reply = m;
        given = q.at;
        is_reply = q.reply;
        told = q.told;
        to = q.to;
        from = q.from ∙ sym x.1;
        kept = λ d. looks_spare e.server n f (map status_look es) ls (t.spares e.server f) (lines.Given place ∷ []) d;
      })
      | inr x ↦ inl (record {
        was = e;
        found = x.1;
        server = refl;
        fetched = none_fetched n f es ls x.0 ∙ t.fetched f;
        spares = λ o d. looks_spare e.server n f (map status_look es) ls (t.spares e.server f) (lines.Given place ∷ o) d;
      })
    ]) (puts_apart c.capacity es c.cache apart))
