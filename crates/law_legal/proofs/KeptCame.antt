-- What a client shows of a file from its cache came to it since it last crashed, as that of this version, however many servers a cell has.
use Rattle.spec_history.specs.declared.lines.Line.{Line}
use Rattle.spec_history.specs.declared.lines.Line.TheVariants as lines
use Rattle.spec_history.specs.declared.scripts.Script.{Script}
use Rattle.law_legal.proofs.KeptApart.{found_filter, put_found}
use Rattle.law_legal.proofs.OwedPasses.{all_lines}
use Rattle.law_legal.proofs.BaseLaws.{both, some_of}
use Rattle.law_legal.proofs.KeptAtHome.{AreKept, IsAt}
use Rattle.law_legal.proofs.KeptIsLookedAt.{AreLooks, walked_looks}
use Rattle.law_legal.proofs.ActWalks.{looked_more, walked_found}
use Rattle.law_legal.proofs.BaseWords.{AreApart}
use Rattle.law_legal.specs.Ideal.{Unless}
use Rattle.law_legal.specs.Grants.{is_promised}
use Rattle.law_legal.specs.Legal.{HasBrought, HasLearned, IsBrought}
use Rattle.law_legal.specs.Parts.{EachLine}
use Rattle.law_legal.specs.Past.{lines_of, onto, running}
use Rattle.law_legal.specs.ServerParts.{IsBroughtGood}
use Rattle.afs_num.specs.Fids.{same_fid}
use Rattle.afs_num.specs.Nodes.{same_node}
use Rattle.afs_num.specs.declared.calls.AfsCallBack.{AfsCallBack}
use Rattle.afs_num.specs.declared.calls.AfsFetchStatus.{AfsFetchStatus}
use Rattle.afs_num.specs.declared.calls.AfsVolSync.{AfsVolSync}
use Rattle.afs_num.specs.declared.histories.Actor.{Actor}
use Rattle.afs_num.specs.declared.histories.Actor.TheVariants as actors
use Rattle.afs_num.specs.declared.histories.Body.{Body}
use Rattle.afs_num.specs.declared.histories.ReadBody.{ReadBody}
use Rattle.afs_num.specs.declared.histories.ReadBody.TheVariants as seen
use Rattle.afs_num.specs.declared.histories.ReadSource.TheVariants.{Cached, Fetched}
use Rattle.afs_num.specs.declared.types.Fid.{Fid}
use Rattle.afs_num.specs.declared.types.Node.{Node}
use Rattle.afs_num.specs.declared.types.Node.TheVariants.{Client}
use Rattle.spec_rows.specs.ClientRow.{Look, Walked, body_kept, body_seen, drop_line, dropped, entries_told, find_cached, with_given, goes_by, is_among_fids, is_trusted, look_at, looked, most_reads, put_entries, put_entry, read_lines, shown_by, status_look, takes_entries, takes_entry, walked, walks_on, with_statuses}
use Rattle.spec_rows.specs.Going.{ClientState, Going, Need, answers, asks_for, gives_back, next, reads, reads_rights, reads_status, reads_statuses, with_read, locates}
use Rattle.spec_rows.specs.Runs.{Entry}
use Rattle.spec_rows.specs.States.{CacheEntry}
use Rattle.spec_rows.specs.Steps.{Step}
use Rattle.std.proofs.Common.{◌≡◌, ℕ, ◌+◌, eq-eqb, eqb-true, ◌⊎◌, inl, inr, Bool, true, false, cond, List, [], ◌∷◌, ◌++◌, map, Option, Some, None, refl, sym, ap, subst, ◌∙◌, filter, not, pos, nat_eq}
use Rattle.std.specs.List.{list_any}
use Rattle.std.specs.Prelude.{⊤, ◌&&◌}

-- ---- lines

-- it is no crash, and no third timeout
abbrev pub is_steady : Line → Bool
is_steady (lines.Timeout n q e k count) = not (nat_eq count 3)
is_steady (lines.Crash n) = false
is_steady l = true

-- nor does it drop this object, or all of a server
abbrev pub is_sparing : Fid → Line → Bool
is_sparing f (lines.Timeout n q e k count) = not (nat_eq count 3)
is_sparing f (lines.Crash n) = false
is_sparing f (lines.Drop n g) = not (same_fid g f)
is_sparing f (lines.DropAll n q) = false
is_sparing f l = true

-- nor any
abbrev pub is_mild : Line → Bool
is_mild (lines.Timeout n q e k count) = not (nat_eq count 3)
is_mild (lines.Crash n) = false
is_mild (lines.Drop n g) = false
is_mild (lines.DropAll n q) = false
is_mild l = true

-- it is neither a crash, nor a third timeout, nor a read
abbrev pub is_bare : Line → Bool
is_bare (lines.Timeout n q e k count) = not (nat_eq count 3)
is_bare (lines.Crash n) = false
is_bare (lines.Read n f index source body) = false
is_bare l = true

-- and drops nothing
abbrev pub is_tame : Line → Bool
is_tame l = is_bare l && is_mild l

bare_line : (l : Line) → is_bare l ≡ true → is_steady l ≡ true
bare_line (lines.Timeout n q e k count) h = h
bare_line (lines.Crash n) h = absurd cc
bare_line (lines.Read n f index source body) h = refl
bare_line l h = refl

mild_line : (f : Fid) (l : Line) → is_mild l ≡ true → (is_steady l ≡ true) × (is_sparing f l ≡ true)
mild_line f (lines.Timeout n q e k count) h = (h, h)
mild_line f (lines.Crash n) h = absurd cc
mild_line f (lines.Drop n g) h = absurd cc
mild_line f (lines.DropAll n q) h = absurd cc
mild_line f l h = (refl, refl)

pub bare_steady : (ls : List Line) → all_lines is_bare ls ≡ true → all_lines is_steady ls ≡ true
bare_steady [] h = refl
bare_steady (l ∷ ls) h = let q = both (is_bare l) (all_lines is_bare ls) h in rw (bare_line l q.0, bare_steady ls q.1) refl

pub mild_lines : (f : Fid) (ls : List Line) → all_lines is_mild ls ≡ true → (all_lines is_steady ls ≡ true) × (all_lines (is_sparing f) ls ≡ true)
mild_lines f [] h = (refl, refl)
mild_lines f (l ∷ ls) h =
    let q = both (is_mild l) (all_lines is_mild ls) h in
    let a = mild_line f l q.0 in
    let b = mild_lines f ls q.1 in
    (rw (a.0, b.0) refl, rw (a.1, b.1) refl)

tame_lines : (ls : List Line) → all_lines is_tame ls ≡ true → (all_lines is_bare ls ≡ true) × (all_lines is_mild ls ≡ true)
tame_lines [] h = (refl, refl)
tame_lines (l ∷ ls) h =
    let q = both (is_tame l) (all_lines is_tame ls) h in
    let a = both (is_bare l) (is_mild l) q.0 in
    let b = tame_lines ls q.1 in
    (rw (a.0, b.0) refl, rw (a.1, b.1) refl)

spared_by : (own same : Bool) (X : Type 0) → not same ≡ true → X → Unless (own && same) X
spared_by true true X h x = absurd cc
spared_by true false X h x = x
spared_by false true X h x = x
spared_by false false X h x = x

third_not : (count : ℕ) → not (nat_eq count 3) ≡ true → count ≡ 3 → ⊥
third_not count h e = let no_ : not true ≡ true = sym (ap not (eq-eqb count 3 e)) ∙ h in absurd cc

brought_line : (s : Script) (c : Node) (f : Fid) (i : ℕ) (b : Body) (l : Line) (o : List Line) → is_sparing f l ≡ true → HasBrought s c f i b o → HasBrought s c f i b (l ∷ o)
brought_line s c f i b (lines.Crash n) o h k = absurd cc
brought_line s c f i b (lines.Timeout n q e number count) o h k = ((λ x. third_not count h x.1.0), k)
brought_line s c f i b (lines.Drop n g) o h k = spared_by (same_node n c) (same_fid g f) (HasBrought s c f i b o) h k
brought_line s c f i b (lines.DropAll n q) o h k = absurd cc
brought_line s c f i b (lines.Read m g index source body) o h k = inr k
brought_line s c f i b (lines.Answer m code) o h k = inr k
brought_line s c f i b l o h k = k

brought_onto : (s : Script) (c : Node) (f : Fid) (i : ℕ) (b : Body) (ls o : List Line) → all_lines (is_sparing f) ls ≡ true → HasBrought s c f i b o → HasBrought s c f i b (onto o ls)
brought_onto s c f i b [] o h k = k
brought_onto s c f i b (l ∷ ls) o h k = let q = both (is_sparing f l) (all_lines (is_sparing f) ls) h in brought_onto s c f i b ls (l ∷ o) q.1 (brought_line s c f i b l o q.0 k)

learned_line : (s : Script) (c : Node) (f : Fid) (i : ℕ) (l : Line) (o : List Line) → is_steady l ≡ true → HasLearned s c f i o → HasLearned s c f i (l ∷ o)
learned_line s c f i (lines.Crash n) o h k = absurd cc
learned_line s c f i (lines.Timeout n q e number count) o h k = ((λ x. third_not count h x.1.0), k)
learned_line s c f i (lines.Read m g index source body) o h k = inr k
learned_line s c f i (lines.Answer m code) o h k = inr k
learned_line s c f i l o h k = k

pub learned_onto : (s : Script) (c : Node) (f : Fid) (i : ℕ) (ls o : List Line) → all_lines is_steady ls ≡ true → HasLearned s c f i o → HasLearned s c f i (onto o ls)
learned_onto s c f i [] o h k = k
learned_onto s c f i (l ∷ ls) o h k = let q = both (is_steady l) (all_lines is_steady ls) h in learned_onto s c f i ls (l ∷ o) q.1 (learned_line s c f i l o q.0 k)

-- what stands in the cache came to the client: its version, and its body
abbrev pub IsHad : Script → ℕ → Fid → CacheEntry → List Line → Type 0
IsHad s n f e o = HasLearned s (Client n) f e.index o × ((b : Body) → e.body ≡ Some b → HasBrought s (Client n) f e.index b o)

abbrev pub Had : Script → ℕ → List CacheEntry → List Line → Type 0
Had s n cache o = (f : Fid) (e : CacheEntry) → find_cached f cache ≡ Some e → IsHad s n f e o

-- behind a line that takes nothing
had_behind : (s : Script) (n : ℕ) (cache : List CacheEntry) (l : Line) (o : List Line) → is_mild l ≡ true → Had s n cache o → Had s n cache (l ∷ o)
had_behind s n cache l o h k f e x = let q = mild_line f l h in (learned_line s (Client n) f e.index l o q.0 (k f e x).0, λ b y. brought_line s (Client n) f e.index b l o q.1 ((k f e x).1 b y))

abbrev pub Within : List CacheEntry → List CacheEntry → Type 0
Within a b = (f : Fid) (e : CacheEntry) → find_cached f a ≡ Some e → find_cached f b ≡ Some e

-- these lines drop nothing that is in the cache
abbrev pub Spared : List CacheEntry → List Line → Type 0
Spared cache ls = (f : Fid) (e : CacheEntry) → find_cached f cache ≡ Some e → all_lines (is_sparing f) ls ≡ true

pub had_onto : (s : Script) (n : ℕ) (cache : List CacheEntry) (ls o : List Line) → all_lines is_steady ls ≡ true → Spared cache ls → Had s n cache o → Had s n cache (onto o ls)
had_onto s n cache ls o h spared k f e x = (learned_onto s (Client n) f e.index ls o h (k f e x).0, λ b y. brought_onto s (Client n) f e.index b ls o (spared f e x) ((k f e x).1 b y))

pub mild_onto : (s : Script) (n : ℕ) (cache : List CacheEntry) (ls o : List Line) → all_lines is_mild ls ≡ true → Had s n cache o → Had s n cache (onto o ls)
mild_onto s n cache ls o h k f e x = let q = mild_lines f ls h in (learned_onto s (Client n) f e.index ls o q.0 (k f e x).0, λ b y. brought_onto s (Client n) f e.index b ls o q.1 ((k f e x).1 b y))

abbrev pub Told : Script → ℕ → List Entry → List Line → List Line → Type 0
Told s n past own ls = EachLine (IsBroughtGood s) (actors.Node (Client n)) past own ls

bare_good : (s : Script) (who : Actor) (l : Line) (past : List Entry) (own next : List Line) → is_bare l ≡ true → IsBroughtGood s who l past own next
bare_good s who (lines.Read n f index source body) past own next h = absurd cc
bare_good s who l past own next h = tt

pub bare_told : (s : Script) (who : Actor) (past : List Entry) (own ls : List Line) → all_lines is_bare ls ≡ true → EachLine (IsBroughtGood s) who past own ls
bare_told s who past own [] h = tt
bare_told s who past own (l ∷ ls) h = let q = both (is_bare l) (all_lines is_bare ls) h in (bare_good s who l past own ls q.0, bare_told s who past (l ∷ own) ls q.1)

-- ---- a step of a client

pub record Carries (s : Script) (n : ℕ) (past : List Entry) (st : Step ClientState) : Type 0 where
  pub told : Told s n past [] st.lines
  pub after : Had s n st.state.cache (onto (lines_of past) st.lines)

pub record IsNow (s : Script) (n : ℕ) (c : ClientState) (past : List Entry) : Type 0 where
  pub apart : AreApart c.cache
  pub home : AreKept (IsAt s) c.cache
  pub had : Had s n c.cache (lines_of past)
  pub runs : (act : Going) → c.running ≡ Some act → running s (Client n) (lines_of past) ≡ Some act

pub bare_step : (s : Script) (n : ℕ) (c : ClientState) (past : List Entry) (st : Step ClientState) → IsNow s n c past → all_lines is_bare st.lines ≡ true → Spared st.state.cache st.lines → Within st.state.cache c.cache → Carries s n past st
bare_step s n c past st N h spared w = record { told = bare_told s (actors.Node (Client n)) past [] st.lines h; after = had_onto s n st.state.cache st.lines (lines_of past) (bare_steady st.lines h) spared (λ f e x. N.had f e (w f e x)) }

pub tame_step : (s : Script) (n : ℕ) (c : ClientState) (past : List Entry) (st : Step ClientState) → IsNow s n c past → all_lines is_tame st.lines ≡ true → Within st.state.cache c.cache → Carries s n past st
tame_step s n c past st N h w = let q = tame_lines st.lines h in bare_step s n c past st N q.0 (λ f e x. (mild_lines f st.lines q.1).1) w

pub either_carries : (t : Bool) (s : Script) (n : ℕ) (past : List Entry) (a b : Step ClientState) → Carries s n past a → Carries s n past b → Carries s n past (cond t a b)
either_carries true s n past a b h k = h
either_carries false s n past a b h k = k

pub within_filter : (p : CacheEntry → Bool) (cache : List CacheEntry) → AreApart cache → Within (filter p cache) cache
within_filter p cache apart f e found = (found_filter p f cache e apart found).0

pub dropped_bare : (m : Node) (es : List CacheEntry) (ls : List Line) → all_lines is_bare ls ≡ true → all_lines is_bare (dropped m es ls) ≡ true
dropped_bare m [] ls h = h
dropped_bare m (e ∷ es) ls h = dropped_bare m es ls h

pub dropped_steady : (m : Node) (es : List CacheEntry) (ls : List Line) → all_lines is_steady ls ≡ true → all_lines is_steady (dropped m es ls) ≡ true
dropped_steady m [] ls h = h
dropped_steady m (e ∷ es) ls h = dropped_steady m es ls h

-- what is found where some were left out isn't dropped with those
none_by : (p : CacheEntry → Bool) (f : Fid) (cache : List CacheEntry) (e : CacheEntry) (o : Option CacheEntry) → AreApart cache → find_cached f (filter (λ x. not (p x)) cache) ≡ Some e → find_cached f (filter p cache) ≡ o → o ≡ None
none_by p f cache e None apart found is = refl
none_by p f cache e (Some u) apart found is =
    let a = found_filter (λ x. not (p x)) f cache e apart found in
    let b = found_filter p f cache u apart is in
    let same : u ≡ e = some_of u e (sym b.0 ∙ a.0) in
    let no_ : not true ≡ true = sym (ap not (ap p (sym same) ∙ b.1)) ∙ a.1 in absurd cc

none_more : (t : Bool) (u : CacheEntry) (o : Option CacheEntry) → cond t (Some u) o ≡ None → (t ≡ false) × (o ≡ None)
none_more true u o h = absurd cc
none_more false u o h = (refl, h)

dropped_sparing : (m : Node) (f : Fid) (es : List CacheEntry) (ls : List Line) → find_cached f es ≡ None → all_lines (is_sparing f) ls ≡ true → all_lines (is_sparing f) (dropped m es ls) ≡ true
dropped_sparing m f [] ls none h = h
dropped_sparing m f (u ∷ es) ls none h = let q = none_more (same_fid u.fid f) u (find_cached f es) none in rw (q.0, dropped_sparing m f es ls q.1 h) refl

-- where these went, and are dropped before such lines
pub spared_filter : (m : Node) (p : CacheEntry → Bool) (cache : List CacheEntry) (ls : List Line) → AreApart cache → all_lines is_mild ls ≡ true → Spared (filter (λ e. not (p e)) cache) (dropped m (filter p cache) ls)
spared_filter m p cache ls apart h f e found = dropped_sparing m f (filter p cache) ls (none_by p f cache e (find_cached f (filter p cache)) apart found refl) (mild_lines f ls h).1

pub named_sparing : (m : Node) (f : Fid) (fs : List Fid) → is_among_fids f fs ≡ false → all_lines (is_sparing f) (map (drop_line m) fs) ≡ true
named_sparing m f [] h = refl
named_sparing m f (g ∷ fs) h = let q = none_named (same_fid g f) (is_among_fids f fs) h in rw (q.0, named_sparing m f fs q.1) refl
  where
    none_named : (t u : Bool) → cond t true u ≡ false → (t ≡ false) × (u ≡ false)
    none_named true u h = absurd cc
    none_named false u h = (refl, h)

pub drops_bare : (m : Node) (fs : List Fid) → all_lines is_bare (map (drop_line m) fs) ≡ true
drops_bare m [] = refl
drops_bare m (f ∷ fs) = drops_bare m fs

looked_mild : (m : Node) (looks : List Look) (ls : List Line) → all_lines is_mild ls ≡ true → all_lines is_mild (looked m looks ls) ≡ true
looked_mild m [] ls h = h
looked_mild m (l ∷ looks) ls h = looked_mild m looks ls h

looked_steady : (m : Node) (looks : List Look) (ls : List Line) → all_lines is_steady ls ≡ true → all_lines is_steady (looked m looks ls) ≡ true
looked_steady m [] ls h = h
looked_steady m (l ∷ looks) ls h = looked_steady m looks ls h

-- ---- reads from the cache

seen_body : (o : Option Body) (x : Body) → body_seen o ≡ Some (seen.Contents x) → o ≡ Some x
seen_body None x e = absurd cc
seen_body (Some b) x e = let same : b ≡ x = cc in ap Some same

shown_body : (need : Need) (e : CacheEntry) (x : Body) → shown_by need e ≡ Some (seen.Contents x) → e.body ≡ Some x
shown_body (reads f) e x h = seen_body e.body x h
shown_body (reads_status f) e x h = absurd cc
shown_body (reads_statuses fs) e x h = absurd cc
shown_body (reads_rights f) e x h = absurd cc
shown_body (asks_for call) e x h = absurd cc
shown_body gives_back e x h = absurd cc
shown_body (locates o) e x h = absurd cc
shown_body (answers code) e x h = absurd cc

pub brought_shown : (s : Script) (n : ℕ) (need : Need) (e : CacheEntry) (body : ReadBody) (o : List Line) → shown_by need e ≡ Some body → IsHad s n e.fid e o → IsBrought s (Client n) e.fid e.index Cached body o
brought_shown s n need e (seen.Contents x) o h w = (w.0, w.1 x (shown_body need e x h))
brought_shown s n need e (seen.Status x) o h w = (w.0, tt)
brought_shown s n need e (seen.AccessList x) o h w = (w.0, tt)

looks_told : (s : Script) (n clock : ℕ) (past : List Entry) (first : List CacheEntry) (looks : List Look) (own tail : List Line) → AreLooks clock first looks → Had s n first (own ++ lines_of past) → ((o : List Line) → Told s n past o tail) → Told s n past own (looked (Client n) looks tail)
looks_told s n clock past first [] own tail h had t = t own
looks_told s n clock past first (l ∷ looks) own tail h had t = (
  subst (λ (k : Look). IsBrought s (Client n) k.fid k.index k.source k.body (own ++ lines_of past)) (sym h.0.same) (brought_shown s n h.0.need h.0.entry l.body (own ++ lines_of past) h.0.shown (had h.0.entry.fid h.0.entry h.0.found)),
  looks_told s n clock past first looks (lines.Read (Client n) l.fid l.index l.source l.body ∷ own) tail h.1 (had_behind s n first (lines.Read (Client n) l.fid l.index l.source l.body) (own ++ lines_of past) refl had) t,
)

-- these lines stand before what is read on, and the cache is then this
pub record Opens (s : Script) (n : ℕ) (past : List Entry) (front : List Line → List Line) (own : List Line) (first : List CacheEntry) : Type 0 where
  pub rule : (tail : List Line) → Told s n past own tail → Told s n past [] (front tail)
  pub comes : (tail : List Line) → onto (lines_of past) (front tail) ≡ onto (own ++ lines_of past) tail
  pub had : Had s n first (own ++ lines_of past)

reads_on : (s : Script) (n clock : ℕ) (past : List Entry) (front : List Line → List Line) (own : List Line) (first : List CacheEntry) (looks : List Look) (tail : List Line) (st : Step ClientState) → st.lines ≡ front (looked (Client n) looks tail) → all_lines is_tame tail ≡ true → Within st.state.cache first → AreLooks clock first looks → Opens s n past front own first → Carries s n past st
reads_on s n clock past front own first looks tail st is tame w h o = let q = tame_lines tail tame in record {
  told = subst (Told s n past []) (sym is) (o.rule (looked (Client n) looks tail) (looks_told s n clock past first looks own tail h o.had (λ p. bare_told s (actors.Node (Client n)) past p tail q.0)));
  after = subst (Had s n st.state.cache) (sym (ap (onto (lines_of past)) is ∙ o.comes (looked (Client n) looks tail))) (mild_onto s n st.state.cache (looked (Client n) looks tail) (own ++ lines_of past) (looked_mild (Client n) looks tail q.1) (λ f e x. o.had f e (w f e x)));
}

goes_carries : (s : Script) (n clock : ℕ) (y : ClientState) (past : List Entry) (front : List Line → List Line) (own : List Line) (first : List CacheEntry) (w : Walked) (need : Need) → AreLooks clock first w.looks → Within w.cache first → Opens s n past front own first → Carries s n past (goes_by (Client n) y front w need)
goes_carries s n clock y past front own first w (answers k) h u o = reads_on s n clock past front own first w.looks (lines.Answer (Client n) (record { 0 = pos k }) ∷ []) _ refl refl u h o
goes_carries s n clock y past front own first w need h u o = reads_on s n clock past front own first w.looks [] _ refl refl u h o

pub walks_carry : (s : Script) (n clock : ℕ) (y : ClientState) (past : List Entry) (front : List Line → List Line) (own : List Line) (act : Going) (first : List CacheEntry) → Opens s n past front own first → Carries s n past (walks_on (Client n) y clock front act first)
walks_carry s n clock y past front own act first o =
    let w : Walked = walked (most_reads act) clock act first in
    goes_carries s n clock y past front own first w (next w.act) (walked_looks (most_reads act) clock first act first (λ g u z. z)) (λ f e z. walked_found (most_reads act) clock act first f e z) o

-- ---- what a reply brings

kept_by : (o : Option Body) (index : ℕ) (old : Option CacheEntry) (b : Body) → body_kept o index old ≡ Some b → (o ≡ Some b) ⊎ ((u : CacheEntry) × ((old ≡ Some u) × ((u.body ≡ Some b) × (u.index ≡ index))))
kept_by (Some body) index old b e = inl e
kept_by None index None b e = absurd cc
kept_by None index (Some u) b e = let q = same_by (nat_eq u.index index) u.body b e in inr (u, (refl, (q.0, eqb-true u.index index q.1)))
  where
    same_by : (t : Bool) (o : Option Body) (b : Body) → cond t o None ≡ Some b → (o ≡ Some b) × (t ≡ true)
    same_by true o b e = (e, refl)
    same_by false o b e = absurd cc

-- of an entry that is put beside what the cache has
put_had : (s : Script) (n capacity : ℕ) (u : CacheEntry) (cache : List CacheEntry) (o : List Line) → Had s n cache o → HasLearned s (Client n) u.fid u.index o → ((b : Body) → u.body ≡ Some b → HasBrought s (Client n) u.fid u.index b o) → Had s n (put_entry capacity u cache) o
put_had s n capacity u cache o h learned new f e found = elim (put_found capacity f u cache e found) [
  | inl x ↦ (
    subst (λ (g : Fid). HasLearned s (Client n) g e.index o) x.0 (subst (λ (i : ℕ). HasLearned s (Client n) u.fid i o) (ap (λ (v : CacheEntry). v.index) x.1) learned),
    λ b body. subst (λ (g : Fid). HasBrought s (Client n) g e.index b o) x.0
        (subst (λ (i : ℕ). HasBrought s (Client n) u.fid i b o) (ap (λ (v : CacheEntry). v.index) x.1)
        (elim (kept_by u.body u.index (find_cached u.fid cache) b (ap (λ (v : CacheEntry). v.body) x.1 ∙ body)) [
          | inl y ↦ new b y
          | inr y ↦ subst (λ (i : ℕ). HasBrought s (Client n) u.fid i b o) y.1.1.1 ((h u.fid y.0 y.1.0).1 b y.1.1.0)
        ])),
  )
  | inr x ↦ h f e x.1
]

pub entry_carries : (s : Script) (n clock place : ℕ) (c : ClientState) (past : List Entry) (act : Going) (u : CacheEntry) (body : ReadBody) → is_promised body ≡ true → ((b : Body) → u.body ≡ Some b → body ≡ seen.Contents b) → IsNow s n c past → Carries s n past (takes_entry (Client n) c clock place act u body)
entry_carries s n clock place c past act u body p is N =
    let own : List Line = lines.Read (Client n) u.fid u.index Fetched body ∷ lines.Given place ∷ [] in
    either_carries (is_trusted clock u) s n past _ _
    (walks_carry s n clock c past (read_lines (Client n) place (look_at Fetched u body)) own (with_read u.fid body act) (put_entry c.capacity u c.cache) (record {
      rule = λ tail h. (tt, (tt, h));
      comes = λ tail. refl;
      had = put_had s n c.capacity u c.cache (own ++ lines_of past) (mild_onto s n c.cache (lines.Given place ∷ lines.Read (Client n) u.fid u.index Fetched body ∷ []) (lines_of past) refl N.had) (inl (refl, (refl, (refl, (refl, p))))) (λ b e. inl (refl, (refl, (refl, (refl, is b e)))));
    }))
    (tame_step s n c past _ N refl (λ f e x. x))

-- several statuses
abbrev pub AreBodiless : List CacheEntry → Type 0
AreBodiless [] = ⊤
AreBodiless (e ∷ es) = (e.body ≡ None) × AreBodiless es

-- their versions came
abbrev AreLearned : Script → ℕ → List CacheEntry → List Line → Type 0
AreLearned s n [] o = ⊤
AreLearned s n (e ∷ es) o = HasLearned s (Client n) e.fid e.index o × AreLearned s n es o

reads_learned : (s : Script) (n : ℕ) (es : List CacheEntry) (o : List Line) → AreLearned s n es (onto o (looked (Client n) (map status_look es) []))
reads_learned s n [] o = tt
reads_learned s n (e ∷ es) o =
    let x : Line = lines.Read (Client n) e.fid e.index Fetched (seen.Status e.status) in
    (learned_onto s (Client n) e.fid e.index (looked (Client n) (map status_look es) []) (x ∷ o) (looked_steady (Client n) (map status_look es) [] refl) (inl (refl, (refl, (refl, (refl, refl))))), reads_learned s n es (x ∷ o))

puts_had : (s : Script) (n capacity : ℕ) (es cache : List CacheEntry) (o : List Line) → AreBodiless es → AreLearned s n es o → Had s n cache o → Had s n (put_entries capacity es cache) o
puts_had s n capacity [] cache o h l k = k
puts_had s n capacity (u ∷ es) cache o h l k = puts_had s n capacity es (put_entry capacity u cache) o h.1 l.1 (put_had s n capacity u cache o k l.0 (λ b e. (let no_ : None ≡ Some b = sym h.0 ∙ e in absurd cc)))

pub bodiless : (server : Node) (sync : AfsVolSync) (fs : List Fid) (ss : List AfsFetchStatus) (cs : List AfsCallBack) → AreBodiless (entries_told server sync fs ss cs)
bodiless server sync [] ss cs = tt
bodiless server sync (f ∷ fs) [] cs = tt
bodiless server sync (f ∷ fs) (s ∷ ss) [] = tt
bodiless server sync (f ∷ fs) (s ∷ ss) (c ∷ cs) = (refl, bodiless server sync fs ss cs)

statuses_told : (s : Script) (n : ℕ) (past : List Entry) (es : List CacheEntry) (own tail : List Line) → Told s n past (onto own (looked (Client n) (map status_look es) [])) tail → Told s n past own (looked (Client n) (map status_look es) tail)
statuses_told s n past [] own tail h = h
statuses_told s n past (e ∷ es) own tail h = (tt, statuses_told s n past es (lines.Read (Client n) e.fid e.index Fetched (seen.Status e.status) ∷ own) tail h)

pub onto_append : (ls own o : List Line) → onto (own ++ o) ls ≡ onto own ls ++ o
onto_append [] own o = refl
onto_append (l ∷ ls) own o = onto_append ls (l ∷ own) o

pub onto_more : (o a b : List Line) → onto o (a ++ b) ≡ onto (onto o a) b
onto_more o [] b = refl
onto_more o (l ∷ a) b = onto_more (l ∷ o) a b

pub entries_carry : (s : Script) (n clock place : ℕ) (c : ClientState) (past : List Entry) (act : Going) (es : List CacheEntry) → AreBodiless es → IsNow s n c past → Carries s n past (takes_entries (Client n) c clock place act es)
entries_carry s n clock place c past act es none N =
    let seen_ : List Line = looked (Client n) (map status_look es) [] in
    let own : List Line = onto (lines.Given place ∷ []) seen_ in
    let on : onto (lines.Given place ∷ lines_of past) seen_ ≡ own ++ lines_of past = onto_append seen_ (lines.Given place ∷ []) (lines_of past) in
    either_carries (list_any (λ e. not (is_trusted clock e)) es) s n past _ _
    (tame_step s n c past _ N refl (λ f e x. x))
    (walks_carry s n clock c past (λ ls. with_given place (looked (Client n) (map status_look es) ls)) own (with_statuses es act) (put_entries c.capacity es c.cache) (record {
      rule = λ tail h. (tt, statuses_told s n past es (lines.Given place ∷ []) tail h);
      comes = λ tail. ap (onto (lines.Given place ∷ lines_of past)) (looked_more (Client n) (map status_look es) tail) ∙ (onto_more (lines.Given place ∷ lines_of past) seen_ tail ∙ ap (λ (o : List Line). onto o tail) on);
      had = subst (Had s n (put_entries c.capacity es c.cache)) on (puts_had s n c.capacity es c.cache (onto (lines.Given place ∷ lines_of past) seen_) none (reads_learned s n es (lines.Given place ∷ lines_of past))
          (mild_onto s n c.cache seen_ (lines.Given place ∷ lines_of past) (looked_mild (Client n) (map status_look es) [] refl) (had_behind s n c.cache (lines.Given place) (lines_of past) refl N.had)));
    }))
