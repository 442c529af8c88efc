-- An act that reads from its client's cache.
use Rattle.law_legal.proofs.OwedPasses.{front_onto}
use Rattle.law_legal.proofs.KeptApart.{apart_used, used_found}
use Rattle.law_legal.proofs.BaseLaws.{some_of, same_fid-true, found-cached-fid}
use Rattle.afs_num.specs.declared.histories.Body.{Body}
use Rattle.afs_num.specs.declared.histories.ReadBody.{ReadBody}
use Rattle.afs_num.specs.declared.histories.ReadBody.TheVariants as seen
use Rattle.std.proofs.Common.{◌≡◌, ℕ, zero, suc, Bool, true, false, cond, nat_lt, List, [], ◌∷◌, ◌++◌, Option, Some, None, refl, sym, ap, subst, ◌∙◌, append-nil}
use Rattle.std.specs.Prelude.{⊤}
use Rattle.afs_num.specs.declared.types.Fid.{Fid}
use Rattle.afs_num.specs.declared.types.Node.{Node}
use Rattle.afs_num.specs.declared.messages.Message.{Message}
use Rattle.law_legal.proofs.BaseWords.{AreApart, IsBody, IsWhole}
use Rattle.spec_rows.specs.ClientRow.{body_seen, shown_by, walked_with, find_cached, used_first, Look, Walked, walked, walked_by, walked_at, looked, is_trusted, with_statuses}
use Rattle.spec_rows.specs.Going.{reads_status, reads_statuses, reads_rights, gives_back, Going, Need, reads, asks_for, answers, next, with_read, locates}
use Rattle.law_legal.specs.Grants.{is_promised}
use Rattle.law_legal.specs.Ideal.{HasVersion}
use Rattle.law_legal.specs.Legal.{Shows}
use Rattle.spec_history.specs.declared.lines.Line.{Line}
use Rattle.law_legal.specs.Past.{onto, lines_of, given_message}
use Rattle.spec_rows.specs.Runs.{Entry}
use Rattle.spec_rows.specs.States.{CacheEntry}
use Rattle.spec_rows.specs.ClientRow as ClientRow
use Rattle.spec_history.specs.declared.lines.Line.TheVariants as lines

-- ---- lists of lines

pub onto_last : (o ls : List Line) (l : Line) → onto o (ls ++ l ∷ []) ≡ l ∷ onto o ls
onto_last o [] l = refl
onto_last o (k ∷ ls) l = onto_last (k ∷ o) ls l

onto_twice : (b a ls : List Line) → onto b (onto a ls) ≡ onto (ls ++ b) a
onto_twice b a [] = refl
onto_twice b a (l ∷ ls) = onto_twice b (l ∷ a) ls

pub back_again : (ls : List Line) → onto [] (onto [] ls) ≡ ls
back_again ls = onto_twice [] [] ls ∙ append-nil ls

pub own_lines : (ls o : List Line) → onto o ls ≡ onto [] ls ++ o
own_lines ls o = front_onto [] o ls

pub lines_assoc : (ls tail : List Line) (l : Line) → (ls ++ l ∷ []) ++ tail ≡ ls ++ l ∷ tail
lines_assoc [] tail l = refl
lines_assoc (k ∷ ls) tail l = ap (λ (o : List Line). k ∷ o) (lines_assoc ls tail l)

pub looked_more : (m : Node) (looks : List Look) (tail : List Line) → looked m looks tail ≡ looked m looks [] ++ tail
looked_more m [] tail = refl
looked_more m (l ∷ looks) tail = ap (λ (o : List Line). lines.Read m l.fid l.index l.source l.body ∷ o) (looked_more m looks tail)

pub looked_message : (m : Node) (looks : List Look) (o : List Line) (sent : List Message) → given_message (onto o (looked m looks [])) sent ≡ given_message o sent
looked_message m [] o sent = refl
looked_message m (l ∷ looks) o sent = looked_message m looks (lines.Read m l.fid l.index l.source l.body ∷ o) sent

-- ---- an act that reads, behind these lines of its entry

-- what an entry shows is that of its version
pub body_shows : (b : Option Body) (f : Fid) (i : ℕ) (is : Body) (body : ReadBody) (past : List Entry) (own : List Line) → IsBody b is → HasVersion f i is (own ++ lines_of past) → body_seen b ≡ Some body → Shows f i body past own
body_shows None f i is body past own h told e = absurd cc
body_shows (Some k) f i is body past own h told e = subst (λ (y : ReadBody). Shows f i y past own) (some_of (seen.Contents k) body e) (h.1, subst (λ (y : Body). HasVersion f i y (own ++ lines_of past)) (sym h.0) told)

pub shown_good : (need : Need) (u : CacheEntry) (body : ReadBody) (past : List Entry) (own : List Line) → (w : IsWhole u.fid u.index u.status u.body past) → HasVersion u.fid u.index w.is (own ++ lines_of past) → shown_by need u ≡ Some body → Shows u.fid u.index body past own
shown_good (reads f) u body past own w told e = body_shows u.body u.fid u.index w.is body past own w.holds told e
shown_good (reads_status f) u body past own w told e = subst (λ (y : ReadBody). Shows u.fid u.index y past own) (some_of (seen.Status u.status) body e) ((w.is, told), w.been)
shown_good (reads_statuses fs) u body past own w told e = absurd cc
shown_good (reads_rights f) u body past own w told e = absurd cc
shown_good (asks_for call) u body past own w told e = absurd cc
shown_good gives_back u body past own w told e = absurd cc
shown_good (locates o) u body past own w told e = absurd cc
shown_good (answers code) u body past own w told e = absurd cc

-- the act reads an entry
seen_promised : (b : Option Body) (body : ReadBody) → body_seen b ≡ Some body → is_promised body ≡ true
seen_promised None body e = absurd cc
seen_promised (Some k) body e = ap is_promised (sym (some_of (seen.Contents k) body e))

-- what an entry shows is promised
pub shown_promised : (need : Need) (u : CacheEntry) (body : ReadBody) → shown_by need u ≡ Some body → is_promised body ≡ true
shown_promised (reads f) u body e = seen_promised u.body body e
shown_promised (reads_status f) u body e = ap is_promised (sym (some_of (seen.Status u.status) body e))
shown_promised (reads_statuses fs) u body e = absurd cc
shown_promised (reads_rights f) u body e = absurd cc
shown_promised (asks_for call) u body e = absurd cc
shown_promised gives_back u body e = absurd cc
shown_promised (locates o) u body e = absurd cc
shown_promised (answers code) u body e = absurd cc

abbrev Uses : (List CacheEntry → Type 0) → Type 0
Uses P = (f : Fid) (u : CacheEntry) (cache : List CacheEntry) → find_cached u.fid cache ≡ Some u → P cache → P (used_first u cache)

keeps_with : (P : List CacheEntry → Type 0) → Uses P → (o : Option ReadBody) (more : Going → List CacheEntry → Walked) (a : Going) (cache : List CacheEntry) (u : CacheEntry) → ((b : Going) (cs : List CacheEntry) → P cs → P (more b cs).cache) → find_cached u.fid cache ≡ Some u → P cache → P (walked_with more a cache u o).cache
keeps_with P w None more a cache u ih found h = h
keeps_with P w (Some body) more a cache u ih found h = ih (with_read u.fid body a) (used_first u cache) (w u.fid u cache found h)

keeps_if : (P : List CacheEntry → Type 0) → Uses P → (t : Bool) (need : Need) (more : Going → List CacheEntry → Walked) (a : Going) (cache : List CacheEntry) (f : Fid) (u : CacheEntry) → ((b : Going) (cs : List CacheEntry) → P cs → P (more b cs).cache) → find_cached f cache ≡ Some u → P cache → P (cond t (walked_with more a cache u (shown_by need u)) (ClientRow.not_walked a cache)).cache
keeps_if P w true need more a cache f u ih found h = keeps_with P w (shown_by need u) more a cache u ih (ap (λ (x : Fid). find_cached x cache) (same_fid-true u.fid f (found-cached-fid f cache u found)) ∙ found) h
keeps_if P w false need more a cache f u ih found h = h

keeps_at : (P : List CacheEntry → Type 0) → Uses P → (o : Option CacheEntry) (need : Need) (more : Going → List CacheEntry → Walked) (clock : ℕ) (a : Going) (cache : List CacheEntry) (f : Fid) → ((b : Going) (cs : List CacheEntry) → P cs → P (more b cs).cache) → find_cached f cache ≡ o → P cache → P (walked_at more clock a cache need o).cache
keeps_at P w None need more clock a cache f ih found h = h
keeps_at P w (Some u) need more clock a cache f ih found h = keeps_if P w (nat_lt clock u.expiry) need more a cache f u ih found h

keeps_by : (P : List CacheEntry → Type 0) → Uses P → (need : Need) (more : Going → List CacheEntry → Walked) (clock : ℕ) (a : Going) (cache : List CacheEntry) → ((b : Going) (cs : List CacheEntry) → P cs → P (more b cs).cache) → P cache → P (walked_by more clock a cache need).cache
keeps_by P w (reads f) more clock a cache ih h = keeps_at P w (find_cached f cache) (reads f) more clock a cache f ih refl h
keeps_by P w (reads_status f) more clock a cache ih h = keeps_at P w (find_cached f cache) (reads_status f) more clock a cache f ih refl h
keeps_by P w (reads_statuses fs) more clock a cache ih h = h
keeps_by P w (reads_rights f) more clock a cache ih h = h
keeps_by P w (asks_for call) more clock a cache ih h = h
keeps_by P w gives_back more clock a cache ih h = h
keeps_by P w (locates o) more clock a cache ih h = h
keeps_by P w (answers code) more clock a cache ih h = h

-- what a walk makes of a cache, by its cases: what holds of it and stays where an entry is used holds behind it
pub walked_keeps : (P : List CacheEntry → Type 0) → ((f : Fid) (u : CacheEntry) (cache : List CacheEntry) → find_cached u.fid cache ≡ Some u → P cache → P (used_first u cache)) → (k clock : ℕ) (a : Going) (cache : List CacheEntry) → P cache → P (walked k clock a cache).cache
walked_keeps P w zero clock a cache h = h
walked_keeps P w (suc k) clock a cache h = keeps_by P w (next a) (walked k clock) clock a cache (λ b cs x. walked_keeps P w k clock b cs x) h

pub walked_apart : (k clock : ℕ) (a : Going) (cache : List CacheEntry) → AreApart cache → AreApart (walked k clock a cache).cache
walked_apart k clock a cache h = walked_keeps AreApart (λ f u cs found x. apart_used u cs x) k clock a cache h

-- what is in the cache then was in it before
pub walked_found : (k clock : ℕ) (a : Going) (cache : List CacheEntry) (g : Fid) (v : CacheEntry) → find_cached g (walked k clock a cache).cache ≡ Some v → find_cached g cache ≡ Some v
walked_found k clock a cache g v at = walked_keeps (λ cs. find_cached g cs ≡ Some v → find_cached g cache ≡ Some v) (λ f u cs found x y. x (used_found g u cs v found y)) k clock a cache (λ y. y) at

-- ---- it stays the same act

-- reads leave the act
with_act : (more : Going → List CacheEntry → Walked) (act : Going) (cache : List CacheEntry) (e : CacheEntry) (o : Option ReadBody) → ((b : Going) (cs : List CacheEntry) → (more b cs).act.act ≡ b.act) → (walked_with more act cache e o).act.act ≡ act.act
with_act more act cache e None w = refl
with_act more act cache e (Some body) w = w (with_read e.fid body act) _

trusted_act : (t : Bool) (a b : Walked) (act : Going) → a.act.act ≡ act.act → b.act.act ≡ act.act → (cond t a b).act.act ≡ act.act
trusted_act true a b act h k = h
trusted_act false a b act h k = k

at_act : (more : Going → List CacheEntry → Walked) (clock : ℕ) (act : Going) (cache : List CacheEntry) (need : Need) (o : Option CacheEntry) → ((b : Going) (cs : List CacheEntry) → (more b cs).act.act ≡ b.act) → (walked_at more clock act cache need o).act.act ≡ act.act
at_act more clock act cache need None w = refl
at_act more clock act cache need (Some e) w = trusted_act (is_trusted clock e) _ _ act (with_act more act cache e _ w) refl

by_act : (more : Going → List CacheEntry → Walked) (clock : ℕ) (act : Going) (cache : List CacheEntry) (need : Need) → ((b : Going) (cs : List CacheEntry) → (more b cs).act.act ≡ b.act) → (walked_by more clock act cache need).act.act ≡ act.act
by_act more clock act cache (reads f) w = at_act more clock act cache (reads f) (find_cached f cache) w
by_act more clock act cache (reads_status f) w = at_act more clock act cache (reads_status f) (find_cached f cache) w
by_act more clock act cache need w = refl

pub walked_act : (n clock : ℕ) (act : Going) (cache : List CacheEntry) → (walked n clock act cache).act.act ≡ act.act
walked_act zero clock act cache = refl
walked_act (suc n) clock act cache = by_act (walked n clock) clock act cache (next act) (walked_act n clock)

pub statuses_act : (es : List CacheEntry) (act : Going) → (with_statuses es act).act ≡ act.act
statuses_act [] act = refl
statuses_act (e ∷ es) act = statuses_act es (with_read e.fid (seen.Status e.status) act)
