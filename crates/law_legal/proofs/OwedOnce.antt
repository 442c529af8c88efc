-- A break becomes owed once in an entry, and ends once: it is settled or given up, however many servers a cell has.
use Rattle.spec_breaks.specs.Promises as lists
use Rattle.spec_breaks.specs.Promises.{is_hit, is_promise, owes_from, with_promise, without_promise}
use Rattle.spec_breaks.specs.declared.types.Promise.{Promise}
use Rattle.spec_history.specs.declared.lines.Line.{Line}
use Rattle.spec_history.specs.declared.lines.Line.TheVariants as lines
use Rattle.spec_ideal.specs.Operations.{Found}
use Rattle.law_legal.proofs.OwedPasses.{all_lines}
use Rattle.law_legal.proofs.BaseLaws.{both, same_node-refl}
use Rattle.law_legal.proofs.OwedLoadBreaks.{all_hits}
use Rattle.law_legal.proofs.OwedFacts.{AllOf, all_both, all_filter, all_map}
use Rattle.law_legal.proofs.PromiseLists.{Owed, hits, owes_all, saves_turn, shows_turn, staying, without_promises}
use Rattle.law_legal.specs.Breaks.{HasEnded, HasOwe}
use Rattle.law_legal.specs.Ideal.{Unless}
use Rattle.law_legal.specs.Parts.{EachLine}
use Rattle.law_legal.specs.Past.{lines_of, onto}
use Rattle.law_legal.specs.ServerParts.{IsBreakOnce}
use Rattle.afs_num.specs.Fids.{same_fid}
use Rattle.afs_num.specs.Nodes.{same_node}
use Rattle.afs_num.specs.declared.histories.Actor.{Actor}
use Rattle.afs_num.specs.declared.histories.Actor.TheVariants as actors
use Rattle.afs_num.specs.declared.histories.Version.{Version}
use Rattle.afs_num.specs.declared.types.Fid.{Fid}
use Rattle.afs_num.specs.declared.types.Head.{Head}
use Rattle.afs_num.specs.declared.types.Node.{Node}
use Rattle.afs_num.specs.declared.types.Node.TheVariants.{Client}
use Rattle.spec_rows.specs.Callbacks.{Started, CallbackStep, carries_for, expired, fids_found, first_breaks, is_break_for, most_breaks, owe_line, pumped, started_call, starts, starts_by}
use Rattle.spec_rows.specs.Runs.{Entry}
use Rattle.spec_rows.specs.ServerRow.{Change, Decision, Reading, does, drops, granted, granted_in, versions_made, promise_ticks, refuses, repeats, saves, shows, tells_boot, versioned}
use Rattle.spec_rows.specs.States.{BackCall, Backs, ServerState}
use Rattle.std.proofs.Common.{zero, suc, ◌≡◌, ◌+◌, ◌<◌, ◌≤◌, inl, inr, ℕ, Bool, true, false, cond, List, [], ◌∷◌, ◌++◌, map, Option, Some, None, refl, sym, ap, subst, ◌∙◌, arith, filter, not, length, nat_lt, eq-eqb}
use Rattle.std.specs.Prelude.{⊤, ◌&&◌}

abbrev pub Once : Actor → List Entry → List Line → List Line → Type 0
Once who past own ls = EachLine IsBreakOnce who past own ls

-- ---- lines that owe, settle and give up nothing

abbrev pub is_breakless : Line → Bool
is_breakless (lines.Owe s c what n) = false
is_breakless (lines.Settle s c n) = false
is_breakless (lines.Quit s c n) = false
is_breakless l = true

pub breakless_line : (who : Actor) (l : Line) (past : List Entry) (own next : List Line) → is_breakless l ≡ true → IsBreakOnce who l past own next
breakless_line who (lines.Owe s c what n) past own next h = absurd cc
breakless_line who (lines.Settle s c n) past own next h = absurd cc
breakless_line who (lines.Quit s c n) past own next h = absurd cc
breakless_line who l past own next h = tt

pub breakless_once : (who : Actor) (past : List Entry) (own ls : List Line) → all_lines is_breakless ls ≡ true → Once who past own ls
breakless_once who past own [] h = tt
breakless_once who past own (l ∷ ls) h = let q = both (is_breakless l) (all_lines is_breakless ls) h in (breakless_line who l past own ls q.0, breakless_once who past (l ∷ own) ls q.1)

owe_one : (s c : Node) (what : Option Fid) (l : Line) (own : List Line) → is_breakless l ≡ true → HasOwe s c what (l ∷ own) → HasOwe s c what own
owe_one s c what (lines.Owe q d w n) own h x = absurd cc
owe_one s c what l own h x = x

pub unless_back : (t : Bool) (X : Type 0) → Unless t X → X
unless_back true X x = absurd x
unless_back false X x = x

pub ended_one : (s : Node) (n : ℕ) (l : Line) (o : List Line) → is_breakless l ≡ true → HasEnded s n (l ∷ o) → HasEnded s n o
ended_one s n (lines.Settle q d k) o h x = absurd cc
ended_one s n (lines.Quit q d k) o h x = absurd cc
ended_one s n (lines.Crash m) o h x = unless_back (same_node m s) (HasEnded s n o) x
ended_one s n (lines.Fault m) o h x = unless_back (same_node m s) (HasEnded s n o) x
ended_one s n l o h x = x

pub ended_back : (s : Node) (n : ℕ) (ls o : List Line) → all_lines is_breakless ls ≡ true → HasEnded s n (onto o ls) → HasEnded s n o
ended_back s n [] o h x = x
ended_back s n (l ∷ ls) o h x = let q = both (is_breakless l) (all_lines is_breakless ls) h in ended_one s n l o q.0 (ended_back s n ls (l ∷ o) q.1 x)

-- the entry has owed, settled and given up nothing so far
pub record Calm (past : List Entry) (own : List Line) : Type 0 where
  pub owes : (s c : Node) (what : Option Fid) → HasOwe s c what own → ⊥
  pub ends : (s : Node) (n : ℕ) → HasEnded s n (own ++ lines_of past) → HasEnded s n (lines_of past)

pub first_calm : (past : List Entry) → Calm past []
first_calm past = record { owes = λ s c what x. x; ends = λ s n x. x }

pub calm_more : (past : List Entry) (own : List Line) (l : Line) → is_breakless l ≡ true → Calm past own → Calm past (l ∷ own)
calm_more past own l h k = record { owes = λ s c what x. k.owes s c what (owe_one s c what l own h x); ends = λ s n x. k.ends s n (ended_one s n l (own ++ lines_of past) h x) }

-- ---- promises: each client has one at most on a fid

abbrev pub IsOther : Node → Fid → Promise → Type 0
IsOther c f p = p.client ≡ c → p.fid ≡ f → ⊥

abbrev pub AreSingle : List Promise → Type 0
AreSingle [] = ⊤
AreSingle (p ∷ ps) = AllOf (IsOther p.client p.fid) ps × AreSingle ps

single_by : (t : Bool) (p : Promise) (ps : List Promise) → AllOf (IsOther p.client p.fid) ps → AreSingle ps → AreSingle (cond t (p ∷ ps) ps)
single_by true p ps h k = (h, k)
single_by false p ps h k = k

single_filter : (q : Promise → Bool) (ps : List Promise) → AreSingle ps → AreSingle (filter q ps)
single_filter q [] h = tt
single_filter q (p ∷ ps) h = single_by (q p) p (filter q ps) (all_filter (IsOther p.client p.fid) q ps h.0) (single_filter q ps h.1)

single_both : (a b : List Promise) → AreSingle a → AreSingle b → AllOf (λ (p : Promise). AllOf (IsOther p.client p.fid) b) a → AreSingle (a ++ b)
single_both [] b h k w = k
single_both (p ∷ a) b h k w = (all_both (IsOther p.client p.fid) a b h.0 w.0, single_both a b h.1 k w.1)

holds_by : (t : Bool) (q : Promise → Bool) (p : Promise) (ps : List Promise) → q p ≡ t → AllOf (λ (x : Promise). q x ≡ true) ps → AllOf (λ (x : Promise). q x ≡ true) (cond t (p ∷ ps) ps)
holds_by true q p ps e h = (e, h)
holds_by false q p ps e h = h

filter_holds : (q : Promise → Bool) (ps : List Promise) → AllOf (λ (x : Promise). q x ≡ true) (filter q ps)
filter_holds q [] = tt
filter_holds q (p ∷ ps) = holds_by (q p) q p (filter q ps) refl (filter_holds q ps)

same_refl : (f : Fid) → same_fid f f ≡ true
same_refl f = rw (eq-eqb f.volume f.volume refl, eq-eqb f.vnode f.vnode refl, eq-eqb f.unique f.unique refl) refl

pub not_same : (t : Bool) → t ≡ true → not t ≡ true → ⊥
not_same true e h = absurd cc
not_same false e h = absurd cc

is_own : (c : Node) (f : Fid) (p : Promise) → p.client ≡ c → p.fid ≡ f → is_promise c f p ≡ true
is_own c f p e g = ap (λ (n : Node). same_node n c && same_fid p.fid f) e ∙ (ap (λ (x : Fid). same_node c c && same_fid x f) g ∙ rw (same_node-refl c, same_refl f) refl)

apart_of : (c : Node) (f : Fid) (p : Promise) → not (is_promise c f p) ≡ true → p.client ≡ c → p.fid ≡ f → ⊥
apart_of c f p h e g = not_same (is_promise c f p) (is_own c f p e g) h

single_with : (c : Node) (expiry : ℕ) (f : Fid) (ps : List Promise) → AreSingle ps → AreSingle (with_promise c expiry f ps)
single_with c expiry f ps h =
    let kept : List Promise = without_promise c f ps in
    let x : Promise = record { client = c; fid = f; expiry = expiry } in
    single_both kept (x ∷ []) (single_filter (λ p. not (is_promise c f p)) ps h) (tt, tt)
    (all_map (λ (p : Promise). not (is_promise c f p) ≡ true) (λ (p : Promise). AllOf (IsOther p.client p.fid) (x ∷ [])) (λ p y. ((λ e g. apart_of c f p y (sym e) (sym g)), tt)) kept (filter_holds (λ p. not (is_promise c f p)) ps))

single_withs : (c : Node) (expiry : ℕ) (fs : List Fid) (ps : List Promise) → AreSingle ps → AreSingle (lists.with_promises c expiry fs ps)
single_withs c expiry [] ps h = h
single_withs c expiry (f ∷ fs) ps h = single_withs c expiry fs (with_promise c expiry f ps) (single_with c expiry f ps h)

single_withouts : (c : Node) (fs : List Fid) (ps : List Promise) → AreSingle ps → AreSingle (without_promises c fs ps)
single_withouts c [] ps h = h
single_withouts c (f ∷ fs) ps h = single_withouts c fs (without_promise c f ps) (single_filter (λ p. not (is_promise c f p)) ps h)

single_staying : (c : Node) (vs : List Version) (ps : List Promise) → AreSingle ps → AreSingle (staying c vs ps)
single_staying c [] ps h = h
single_staying c (v ∷ vs) ps h = single_staying c vs (filter (λ p. not (is_hit c v.fid p)) ps) (single_filter (λ p. not (is_hit c v.fid p)) ps h)

-- one that is hit isn't one that isn't
hit_apart : (c : Node) (f : Fid) (p q : Promise) → is_hit c f p ≡ true → not (is_hit c f q) ≡ true → q.client ≡ p.client → q.fid ≡ p.fid → ⊥
hit_apart c f p q h k e g = not_same (is_hit c f q) (ap (λ (n : Node). same_fid q.fid f && not (same_node n c)) e ∙ (ap (λ (x : Fid). same_fid x f && not (same_node p.client c)) g ∙ h)) k

single_hits : (c : Node) (vs : List Version) (ps : List Promise) → AreSingle ps → AreSingle (hits c vs ps)
single_hits c [] ps h = tt
single_hits c (v ∷ vs) ps h =
    let stay : List Promise = filter (λ p. not (is_hit c v.fid p)) ps in
    single_both (filter (is_hit c v.fid) ps) (hits c vs stay) (single_filter (is_hit c v.fid) ps h) (single_hits c vs stay (single_filter (λ p. not (is_hit c v.fid p)) ps h))
    (all_map (λ (p : Promise). is_hit c v.fid p ≡ true) (λ (p : Promise). AllOf (IsOther p.client p.fid) (hits c vs stay))
    (λ p y. all_map (λ (q : Promise). not (is_hit c v.fid q) ≡ true) (IsOther p.client p.fid) (λ q z. hit_apart c v.fid p q y z) (hits c vs stay) (all_hits (λ (q : Promise). not (is_hit c v.fid q) ≡ true) c vs stay (filter_holds (λ p. not (is_hit c v.fid p)) ps)))
    (filter (is_hit c v.fid) ps) (filter_holds (is_hit c v.fid) ps))

-- ---- breaks: each has a number of its own

abbrev pub IsNot : ℕ → Owed → Type 0
IsNot n o = o.number ≡ n → ⊥

abbrev pub AreDistinct : List Owed → Type 0
AreDistinct [] = ⊤
AreDistinct (o ∷ os) = AllOf (IsNot o.number) os × AreDistinct os

distinct_by : (t : Bool) (o : Owed) (os : List Owed) → AllOf (IsNot o.number) os → AreDistinct os → AreDistinct (cond t (o ∷ os) os)
distinct_by true o os h k = (h, k)
distinct_by false o os h k = k

pub distinct_filter : (q : Owed → Bool) (os : List Owed) → AreDistinct os → AreDistinct (filter q os)
distinct_filter q [] h = tt
distinct_filter q (o ∷ os) h = distinct_by (q o) o (filter q os) (all_filter (IsNot o.number) q os h.0) (distinct_filter q os h.1)

distinct_both : (a b : List Owed) → AreDistinct a → AreDistinct b → AllOf (λ (o : Owed). AllOf (IsNot o.number) b) a → AreDistinct (a ++ b)
distinct_both [] b h k w = k
distinct_both (o ∷ a) b h k w = (all_both (IsNot o.number) a b h.0 w.0, distinct_both a b h.1 k w.1)

all_first : (P : Owed → Type 0) (k : ℕ) (os : List Owed) → AllOf P os → AllOf P (first_breaks k os)
all_first P zero os h = tt
all_first P (suc k) [] h = tt
all_first P (suc k) (o ∷ os) h = (h.0, all_first P k os h.1)

distinct_first : (k : ℕ) (os : List Owed) → AreDistinct os → AreDistinct (first_breaks k os)
distinct_first zero os h = tt
distinct_first (suc k) [] h = tt
distinct_first (suc k) (o ∷ os) h = (all_first (IsNot o.number) k os h.0, distinct_first k os h.1)

distinct_carried : (what : Option Fid) (o : Owed) (os : List Owed) → AreDistinct os → AreDistinct (carries_for what o os)
distinct_carried None o os h = (tt, tt)
distinct_carried (Some f) o os h = distinct_first most_breaks (filter (is_break_for o.client) os) (distinct_filter (is_break_for o.client) os h)

new_above : (k n : ℕ) (ps : List Promise) → n ≤ k → AllOf (λ (o : Owed). n < o.number) (owes_from k ps)
new_above k n [] le = tt
new_above k n (p ∷ ps) le = (omega (arith, le), new_above (k + 1) n ps (omega (arith, le)))

new_apart : (k n : ℕ) (ps : List Promise) → n ≤ k → AllOf (IsNot n) (owes_from k ps)
new_apart k n ps le = all_map (λ (o : Owed). n < o.number) (IsNot n) (λ o l e. (let x : n < o.number = l in let y : o.number ≡ n = e in absurd (omega (arith, x, y)))) (owes_from k ps) (new_above k n ps le)

new_distinct : (k : ℕ) (ps : List Promise) → AreDistinct (owes_from k ps)
new_distinct k [] = tt
new_distinct k (p ∷ ps) = (new_apart (k + 1) (k + 1) ps (omega arith), new_distinct (k + 1) ps)

new_low : (k : ℕ) (ps : List Promise) → AllOf (λ (o : Owed). o.number ≤ k + length (owes_from k ps)) (owes_from k ps)
new_low k [] = tt
new_low k (p ∷ ps) =
    (omega arith, all_map (λ (o : Owed). o.number ≤ (k + 1) + length (owes_from (k + 1) ps)) (λ (o : Owed). o.number ≤ k + suc (length (owes_from (k + 1) ps))) (λ o le. (let x : o.number ≤ (k + 1) + length (owes_from (k + 1) ps) = le in omega (arith, x))) (owes_from (k + 1) ps) (new_low (k + 1) ps))

all_numbers : (k m expiry n : ℕ) → n ≤ k → AllOf (λ (o : Owed). n < o.number) (owes_all expiry k m)
all_numbers k zero expiry n le = tt
all_numbers k (suc m) expiry n le = (omega (arith, le), all_numbers (k + 1) m expiry n (omega (arith, le)))

pub alls_distinct : (expiry k m : ℕ) → AreDistinct (owes_all expiry k m)
alls_distinct expiry k zero = tt
alls_distinct expiry k (suc m) = (all_map (λ (o : Owed). (k + 1) < o.number) (IsNot (k + 1)) (λ o l e. (let x : k + 1 < o.number = l in let y : o.number ≡ k + 1 = e in absurd (omega (arith, x, y)))) (owes_all expiry (k + 1) m) (all_numbers (k + 1) m expiry (k + 1) (omega arith)), alls_distinct expiry (k + 1) m)

pub alls_low : (expiry k m : ℕ) → AllOf (λ (o : Owed). o.number ≤ k + m) (owes_all expiry k m)
alls_low expiry k zero = tt
alls_low expiry k (suc m) = (omega arith, all_map (λ (o : Owed). o.number ≤ (k + 1) + m) (λ (o : Owed). o.number ≤ k + suc m) (λ o le. (let x : o.number ≤ (k + 1) + m = le in omega (arith, x))) (owes_all expiry (k + 1) m) (alls_low expiry (k + 1) m))

-- ---- what holds of a server that is up

pub record Listed (me : Node) (b : Backs) (ls : List Line) : Type 0 where
  pub single : AreSingle b.lists.promises
  pub distinct : AreDistinct b.lists.owed
  pub low : AllOf (λ (o : Owed). o.number ≤ b.lists.last_owed) b.lists.owed
  pub open' : AllOf (λ (o : Owed). HasEnded me o.number ls → ⊥) b.lists.owed
  pub ended : (n : ℕ) → HasEnded me n ls → n ≤ b.lists.last_owed
  pub calls : (j : Node) (c : BackCall) → b.calls j ≡ Some c → AreDistinct c.content

-- behind lines that end no break
pub over_listed : (me : Node) (b : Backs) (ls more : List Line) → ((n : ℕ) → HasEnded me n more → HasEnded me n ls) → Listed me b ls → Listed me b more
over_listed me b ls more w h = record {
  single = h.single;
  distinct = h.distinct;
  low = h.low;
  open' = all_map (λ (o : Owed). HasEnded me o.number ls → ⊥) (λ (o : Owed). HasEnded me o.number more → ⊥) (λ o x y. x (w o.number y)) b.lists.owed h.open';
  ended = λ n x. h.ended n (w n x);
  calls = h.calls;
}

pub expired_listed : (me : Node) (clock : ℕ) (b : Backs) (ls : List Line) → Listed me b ls → Listed me (expired clock b) ls
expired_listed me clock b ls h = record {
  single = single_filter (λ p. nat_lt clock p.expiry) b.lists.promises h.single;
  distinct = distinct_filter (λ o. nat_lt clock o.expiry) b.lists.owed h.distinct;
  low = all_filter (λ (o : Owed). o.number ≤ b.lists.last_owed) (λ o. nat_lt clock o.expiry) b.lists.owed h.low;
  open' = all_filter (λ (o : Owed). HasEnded me o.number ls → ⊥) (λ o. nat_lt clock o.expiry) b.lists.owed h.open';
  ended = h.ended;
  calls = h.calls;
}

-- what the end of a step leaves
pub put_case : (t : Bool) (x y : Option BackCall) (c : BackCall) (P : Type 0) → cond t x y ≡ Some c → (x ≡ Some c → P) → (y ≡ Some c → P) → P
put_case true x y c P e a b = a e
put_case false x y c P e a b = b e

pub one_call : (x : BackCall) (c : BackCall) → Some x ≡ Some c → x ≡ c
one_call x c e = cc

starts_by_listed : (me : Node) (boot : ℕ) (t : Started) (o : Owed) (x : Option BackCall) (ls : List Line) → Listed me t.backs ls → Listed me (starts_by me boot t o x).backs ls
starts_by_listed me boot t o None ls h = record {
  single = h.single;
  distinct = h.distinct;
  low = h.low;
  open' = h.open';
  ended = h.ended;
  calls = λ j c e. put_case (same_node o.client j) (Some (started_call t.backs o)) (t.backs.calls j) c (AreDistinct c.content) e
      (λ y. subst (λ (k : BackCall). AreDistinct k.content) (one_call (started_call t.backs o) c y) (distinct_carried o.what o t.backs.lists.owed h.distinct)) (h.calls j c);
}
starts_by_listed me boot t o (Some c) ls h = h

starts_listed : (me : Node) (boot : ℕ) (os : List Owed) (t : Started) (ls : List Line) → Listed me t.backs ls → Listed me (starts me boot os t).backs ls
starts_listed me boot [] t ls h = h
starts_listed me boot (o ∷ os) t ls h = starts_listed me boot os (starts_by me boot t o (t.backs.calls o.client)) ls (starts_by_listed me boot t o (t.backs.calls o.client) ls h)

pub pumped_listed : (me : Node) (boot : ℕ) (t : CallbackStep) (ls : List Line) → Listed me t.backs ls → Listed me (pumped me boot t).backs ls
pumped_listed me boot t ls h = starts_listed me boot t.backs.lists.owed _ ls (record { single = h.single; distinct = h.distinct; low = h.low; open' = h.open'; ended = h.ended; calls = h.calls })

-- ---- the lines of a turn, and what it leaves

pub record Ends (me : Node) (past : List Entry) (b : Backs) (own ls : List Line) : Type 0 where
  pub once : Once (actors.Node me) past own ls
  pub listed : Listed me b (onto (own ++ lines_of past) ls)

pub more_ends : (me : Node) (past : List Entry) (b : Backs) (own : List Line) (l : Line) (ls : List Line) → is_breakless l ≡ true → Ends me past b (l ∷ own) ls → Ends me past b own (l ∷ ls)
more_ends me past b own l ls h k = record { once = (breakless_line (actors.Node me) l past own ls h, k.once); listed = k.listed }

abbrev pub EndsBehind : Node → List Entry → Backs → List Line → Type 0
EndsBehind me past b ls = (own : List Line) → Calm past own → Ends me past b own ls

pub versions_end : (me : Node) (past : List Entry) (b : Backs) (vs : List Version) (ls : List Line) → EndsBehind me past b ls → EndsBehind me past b (versioned vs ls)
versions_end me past b [] ls k own calm = k own calm
versions_end me past b (v ∷ vs) ls k own calm = more_ends me past b own (lines.Version v) (versioned vs ls) refl (versions_end me past b vs ls k (lines.Version v ∷ own) (calm_more past own (lines.Version v) refl calm))

grants_end : (me : Node) (past : List Entry) (b : Backs) (c : Node) (expiry : ℕ) (fs : List Found) (ls : List Line) → EndsBehind me past b ls → EndsBehind me past b (granted me c expiry fs ls)
grants_end me past b c expiry [] ls k own calm = k own calm
grants_end me past b c expiry (f ∷ fs) ls k own calm =
    let l : Line = lines.Grant me c f.fid f.vnode.index expiry in
    more_ends me past b own l (granted me c expiry fs ls) refl (grants_end me past b c expiry fs ls k (l ∷ own) (calm_more past own l refl calm))

given_ends : (me : Node) (past : List Entry) (b : Backs) (place : ℕ) (ls : List Line) → EndsBehind me past b ls → Ends me past b [] (lines.Given place ∷ ls)
given_ends me past b place ls k = more_ends me past b [] (lines.Given place) ls refl (k (lines.Given place ∷ []) (calm_more past [] (lines.Given place) refl (first_calm past)))

pub does_ends : (me : Node) (past : List Entry) (b : Backs) (x : ServerState) (clock place : ℕ) (d : Decision) (ls : List Line) → EndsBehind me past b ls → Ends me past b [] (does me x clock place d ls).lines
does_ends me past b x clock place drops ls k = given_ends me past b place ls k
does_ends me past b x clock place (tells_boot head) ls k = given_ends me past b place ls k
does_ends me past b x clock place (repeats reply) ls k = given_ends me past b place ls k
does_ends me past b x clock place (refuses head code) ls k = given_ends me past b place ls k
does_ends me past b x clock place (shows head r) ls k = given_ends me past b place _ (grants_end me past b head.from (clock + promise_ticks) r.granted ls k)
does_ends me past b x clock place (saves head c) ls k = given_ends me past b place _ (λ own calm. more_ends me past b own _ _ refl (versions_end me past b (versions_made c) _ (grants_end me past b head.from (clock + promise_ticks) (granted_in c) ls k) _ (calm_more past own _ refl calm)))

-- a turn that tells nothing
pub still_ends : (me : Node) (past : List Entry) (b : Backs) → Listed me b (lines_of past) → EndsBehind me past b []
still_ends me past b h own calm = record { once = tt; listed = over_listed me b (lines_of past) (own ++ lines_of past) (λ n x. calm.ends me n x) h }

-- one that owes breaks
owes_once : (me : Node) (past : List Entry) (k : ℕ) (ps : List Promise) (own : List Line) → AllOf (λ (p : Promise). HasOwe me p.client (Some p.fid) own → ⊥) ps → AreSingle ps → Once (actors.Node me) past own (map (owe_line me) (owes_from k ps))
owes_once me past k [] own h s = tt
owes_once me past k (p ∷ ps) own h s = (
  h.0,
  owes_once me past (k + 1) ps _ (two_map ps h.1 s.0) s.1,
)
  where
    one_fid : (f g : Fid) → Some f ≡ Some g → f ≡ g
    one_fid f g e = cc

    two_map : (qs : List Promise) → AllOf (λ (q : Promise). HasOwe me q.client (Some q.fid) own → ⊥) qs → AllOf (IsOther p.client p.fid) qs → AllOf (λ (q : Promise). HasOwe me q.client (Some q.fid) (lines.Owe me p.client (Some p.fid) (k + 1) ∷ own) → ⊥) qs
    two_map [] a b = tt
    two_map (q ∷ qs) a b = ((λ x. elim x [ inl y ↦ b.0 (sym y.1.0) (sym (one_fid p.fid q.fid y.1.1)) | inr y ↦ a.0 y ]), two_map qs a.1 b.1)

pub owes_ended : (me : Node) (n : ℕ) (os : List Owed) (o : List Line) → HasEnded me n (onto o (map (owe_line me) os)) → HasEnded me n o
owes_ended me n [] o x = x
owes_ended me n (y ∷ os) o x = owes_ended me n os (owe_line me y ∷ o) x

pub alls_once : (me : Node) (past : List Entry) (expiry k m : ℕ) (own : List Line) → ((j : ℕ) → k < j → HasOwe me (Client j) None own → ⊥) → Once (actors.Node me) past own (map (owe_line me) (owes_all expiry k m))
alls_once me past expiry k zero own h = tt
alls_once me past expiry k (suc m) own h = (
  h (k + 1) (omega arith),
  alls_once me past expiry (k + 1) m _ (λ j l x. elim x [ inl y ↦ not_client k j l y.1.0 | inr y ↦ h j (let z : k + 1 < j = l in omega (arith, z)) y ]),
)
  where
    one_client : (a b : ℕ) → Client a ≡ Client b → a ≡ b
    one_client a b e = cc

    not_client : (k j : ℕ) → k + 1 < j → Client (k + 1) ≡ Client j → ⊥
    not_client k j l e = let z : k + 1 < j = l in let same : k + 1 ≡ j = one_client (k + 1) j e in absurd (omega (arith, z, same))

pub saved_ends : (me : Node) (x : ServerState) (clock : ℕ) (b : Backs) (head : Head) (c : Change) (past : List Entry) → Listed me b (lines_of past) → EndsBehind me past (saves_turn me x clock b head c).backs (saves_turn me x clock b head c).lines
saved_ends me x clock b head c past h own calm =
    let hs : List Promise = hits head.from (versions_made c) b.lists.promises in
    let os : List Owed = owes_from b.lists.last_owed hs in
    let last : ℕ = b.lists.last_owed in
    let o : List Line = own ++ lines_of past in
    let back : (n : ℕ) → HasEnded me n (onto o (map (owe_line me) os)) → HasEnded me n (lines_of past) = λ n y. calm.ends me n (owes_ended me n os o y) in
    record {
      once = owes_once me past last hs own (all_any (λ (p : Promise). HasOwe me p.client (Some p.fid) own → ⊥) hs (λ p. calm.owes me p.client (Some p.fid))) (single_hits head.from (versions_made c) b.lists.promises h.single);
      listed = record {
        single = single_withs head.from (clock + promise_ticks) (fids_found (granted_in c)) (staying head.from (versions_made c) b.lists.promises) (single_staying head.from (versions_made c) b.lists.promises h.single);
        distinct = distinct_both b.lists.owed os h.distinct (new_distinct last hs) (all_map (λ (y : Owed). y.number ≤ last) (λ (y : Owed). AllOf (IsNot y.number) os) (λ y le. new_apart last y.number hs le) b.lists.owed h.low);
        low = all_both (λ (y : Owed). y.number ≤ last + length os) b.lists.owed os (all_map (λ (y : Owed). y.number ≤ last) (λ (y : Owed). y.number ≤ last + length os) (λ y le. (let z : y.number ≤ last = le in omega (arith, z))) b.lists.owed h.low) (new_low last hs);
        open' = all_both (λ (y : Owed). HasEnded me y.number (onto o (map (owe_line me) os)) → ⊥) b.lists.owed os
            (all_map (λ (y : Owed). HasEnded me y.number (lines_of past) → ⊥) (λ (y : Owed). HasEnded me y.number (onto o (map (owe_line me) os)) → ⊥) (λ y w u. w (back y.number u)) b.lists.owed h.open')
            (all_map (λ (y : Owed). last < y.number) (λ (y : Owed). HasEnded me y.number (onto o (map (owe_line me) os)) → ⊥) (λ y l u. (let z : last < y.number = l in let v : y.number ≤ last = h.ended y.number (back y.number u) in absurd (omega (arith, z, v)))) os (new_above last last hs (omega arith)));
        ended = λ n u. (let v : n ≤ last = h.ended n (back n u) in omega (arith, v));
        calls = h.calls;
      };
    }
  where
    all_any : (P : Promise → Type 0) (ps : List Promise) → ((p : Promise) → P p) → AllOf P ps
    all_any P [] w = tt
    all_any P (p ∷ ps) w = (w p, all_any P ps w)

pub shown_ends : (me : Node) (x : ServerState) (clock : ℕ) (b : Backs) (head : Head) (r : Reading) (past : List Entry) → Listed me b (lines_of past) → EndsBehind me past (shows_turn me x clock b head r).backs (shows_turn me x clock b head r).lines
shown_ends me x clock b head r past h own calm = record {
  once = tt;
  listed = over_listed me _ (lines_of past) (own ++ lines_of past) (λ n y. calm.ends me n y) (record {
    single = single_withs head.from (clock + promise_ticks) (fids_found r.granted) (without_promises head.from r.given_up b.lists.promises) (single_withouts head.from r.given_up b.lists.promises h.single);
    distinct = h.distinct;
    low = h.low;
    open' = h.open';
    ended = h.ended;
    calls = h.calls;
  });
}
