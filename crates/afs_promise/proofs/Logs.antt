-- The log and the latest grants agree after each edit.
use Rattle.std.proofs.Common.{◌≡◌, ◌⊎◌, inl, inr, ℕ, zero, suc, ◌+◌, ◌<◌, ◌≤◌, Bool, true, false, List, [], ◌∷◌, ◌++◌, length, filter, take, Option, Some, None, nat_eq, is_some, if◌then◌else◌, refl, ap, sym, subst, ◌∙◌, arith, length-append}
use Rattle.std.specs.List.{list_any}
use Rattle.std.specs.Map.{lookup}
use Rattle.indexmap.specs.IndexMap.{IndexMap, get}
use Rattle.std.proofs.lemmas.Bool.Decides.{nat_tests}
use Rattle.std.proofs.lemmas.List.{take-append-le}
use Rattle.afs_num.specs.Nodes.{same_node}
use Rattle.afs_num.specs.declared.types.Fid.{Fid}
use Rattle.afs_num.specs.declared.types.Node.{Node}
use Rattle.spec_breaks.specs.declared.types.Promise.{Promise}
use Rattle.afs_promise.specs.declared.types.Grant.{Grant}
use Rattle.afs_promise.specs.declared.types.Holding.{Holding}
use Rattle.spec_breaks.specs.Promises.{without_promise}
use Rattle.afs_promise.specs.Granting.{holding, holding_in, same_holding, has_order, is_held, held, IsIn, Rises, DoNotFall, IsLog, goes_on}
use Rattle.afs_promise.proofs.Held.{removed, replaced, held_last}
use Rattle.afs_promise.proofs.Split.{IsWithout, split, holdings_are_one, holding_itself}

pub gets_alike : {S : Type 0} (old new : IndexMap Holding Grant S) → new.entries ≡ old.entries → get same_holding new ≡ get same_holding old
gets_alike old new e = λ i k. lookup (same_holding k) (e i)

-- ---- the client's promise on a fid goes

was_there : (same : Bool) (g : Grant) (new old : Option Grant) → new ≡ (if same then None else old) → new ≡ Some g → old ≡ Some g
was_there true g new old e f = absurd (let no : None ≡ Some g = sym e ∙ f in cc)
was_there false g new old e f = sym e ∙ f

as_before : (same : Bool) (new old : Option Grant) → new ≡ (if same then None else old) → (same ≡ true → old ≡ None) → new ≡ old
as_before true new old e none = e ∙ sym (none refl)
as_before false new old e none = e

pub held_alike : (new old : Holding → Option Grant) → ((q : Holding) → new q ≡ old q) → (log : List Grant) → held new log ≡ held old log
held_alike new old same [] = refl
held_alike new old same (g ∷ gs) = λ i. if has_order g.order (same (holding_in g) i) then g.promise ∷ held_alike new old same gs i else held_alike new old same gs i

one_less : (old new : Holding → Option Grant) (k : Holding) (high : ℕ) (log : List Grant) → IsWithout k old new → Rises 0 high log → ((g : Grant) → old k ≡ Some g → IsIn g log × (holding_in g ≡ k))
    → (o : Option Grant) → old k ≡ o → length (held new log) + (if is_some o then 1 else 0) ≡ length (held old log)
one_less old new k high log without up found None e =
    let alike : held new log ≡ held old log = held_alike new old (λ q. as_before (same_holding k q) (new q) (old q) (without q) (λ s. ap old (sym (holdings_are_one k q s)) ∙ e)) log in
    omega (arith, ap (λ (ps : List Promise). length ps) alike)
one_less old new k high log without up found (Some g) e =
    let f = found g e in
    let s = split old new k g without e f.1 0 high log up f.0 in
    omega (arith, ap (λ (ps : List Promise). length ps) s.was, ap (λ (ps : List Promise). length ps) s.is, length-append (held old s.before) (g.promise ∷ held old s.behind), length-append (held old s.before) (held old s.behind))

pub removed_log : {old new : Holding → Option Grant} {log : List Grant} {clients : List Node} {ended count left next : ℕ} {rising : Bool} {highest : ℕ} (c : Node) (f : Fid) → IsWithout (holding c f) old new
    → left + (if is_some (old (holding c f)) then 1 else 0) ≡ count → IsLog old log clients ended count next rising highest → IsLog new log clients ended left next rising highest
removed_log {old} {new} {log} {clients} {ended} {count} {left} {next} c f without sum is =
    let stays : (q : Holding) (g : Grant) → new q ≡ Some g → old q ≡ Some g = λ q g e. was_there (same_holding (holding c f) q) g (new q) (old q) (without q) e in
    record {
      rises = is.rises;
      found = λ q g e. is.found q g (stays q g e);
      known = λ q g e. is.known q g (stays q g e);
      past = removed new old c f without (take ended log) ∙ ap (without_promise c f) is.past;
      within = is.within;
      counted = omega (arith, sum, is.counted, one_less old new (holding c f) next log without is.rises (λ g e. is.found (holding c f) g e) (old (holding c f)) refl);
      ordered = is.ordered;
    }

-- so the count isn't 0 where the client holds one
counts_one : (ps qs : List Promise) (p : Promise) (all : List Promise) → all ≡ ps ++ p ∷ qs → 0 < length all
counts_one ps qs p all e = omega (arith, ap length e, length-append ps (p ∷ qs))

pub is_counted : {old : Holding → Option Grant} {log : List Grant} {clients : List Node} {ended count next : ℕ} {rising : Bool} {highest : ℕ} (k : Holding) → IsLog old log clients ended count next rising highest
    → (o : Option Grant) → old k ≡ o → is_some o ≡ true → 0 < count
is_counted k is None e some = absurd cc
is_counted {old} {log} {clients} {ended} {count} {next} k is (Some g) e some =
    let f = is.found k g e in
    let s = split old (λ q. if same_holding k q then None else old q) k g (λ q. refl) e f.1 0 next log is.rises f.0 in
    omega (arith, is.counted, counts_one (held old s.before) (held old s.behind) g.promise (held old log) s.was)

-- ---- what is held no more is left out

held_kept_by : (latest : Holding → Option Grant) (g : Grant) (kept all : List Grant) (b : Bool) → is_held latest g ≡ b → held latest kept ≡ held latest all
    → held latest (if b then g ∷ kept else kept) ≡ (if b then g.promise ∷ held latest all else held latest all)
held_kept_by latest g kept all true e later = rw e (ap (λ (ps : List Promise). g.promise ∷ ps) later)
held_kept_by latest g kept all false e later = later

held_kept : (latest : Holding → Option Grant) (log : List Grant) → held latest (filter (is_held latest) log) ≡ held latest log
held_kept latest [] = refl
held_kept latest (g ∷ gs) = held_kept_by latest g (filter (is_held latest) gs) gs (is_held latest g) refl (held_kept latest gs)

rises_lower : (low more high : ℕ) (log : List Grant) → low ≤ more → Rises more high log → Rises low high log
rises_lower low more high [] le up = omega (arith, le, up)
rises_lower low more high (g ∷ gs) le up = (omega (arith, le, up.0), up.1)

rises_by : (low high : ℕ) (g : Grant) (kept : List Grant) (b : Bool) → low ≤ g.order → Rises (g.order + 1) high kept → Rises low high (if b then g ∷ kept else kept)
rises_by low high g kept true le up = (le, up)
rises_by low high g kept false le up = rises_lower low (g.order + 1) high kept (omega (arith, le)) up

pub rises_filter : (q : Grant → Bool) (low high : ℕ) (log : List Grant) → Rises low high log → Rises low high (filter q log)
rises_filter q low high [] up = up
rises_filter q low high (g ∷ gs) up = rises_by low high g (filter q gs) (q g) up.0 (rises_filter q (g.order + 1) high gs up.1)

falls_lower : (low more high : ℕ) (log : List Grant) → low ≤ more → DoNotFall more high log → DoNotFall low high log
falls_lower low more high [] le up = omega (arith, le, up)
falls_lower low more high (g ∷ gs) le up = (omega (arith, le, up.0), up.1)

falls_by : (low high : ℕ) (g : Grant) (kept : List Grant) (b : Bool) → low ≤ g.promise.expiry → DoNotFall g.promise.expiry high kept → DoNotFall low high (if b then g ∷ kept else kept)
falls_by low high g kept true le up = (le, up)
falls_by low high g kept false le up = falls_lower low g.promise.expiry high kept le up

falls_filter : (q : Grant → Bool) (low high : ℕ) (log : List Grant) → DoNotFall low high log → DoNotFall low high (filter q log)
falls_filter q low high [] up = up
falls_filter q low high (g ∷ gs) up = falls_by low high g (filter q gs) (q g) up.0 (falls_filter q g.promise.expiry high gs up.1)

in_by : (g x : Grant) (kept : List Grant) (b : Bool) → IsIn g kept → IsIn g (if b then x ∷ kept else kept)
in_by g x kept true i = inr i
in_by g x kept false i = i

pub in_filter : (q : Grant → Bool) (g : Grant) (log : List Grant) → q g ≡ true → IsIn g log → IsIn g (filter q log)
in_filter q g [] is i = i
in_filter q g (x ∷ xs) is (inl e) = subst (λ (b : Bool). IsIn g (if b then x ∷ filter q xs else filter q xs)) (sym (ap q e ∙ is)) (inl e)
in_filter q g (x ∷ xs) is (inr i) = in_by g x (filter q xs) (q x) (in_filter q g xs is i)

held_latest : (latest : Holding → Option Grant) (k : Holding) (g : Grant) → latest k ≡ Some g → holding_in g ≡ k → is_held latest g ≡ true
held_latest latest k g e own = ap (λ (q : Holding). has_order g.order (latest q)) own ∙ (ap (has_order g.order) e ∙ (let one : nat_eq g.order g.order ≡ true = grind (arith, nat_tests) in one))

pub tidied_log : {latest : Holding → Option Grant} {log kept : List Grant} {clients : List Node} {ended count next : ℕ} {rising : Bool} {highest : ℕ} → kept ≡ filter (is_held latest) log
    → IsLog latest log clients ended count next rising highest → IsLog latest kept clients 0 count next rising highest
tidied_log {latest} {log} {kept} {clients} {ended} {count} {next} {rising} {highest} e is = subst (λ (l : List Grant). IsLog latest l clients 0 count next rising highest) (sym e) (record {
  rises = rises_filter (is_held latest) 0 next log is.rises;
  found = λ k g f. let old = is.found k g f in (in_filter (is_held latest) g log (held_latest latest k g f old.1) old.0, old.1);
  known = is.known;
  past = refl;
  within = omega arith;
  counted = is.counted ∙ sym (ap (λ (ps : List Promise). length ps) (held_kept latest log));
  ordered = λ r. falls_filter (is_held latest) 0 highest log (is.ordered r);
})

pub tidied_held : (latest : Holding → Option Grant) (log kept : List Grant) → kept ≡ filter (is_held latest) log → held latest kept ≡ held latest log
tidied_held latest log kept e = ap (held latest) e ∙ held_kept latest log

-- ---- room is made

pub alike_log : {S : Type 0} (old new : IndexMap Holding Grant S) {log log' : List Grant} {clients clients' : List Node} {ended count next : ℕ} {rising : Bool} {highest : ℕ} → new.entries ≡ old.entries → log' ≡ log → clients' ≡ clients
    → IsLog (get same_holding old) log clients ended count next rising highest → IsLog (get same_holding new) log' clients' ended count next rising highest
alike_log {S} old new {log} {log'} {clients} {clients'} {ended} {count} {next} {rising} {highest} e f g is =
    subst (λ (l : List Grant). IsLog (get same_holding new) l clients' ended count next rising highest) (sym f)
    (subst (λ (ns : List Node). IsLog (get same_holding new) log ns ended count next rising highest) (sym g) (subst (λ (at : Holding → Option Grant). IsLog at log clients ended count next rising highest) (sym (gets_alike old new e)) is))

-- ---- a promise is granted

held_few : (latest : Holding → Option Grant) (low high : ℕ) (log : List Grant) → Rises low high log → length (held latest log) + low ≤ high
held_few latest low high [] up = omega (arith, up)
held_few latest low high (g ∷ gs) up = by (is_held latest g) (held_few latest (g.order + 1) high gs up.1)
  where
    by : (b : Bool) → length (held latest gs) + (g.order + 1) ≤ high → length (if b then g.promise ∷ held latest gs else held latest gs) + low ≤ high
    by true later = omega (arith, later, up.0)
    by false later = omega (arith, later, up.0)

-- so there were as many grants at least
pub count_below : {latest : Holding → Option Grant} {log : List Grant} {clients : List Node} {ended count next : ℕ} {rising : Bool} {highest : ℕ} → IsLog latest log clients ended count next rising highest → count ≤ next
count_below {latest} {log} {clients} {ended} {count} {next} is = omega (arith, is.counted, held_few latest 0 next log is.rises)

rises_on : (low high : ℕ) (log : List Grant) (x : Grant) → x.order ≡ high → Rises low high log → Rises low (high + 1) (log ++ x ∷ [])
rises_on low high [] x e up = (omega (arith, e, up), omega (arith, e))
rises_on low high (g ∷ gs) x e up = (up.0, rises_on (g.order + 1) high gs x e up.1)

rises_take : (n low high : ℕ) (log : List Grant) → Rises low high log → Rises low high (take n log)
rises_take zero low high [] up = up
rises_take (suc n) low high [] up = up
rises_take zero low high (g ∷ gs) up = omega (arith, up.0, rises_within (g.order + 1) high gs up.1)
  where
    rises_within : (low high : ℕ) (gs : List Grant) → Rises low high gs → low ≤ high
    rises_within low high [] up = up
    rises_within low high (g ∷ gs) up = omega (arith, up.0, rises_within (g.order + 1) high gs up.1)
rises_take (suc n) low high (g ∷ gs) up = (up.0, rises_take n (g.order + 1) high gs up.1)

falls_on : (low high : ℕ) (log : List Grant) (x : Grant) → high ≤ x.promise.expiry → DoNotFall low high log → DoNotFall low x.promise.expiry (log ++ x ∷ [])
falls_on low high [] x le up = (omega (arith, le, up), omega arith)
falls_on low high (g ∷ gs) x le up = (up.0, falls_on g.promise.expiry high gs x le up.1)

in_front : (g x : Grant) (log : List Grant) → IsIn g log → IsIn g (log ++ x ∷ [])
in_front g x [] i = absurd i
in_front g x (h ∷ hs) (inl e) = inl e
in_front g x (h ∷ hs) (inr i) = inr (in_front g x hs i)

in_last : (x : Grant) (log : List Grant) → IsIn x (log ++ x ∷ [])
in_last x [] = inl refl
in_last x (h ∷ hs) = inr (in_last x hs)

-- the latest grants, once this one is noted
abbrev pub IsWith : Holding → Grant → (Holding → Option Grant) → (Holding → Option Grant) → Type 0
IsWith k x old new = (q : Holding) → new q ≡ (if same_holding k q then Some x else old q)

new_or_old : (same : Bool) (x g : Grant) (new old : Option Grant) → new ≡ (if same then Some x else old) → new ≡ Some g → ((same ≡ true) × (x ≡ g)) ⊎ (old ≡ Some g)
new_or_old true x g new old e f = inl (refl, let one : x ≡ g = (let s : Some x ≡ Some g = sym e ∙ f in cc) in one)
new_or_old false x g new old e f = inr (sym e ∙ f)

starts_anew : (empty rising : Bool) (highest expiry : ℕ) → goes_on empty rising highest expiry ≡ true → (empty ≡ true) ⊎ ((rising ≡ true) × (highest ≤ expiry))
starts_anew true rising highest expiry e = inl refl
starts_anew false true highest expiry e = inr (refl, grind (arith, nat_tests, e))
starts_anew false false highest expiry e = absurd cc

no_items : (log : List Grant) → nat_eq (length log) 0 ≡ true → log ≡ []
no_items [] e = refl
no_items (g ∷ gs) e = absurd (grind (arith, nat_tests, e))

module _ (old new : Holding → Option Grant) (c : Node) (f : Fid) (x : Grant) (log : List Grant) (client : x.promise.client ≡ c) (fid : x.promise.fid ≡ f) (with : IsWith (holding c f) x old new) where
  own : holding_in x ≡ holding c f
  own = λ i. holding (client i) (fid i)

  is_new : is_held new x ≡ true
  is_new = held_latest new (holding c f) x (with (holding c f) ∙ chosen (same_holding (holding c f) (holding c f)) (holding_itself (holding c f))) own
    where
      chosen : (b : Bool) → b ≡ true → (if b then Some x else old (holding c f)) ≡ Some x
      chosen true e = refl
      chosen false e = absurd cc

  pub granted_held : (next : ℕ) → x.order ≡ next → Rises 0 next log → held new (log ++ x ∷ []) ≡ without_promise c f (held old log) ++ x.promise ∷ []
  granted_held next e up = held_last new log x is_new ∙ ap (λ (ps : List Promise). ps ++ x.promise ∷ []) (replaced new old c f x 0 with log (subst (λ (n : ℕ). Rises 0 n log) (sym e) up))

  -- the log and the latest grants agree again
  pub granted_log : {clients more : List Node} {ended count count' next highest : ℕ} {rising rising' : Bool} → x.order ≡ next → ((d : Node) → list_any (same_node d) clients ≡ true → list_any (same_node d) more ≡ true) → list_any (same_node c) more ≡ true
      → count' + (if is_some (old (holding c f)) then 1 else 0) ≡ count + 1 → rising' ≡ goes_on (nat_eq (length log) 0) rising highest x.promise.expiry
      → IsLog old log clients ended count next rising highest → IsLog new (log ++ x ∷ []) more ended count' (next + 1) rising' x.promise.expiry
  granted_log {clients} {more} {ended} {count} {count'} {next} {highest} {rising} {rising'} e keeps met sum goes is = record {
    rises = rises_on 0 next log x e is.rises;
    found = λ q g h. found_by q g (new_or_old (same_holding (holding c f) q) x g (new q) (old q) (with q) h);
    known = λ q g h. known_by q g (new_or_old (same_holding (holding c f) q) x g (new q) (old q) (with q) h);
    past =
        ap (held new) (take-append-le ended log (x ∷ []) is.within)
        ∙ (replaced new old c f x 0 with (take ended log) (subst (λ (n : ℕ). Rises 0 n (take ended log)) (sym e) (rises_take ended 0 next log is.rises)) ∙ ap (without_promise c f) is.past);
    within = omega (arith, is.within, length-append log (x ∷ []));
    counted =
        let gone : held (λ q. if same_holding (holding c f) q then None else old q) log ≡ without_promise c f (held old log) = removed (λ q. if same_holding (holding c f) q then None else old q) old c f (λ q. refl) log in
        let one : length (held (λ q. if same_holding (holding c f) q then None else old q) log) + (if is_some (old (holding c f)) then 1 else 0) ≡ length (held old log) =
        one_less old (λ q. if same_holding (holding c f) q then None else old q) (holding c f) next log (λ q. refl) is.rises (λ g h. is.found (holding c f) g h) (old (holding c f)) refl
        in
        omega (arith, sum, is.counted, one, ap (λ (ps : List Promise). length ps) gone, ap (λ (ps : List Promise). length ps) (granted_held next e is.rises), length-append (without_promise c f (held old log)) (x.promise ∷ []));
    ordered = λ r. ordered_by (starts_anew (nat_eq (length log) 0) rising highest x.promise.expiry (sym goes ∙ r));
  }
    where
      found_by : (q : Holding) (g : Grant) → ((same_holding (holding c f) q ≡ true) × (x ≡ g)) ⊎ (old q ≡ Some g) → IsIn g (log ++ x ∷ []) × (holding_in g ≡ q)
      found_by q g (inl h) = (subst (λ (y : Grant). IsIn y (log ++ x ∷ [])) h.1 (in_last x log), ap holding_in (sym h.1) ∙ (own ∙ holdings_are_one (holding c f) q h.0))
      found_by q g (inr h) = let i = is.found q g h in (in_front g x log i.0, i.1)

      known_by : (q : Holding) (g : Grant) → ((same_holding (holding c f) q ≡ true) × (x ≡ g)) ⊎ (old q ≡ Some g) → list_any (same_node g.promise.client) more ≡ true
      known_by q g (inl h) = subst (λ (d : Node). list_any (same_node d) more ≡ true) (sym client ∙ ap (λ (y : Grant). y.promise.client) h.1) met
      known_by q g (inr h) = keeps g.promise.client (is.known q g h)

      ordered_by : (nat_eq (length log) 0 ≡ true) ⊎ ((rising ≡ true) × (highest ≤ x.promise.expiry)) → DoNotFall 0 x.promise.expiry (log ++ x ∷ [])
      ordered_by (inl none) = subst (λ (l : List Grant). DoNotFall 0 x.promise.expiry (l ++ x ∷ [])) (sym (no_items log none)) (omega arith, omega arith)
      ordered_by (inr h) = falls_on 0 highest log x h.1 (is.ordered h.0)
