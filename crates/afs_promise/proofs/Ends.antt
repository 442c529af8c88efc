-- What is held after those that are due have ended.
use Rattle.std.proofs.Common.{◌≡◌, inl, inr, ℕ, zero, suc, is_some, ◌+◌, ◌<◌, ◌≤◌, ◌&&◌, Bool, true, false, not, List, [], ◌∷◌, ◌++◌, length, filter, take, drop, get_or, Option, Some, None, nat_le, nat_lt, if◌then◌else◌, refl, ap, sym, subst, ◌∙◌, arith, take-add}
use Rattle.std.specs.List.{prefix_len}
use Rattle.std.proofs.lemmas.Bool.Decides.{nat_tests}
use Rattle.std.proofs.lemmas.List.{append-nil, take-append-drop}
use Rattle.std.proofs.lemmas.List.Elements.{filter-append}
use Rattle.afs_num.specs.declared.types.Node.{Node}
use Rattle.spec_breaks.specs.declared.types.Promise.{Promise}
use Rattle.afs_promise.specs.declared.types.Grant.{Grant}
use Rattle.afs_promise.specs.declared.types.Holding.{Holding}
use Rattle.spec_breaks.specs.Promises.{is_promise, without_promise, lasting}
use Rattle.afs_promise.specs.Granting.{holding_in, same_holding, has_order, is_held, held, IsIn, Rises, DoNotFall, IsLog, is_due, ends, reach}
use Rattle.afs_promise.proofs.Held.{removed}
use Rattle.afs_promise.proofs.Logs.{removed_log, held_alike}
use Rattle.afs_promise.proofs.Split.{IsWithout, split, and_both, holding_itself}
use Rattle.afs_promise.proofs.Hits.{held_by}

pub from_low : (low high : ℕ) (g : Grant) (log : List Grant) → Rises low high log → IsIn g log → low ≤ g.order
from_low low high g [] up i = absurd i
from_low low high g (x ∷ xs) up (inl e) = subst (λ (y : Grant). low ≤ y.order) e up.0
from_low low high g (x ∷ xs) up (inr i) = omega (arith, up.0, from_low (x.order + 1) high g xs up.1 i)

-- the place in the order of granting tells grants apart
pub same_grant : (low high : ℕ) (x y : Grant) (log : List Grant) → Rises low high log → IsIn x log → IsIn y log → x.order ≡ y.order → x ≡ y
same_grant low high x y [] up i j e = absurd i
same_grant low high x y (g ∷ gs) up (inl a) (inl b) e = sym a ∙ b
same_grant low high x y (g ∷ gs) up (inl a) (inr j) e = absurd (omega (arith, e, ap (λ (z : Grant). z.order) a, from_low (g.order + 1) high y gs up.1 j))
same_grant low high x y (g ∷ gs) up (inr i) (inl b) e = absurd (omega (arith, e, ap (λ (z : Grant). z.order) b, from_low (g.order + 1) high x gs up.1 i))
same_grant low high x y (g ∷ gs) up (inr i) (inr j) e = same_grant (g.order + 1) high x y gs up.1 i j e

pub held_parts : (latest : Holding → Option Grant) (xs ys : List Grant) → held latest (xs ++ ys) ≡ held latest xs ++ held latest ys
held_parts latest [] ys = refl
held_parts latest (x ∷ xs) ys = by (is_held latest x) (held_parts latest xs ys)
  where
    by : (t : Bool) → held latest (xs ++ ys) ≡ held latest xs ++ held latest ys → (if t then x.promise ∷ held latest (xs ++ ys) else held latest (xs ++ ys)) ≡ (if t then x.promise ∷ held latest xs else held latest xs) ++ held latest ys
    by true later = ap (λ (l : List Promise). x.promise ∷ l) later
    by false later = later

pub filters_swap : (p q : Promise → Bool) (xs : List Promise) → filter p (filter q xs) ≡ filter q (filter p xs)
filters_swap p q [] = refl
filters_swap p q (x ∷ xs) = by (p x) (q x) refl refl (filters_swap p q xs)
  where
    by : (a b : Bool) → p x ≡ a → q x ≡ b → filter p (filter q xs) ≡ filter q (filter p xs) → filter p (if b then x ∷ filter q xs else filter q xs) ≡ filter q (if a then x ∷ filter p xs else filter p xs)
    by true true e f later = rw (e, f) (ap (λ (l : List Promise). x ∷ l) later)
    by true false e f later = rw f later
    by false true e f later = rw e later
    by false false e f later = later

-- a grant that is due ends: what lasts stays
module _ (latest new : Holding → Option Grant) (now : ℕ) (x : Grant) (log : List Grant) (next : ℕ) (without : IsWithout (holding_in x) latest new) (due : x.promise.expiry ≤ now) (is_in : IsIn x log) (held_now : is_held latest x ≡ true)
    (up : Rises 0 next log) (found : (k : Holding) (g : Grant) → latest k ≡ Some g → IsIn g log × (holding_in g ≡ k)) where
  own_latest : latest (holding_in x) ≡ Some x
  own_latest =
      let h = held_by latest x held_now in
      h.1.is ∙ ap Some (same_grant 0 next h.0 x log up (found (holding_in x) h.0 h.1.is).0 is_in h.1.order)

  pub lasting_stays : lasting now (held new log) ≡ lasting now (held latest log)
  lasting_stays =
      let s = split latest new (holding_in x) x without own_latest refl 0 next log up is_in in
      let ends : nat_lt now x.promise.expiry ≡ false = grind (arith, nat_tests, due) in
      ap (lasting now) s.is
      ∙ (filter-append (λ (p : Promise). nat_lt now p.expiry) (held latest s.before) (held latest s.behind)
      ∙ sym (ap (lasting now) s.was ∙ (filter-append (λ (p : Promise). nat_lt now p.expiry) (held latest s.before) (x.promise ∷ held latest s.behind) ∙ rw ends refl)))

-- ---- the loop over those that may be due

pub take_one_more : (i : ℕ) (d : Grant) (log : List Grant) → i < length log → take (i + 1) log ≡ take i log ++ get_or log i d ∷ []
take_one_more i d [] lt = absurd (omega (arith, lt))
take_one_more zero d (g ∷ gs) lt = refl
take_one_more (suc i) d (g ∷ gs) lt = let next : suc i + 1 ≡ suc (i + 1) = omega arith in ap (λ (n : ℕ). take n (g ∷ gs)) next ∙ ap (λ (l : List Grant). g ∷ l) (take_one_more i d gs (omega (arith, lt)))

pub get_in : (i : ℕ) (d : Grant) (log : List Grant) → i < length log → IsIn (get_or log i d) log
get_in i d [] lt = absurd (omega (arith, lt))
get_in zero d (g ∷ gs) lt = inl refl
get_in (suc i) d (g ∷ gs) lt = inr (get_in i d gs (omega (arith, lt)))

le_not : (n m : ℕ) → n ≤ m → nat_lt m n ≡ false
le_not n m le = grind (arith, nat_tests, le)

gt_lt : (n m : ℕ) → nat_le n m ≡ false → nat_lt m n ≡ true
gt_lt n m e = grind (arith, nat_tests, e)

le_le : (n m : ℕ) → nat_le n m ≡ true → n ≤ m
le_le n m e = grind (arith, nat_tests, e)

struck : (b : Bool) (o : Option Grant) → b ≡ true → (if b then None else o) ≡ None
struck true o e = refl
struck false o e = absurd cc

module _ (latest new : Holding → Option Grant) (now : ℕ) (x : Grant) (log : List Grant) (clients : List Node) (ended count left next : ℕ) (rising : Bool) (highest : ℕ) (is_in : IsIn x log)
    (updates : (q : Holding) → new q ≡ (if ends latest now x && same_holding (holding_in x) q then None else latest q)) (sum : left + (if ends latest now x then 1 else 0) ≡ count) (is : IsLog latest log clients ended count next rising highest) where
  -- the log and the latest grants, and what lasts, after one that may be due
  pub record Goes : Type 0 where
    pub is_log : IsLog new log clients ended left next rising highest
    pub lasts : lasting now (held new log) ≡ lasting now (held latest log)
    pub done : (front : List Grant) → lasting now (held latest front) ≡ held latest front → lasting now (held new (front ++ x ∷ [])) ≡ held new (front ++ x ∷ [])

  stays_all : (t : Bool) → ends latest now x ≡ t → t ≡ false → (q : Holding) → new q ≡ latest q
  stays_all t e f q = updates q ∙ rw (e, f) refl

  goes_all : ends latest now x ≡ true → IsWithout (holding_in x) latest new
  goes_all e q = updates q ∙ rw e refl

  goes_by : (t : Bool) → ends latest now x ≡ t → Goes
  goes_by true e =
      let both = and_both (is_due now x) (is_held latest x) e in
      let without = goes_all e in
      let last = own_latest latest new now x log next without (le_le x.promise.expiry now both.0) is_in both.1 is.rises is.found in
      let off : left + (if is_some (latest (holding_in x)) then 1 else 0) ≡ count = ap (λ (o : Option Grant). left + (if is_some o then 1 else 0)) last ∙ (ap (λ (t : Bool). left + (if t then 1 else 0)) (sym e) ∙ sum) in
      record {
        is_log = removed_log x.promise.client x.promise.fid without off is;
        lasts = lasting_stays latest new now x log next without (le_le x.promise.expiry now both.0) is_in both.1 is.rises is.found;
        done = λ front ok.
            let none : new (holding_in x) ≡ None = without (holding_in x) ∙ struck (same_holding (holding_in x) (holding_in x)) (latest (holding_in x)) (holding_itself (holding_in x)) in
            let gone : is_held new x ≡ false = ap (has_order x.order) none in
            let all : held new (front ++ x ∷ []) ≡ without_promise x.promise.client x.promise.fid (held latest front) =
            held_parts new front (x ∷ []) ∙ (rw gone (append-nil (held new front)) ∙ removed new latest x.promise.client x.promise.fid without front)
            in
            ap (lasting now) all
            ∙ (filters_swap (λ (p : Promise). nat_lt now p.expiry) (λ (p : Promise). not (is_promise x.promise.client x.promise.fid p)) (held latest front)
            ∙ (ap (without_promise x.promise.client x.promise.fid) ok ∙ sym all));
      }
  goes_by false e =
      let same = stays_all false e refl in
      let alike : (l : List Grant) → held new l ≡ held latest l = λ l. held_alike new latest same l in
      record {
        is_log = removed_by (λ i k. same k i) (let s : left ≡ count = (let z : left + 0 ≡ count = ap (λ (t : Bool). left + (if t then 1 else 0)) (sym e) ∙ sum in omega (arith, z)) in s);
        lasts = ap (lasting now) (alike log);
        done = λ front ok. ap (lasting now) (alike (front ++ x ∷ [])) ∙ (lasts_by front ok ∙ sym (alike (front ++ x ∷ [])));
      }
    where
      removed_by : new ≡ latest → left ≡ count → IsLog new log clients ended left next rising highest
      removed_by f g = subst (λ (at : Holding → Option Grant). IsLog at log clients ended left next rising highest) (sym f) (subst (λ (n : ℕ). IsLog latest log clients ended n next rising highest) (sym g) is)

      last_by : (h : Bool) → is_held latest x ≡ h → (is_due now x && h) ≡ false → lasting now (held latest (x ∷ [])) ≡ held latest (x ∷ [])
      last_by true f e = rw f (rw (gt_lt x.promise.expiry now (first_false (is_due now x) e)) refl)
        where
          first_false : (a : Bool) → (a && true) ≡ false → a ≡ false
          first_false true e = absurd cc
          first_false false e = refl
      last_by false f e = rw f refl

      lasts_by : (front : List Grant) → lasting now (held latest front) ≡ held latest front → lasting now (held latest (front ++ x ∷ [])) ≡ held latest (front ++ x ∷ [])
      lasts_by front ok =
          let last : lasting now (held latest (x ∷ [])) ≡ held latest (x ∷ []) = last_by (is_held latest x) refl e in
          ap (lasting now) (held_parts latest front (x ∷ []))
          ∙ (filter-append (λ (p : Promise). nat_lt now p.expiry) (held latest front) (held latest (x ∷ []))
          ∙ ((λ i. ok i ++ last i) ∙ sym (held_parts latest front (x ∷ []))))

  pub goes : Goes
  goes = goes_by (ends latest now x) refl

-- ---- after the loop

due_part : (latest : Holding → Option Grant) (now : ℕ) (xs : List Grant) → lasting now (held latest (take (prefix_len (is_due now) xs) xs)) ≡ []
due_part latest now [] = refl
due_part latest now (x ∷ xs) = by (is_due now x) refl (is_held latest x) (due_part latest now xs)
  where
    by : (t : Bool) → is_due now x ≡ t → (h : Bool) → lasting now (held latest (take (prefix_len (is_due now) xs) xs)) ≡ []
        → lasting now (held latest (take (if t then 1 + prefix_len (is_due now) xs else 0) (x ∷ xs))) ≡ []
    by true e h later =
        let next : 1 + prefix_len (is_due now) xs ≡ suc (prefix_len (is_due now) xs) = omega arith in
        ap (λ (n : ℕ). lasting now (held latest (take n (x ∷ xs)))) next ∙ over (is_held latest x) later
      where
        over : (h : Bool) → lasting now (held latest (take (prefix_len (is_due now) xs) xs)) ≡ [] → lasting now (if h then x.promise ∷ held latest (take (prefix_len (is_due now) xs) xs) else held latest (take (prefix_len (is_due now) xs) xs)) ≡ []
        over true later = rw (le_not x.promise.expiry now (le_le x.promise.expiry now e)) later
        over false later = later
    by false e h later = refl

all_last : (latest : Holding → Option Grant) (now low high : ℕ) (xs : List Grant) → now < low → DoNotFall low high xs → lasting now (held latest xs) ≡ held latest xs
all_last latest now low high [] lt up = refl
all_last latest now low high (x ∷ xs) lt up = by (is_held latest x) (all_last latest now x.promise.expiry high xs (omega (arith, lt, up.0)) up.1)
  where
    above : nat_lt now x.promise.expiry ≡ true
    above = grind (arith, nat_tests, lt, up.0)

    by : (h : Bool) → lasting now (held latest xs) ≡ held latest xs → lasting now (if h then x.promise ∷ held latest xs else held latest xs) ≡ (if h then x.promise ∷ held latest xs else held latest xs)
    by true later = rw above (ap (λ (ps : List Promise). x.promise ∷ ps) later)
    by false later = later

behind_last : (latest : Holding → Option Grant) (now low high : ℕ) (xs : List Grant) → DoNotFall low high xs → lasting now (held latest (drop (prefix_len (is_due now) xs) xs)) ≡ held latest (drop (prefix_len (is_due now) xs) xs)
behind_last latest now low high [] up = refl
behind_last latest now low high (x ∷ xs) up = by (is_due now x) refl (behind_last latest now x.promise.expiry high xs up.1)
  where
    by : (t : Bool) → is_due now x ≡ t → lasting now (held latest (drop (prefix_len (is_due now) xs) xs)) ≡ held latest (drop (prefix_len (is_due now) xs) xs)
        → lasting now (held latest (drop (if t then 1 + prefix_len (is_due now) xs else 0) (x ∷ xs))) ≡ held latest (drop (if t then 1 + prefix_len (is_due now) xs else 0) (x ∷ xs))
    by true e later =
        let next : 1 + prefix_len (is_due now) xs ≡ suc (prefix_len (is_due now) xs) = omega arith in
        subst (λ (n : ℕ). lasting now (held latest (drop n (x ∷ xs))) ≡ held latest (drop n (x ∷ xs))) (sym next) later
    by false e later = all_last latest now x.promise.expiry high (x ∷ xs) (grind (arith, nat_tests, e)) (omega arith, up.1)

falls_drop : (n low high : ℕ) (xs : List Grant) → DoNotFall low high xs → (more : ℕ) × DoNotFall more high (drop n xs)
falls_drop zero low high [] up = (low, up)
falls_drop (suc n) low high [] up = (low, up)
falls_drop zero low high (x ∷ xs) up = (low, up)
falls_drop (suc n) low high (x ∷ xs) up = falls_drop n x.promise.expiry high xs up.1

abbrev no_grants : List Grant
no_grants = []

nothing_behind : (k : ℕ) → drop k (no_grants) ≡ no_grants
nothing_behind zero = refl
nothing_behind (suc k) = refl

dropped : (m n : ℕ) (xs : List Grant) → drop (m + n) xs ≡ drop n (drop m xs)
dropped m n [] = nothing_behind (m + n) ∙ sym (ap (drop n) (nothing_behind m) ∙ nothing_behind n)
dropped zero n (x ∷ xs) = ap (λ (k : ℕ). drop k (x ∷ xs)) (let z : zero + n ≡ n = omega arith in z)
dropped (suc m) n (x ∷ xs) = ap (λ (k : ℕ). drop k (x ∷ xs)) (let z : suc m + n ≡ suc (m + n) = omega arith in z) ∙ dropped m n xs

module _ {latest : Holding → Option Grant} {log : List Grant} {clients : List Node} {ended count next : ℕ} {rising : Bool} {highest : ℕ} (now : ℕ) (is : IsLog latest log clients ended count next rising highest) (rises : rising ≡ true) where
  place : ℕ
  place = prefix_len (is_due now) (drop ended log)

  -- none of those that may be due is held
  pub none_due : (until : ℕ) → until ≡ reach now rising ended log → lasting now (held latest (take until log)) ≡ held latest (take until log) → held latest (take until log) ≡ []
  unfolding place
  none_due until e done =
      let at : until ≡ ended + place = e ∙ rw rises refl in
      let parts : held latest (take until log) ≡ held latest (take place (drop ended log)) =
      ap (λ (n : ℕ). held latest (take n log)) at ∙ (ap (held latest) (take-add ended place log) ∙ (held_parts latest (take ended log) (take place (drop ended log)) ∙ ap (λ (ps : List Promise). ps ++ held latest (take place (drop ended log))) is.past))
      in
      sym done ∙ (ap (lasting now) parts ∙ due_part latest now (drop ended log))

  -- and all that is held lasts
  pub rest_lasts : (until : ℕ) → until ≡ reach now rising ended log → lasting now (held latest (take until log)) ≡ held latest (take until log) → lasting now (held latest log) ≡ held latest log
  unfolding place
  rest_lasts until e done =
      let at : until ≡ ended + place = e ∙ rw rises refl in
      let behind : held latest log ≡ held latest (drop place (drop ended log)) =
      ap (held latest) (sym (take-append-drop until log)) ∙ (held_parts latest (take until log) (drop until log) ∙ (ap (λ (ps : List Promise). ps ++ held latest (drop until log)) (none_due until e done) ∙ (ap (λ (n : ℕ). held latest (drop n log)) at ∙ ap (held latest) (dropped ended place log))))
      in
      let falls = falls_drop ended 0 highest log (is.ordered rises) in
      subst (λ (ps : List Promise). lasting now ps ≡ ps) (sym behind) (behind_last latest now falls.0 highest (drop ended log) falls.1)

  pub ended_log : (until : ℕ) → until ≡ reach now rising ended log → until ≤ length log → lasting now (held latest (take until log)) ≡ held latest (take until log) → IsLog latest log clients until count next rising highest
  ended_log until e within done = record { rises = is.rises; found = is.found; known = is.known; past = none_due until e done; within = within; counted = is.counted; ordered = is.ordered }
