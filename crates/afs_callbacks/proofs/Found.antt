-- The promises that are found before a change are those that it withdraws.
use Rattle.std.proofs.Common.{◌≡◌, ◌≤◌, ◌+◌, ℕ, Bool, true, false, cond, not, ◌&&◌, List, [], ◌∷◌, ◌++◌, length, refl, sym, ap, subst, ◌∙◌, arith}
use Rattle.std.specs.Prelude.{filter, nat_lt}
use Rattle.std.proofs.lemmas.List.{length-append}
use Rattle.afs_num.specs.Fids.{same_fid}
use Rattle.afs_num.specs.Nodes.{same_node}
use Rattle.afs_num.specs.declared.types.Fid.{Fid}
use Rattle.afs_num.specs.declared.types.Node.{Node}
use Rattle.spec_ideal.proofs.Basics.{same_fid-refl, same_fid-true}
use Rattle.spec_model.proofs.Basics.{same_node-refl, same_node-true}
use Rattle.spec_breaks.specs.Promises.{expired, grants_all, hits, is_hit, is_promise, lasting, left, with_promises, withdrawn, withdraws, without_promise, Lists}
use Rattle.spec_breaks.specs.declared.types.Promise.{Promise}
use Rattle.afs_promise.specs.Found.{without_found}
use Rattle.afs_callbacks.specs.Saving.{hits_each, withdraws_each}
use Rattle.afs_callbacks.proofs.Granting.{filters_swap, grants_last}
use Rattle.afs_callbacks.proofs.Withdrawn.{all_hits, all_left, first_of, hit_or_left, left_each, withdrawn_owed}

-- ---- what is found goes, and nothing else

abbrev others : Promise → Promise → Bool
others g p = not (is_promise g.client g.fid p)

found_swap : (gs : List Promise) (h : Promise) (ps : List Promise) → without_found gs (without_promise h.client h.fid ps) ≡ without_promise h.client h.fid (without_found gs ps)
found_swap [] h ps = refl
found_swap (g ∷ gs) h ps = ap (without_found gs) (filters_swap (others g) (others h) ps) ∙ found_swap gs h (without_promise g.client g.fid ps)

first_goes : (h : Promise) (hs : List Promise) → without_promise h.client h.fid (h ∷ hs) ≡ without_promise h.client h.fid hs
first_goes h hs = rw (same_node-refl h.client, same_fid-refl h.fid) refl

all_go : (hs : List Promise) → without_found hs hs ≡ []
all_go [] = refl
all_go (h ∷ hs) = ap (without_found hs) (first_goes h hs) ∙ (found_swap hs h hs ∙ ap (without_promise h.client h.fid) (all_go hs))

found_among : (q : Promise → Bool) (gs ps : List Promise) → filter q (without_found gs ps) ≡ without_found gs (filter q ps)
found_among q [] ps = refl
found_among q (g ∷ gs) ps = found_among q gs (without_promise g.client g.fid ps) ∙ ap (without_found gs) (filters_swap q (others g) ps)

second_of : (a b : Bool) → (a && b) ≡ true → b ≡ true
second_of true b e = e
second_of false b e = absurd cc

-- what a client holds twice on a fid is hit twice
same_hit : (n : Node) (f : Fid) (g p : Promise) → is_hit n f g ≡ true → is_promise g.client g.fid p ≡ true → is_hit n f p ≡ true
same_hit n f g p hit is =
    let client : p.client ≡ g.client = same_node-true p.client g.client (first_of (same_node p.client g.client) (same_fid p.fid g.fid) is) in
    let fid : p.fid ≡ g.fid = same_fid-true p.fid g.fid (second_of (same_node p.client g.client) (same_fid p.fid g.fid) is) in
    (λ i. same_fid (fid i) f && not (same_node (client i) n)) ∙ hit

one_by : (b c : Bool) (n : Node) (f : Fid) (g p : Promise) (ps : List Promise) → is_hit n f p ≡ c → (b ≡ true → c ≡ true) → left n f (without_promise g.client g.fid ps) ≡ left n f ps →
    left n f (cond (not b) (p ∷ without_promise g.client g.fid ps) (without_promise g.client g.fid ps)) ≡ cond (not c) (p ∷ left n f ps) (left n f ps)
one_by true true n f g p ps e h ih = ih
one_by true false n f g p ps e h ih = let no = h refl in absurd cc
one_by false true n f g p ps e h ih = rw e ih
one_by false false n f g p ps e h ih = rw e (ap (λ (xs : List Promise). p ∷ xs) ih)

one_left : (n : Node) (f : Fid) (g : Promise) (ps : List Promise) → is_hit n f g ≡ true → left n f (without_promise g.client g.fid ps) ≡ left n f ps
one_left n f g [] hit = refl
one_left n f g (p ∷ ps) hit = one_by (is_promise g.client g.fid p) (is_hit n f p) n f g p ps refl (same_hit n f g p hit) (one_left n f g ps hit)

hits_by : (b : Bool) (n : Node) (f : Fid) (q : Promise) (qs ps : List Promise) → is_hit n f q ≡ b → ((xs : List Promise) → left n f (without_found (hits n f qs) xs) ≡ left n f xs) →
    left n f (without_found (cond b (q ∷ hits n f qs) (hits n f qs)) ps) ≡ left n f ps
hits_by true n f q qs ps e ih = ih (without_promise q.client q.fid ps) ∙ one_left n f q ps e
hits_by false n f q qs ps e ih = ih ps

hits_left : (n : Node) (f : Fid) (qs ps : List Promise) → left n f (without_found (hits n f qs) ps) ≡ left n f ps
hits_left n f [] ps = refl
hits_left n f (q ∷ qs) ps = hits_by (is_hit n f q) n f q qs ps refl (hits_left n f qs)

all_by : (b : Bool) (q : Promise → Bool) (p : Promise) (ps : List Promise) → cond b (p ∷ filter q ps) (filter q ps) ≡ [] → (filter q ps ≡ [] → filter (λ (x : Promise). not (q x)) ps ≡ ps) →
    cond (not b) (p ∷ filter (λ (x : Promise). not (q x)) ps) (filter (λ (x : Promise). not (q x)) ps) ≡ p ∷ ps
all_by true q p ps e ih = absurd cc
all_by false q p ps e ih = ap (λ (xs : List Promise). p ∷ xs) (ih e)

all_stay : (q : Promise → Bool) (ps : List Promise) → filter q ps ≡ [] → filter (λ (x : Promise). not (q x)) ps ≡ ps
all_stay q [] e = refl
all_stay q (p ∷ ps) e = all_by (q p) q p ps e (all_stay q ps)

hits_go : (n : Node) (f : Fid) (ps : List Promise) → without_found (hits n f ps) ps ≡ left n f ps
hits_go n f ps =
    sym (all_stay (is_hit n f) (without_found (hits n f ps) ps) (found_among (is_hit n f) (hits n f ps) ps ∙ all_go (hits n f ps)))
    ∙ hits_left n f ps ps

-- ---- fid by fid

found_both : (gs hs ps : List Promise) → without_found (gs ++ hs) ps ≡ without_found hs (without_found gs ps)
found_both [] hs ps = refl
found_both (g ∷ gs) hs ps = found_both gs hs (without_promise g.client g.fid ps)

each_go : (n : Node) (fs : List Fid) (ps : List Promise) → without_found (hits_each n fs ps) ps ≡ left_each n fs ps
each_go n [] ps = refl
each_go n (f ∷ fs) ps =
    found_both (hits n f ps) (hits_each n fs (left n f ps)) ps
    ∙ (ap (without_found (hits_each n fs (left n f ps))) (hits_go n f ps) ∙ each_go n fs (left n f ps))

each_held : (n : Node) (fs : List Fid) (ps : List Promise) → length (hits_each n fs ps) + length (left_each n fs ps) ≡ length ps
each_held n [] ps = omega arith
each_held n (f ∷ fs) ps =
    let both = hit_or_left n f ps in
    let rest = each_held n fs (left n f ps) in
    let all = length-append (hits n f ps) (hits_each n fs (left n f ps)) in
    omega (arith, both, rest, all)

each_left : (n : Node) (fs : List Fid) (l : Lists) → left_each n fs l.promises ≡ (withdraws_each n fs l).promises
each_left n [] l = refl
each_left n (f ∷ fs) l = each_left n fs (withdraws n f l)

each_last : (n : Node) (fs : List Fid) (l : Lists) → l.last_owed + length (hits_each n fs l.promises) ≡ (withdraws_each n fs l).last_owed
each_last n [] l = omega arith
each_last n (f ∷ fs) l =
    let rest = each_last n fs (withdraws n f l) in
    let all = length-append (hits n f l.promises) (hits_each n fs (left n f l.promises)) in
    omega (arith, rest, all)

each_withdrawn : (n : Node) (fs : List Fid) (l : Lists) → withdrawn (without_found (hits_each n fs l.promises) l.promises) (hits_each n fs l.promises) l ≡ withdraws_each n fs l
each_withdrawn n fs l = λ i. record {
  promises = (each_go n fs l.promises ∙ each_left n fs l) i;
  owed = sym (withdrawn_owed n fs l) i;
  last_owed = each_last n fs l i;
}

-- ---- as a step finds them, and then withdraws them

each_granted : (n : Node) (e : ℕ) (fs gs : List Fid) (ps : List Promise) → hits_each n fs (with_promises n e gs ps) ≡ hits_each n fs ps
each_granted n e [] gs ps = refl
each_granted n e (f ∷ fs) gs ps =
    ap (λ (xs : List Promise). xs ++ hits_each n fs (left n f (with_promises n e gs ps))) (all_hits n e f gs ps)
    ∙ ap (λ (xs : List Promise). hits n f ps ++ xs) (ap (hits_each n fs) (all_left n e f gs ps) ∙ each_granted n e fs gs (left n f ps))

-- its own grants change nothing of it
pub found_then : (now : ℕ) (n : Node) (e : ℕ) (fs gs : List Fid) (l m : Lists) (found : List Promise) → nat_lt now e ≡ true → m ≡ grants_all n e gs l → found ≡ hits_each n fs (lasting now l.promises) → found ≡ hits_each n fs (lasting now m.promises)
found_then now n e fs gs l m found lasts is before =
    before
    ∙ (sym (each_granted n e fs gs (lasting now l.promises))
    ∙ ap (λ (k : Lists). hits_each n fs k.promises) (sym (grants_last now n e gs l lasts) ∙ ap (expired now) (sym is)))

-- each of them is held
pub found_held : (n : Node) (fs : List Fid) (ps found : List Promise) → found ≡ hits_each n fs ps → length found + length (without_found found ps) ≤ length ps
found_held n fs ps found e =
    let left = ap length (each_go n fs ps) in
    let held = each_held n fs ps in
    subst (λ (xs : List Promise). length xs + length (without_found xs ps) ≤ length ps) (sym e) (omega (arith, left, held))

pub found_withdrawn : (n : Node) (fs : List Fid) (l : Lists) (found : List Promise) → found ≡ hits_each n fs l.promises → withdrawn (without_found found l.promises) found l ≡ withdraws_each n fs l
found_withdrawn n fs l found e = subst (λ (xs : List Promise). withdrawn (without_found xs l.promises) xs l ≡ withdraws_each n fs l) (sym e) (each_withdrawn n fs l)
