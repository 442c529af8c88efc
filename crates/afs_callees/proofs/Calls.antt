-- The calls of a node after a callee was put in its place.
use Rattle.std.proofs.Common.{◌≡◌, ℕ, Bool, true, false, cond, not, List, [], ◌∷◌, Option, Some, None, refl, sym, ap, subst, ◌∙◌}
use Rattle.afs_num.specs.Keyed.{other_keyed, put_last}
use Rattle.afs_num.specs.Nodes.{same_node}
use Rattle.afs_num.specs.declared.types.Node.{Node}
use Rattle.spec_model.proofs.Basics.{exact_node, node_apart, same_node-refl, same_node-true}
use Rattle.spec_model.proofs.Keyed.{at_last, found_left}
use Rattle.spec_rows.specs.Callbacks.{put_at}
use Rattle.spec_rows.specs.States.{BackCall, Unanswered}
use Rattle.afs_callees.specs.Called.{call_by, call_to, callee_at, Callee, known_by, known_to, node_called, AreGood, IsGoodOrNone}

fun_ext : {A B : Type 0} (f g : A → B) → ((x : A) → f x ≡ g x) → f ≡ g
fun_ext f g h = λ i x. h x i

-- what stands in the place of a node is what was put there, or what stood there before
put_is : {A : Type 0} (n m : Node) (x : A) (h : Node → A) → n ≡ m → x ≡ put_at n x h m
put_is {A} n m x h q = sym (ap (λ (t : Bool). cond t x (h m)) (ap (same_node n) (sym q) ∙ same_node-refl n))

put_apart : {A : Type 0} (n m : Node) (x : A) (h : Node → A) → (n ≡ m → ⊥) → h m ≡ put_at n x h m
put_apart {A} n m x h ne = sym (ap (λ (t : Bool). cond t x (h m)) (node_apart n m ne))

call_after : {C : Type 0} (c : Callee C) (cs : List (Callee C)) (m : Node) → call_to (put_last (node_called {C = C}) same_node c cs) m ≡ put_at c.node c.call (call_to cs) m
call_after {C} c cs m =
    at_last (node_called {C = C}) same_node exact_node c m cs (λ (o : Option (Callee C)). call_by o ≡ put_at c.node c.call (call_to cs) m) (put_is c.node m c.call (call_to cs)) (put_apart c.node m c.call (call_to cs))

pub calls_after : {C : Type 0} (c : Callee C) (cs : List (Callee C)) → call_to (put_last (node_called {C = C}) same_node c cs) ≡ put_at c.node c.call (call_to cs)
calls_after {C} c cs = fun_ext _ _ (call_after c cs)

known_at : {C : Type 0} (c : Callee C) (cs : List (Callee C)) (m : Node) → known_to (put_last (node_called {C = C}) same_node c cs) m ≡ put_at c.node c.known (known_to cs) m
known_at {C} c cs m =
    at_last (node_called {C = C}) same_node exact_node c m cs (λ (o : Option (Callee C)). known_by o ≡ put_at c.node c.known (known_to cs) m) (put_is c.node m c.known (known_to cs)) (put_apart c.node m c.known (known_to cs))

pub known_after : {C : Type 0} (c : Callee C) (cs : List (Callee C)) → known_to (put_last (node_called {C = C}) same_node c cs) ≡ put_at c.node c.known (known_to cs)
known_after {C} c cs = fun_ext _ _ (known_at c cs)

-- what is put again where it was is no change
put_same_at : {A : Type 0} (b : Bool) (n m : Node) (h : Node → A) → (b ≡ true → n ≡ m) → cond b (h n) (h m) ≡ h m
put_same_at true n m h e = ap h (e refl)
put_same_at false n m h e = refl

pub put_same : {A : Type 0} (n : Node) (h : Node → A) → put_at n (h n) h ≡ h
put_same n h = fun_ext _ _ (λ m. put_same_at (same_node n m) n m h (same_node-true n m))

pub put_again : {A : Type 0} (n : Node) (x : A) (h : Node → A) → x ≡ h n → put_at n x h ≡ h
put_again {A} n x h e = ap (λ (y : A). put_at n y h) e ∙ put_same n h

-- ---- without a node

gone_by : {C : Type 0} (b : Bool) (n : Node) (c : Callee C) (rest : List (Callee C)) → same_node c.node n ≡ b → callee_at n rest ≡ None → callee_at n (cond (not b) (c ∷ rest) rest) ≡ None
gone_by {C} true n c rest a ih = ih
gone_by {C} false n c rest a ih = rw (a, ih) refl

gone : {C : Type 0} (n : Node) (cs : List (Callee C)) → callee_at n (other_keyed (node_called {C = C}) same_node n cs) ≡ None
gone {C} n [] = refl
gone {C} n (c ∷ cs) = gone_by (same_node c.node n) n c (other_keyed (node_called {C = C}) same_node n cs) refl (gone n cs)

left_by : {C : Type 0} (n m : Node) (cs : List (Callee C)) (P : Option (Callee C) → Type 0) (t : Bool) → same_node n m ≡ t → (n ≡ m → P None) → ((n ≡ m → ⊥) → P (callee_at m cs)) → P (callee_at m (other_keyed (node_called {C = C}) same_node n cs))
left_by {C} n m cs P true t a b =
    let q : n ≡ m = same_node-true n m t in
    subst P (sym (gone n cs) ∙ ap (λ (k : Node). callee_at k (other_keyed (node_called {C = C}) same_node n cs)) q) (a q)
left_by {C} n m cs P false t a b =
    let ne : n ≡ m → ⊥ = λ q. let y : same_node n m ≡ true = ap (same_node n) (sym q) ∙ same_node-refl n in absurd cc in
    subst P (sym (found_left (node_called {C = C}) same_node exact_node n m cs ne)) (b ne)

-- what holds of no callee, for this node, and of what stood under any other
at_left : {C : Type 0} (n m : Node) (cs : List (Callee C)) (P : Option (Callee C) → Type 0) → (n ≡ m → P None) → ((n ≡ m → ⊥) → P (callee_at m cs)) → P (callee_at m (other_keyed (node_called {C = C}) same_node n cs))
at_left {C} n m cs P a b = left_by n m cs P (same_node n m) refl a b

abbrev no_call : {C : Type 0} → Option (Unanswered C)
no_call {C} = None

call_without : {C : Type 0} (n : Node) (cs : List (Callee C)) (m : Node) → call_to (other_keyed (node_called {C = C}) same_node n cs) m ≡ put_at n None (call_to cs) m
call_without {C} n cs m =
    at_left n m cs (λ (o : Option (Callee C)). call_by o ≡ put_at n (no_call {C = C}) (call_to cs) m) (put_is n m (no_call {C = C}) (call_to cs)) (put_apart n m (no_call {C = C}) (call_to cs))

pub calls_without : {C : Type 0} (n : Node) (cs : List (Callee C)) → call_to (other_keyed (node_called {C = C}) same_node n cs) ≡ put_at n None (call_to cs)
calls_without {C} n cs = fun_ext _ _ (call_without n cs)

known_without_at : {C : Type 0} (n : Node) (cs : List (Callee C)) → known_to cs n ≡ 1 → (m : Node) → known_to (other_keyed (node_called {C = C}) same_node n cs) m ≡ known_to cs m
known_without_at {C} n cs first m =
    at_left n m cs (λ (o : Option (Callee C)). known_by o ≡ known_to cs m)
    (λ (q : n ≡ m). sym first ∙ ap (known_to cs) q)
    (λ (ne : n ≡ m → ⊥). refl)

pub known_without : {C : Type 0} (n : Node) (cs : List (Callee C)) → known_to cs n ≡ 1 → known_to (other_keyed (node_called {C = C}) same_node n cs) ≡ known_to cs
known_without {C} n cs first = fun_ext _ _ (known_without_at n cs first)

-- ---- calls that bring breaks

good_at : (b : Bool) (n m : Node) (o p : Option BackCall) → (b ≡ true → n ≡ m) → IsGoodOrNone n o → IsGoodOrNone m p → IsGoodOrNone m (cond b o p)
good_at true n m o p q here there = subst (λ (k : Node). IsGoodOrNone k o) (q refl) here
good_at false n m o p q here there = there

-- all are, where one was put that is
pub good_put : (n : Node) (o : Option BackCall) (old new : Node → Option BackCall) → new ≡ put_at n o old → AreGood old → IsGoodOrNone n o → AreGood new
good_put n o old new is all here = subst AreGood (sym is) (λ m. good_at (same_node n m) n m o (old m) (same_node-true n m) here (all m))

pub good_same : (old new : Node → Option BackCall) → new ≡ old → AreGood old → AreGood new
good_same old new is all = subst AreGood (sym is) all
