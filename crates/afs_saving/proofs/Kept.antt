-- A node's callers after a restart: those whose replies its store keeps.
use Rattle.std.proofs.Common.{◌≡◌, ◌≤◌, ◌<◌, ◌+◌, ◌-◌, ℕ, zero, suc, Bool, true, false, cond, not, List, [], ◌∷◌, ◌++◌, map, take, length, Option, Some, None, refl, sym, ap, subst, ◌∙◌, arith, Bor}
use Rattle.std.specs.List.{slice_get}
use Rattle.std.specs.Prelude.{is_some, IfNone, IfSome, IsSome}
use Rattle.std.proofs.lemmas.List.{map-append}
use Rattle.afs_num.specs.Nodes.{node_number, node_of, same_node}
use Rattle.afs_num.specs.declared.types.Key.{Key}
use Rattle.afs_num.specs.declared.types.Node.{Node}
use Rattle.spec_ideal.specs.Tables.{AscendsFrom, Table}
use Rattle.spec_model.specs.Calls.{call_seat, other_seats}
use Rattle.spec_model.proofs.Basics.{node_apart}
use Rattle.spec_records.specs.Durable.{Kept}
use Rattle.spec_rows.specs.States.{Seat}
use Rattle.afs_saving.specs.Kept.{kept_found, or_loc, seat_kept, seats_after, AreToNodes, CanFollow, IsToNode}
use Rattle.spec_records.proofs.Callers.{numbered}

-- ---- numbers of nodes

abbrev some : {A : Type 0} → A → Option A
some x = Some x

some_of : {A : Type 0} (x y : A) → some x ≡ some y → x ≡ y
some_of x y e = cc

-- ---- callers with kept replies

-- in order of their numbers, each of which is a node's
pub record AreSeated (t : Table Kept) : Type 0 where
  pub ordered : AscendsFrom 0 t
  pub nodes : AreToNodes t

to_node_by : (p : ℕ × Kept) (o : Option Node) → node_of p.0 ≡ o → is_some o ≡ true → IsToNode p
to_node_by p None e known = absurd cc
to_node_by p (Some n) e known = record { caller = n; numbered = e }

pub known_to_node : (p : ℕ × Kept) → is_some (node_of p.0) ≡ true → IsToNode p
known_to_node p known = to_node_by p (node_of p.0) refl known

pub caller_number : (p : ℕ × Kept) → IsToNode p → node_number (or_loc (node_of p.0)) ≡ p.0
caller_number p keeps = ap (λ (o : Option Node). node_number (or_loc o)) keeps.numbered ∙ (numbered p.0 keeps.caller keeps.numbered).number

callers_apart : (p q : ℕ × Kept) → IsToNode p → IsToNode q → q.0 < p.0 → same_node (or_loc (node_of q.0)) (or_loc (node_of p.0)) ≡ false
callers_apart p q keeps_p keeps_q lt =
    let a = caller_number p keeps_p in
    let b = caller_number q keeps_q in
    node_apart (or_loc (node_of q.0)) (or_loc (node_of p.0)) (λ same. let c = ap node_number same in absurd (omega (arith, a, b, c, lt)))

from_number : (i m : ℕ) (t : Table Kept) (p : ℕ × Kept) → AscendsFrom m t → slice_get t i ≡ Some p → m ≤ p.0
from_number i m [] p up at = absurd cc
from_number zero m (q ∷ t) p up at = let same = some_of q p at in subst (λ (x : ℕ × Kept). m ≤ x.0) same up.0
from_number (suc i) m (q ∷ t) p up at = let le = from_number i (q.0 + 1) t p up.1 at in let first = up.0 in omega (arith, le, first)

pub to_node_at : (i : ℕ) (t : Table Kept) (p : ℕ × Kept) → AreToNodes t → slice_get t i ≡ Some p → IsToNode p
to_node_at i [] p are at = absurd cc
to_node_at zero (q ∷ t) p are at = subst IsToNode (some_of q p at) are.0
to_node_at (suc i) (q ∷ t) p are at = to_node_at i t p are.1 at

pub no_seat : (i m : ℕ) (t : Table Kept) (p : ℕ × Kept) → AscendsFrom m t → AreToNodes t → slice_get t i ≡ Some p → call_seat (or_loc (node_of p.0)) (map seat_kept (take i t)) ≡ None
no_seat i m [] p up are at = absurd cc
no_seat zero m (q ∷ t) p up are at = refl
no_seat (suc i) m (q ∷ t) p up are at =
    let le = from_number i (q.0 + 1) t p up.1 at in
    rw (callers_apart p q (to_node_at i t p are.1 at) are.0 (omega (arith, le))) (no_seat i (q.0 + 1) t p up.1 are.1 at)

others_by : (b : Bool) (s : Seat) (n : Node) (rest seats : List Seat) → cond b (some s) (call_seat n seats) ≡ None → (call_seat n seats ≡ None → rest ≡ seats) → cond (not b) (s ∷ rest) rest ≡ s ∷ seats
others_by true s n rest seats e ih = absurd cc
others_by false s n rest seats e ih = ap (λ (ss : List Seat). s ∷ ss) (ih e)

-- without a seat of the caller all seats are others'
pub no_others : (n : Node) (seats : List Seat) → call_seat n seats ≡ None → other_seats n seats ≡ seats
no_others n [] e = refl
no_others n (s ∷ seats) e = others_by (same_node s.caller n) s n (other_seats n seats) seats e (no_others n seats)

next_taken : {A : Type 0} (i : ℕ) (xs : List A) (x : A) → slice_get xs i ≡ Some x → take (suc i) xs ≡ take i xs ++ x ∷ []
next_taken {A} i [] x at = absurd cc
next_taken {A} zero (y ∷ xs) x at = ap (λ (z : A). z ∷ []) (some_of y x at)
next_taken {A} (suc i) (y ∷ xs) x at = ap (λ (zs : List A). y ∷ zs) (next_taken i xs x at)

pub next_seat : (i : ℕ) (t : Table Kept) (p : ℕ × Kept) → slice_get t i ≡ Some p → map seat_kept (take (suc i) t) ≡ map seat_kept (take i t) ++ seat_kept p ∷ []
next_seat i t p at = ap (map seat_kept) (next_taken i t p at) ∙ map-append seat_kept (take i t) (p ∷ [])

pub none_taken : {A : Type 0} (i : ℕ) (xs : List A) → slice_get xs i ≡ None → take (suc i) xs ≡ take i xs
none_taken {A} zero [] at = refl
none_taken {A} (suc i) [] at = refl
none_taken {A} zero (x ∷ xs) at = absurd cc
none_taken {A} (suc i) (x ∷ xs) at = ap (λ (ys : List A). x ∷ ys) (none_taken i xs at)

few_from : (m : ℕ) (t : Table Kept) → m ≤ 205 → AscendsFrom m t → AreToNodes t → m + length t ≤ 205
few_from m [] le up are = omega (arith, le)
few_from m (p ∷ t) le up are =
    let small = (numbered p.0 are.0.caller are.0.numbered).small in
    let rest = few_from (p.0 + 1) t (omega (arith, small)) up.1 are.1 in
    let first = up.0 in
    omega (arith, rest, first)

-- there are no more callers than nodes
pub few_kept : (t : Table Kept) → AscendsFrom 0 t → AreToNodes t → length t ≤ 205
few_kept t up are = let few = few_from 0 t (omega arith) up are in omega (arith, few)

-- ---- what is found at a place

pub can_follow : (t : Table Kept) (i : ℕ) (o : Option (Key × Bor (List ℕ))) → AscendsFrom 0 t → AreToNodes t → IfSome o (λ k. slice_get t i ≡ Some (kept_found k)) → CanFollow (map seat_kept (take i t)) o
can_follow t i None up are at = tt
can_follow t i (Some k) up are at =
    let keeps = to_node_at i t (kept_found k) are at in
    (subst (λ (o : Option Node). IsSome o) (sym keeps.numbered) refl, no_seat i 0 t (kept_found k) up are at)

next_at : (t : Table Kept) (i n : ℕ) (o : Option (Key × Bor (List ℕ))) → n ≡ suc i → IfSome o (λ k. slice_get t i ≡ Some (kept_found k)) → IfNone o (slice_get t i ≡ None) → seats_after (map seat_kept (take i t)) o ≡ map seat_kept (take n t)
next_at t i n None e at none = rw e (ap (map seat_kept) (sym (none_taken i t none)))
next_at t i n (Some k) e at none = rw e (sym (next_seat i t (kept_found k) at))

pub next_after : (t : Table Kept) (i : ℕ) (o : Option (Key × Bor (List ℕ))) → IfSome o (λ k. slice_get t i ≡ Some (kept_found k)) → IfNone o (slice_get t i ≡ None) → seats_after (map seat_kept (take i t)) o ≡ map seat_kept (take (i + 1) t)
next_after t i o at none = next_at t i (i + 1) o (omega arith) at none
