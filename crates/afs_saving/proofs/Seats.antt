-- Kept replies by their callers, and the seats that stand for them.
use Rattle.std.proofs.Common.{◌≡◌, ℕ, Bool, true, false, List, [], ◌∷◌, map, refl, sym, ap, ◌∙◌, eqb-true, eq-eqb}
use Rattle.std.specs.Prelude.{nat_eq, nat_lt}
use Rattle.afs_num.specs.Nodes.{node_number, node_of, same_node, IsNode}
use Rattle.afs_num.specs.declared.types.Node.{Node}
use Rattle.spec_ideal.specs.Tables.{set, Table}
use Rattle.spec_model.proofs.Basics.{same_node-refl, same_node-true}
use Rattle.spec_records.specs.Durable.{Kept}
use Rattle.spec_rows.specs.ServerRow.{seat_placed}
use Rattle.spec_rows.specs.States.{Seat}
use Rattle.afs_saving.specs.Kept.{or_loc, seat_kept, AreToNodes, IsToNode}
use Rattle.afs_saving.proofs.Kept.{caller_number}

apart_by : (u : Bool) (p : ℕ × Kept) (n : Node) → IsToNode p → IsNode n → nat_eq p.0 (node_number n) ≡ u → same_node (or_loc (node_of p.0)) n ≡ false → u ≡ false
apart_by false p n keeps is e apart = refl
apart_by true p n keeps is e apart =
    let number = eqb-true p.0 (node_number n) e in
    let same : or_loc (node_of p.0) ≡ n = ap (λ (k : ℕ). or_loc (node_of k)) number ∙ ap or_loc is in
    let yes : same_node (or_loc (node_of p.0)) n ≡ true = ap (λ (x : Node). same_node x n) same ∙ same_node-refl n in
    absurd cc

pub number_by : (t : Bool) (p : ℕ × Kept) (n : Node) → IsToNode p → IsNode n → same_node (or_loc (node_of p.0)) n ≡ t → nat_eq p.0 (node_number n) ≡ t
number_by true p n keeps is e = eq-eqb p.0 (node_number n) (sym (caller_number p keeps) ∙ ap node_number (same_node-true (or_loc (node_of p.0)) n e))
number_by false p n keeps is e = apart_by (nat_eq p.0 (node_number n)) p n keeps is refl e

-- ---- one more reply is kept

placed_by : (a b : Bool) (n : Node) (k : Kept) (seat : Seat) (p : ℕ × Kept) (t : Table Kept) → nat_eq p.0 (node_number n) ≡ a → same_node (or_loc (node_of p.0)) seat.caller ≡ a → nat_lt (node_number n) p.0 ≡ b → nat_lt (node_number seat.caller) (node_number (or_loc (node_of p.0))) ≡ b
    → seat_kept (node_number n, k) ≡ seat → map seat_kept (set (node_number n) k t) ≡ seat_placed seat (map seat_kept t) → map seat_kept (set (node_number n) k (p ∷ t)) ≡ seat_placed seat (map seat_kept (p ∷ t))
placed_by true b n k seat p t e f g h is more = rw (e, f) (ap (λ (s : Seat). s ∷ map seat_kept t) is)
placed_by false true n k seat p t e f g h is more = rw (e, f, g, h) (ap (λ (s : Seat). s ∷ seat_kept p ∷ map seat_kept t) is)
placed_by false false n k seat p t e f g h is more = rw (e, f, g, h) (ap (λ (ss : List Seat). seat_kept p ∷ ss) more)

pub seats_set : (n : Node) (k : Kept) (seat : Seat) (t : Table Kept) → IsNode n → seat.caller ≡ n → seat_kept (node_number n, k) ≡ seat → AreToNodes t → map seat_kept (set (node_number n) k t) ≡ seat_placed seat (map seat_kept t)
seats_set n k seat [] node own is are = ap (λ (s : Seat). s ∷ []) is
seats_set n k seat (p ∷ t) node own is are =
    placed_by (same_node (or_loc (node_of p.0)) n) (nat_lt (node_number n) p.0) n k seat p t (number_by (same_node (or_loc (node_of p.0)) n) p n are.0 node refl) (ap (same_node (or_loc (node_of p.0))) own) refl
    (ap (λ (m : Node). nat_lt (node_number m) (node_number (or_loc (node_of p.0)))) own ∙ ap (nat_lt (node_number n)) (caller_number p are.0)) is (seats_set n k seat t node own is are.1)

to_nodes_by : (a b : Bool) (n : Node) (k : Kept) (p : ℕ × Kept) (t : Table Kept) → nat_eq p.0 (node_number n) ≡ a → nat_lt (node_number n) p.0 ≡ b → IsToNode (node_number n, k) → IsToNode p → AreToNodes t → AreToNodes (set (node_number n) k t) → AreToNodes (set (node_number n) k (p ∷ t))
to_nodes_by true b n k p t e f is first are more = rw e (is, are)
to_nodes_by false true n k p t e f is first are more = rw (e, f) (is, (first, are))
to_nodes_by false false n k p t e f is first are more = rw (e, f) (first, more)

pub set_to_nodes : (n : Node) (k : Kept) (t : Table Kept) → IsNode n → AreToNodes t → AreToNodes (set (node_number n) k t)
set_to_nodes n k [] node are = (record { caller = n; numbered = node }, tt)
set_to_nodes n k (p ∷ t) node are =
    to_nodes_by (nat_eq p.0 (node_number n)) (nat_lt (node_number n) p.0) n k p t refl refl (record { caller = n; numbered = node }) are.0 are.1 (set_to_nodes n k t node are.1)
