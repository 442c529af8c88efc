-- The last change of a caller, among the replies that a store keeps.
use Rattle.std.proofs.Common.{◌≡◌, ℕ, Bool, true, false, cond, List, [], ◌∷◌, map, Option, Some, None, refl, Bor}
use Rattle.std.specs.Prelude.{◌&&◌, nat_eq, IfNone, IfSome}
use Rattle.afs_num.specs.Nodes.{node_number, node_of, same_node, IsNode}
use Rattle.afs_num.specs.declared.messages.Message.{Message}
use Rattle.afs_num.specs.declared.types.Key.{Key}
use Rattle.afs_num.specs.declared.types.Node.{Node}
use Rattle.spec_ideal.specs.Tables.{get, Table}
use Rattle.spec_model.specs.Calls.{call_seat}
use Rattle.spec_records.specs.Durable.{Kept}
use Rattle.spec_rows.specs.Callbacks.{is_seat_of}
use Rattle.spec_rows.specs.States.{Seat}
use Rattle.afs_sharing.specs.Callers.{is_answer_to}
use Rattle.afs_saving.proofs.Seats.{number_by}
use Rattle.afs_saving.specs.Kept.{or_loc, seat_kept, AreToNodes}

-- the kept reply is that to the same call
abbrev pub is_kept : Message → Option Kept → Bool
is_kept m None = false
is_kept m (Some k) = nat_eq m.head.epoch k.epoch && nat_eq m.head.number k.number

kept_by : (t : Bool) (m : Message) (p : ℕ × Kept) (o : Option Seat) (q : Option Kept) → is_seat_of m o ≡ is_kept m q → is_seat_of m (cond t (Some (seat_kept p)) o) ≡ is_kept m (cond t (Some p.1) q)
kept_by true m p o q e = refl
kept_by false m p o q e = e

pub last_change : (m : Message) (n : Node) (t : Table Kept) → IsNode n → AreToNodes t → is_seat_of m (call_seat n (map seat_kept t)) ≡ is_kept m (get (node_number n) t)
last_change m n [] is are = refl
last_change m n (p ∷ t) is are =
    rw (number_by (same_node (or_loc (node_of p.0)) n) p n are.0 is refl)
    (kept_by (same_node (or_loc (node_of p.0)) n) m p (call_seat n (map seat_kept t)) (get (node_number n) t) (last_change m n t is are.1))

-- as it is found
pub found_answer : (m : Message) (o : Option (Key × Bor (List ℕ))) (q : Option Kept) → IfSome o (λ k. q ≡ Some (record { epoch = k.0.epoch; number = k.0.number; reply = k.1.now })) → IfNone o (q ≡ None) →
    is_answer_to m.head o ≡ is_kept m q
found_answer m None q some none = rw none refl
found_answer m (Some k) q some none = rw some refl
