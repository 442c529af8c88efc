-- What is read from a disk and put there again.
use Rattle.std.proofs.Common.{◌≡◌, ◌≤◌, ◌<◌, ◌+◌, ℕ, Bool, true, false, cond, List, [], ◌∷◌, map, Option, Some, None, refl, sym, ap, subst, ◌∙◌, arith}
use Rattle.std.specs.List.{AllByRecursion}
use Rattle.afs_num.specs.Nodes.{node_number, node_of, same_node}
use Rattle.afs_num.specs.declared.messages.Message.{Message}
use Rattle.afs_num.specs.declared.messages.Received.{Received}
use Rattle.afs_num.specs.declared.messages.Received.TheVariants.{Nothing, Unserved, Unreadable, Whole}
use Rattle.afs_num.specs.declared.types.Node.{Node}
use Rattle.spec_ideal.specs.Tables.{AscendsFrom, Table}
use Rattle.spec_model.specs.Calls.{call_seat}
use Rattle.spec_model.specs.Messages.{received, spelled}
use Rattle.afs_xdr.specs.Words.{IsBytes}
use Rattle.spec_model.proofs.Basics.{node_apart, same_node-refl, same_node-true}
use Rattle.spec_model.proofs.Spellings.{read_spelled}
use Rattle.spec_records.specs.Durable.{Durable, Kept}
use Rattle.spec_rows.specs.States.{kept_by_number, kept_of, kept_reply_bytes, Seat}
use Rattle.afs_server.specs.Again.{AreReplied, KeptAgain, KeptAreSpelled}
use Rattle.afs_message.specs.Spelled.{message_in, reply_in}
use Rattle.afs_saving.specs.Kept.{or_loc, seat_kept, AreToNodes, IsToNode}
use Rattle.afs_saving.proofs.Kept.{caller_number}

whole_in : (r : Received) (m : Message) → message_in r ≡ Some m → r ≡ Whole m
whole_in (Whole n) m e = let same : n ≡ m = cc in ap Whole same
whole_in Nothing m e = absurd cc
whole_in (Unserved head) m e = absurd cc
whole_in (Unreadable head) m e = absurd cc

pub kept_are_spelled : KeptAreSpelled
kept_are_spelled bytes m are e = sym (read_spelled bytes m are (whole_in (received bytes) m e)).0

-- a seat, put by its caller's number
abbrev put_again : Seat → ℕ × Kept
put_again seat = (node_number seat.caller, kept_of seat)

seat_again : (p : ℕ × Kept) → IsToNode p → IsBytes p.1.reply → (m : Message) → (seat_kept p).reply ≡ Some m → put_again (seat_kept p) ≡ p
seat_again p to are m e =
    let bytes : kept_reply_bytes (seat_kept p).reply ≡ p.1.reply = ap kept_reply_bytes e ∙ sym (kept_are_spelled p.1.reply m are e) in
    let number : node_number (or_loc (node_of p.0)) ≡ p.0 = caller_number p to in
    ap (λ (n : ℕ). (n, kept_of (seat_kept p))) number ∙ ap (λ (reply : List ℕ). (p.0, record { epoch = p.1.epoch; number = p.1.number; reply = reply })) bytes

-- who has this number has no seat among those of higher numbers
none_above : (n : Node) (k : ℕ) (t : Table Kept) → node_number n < k → AscendsFrom k t → AreToNodes t → call_seat n (map seat_kept t) ≡ None
none_above n k [] lt up to = refl
none_above n k (p ∷ t) lt up to =
    let number = caller_number p to.0 in
    let least = up.0 in
    rw (node_apart (or_loc (node_of p.0)) n (λ same. let is = ap node_number same in absurd (omega (arith, lt, number, least, is)))) (none_above n (p.0 + 1) t (omega (arith, lt, least)) up.1 to.1)

behind_by : (b : Bool) (n : Node) (p : ℕ × Kept) (t : Table Kept) (seat : Seat) → same_node (or_loc (node_of p.0)) n ≡ b → AscendsFrom (p.0 + 1) t → IsToNode p → AreToNodes t → call_seat n (map seat_kept t) ≡ Some seat → cond b (Some (seat_kept p)) (call_seat n (map seat_kept t)) ≡ Some seat
behind_by true n p t seat same up to are e =
    let number = caller_number p to in
    let is = ap node_number (same_node-true (or_loc (node_of p.0)) n same) in
    let none : call_seat n (map seat_kept t) ≡ None = none_above n (p.0 + 1) t (omega (arith, number, is)) up are in
    absurd cc
behind_by false n p t seat same up to are e = e

-- the seats behind one of a lower number are found as if it weren't there
replied_behind : (p : ℕ × Kept) (t : Table Kept) → AscendsFrom (p.0 + 1) t → IsToNode p → AreToNodes t → AreReplied (map seat_kept (p ∷ t)) → AreReplied (map seat_kept t)
replied_behind p t up to are replied n seat e = replied n seat (behind_by (same_node (or_loc (node_of p.0)) n) n p t seat refl up to are e)

kept_again : (n : ℕ) (t : Table Kept) → AscendsFrom n t → AreToNodes t → AllByRecursion (λ (p : ℕ × Kept). IsBytes p.1.reply) t → AreReplied (map seat_kept t) → kept_by_number (map seat_kept t) ≡ t
kept_again n [] up to are replied = refl
kept_again n (p ∷ t) up to are replied =
    let reply = replied (or_loc (node_of p.0)) (seat_kept p) (rw (same_node-refl (or_loc (node_of p.0))) refl) in
    ap (λ (q : ℕ × Kept). q ∷ kept_by_number (map seat_kept t)) (seat_again p to.0 are.0 reply.0 reply.1) ∙ ap (λ (ps : Table Kept). p ∷ ps) (kept_again (p.0 + 1) t up.1 to.1 are.1 (replied_behind p t up.1 to.0 to.1 replied))

pub again : KeptAgain
again d up to are replied = ap (λ (t : Table Kept). record d { kept = t }) (kept_again 0 d.kept up to are replied)
