-- A piece of a dump has a spelling, and what goes in one piece.
use Rattle.std.proofs.Common.{◌≡◌, ◌≤◌, ◌+◌, ℕ, Bool, true, false, List, length, drop, not, refl, sym, arith}
use Rattle.std.specs.Prelude.{nat_lt}
use Rattle.std.proofs.Math.Nat.{min-le_left}
use Rattle.std.proofs.lemmas.Bool.{ltb-true}
use Rattle.std.proofs.lemmas.List.{drop-drop, length-take, length-take-le}
use Rattle.afs_num.specs.Nodes.{IsNode}
use Rattle.afs_num.specs.declared.types.Head.{Head}
use Rattle.afs_num.specs.declared.types.Node.{Node}
use Rattle.spec_model.specs.Messages.{HasSpelling}
use Rattle.spec_dumps.specs.Streams.{piece_at}
use Rattle.spec_volrows.specs.VolRow.{most_piece}
use Rattle.spec_volrows.specs.VolStates.{Sending}
use Rattle.spec_volrows.specs.VolSteps.{piece_gone, piece_message}

piece_short : (bytes : List ℕ) → length (piece_at most_piece 0 bytes) ≤ most_piece
piece_short bytes = rw (length-take most_piece bytes) (min-le_left most_piece (length bytes))

pub piece_spelled : (me : Node) (boot : ℕ) (n : Node) (known number : ℕ) (x : Sending) → IsNode me → IsNode n → HasSpelling (piece_message me boot n known number x)
piece_spelled me boot n known number x is_me is_n =
    let short = piece_short x.left in
    ((is_me, is_n), (refl, refl, omega arith, (tt, (tt, (tt, (tt, ((short, omega (arith, short)), tt)))))))

-- ---- the bytes of a piece went

not_false : (b : Bool) → not b ≡ false → b ≡ true
not_false true e = refl
not_false false e = absurd cc

-- a piece that isn't the last has as many bytes as may be
pub went : (head : Head) (family target at : ℕ) (bytes : List ℕ) → not (nat_lt most_piece (length (drop at bytes))) ≡ false →
    ◌≡◌ {A = Sending} (record { head = head; family = family; target = target; at = at + most_piece; left = drop (at + most_piece) bytes }) (piece_gone (record { head = head; family = family; target = target; at = at; left = drop at bytes }))
went head family target at bytes more =
    let long = ltb-true most_piece (length (drop at bytes)) (not_false (nat_lt most_piece (length (drop at bytes))) more) in
    let whole : length (piece_at most_piece 0 (drop at bytes)) ≡ most_piece = length-take-le most_piece (drop at bytes) (omega (arith, long)) in
    λ i. record { head = head; family = family; target = target; at = at + sym whole i; left = sym (drop-drop most_piece at bytes) i }
