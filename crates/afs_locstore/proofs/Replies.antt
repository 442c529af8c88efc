-- Kept replies in memory, as what a disk keeps of them.
use Rattle.std.proofs.Common.{◌≡◌, ℕ, zero, suc, Bool, true, false, [], ◌∷◌, Option, Some, None, is_some, nat_eq, nat_lt, slice_get, refl, sym, ap, subst, ◌∙◌, if◌then◌else◌}
use Rattle.std.specs.Option.{option_map}
use Rattle.afs_num.specs.Nodes.{node_number, node_of}
use Rattle.afs_num.specs.declared.records.RecordHead.{RecordHead}
use Rattle.afs_num.specs.declared.types.Node.{Node}
use Rattle.spec_ideal.specs.Tables.{set, Table}
use Rattle.spec_shape.specs.Taking.{◌>>=◌}
use Rattle.spec_records.specs.Records.{caller_number, caller_numbered, head_form}
use Rattle.afs_seats.specs.Seated.{seen_as}
use Rattle.afs_locstore.specs.Kept.{kept_seen, AreCalled, AreOfNodes, IsCalled, IsCaller}
use Rattle.afs_locstore.specs.declared.kept.KeptReply.{KeptReply}

nth_seen : (i : ℕ) (t : Table KeptReply) → slice_get (seen_as kept_seen t) i ≡ option_map (λ (p : ℕ × KeptReply). (p.0, kept_seen p.1)) (slice_get t i)
nth_seen i [] = refl
nth_seen zero (p ∷ ps) = refl
nth_seen (suc i) (p ∷ ps) = nth_seen i ps

called_nth : (i : ℕ) (t : Table KeptReply) (p : ℕ × KeptReply) → AreCalled t → slice_get t i ≡ Some p → node_number p.1.caller ≡ p.0
called_nth i [] p are found = absurd cc
called_nth zero (q ∷ qs) p are found = let same : q ≡ p = cc in subst (λ (x : ℕ × KeptReply). node_number x.1.caller ≡ x.0) same are.0.0
called_nth (suc i) (q ∷ qs) p are found = called_nth i qs p are.1 found

-- a reply stands by its caller's number
pub nth_reply : (i : ℕ) (t : Table KeptReply) (p : ℕ × KeptReply) → AreCalled t → Some p ≡ slice_get t i → slice_get (seen_as kept_seen t) i ≡ Some (node_number p.1.caller, kept_seen p.1)
nth_reply i t p are e = nth_seen i t ∙ (ap (option_map (λ (q : ℕ × KeptReply). (q.0, kept_seen q.1))) (sym e) ∙ ap (λ (n : ℕ). Some (n, kept_seen p.1)) (sym (called_nth i t p are (sym e))))

pub no_reply : (i : ℕ) (t : Table KeptReply) → None ≡ slice_get t i → slice_get (seen_as kept_seen t) i ≡ None
no_reply i t e = nth_seen i t ∙ ap (option_map (λ (q : ℕ × KeptReply). (q.0, kept_seen q.1))) (sym e)

called_by : (q p : ℕ × KeptReply) (ps rest : Table KeptReply) (same below : Bool) → IsCalled q → IsCalled p → AreCalled ps → AreCalled rest
    → AreCalled (if same then q ∷ ps else (if below then q ∷ p ∷ ps else p ∷ rest))
called_by q p ps rest true below is its are later = (is, are)
called_by q p ps rest false true is its are later = (is, (its, are))
called_by q p ps rest false false is its are later = (its, later)

called_set : (n : ℕ) (k : KeptReply) (t : Table KeptReply) → IsCalled (n, k) → AreCalled t → AreCalled (set n k t)
called_set n k [] is are = (is, tt)
called_set n k (p ∷ ps) is are = called_by (n, k) p ps (set n k ps) (nat_eq p.0 n) (nat_lt n p.0) is are.0 are.1 (called_set n k ps is are.1)

-- a reply is put by its caller's number
pub still_called : (n : ℕ) (k : KeptReply) (t u : Table KeptReply) → u ≡ set n k t → IsCalled (n, k) → AreCalled t → AreCalled u
still_called n k t u e is are = subst AreCalled (sym e) (called_set n k t is are)

pub all_nodes : (t : Table KeptReply) → AreCalled t → AreOfNodes (seen_as kept_seen t)
all_nodes [] are = tt
all_nodes (p ∷ ps) are = (are.0.1, all_nodes ps are.1)

-- a head that has a spelling has a caller that is a node, if it has one
known_by : (n : Node) (b : Bool) (o : Option Node) → (if b then Some None else (o >>= λ m. Some (Some m))) ≡ Some (Some n) → is_some o ≡ true
known_by n true o e = absurd cc
known_by n false None e = absurd cc
known_by n false (Some m) e = refl

is_caller : (c : Option Node) → caller_numbered (caller_number c) ≡ Some c → IsCaller c
is_caller None e = tt
is_caller (Some n) e = known_by n (nat_eq (node_number n) 0) (node_of (node_number n)) e

pub head_caller : (h : RecordHead) → head_form.Fits h → IsCaller h.caller
unfolding head_form
head_caller h fits = is_caller h.caller fits.0.1.1.0.1
