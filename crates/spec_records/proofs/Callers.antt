-- The numbers of nodes, and whom a record can have as its caller.
use Rattle.std.proofs.Common.{◌≡◌, ◌<◌, ◌-◌, ℕ, Bool, true, false, cond, Option, Some, None, refl, sym, ap, ◌∙◌, arith, eqb-true, if◌then◌else◌}
use Rattle.std.specs.Prelude.{nat_eq, nat_le}
use Rattle.std.proofs.lemmas.Bool.{leb-true}
use Rattle.afs_num.specs.Nodes.{is_between, node_number, node_of, IsNode}
use Rattle.afs_num.specs.declared.types.Node.{Node}
use Rattle.afs_num.specs.declared.types.Node.TheVariants.{Loc, Server, Client, Admin}
use Rattle.spec_shape.specs.Taking.{◌>>=◌}
use Rattle.spec_records.specs.Records.{caller_form}
use Rattle.spec_records.proofs.Spelled.{both_true}

abbrev some : {A : Type 0} → A → Option A
some x = Some x

some_of : {A : Type 0} (x y : A) → some x ≡ some y → x ≡ y
some_of x y e = cc

-- a number's node has that number, which is a small one
pub record IsNumbered (k : ℕ) (n : Node) : Type 0 where
  pub number : node_number n ≡ k
  pub small : k < 205

numbered_at : (k : ℕ) (m n : Node) → some m ≡ some n → node_number m ≡ k → k < 205 → IsNumbered k n
numbered_at k m n e q lt = record { number = ap node_number (sym (some_of m n e)) ∙ q; small = lt }

numbered_by : (k : ℕ) (n : Node) (a b c d : Bool) → nat_eq k 0 ≡ a → is_between 1 8 k ≡ b → is_between 101 116 k ≡ c → is_between 201 204 k ≡ d →
    cond a (some Loc) (cond b (some (Server k)) (cond c (some (Client (k - 100))) (cond d (some (Admin (k - 200))) None))) ≡ some n → IsNumbered k n
numbered_by k n true b c d x y z w e = let q = eqb-true k 0 x in numbered_at k Loc n e (sym q) (omega (arith, q))
numbered_by k n false true c d x y z w e = let p = both_true (nat_le 1 k) (nat_le k 8) y in let most = leb-true k 8 p.1 in numbered_at k (Server k) n e refl (omega (arith, most))
numbered_by k n false false true d x y z w e =
    let p = both_true (nat_le 101 k) (nat_le k 116) z in
    let least = leb-true 101 k p.0 in
    let most = leb-true k 116 p.1 in
    numbered_at k (Client (k - 100)) n e (omega (arith, least)) (omega (arith, most))
numbered_by k n false false false true x y z w e =
    let p = both_true (nat_le 201 k) (nat_le k 204) w in
    let least = leb-true 201 k p.0 in
    let most = leb-true k 204 p.1 in
    numbered_at k (Admin (k - 200)) n e (omega (arith, least)) (omega (arith, most))
numbered_by k n false false false false x y z w e = absurd cc

pub numbered : (k : ℕ) (n : Node) → node_of k ≡ Some n → IsNumbered k n
numbered k n e = numbered_by k n (nat_eq k 0) (is_between 1 8 k) (is_between 101 116 k) (is_between 201 204 k) refl refl refl refl e

-- ---- the caller of a record

not_none : (b : Bool) (o : Option (Option Node)) → b ≡ false → (if b then Some None else o) ≡ o
not_none true o e = absurd cc
not_none false o e = refl

-- each node but the location database, whose number stands for none
pub caller_fits : (n : Node) → IsNode n → nat_eq (node_number n) 0 ≡ false → caller_form.Fits (Some n)
caller_fits n node other =
    let small = (numbered (node_number n) n node).small in
    let known : ◌≡◌ {A = Option (Option Node)} (node_of (node_number n) >>= λ m. Some (Some m)) (Some (Some n)) = ap (λ (o : Option Node). o >>= λ m. Some (Some m)) node in
    (omega (arith, small), not_none (nat_eq (node_number n) 0) (node_of (node_number n) >>= λ m. Some (Some m)) other ∙ known)
