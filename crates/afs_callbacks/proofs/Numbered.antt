-- The clients that a server that begins again owes breaks.
use Rattle.std.proofs.Common.{◌≡◌, ◌<◌, ◌+◌, ◌-◌, ℕ, suc, Option, Some, refl, ap, arith, le-leb, ne_eqb}
use Rattle.std.proofs.lemmas.Bool.{lt-leb}
use Rattle.afs_num.specs.Nodes.{IsNode}
use Rattle.afs_num.specs.declared.types.Node.TheVariants.{Client}
use Rattle.spec_breaks.specs.Promises.{owes_all, Lists}
use Rattle.spec_rows.specs.Callbacks.{owed_to_clients}

abbrev some : {A : Type 0} → A → Option A
some x = Some x

pub client_is_node : (i : ℕ) → i < 16 → IsNode (Client (i + 1))
client_is_node i lt =
    rw (ne_eqb (100 + (i + 1)) 0 (λ e. absurd (omega (arith, e))), le-leb 1 (100 + (i + 1)) (omega arith), lt-leb (100 + (i + 1)) 8 (omega arith), le-leb 101 (100 + (i + 1)) (omega arith), le-leb (100 + (i + 1)) 116 (omega (arith, lt)))
    (ap (λ (k : ℕ). some (Client k)) (omega arith))

pub one_more_client : (expiry i n : ℕ) (l : Lists) → i < n → owed_to_clients expiry i (n - i) l ≡ owed_to_clients expiry (i + 1) (n - (i + 1)) (owes_all (Client (i + 1)) expiry l)
one_more_client expiry i n l lt = let e : n - i ≡ suc (n - (i + 1)) = omega (arith, lt) in rw e refl
