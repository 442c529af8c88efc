-- The server of a line of set-up is one that a site may have.
use Rattle.std.proofs.Common.{◌≡◌, ◌≤◌, ℕ, ◌-◌, Bool, true, false, cond, Option, Some, None, refl, leb-true}
use Rattle.std.specs.Prelude.{◌&&◌, nat_eq, nat_le}
use Rattle.afs_num.specs.Nodes.{is_between, IsNode}
use Rattle.afs_num.specs.declared.types.Node.{Node}
use Rattle.afs_num.specs.declared.types.Node.TheVariants.{Admin, Client, Loc, Server}
use Rattle.spec_shape.specs.Tables.{IsServer}

both : (a b : Bool) → (a && b) ≡ true → (a ≡ true) × (b ≡ true)
both true b h = (refl, h)
both false b h = absurd cc

between : (n : ℕ) → is_between 1 8 n ≡ true → IsServer n
between n h = (leb-true 1 n (both (nat_le 1 n) (nat_le n 8) h).0, leb-true n 8 (both (nat_le 1 n) (nat_le n 8) h).1)

server_by : (n : ℕ) (none low middle high : Bool) → is_between 1 8 n ≡ low
    → cond none (Some Loc) (cond low (Some (Server n)) (cond middle (Some (Client (n - 100))) (cond high (Some (Admin (n - 200))) None))) ≡ Some (Server n) → IsServer n
server_by n true low middle high e h = absurd cc
server_by n false true middle high e h = between n e
server_by n false false true high e h = absurd cc
server_by n false false false true e h = absurd cc
server_by n false false false false e h = absurd cc

pub server_is : (n : ℕ) → IsNode (Server n) → IsServer n
server_is n h = server_by n (nat_eq n 0) (is_between 1 8 n) (is_between 101 116 n) (is_between 201 204 n) refl h
