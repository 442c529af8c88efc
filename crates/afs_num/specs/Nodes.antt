-- The numbers of nodes on the wire.
use Rattle.std.specs.Prelude.{◌≡◌, ℕ, ◌+◌, ◌-◌, ◌&&◌, Bool, true, false, Option, Some, None, nat_le, nat_eq, if◌then◌else◌, is_some}
use Rattle.afs_num.specs.declared.types.Node.{Node}
use Rattle.afs_num.specs.declared.types.Node.TheVariants.{Loc, Server, Client, Admin}

-- the location database is 0, server i is i, client i is 100 + i, administrator i is 200 + i
abbrev pub node_number : Node → ℕ
node_number Loc = 0
node_number (Server i) = i
node_number (Client i) = 100 + i
node_number (Admin i) = 200 + i

abbrev pub is_between : ℕ → ℕ → ℕ → Bool
is_between low high n = nat_le low n && nat_le n high

-- there are at most 8 servers, 16 clients and 4 administrators; any other number is no node
abbrev pub node_of : ℕ → Option Node
node_of n =
    if nat_eq n 0 then Some Loc
    else (if is_between 1 8 n then Some (Server n)
    else (if is_between 101 116 n then Some (Client (n - 100))
    else (if is_between 201 204 n then Some (Admin (n - 200))
    else None)))

-- a node within the cell's counts
abbrev pub IsNode : Node → Type 0
IsNode n = node_of (node_number n) ≡ Some n

-- equality of nodes, as a test
abbrev pub same_node : Node → Node → Bool
same_node Loc Loc = true
same_node (Server i) (Server j) = nat_eq i j
same_node (Client i) (Client j) = nat_eq i j
same_node (Admin i) (Admin j) = nat_eq i j
same_node a b = false

-- the number is a node's
abbrev pub is_known : ℕ → Bool
is_known n = is_some (node_of n)
