-- How the promises are kept: grants in a log, of which those are held that are the latest of their client on their fid.
use Rattle.std.specs.Prelude.{◌≡◌, ◌⊎◌, ℕ, ◌+◌, ◌≤◌, ◌&&◌, ◌||◌, List, [], ◌∷◌, Bool, true, false, Option, Some, None, nat_eq, nat_le, nat_lt, length, map, filter, take, drop, if◌then◌else◌}
use Rattle.std.specs.List.{list_any, prefix_len}
use Rattle.afs_num.specs.Nodes.{same_node}
use Rattle.afs_num.specs.declared.types.Fid.{Fid}
use Rattle.afs_num.specs.declared.types.Node.{Node}
use Rattle.afs_num.specs.declared.types.Node.TheVariants.{Loc, Server, Client, Admin}
use Rattle.spec_breaks.specs.declared.types.Promise.{Promise}
use Rattle.afs_promise.specs.declared.types.Grant.{Grant}
use Rattle.afs_promise.specs.declared.types.Holding.{Holding}

-- the promises that are held, and how many more can be granted without memory
pub record Granted : Type 0 where
  pub promises : List Promise
  pub room : ℕ

abbrev pub holding_of : ℕ → ℕ → Fid → Holding
holding_of kind number f = record { kind = kind; number = number; volume = f.volume; vnode = f.vnode; unique = f.unique }

abbrev pub holding : Node → Fid → Holding
holding Loc f = holding_of 0 0 f
holding (Server i) f = holding_of 1 i f
holding (Client i) f = holding_of 2 i f
holding (Admin i) f = holding_of 3 i f

abbrev pub same_holding : Holding → Holding → Bool
same_holding h k = (nat_eq h.kind k.kind) && ((nat_eq h.number k.number) && ((nat_eq h.volume k.volume) && ((nat_eq h.vnode k.vnode) && (nat_eq h.unique k.unique))))

abbrev pub holding_in : Grant → Holding
holding_in g = holding g.promise.client g.promise.fid

abbrev pub has_order : ℕ → Option Grant → Bool
has_order n None = false
has_order n (Some g) = nat_eq g.order n

-- it is the latest of its client on its fid
abbrev pub is_held : (Holding → Option Grant) → Grant → Bool
is_held latest g = has_order g.order (latest (holding_in g))

abbrev pub held : (Holding → Option Grant) → List Grant → List Promise
held latest [] = []
held latest (g ∷ gs) = if is_held latest g then g.promise ∷ held latest gs else held latest gs

-- the grant is one of these
abbrev pub IsIn : Grant → List Grant → Type 0
IsIn g [] = ⊥
IsIn g (h ∷ hs) = (h ≡ g) ⊎ IsIn g hs

-- the places in the order of granting rise, from `low` up and below `high`
abbrev pub Rises : ℕ → ℕ → List Grant → Type 0
Rises low high [] = low ≤ high
Rises low high (g ∷ gs) = (low ≤ g.order) × Rises (g.order + 1) high gs

-- the expiries don't fall, from `low` up to `high`
abbrev pub DoNotFall : ℕ → ℕ → List Grant → Type 0
DoNotFall low high [] = low ≤ high
DoNotFall low high (g ∷ gs) = (low ≤ g.promise.expiry) × DoNotFall g.promise.expiry high gs

-- The log and the latest grants agree: the first `ended` in the log are held no more, `count` are held, and where
-- `rising` says so, the expiries don't fall, up to `highest`
pub record IsLog (latest : Holding → Option Grant) (log : List Grant) (clients : List Node) (ended count next : ℕ) (rising : Bool) (highest : ℕ) : Type 0 where
  pub rises : Rises 0 next log
  pub found : (k : Holding) (g : Grant) → latest k ≡ Some g → IsIn g log × (holding_in g ≡ k)
  pub known : (k : Holding) (g : Grant) → latest k ≡ Some g → list_any (same_node g.promise.client) clients ≡ true
  pub past : held latest (take ended log) ≡ []
  pub within : ended ≤ length log
  pub counted : count ≡ length (held latest log)
  pub ordered : rising ≡ true → DoNotFall 0 highest log

-- they don't with this expiry behind the last
abbrev pub goes_on : Bool → Bool → ℕ → ℕ → Bool
goes_on empty rising highest expiry = empty || (rising && nat_le highest expiry)

-- ---- what ends

abbrev pub is_due : ℕ → Grant → Bool
is_due now g = nat_le g.promise.expiry now

abbrev pub ends : (Holding → Option Grant) → ℕ → Grant → Bool
ends latest now g = is_due now g && is_held latest g

-- the place to which those may stand that are due
abbrev pub reach : ℕ → Bool → ℕ → List Grant → ℕ
reach now rising ended log = if rising then ended + prefix_len (is_due now) (drop ended log) else length log

-- ---- the oldest promise that a change withdraws

-- the grant, where it doesn't stand before this place in the order of granting
abbrev pub from_place : ℕ → Option Grant → Option Grant
from_place from None = None
from_place from (Some g) = if nat_le from g.order then Some g else None

-- the latest grants, those at this place and behind it alone
abbrev pub since : ℕ → (Holding → Option Grant) → Holding → Option Grant
since from latest k = from_place from (latest k)

abbrev pub hit_of : (Holding → Option Grant) → Node → Fid → Node → Option Grant
hit_of latest except fid client = if same_node client except then None else latest (holding client fid)

abbrev pub earlier : Option Grant → Option Grant → Option Grant
earlier None h = h
earlier (Some g) None = Some g
earlier (Some g) (Some h) = if nat_lt h.order g.order then Some h else Some g

-- that of these clients, and `best`
abbrev pub oldest : (Holding → Option Grant) → Node → Fid → Option Grant → List Node → Option Grant
oldest latest except fid best [] = best
oldest latest except fid best (c ∷ cs) = oldest latest except fid (earlier best (hit_of latest except fid c)) cs

-- ---- the promises on a volume

abbrev pub promises_in : List Grant → List Promise
promises_in gs = map (λ g. g.promise) gs

abbrev pub is_held_on : (Holding → Option Grant) → ℕ → Grant → Bool
is_held_on latest volume g = nat_eq g.promise.fid.volume volume && is_held latest g

abbrev pub held_on : (Holding → Option Grant) → ℕ → List Grant → List Grant
held_on latest volume gs = filter (is_held_on latest volume) gs

-- those whose expiry is above the clock
abbrev pub lasting_grants : ℕ → List Grant → List Grant
lasting_grants now gs = filter (λ g. nat_lt now g.promise.expiry) gs
