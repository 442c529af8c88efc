-- An administrator at set-up: its acts are within their limits, by the script.
use Rattle.std.proofs.Common.{refl, arith, ap, sym, subst, ◌∙◌, ◌≡◌, ◌≤◌, ◌+◌, ◌-◌, ◌++◌, ℕ, List, [], ◌∷◌, length, Bool, true, false, drop, slice_get, Some, nat_eq, nat_le, if◌then◌else◌}
use Rattle.std.specs.List.{All}
use Rattle.std.proofs.lemmas.Bool.{ne_eqb, le-leb, lt-leb}
use Rattle.std.proofs.lemmas.List.Elements.{All-cons, All-head, All-nil, All-tail}
use Rattle.afs_num.specs.Nodes.{same_node, IsNode}
use Rattle.afs_num.specs.declared.types.Node.{Node}
use Rattle.afs_num.specs.declared.types.Node.TheVariants.{Admin}
use Rattle.spec_history.specs.declared.scripts.AdminAct.{AdminAct}
use Rattle.spec_history.specs.declared.scripts.AdminAct.TheVariants as acts
use Rattle.spec_history.specs.declared.scripts.Script.{Script}
use Rattle.spec_history.specs.declared.scripts.Task.{Task}
use Rattle.spec_history.specs.declared.scripts.Task.TheVariants as tasks
use Rattle.spec_shape.specs.Tables.{IsServer}
use Rattle.afs_adminparts.specs.Fitting.{IsShortAdminAct}
use Rattle.spec_adminrows.specs.AdminRow.{new_admin, AdminState}
use Rattle.afs_words.specs.declared.nodes.Counts.{Counts}
use Rattle.afs_grammar.specs.CellScripts.{counts_of, FitsAdminAct, FitsTask, IsCellScript, IsFrom}
use Rattle.afs_schedule.specs.Schedules.{admin_act, doer, tasks_of}
use Rattle.afs_admins.specs.Seating.{AreFirstAdmins, IsFirstAdmin, IsShortOrder}
use Rattle.afs_admins.specs.declared.admins.AdminSeat.{AdminSeat}

pub admin_is_node : (n : ℕ) → 1 ≤ n → n ≤ 4 → IsNode (Admin n)
admin_is_node n low high =
    let some : nat_eq (200 + n) 0 ≡ false = ne_eqb (200 + n) 0 (λ e. absurd (omega (arith, e))) in
    let one : nat_le 1 (200 + n) ≡ true = le-leb 1 (200 + n) (omega arith) in
    let eight : nat_le (200 + n) 8 ≡ false = lt-leb (200 + n) 8 (omega arith) in
    let first : nat_le 101 (200 + n) ≡ true = le-leb 101 (200 + n) (omega arith) in
    let last : nat_le (200 + n) 116 ≡ false = lt-leb (200 + n) 116 (omega arith) in
    let above : nat_le 201 (200 + n) ≡ true = le-leb 201 (200 + n) (omega (arith, low)) in
    let below : nat_le (200 + n) 204 ≡ true = le-leb (200 + n) 204 (omega (arith, high)) in
    let same : 200 + n - 200 ≡ n = omega arith in
    rw (some, one, eight, first, last, above, below, same) refl

-- ---- the acts of a script

server_fits : (c : Counts) (server : ℕ) → c.servers ≤ 8 → IsFrom 1 c.servers server → IsServer server
server_fits c server few h = (h.0, omega (arith, few, h.1))

short_act : (c : Counts) (a : AdminAct) → c.servers ≤ 8 → FitsAdminAct c a → IsShortAdminAct a
short_act c (acts.Create name server quota) few h = record { name = h.0.1; server = server_fits c server few h.1.0 }
short_act c (acts.Restore name server label) few h = record { name = h.0.1; server = server_fits c server few h.1.0 }
short_act c (acts.AddSite name server) few h = record { name = h.0.1; server = server_fits c server few h.1 }
short_act c (acts.Backup name) few h = record { name = h.1; server = tt }
short_act c (acts.Release name) few h = record { name = h.1; server = tt }
short_act c (acts.Move name server) few h = record { name = h.0.1; server = server_fits c server few h.1 }
short_act c (acts.Dump name label from) few h = record { name = h.0.1; server = tt }
short_act c (acts.Remove name) few h = record { name = h.1; server = tt }
short_act c (acts.Recover name) few h = record { name = h.1; server = tt }

short_task : (c : Counts) (t : Task) → c.servers ≤ 8 → FitsTask c t → IsShortOrder t
short_task c (tasks.Client n a) few h = tt
short_task c (tasks.Admin n a) few h = short_act c a few h.1

kept : (b : Bool) (t : Task) (rest : List Task) → IsShortOrder t → All IsShortOrder rest → All IsShortOrder (if b then t ∷ rest else rest)
kept true t rest short all = All-cons IsShortOrder t rest short all
kept false t rest short all = all

tasks_short : (c : Counts) (n : Node) (ts : List Task) → c.servers ≤ 8 → All (FitsTask c) ts → All IsShortOrder (tasks_of n ts)
tasks_short c n [] few h = All-nil IsShortOrder
tasks_short c n (t ∷ ts) few h = kept (same_node (doer t) n) t (tasks_of n ts) (short_task c t few (All-head (FitsTask c) t ts h)) (tasks_short c n ts few (All-tail (FitsTask c) t ts h))

-- ---- the next act, and what is left after it

some_is : {A : Type 0} (x y : A) → Some x ≡ Some y → x ≡ y
some_is {A} x y e = cc

pub first_short : (ts : List Task) (act : AdminAct) → All IsShortOrder ts → admin_act (slice_get ts 0) ≡ Some act → IsShortAdminAct act
first_short [] act all e = absurd cc
first_short (tasks.Admin n a ∷ ts) act all e = subst IsShortAdminAct (some_is a act e) (All-head IsShortOrder (tasks.Admin n a) ts all)
first_short (tasks.Client n a ∷ ts) act all e = absurd cc

pub rest_short : (old new : List Task) → new ≡ drop 1 old → All IsShortOrder old → All IsShortOrder new
rest_short [] new e all = subst (All IsShortOrder) (sym e) all
rest_short (t ∷ ts) new e all = subst (All IsShortOrder) (sym e) (All-tail IsShortOrder t ts all)

-- ---- at set-up

pub first_admin : (s : Script) (n : ℕ) (seat : AdminSeat) → IsCellScript s → seat.mover.node ≡ Admin n → seat.mover.state ≡ new_admin s.servers 1 → seat.is_away ≡ false → seat.plan ≡ tasks_of (Admin n) s.tasks → seat.epoch ≡ 1 → IsFirstAdmin s n seat
first_admin s n seat h node state up plan epoch = record {
  state = state;
  up = up;
  plan = plan;
  epoch = epoch;
  seated = record {
    node = node;
    epoch = ap (λ (a : AdminState). a.epoch) state ∙ sym epoch;
    servers = ap (λ (a : AdminState). a.servers) state;
    acts = subst (λ (more : List Task). All IsShortOrder more) (sym plan) (tasks_short (counts_of s) (Admin n) s.tasks h.servers.1 h.tasks);
  };
}

pub admin_more : (s : Script) (i j : ℕ) (seats : List AdminSeat) (a : AdminSeat) → AreFirstAdmins s i seats → j ≡ i + length seats → IsFirstAdmin s j a → AreFirstAdmins s i (seats ++ a ∷ [])
admin_more s i j [] a h at one =
    let here : j ≡ i = omega (arith, at) in
    (subst (λ (k : ℕ). IsFirstAdmin s k a) here one, tt)
admin_more s i j (k ∷ seats) a h at one = (h.0, admin_more s (i + 1) j seats a h.1 (omega (arith, at)) one)
