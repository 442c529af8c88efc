-- The walk over the inputs of a cell: which calls run, and that none runs behind a later one of its caller.
use Rattle.std.proofs.Common.{◌≡◌, ◌<◌, ◌⊎◌, inl, inr, ℕ, Bool, true, false, cond, List, [], ◌∷◌, ◌++◌, Option, Some, None, refl, sym, ap, subst, ◌∙◌, arith}
use Rattle.std.specs.Prelude.{⊤, filter}
use Rattle.std.specs.List.{AllByRecursion}
use Rattle.afs_num.specs.declared.messages.Message.{Message}
use Rattle.afs_num.specs.declared.messages.Received.TheVariants.{Whole}
use Rattle.afs_num.specs.declared.types.Half.TheVariants as halves
use Rattle.afs_num.specs.declared.types.Key.{Key}
use Rattle.afs_num.specs.declared.types.Node.{Node}
use Rattle.afs_num.specs.declared.types.Node.TheVariants.{Admin, Client, Loc, Server}
use Rattle.spec_history.specs.declared.scripts.Script.{Script}
use Rattle.spec_model.specs.Calls.{call_seat, key_of, pair_below}
use Rattle.spec_rows.specs.Hosts.{Fall, HostStep}
use Rattle.spec_rows.specs.LocRow.{LocState}
use Rattle.spec_rows.specs.LocSteps.{loc_kind, LocHost}
use Rattle.spec_rows.specs.ServerRow.{begun_after, is_client}
use Rattle.spec_rows.specs.States.{durable_of, Seat}
use Rattle.spec_volrows.specs.FileRow.{file_row}
use Rattle.spec_volrows.specs.NodeHosts.{node_kind, NodeHost}
use Rattle.spec_volrows.specs.VolRow.{holds_of}
use Rattle.spec_volrows.specs.VolStates.{NodeState}
use Rattle.spec_volrows.specs.VolSteps.{file_stepped, node_file_decides, node_row, vol_begun_after, vol_decides, vol_row}
use Rattle.spec_runs.specs.NodeRuns.{loc_stepped, node_moved, node_start, server_stepped, CellInput, NodeCell, NodeMoved}
use Rattle.law_walks.specs.Kinds.{IsUp}
use Rattle.law_walks.proofs.EachKind.{any_admin, any_client}
use Rattle.law_places.specs.Accepting.{cell_behind}
use Rattle.law_legal.proofs.BaseLaws.{at_put, below-false, below-true, below_not}
use Rattle.law_legal.proofs.CallKeysOnce.{server_number}
use Rattle.law_keys.specs.Ran.{database_ran, ran_by, ran_in, ran_of_file, ran_of_vol, server_ran, that_changed, RanCall}
use Rattle.law_keys.specs.Once.{AreInOrder, CallsRunInOrder, IsEarlier, IsNotUnder, IsSpent, IsUpToSeat, KeysAreSpent, MayFollow, SpendsIts}
use Rattle.law_keys.proofs.EachRan.{each_ran, EachRan}
use Rattle.law_keys.proofs.FileSeats.{back_keeps, file_finds, file_steps, start_rises, wake_keeps}
use Rattle.law_keys.proofs.Hosts.{apart_knows, crash_goes, grown, keeps_goes, restart_goes, serve_goes, AreOf, Counts, Goes, HostKnows, Remembers}
use Rattle.law_keys.proofs.LocSeats.{loc_finds, loc_memory, loc_rises, loc_steps}
use Rattle.law_keys.proofs.Memories.{every, pair_of, AreKnown, AreStored, Finds, IsAbove, IsStored, IsWithin, Keeps, Memory, Steps}
use Rattle.law_keys.proofs.VolSeats.{cut_memory, memory, piece_keeps, vol_finds, vol_steps}

-- ---- the two kinds of node

row_by : (b : Bool) (me : Node) (s : NodeState) (clock place : ℕ) (m : Message) → is_client m.head.from ≡ b
    → Steps me (memory s) (memory (cond b (file_stepped s.vol (file_row me (holds_of s.vol.transactions) s.file clock place (Whole m))) (vol_row me s clock place (Whole m))).state)
    (cond b (ran_of_file me s.file.lasting.boot (node_file_decides me s clock (Whole m))) (ran_of_vol me s.file.lasting.boot (vol_decides me (durable_of s.file.lasting) s.vol (Whole m))))
row_by true me s clock place m is = file_steps me s clock place m is
row_by false me s clock place m is = vol_steps me s clock place m is

pub row_steps : (me : Node) (s : NodeState) (clock place : ℕ) (m : Message) → Steps me (memory s) (memory (node_row me s clock place (Whole m)).state) (server_ran me s clock m)
unfolding node_row
row_steps me s clock place m = row_by (is_client m.head.from) me s clock place m refl

found_by : (b : Bool) (me : Node) (s : NodeState) (clock : ℕ) (m : Message) → is_client m.head.from ≡ b
    → Finds me (memory s) (cut_memory s (cond b (begun_after me s.file clock (node_file_decides me s clock (Whole m))) (vol_begun_after me s.file (vol_decides me (durable_of s.file.lasting) s.vol (Whole m)))))
    (filter that_changed (cond b (ran_of_file me s.file.lasting.boot (node_file_decides me s clock (Whole m))) (ran_of_vol me s.file.lasting.boot (vol_decides me (durable_of s.file.lasting) s.vol (Whole m)))))
found_by true me s clock m is = file_finds me s clock m is
found_by false me s clock m is = vol_finds me s m is

server_remembers : (me : Node) → Remembers (node_kind me) (server_ran me) memory
server_remembers me = record {
  steps = row_steps me;
  finds = λ s clock m. found_by (is_client m.head.from) me s clock m refl;
  again = λ s. record { boot = omega (arith); kept = λ n. refl };
  rises = λ clock count f. start_rises me clock count (record { state = f.state.file; before = f.before }) f.state.vol.seats;
}

database_remembers : Remembers loc_kind database_ran loc_memory
database_remembers = record {
  steps = loc_steps;
  finds = loc_finds;
  again = λ s. record { boot = omega (arith); kept = λ n. refl };
  rises = λ clock count f. loc_rises f;
}

-- ---- a cell

-- it keeps what its callers change
abbrev IsKeeper : Node → Type 0
IsKeeper (Server i) = ⊤
IsKeeper Loc = ⊤
IsKeeper (Client n) = ⊥
IsKeeper (Admin n) = ⊥

record CellKnows (c : NodeCell) (before : List RanCall) : Type 0 where
  hosts : (i : ℕ) → HostKnows (Server i) memory (c.hosts i) before
  loc : HostKnows Loc loc_memory c.loc before
  keepers : AllByRecursion (λ (r : RanCall). IsKeeper r.callee) before

record Moved (m : NodeMoved) (before new : List RanCall) : Type 0 where
  order : AreInOrder before new
  knows : CellKnows m.cell (grown before new)

all_grown : (P : RanCall → Type 0) (before new : List RanCall) → AllByRecursion P before → AllByRecursion P new → AllByRecursion P (grown before new)
all_grown P before [] h k = h
all_grown P before (r ∷ rs) h k = all_grown P (r ∷ before) rs (k.0, h) k.1

of_other : (me q : Node) (new : List RanCall) → (me ≡ q → ⊥) → AreOf me new → AllByRecursion (λ (r : RanCall). r.callee ≡ q → ⊥) new
of_other me q new other h = every (λ (r : RanCall). r.callee ≡ me) (λ (r : RanCall). r.callee ≡ q → ⊥) new (λ r e f. other (sym e ∙ f)) h

of_keepers : (me : Node) (new : List RanCall) → IsKeeper me → AreOf me new → AllByRecursion (λ (r : RanCall). IsKeeper r.callee) new
of_keepers me new k h = every (λ (r : RanCall). r.callee ≡ me) (λ (r : RanCall). IsKeeper r.callee) new (λ r e. subst IsKeeper (sym e) k) h

not_loc : (i : ℕ) → Server i ≡ Loc → ⊥
not_loc i e = absurd cc

not_server : (i : ℕ) → Loc ≡ Server i → ⊥
not_server i e = absurd cc

module _ (c : NodeCell) (before : List RanCall) (h : CellKnows c before) where
  -- no call runs, and no host changes
  others : (m : NodeMoved) → m.cell.hosts ≡ c.hosts → m.cell.loc ≡ c.loc → Moved m before []
  others m hosts loc = record {
    order = tt;
    knows = record {
      hosts = λ i. subst (λ (f : ℕ → NodeHost). HostKnows (Server i) memory (f i) before) (sym hosts) (h.hosts i);
      loc = subst (λ (l : LocHost). HostKnows Loc loc_memory l before) (sym loc) h.loc;
      keepers = h.keepers;
    };
  }

  server_moved : (i : ℕ) (s : HostStep NodeState) (new : List RanCall) → Goes (Server i) memory s.host before new → Moved (server_stepped c i s) before new
  server_moved i s new g = record {
    order = g.order;
    knows = record {
      hosts = λ j. at_put i j (λ (x : NodeHost). HostKnows (Server j) memory x (grown before new)) s.host c.hosts
          (λ same. subst (λ (k : ℕ). HostKnows (Server k) memory s.host (grown before new)) same g.knows)
          (λ other. apart_knows (Server j) memory (c.hosts j) before new (of_other (Server i) (Server j) new (λ e. other (server_number i j e)) g.own) (h.hosts j));
      loc = apart_knows Loc loc_memory c.loc before new (of_other (Server i) Loc new (not_loc i) g.own) h.loc;
      keepers = all_grown (λ (r : RanCall). IsKeeper r.callee) before new h.keepers (of_keepers (Server i) new tt g.own);
    };
  }

  -- a step of a server that is up, which runs none
  quiet_moved : (i : ℕ) (s : HostStep NodeState) → IsUp c i → Keeps (memory (c.hosts i).state) (memory s.host.state) → Moved (server_stepped c i s) before []
  quiet_moved i s up k = server_moved i s [] (keeps_goes (Server i) memory (c.hosts i) s.host before k (λ counts. subst Counts (sym up.up) tt) (h.hosts i))

  loc_moved : (s : HostStep LocState) (new : List RanCall) → Goes Loc loc_memory s.host before new → Moved (loc_stepped c s) before new
  loc_moved s new g = record {
    order = g.order;
    knows = record {
      hosts = λ j. apart_knows (Server j) memory (c.hosts j) before new (of_other Loc (Server j) new (not_server j) g.own) (h.hosts j);
      loc = g.knows;
      keepers = all_grown (λ (r : RanCall). IsKeeper r.callee) before new h.keepers (of_keepers Loc new tt g.own);
    };
  }

  loc_quiet : (s : HostStep LocState) → c.loc.down ≡ None → Keeps (loc_memory c.loc.state) (loc_memory s.host.state) → Moved (loc_stepped c s) before []
  loc_quiet s up k = loc_moved s [] (keeps_goes Loc loc_memory c.loc s.host before k (λ counts. subst Counts (sym up) tt) h.loc)

  moves_each : EachRan (λ (m : NodeMoved) (new : List RanCall). Moved m before new) c
  moves_each = record {
    void = others _ refl refl;
    ticks = λ n. others _ refl refl;
    serves = λ i place luck m up g. server_moved i _ _ (serve_goes (node_kind (Server i)) (server_ran (Server i)) memory (server_remembers (Server i)) (c.hosts i) c.clock place luck m before up.up (h.hosts i));
    restarts = λ i after o fall down. server_moved i _ _ (restart_goes (node_kind (Server i)) (server_ran (Server i)) memory (server_remembers (Server i)) (c.hosts i) c.clock c.count after o fall before down (h.hosts i));
    crashes = λ i up. server_moved i _ [] (crash_goes (node_kind (Server i)) (server_ran (Server i)) memory (server_remembers (Server i)) (c.hosts i) before (h.hosts i));
    stop_set = λ i calls pick up. quiet_moved i _ up (record { boot = refl; last = λ n. refl; kept = λ n. refl });
    fail_set = λ i call up. quiet_moved i _ up (record { boot = refl; last = λ n. refl; kept = λ n. refl });
    piece_late = λ i n p up. quiet_moved i _ up (piece_keeps (Server i) (c.hosts i).state c.clock n p);
    break_late = λ i n b up. quiet_moved i _ up (back_keeps (Server i) (c.hosts i).state c.clock n b);
    wakes = λ i up. quiet_moved i _ up (wake_keeps (Server i) (c.hosts i).state c.clock);
    loc_serves = λ place luck m up g. loc_moved _ _ (serve_goes loc_kind database_ran loc_memory database_remembers c.loc c.clock place luck m before up h.loc);
    loc_restarts = λ after o fall down. loc_moved _ _ (restart_goes loc_kind database_ran loc_memory database_remembers c.loc c.clock c.count after o fall before down h.loc);
    loc_crashes = λ up. loc_moved _ [] (crash_goes loc_kind database_ran loc_memory database_remembers c.loc before h.loc);
    loc_stop_set = λ calls pick up. loc_quiet _ up (record { boot = refl; last = λ n. refl; kept = λ n. refl });
    loc_fail_set = λ call up. loc_quiet _ up (record { boot = refl; last = λ n. refl; kept = λ n. refl });
    clients = any_client (λ (m : NodeMoved). Moved m before []) c (λ n s. others _ refl refl) (λ n. others _ refl refl) (λ n. others _ refl refl);
    admins = any_admin (λ (m : NodeMoved). Moved m before []) c (λ n s. others _ refl refl) (λ n. others _ refl refl) (λ n. others _ refl refl);
  }

moves_on : (c : NodeCell) (before : List RanCall) → CellKnows c before → (x : CellInput) → Moved (node_moved c x) before (ran_by c x)
moves_on c before h x = each_ran (λ (m : NodeMoved) (new : List RanCall). Moved m before new) c (moves_each c before h) x

-- ---- a run

in_order_both : (before new rest : List RanCall) → AreInOrder before new → AreInOrder (grown before new) rest → AreInOrder before (new ++ rest)
in_order_both before [] rest h k = k
in_order_both before (r ∷ rs) rest h k = (h.0, in_order_both (r ∷ before) rs rest h.1 k)

run_order : (c : NodeCell) (xs : List CellInput) (before : List RanCall) → CellKnows c before → AreInOrder before (ran_in c xs)
run_order c [] before h = tt
run_order c (x ∷ xs) before h =
    let one : Moved (node_moved c x) before (ran_by c x) = moves_on c before h x in
    in_order_both before (ran_by c x) (ran_in (node_moved c x).cell xs) one.order (run_order (node_moved c x).cell xs (grown before (ran_by c x)) one.knows)

grown_both : (before new rest : List RanCall) → grown before (new ++ rest) ≡ grown (grown before new) rest
grown_both before [] rest = refl
grown_both before (r ∷ rs) rest = grown_both (r ∷ before) rs rest

run_knows : (c : NodeCell) (xs : List CellInput) (before : List RanCall) → CellKnows c before → CellKnows (cell_behind c xs) (grown before (ran_in c xs))
run_knows c [] before h = h
run_knows c (x ∷ xs) before h =
    let one : Moved (node_moved c x) before (ran_by c x) = moves_on c before h x in
    subst (CellKnows (cell_behind (node_moved c x).cell xs)) (sym (grown_both before (ran_by c x) (ran_in (node_moved c x).cell xs))) (run_knows (node_moved c x).cell xs (grown before (ran_by c x)) one.knows)

first_knows : (s : Script) → CellKnows (node_start s) []
first_knows s = record {
  hosts = λ i. record { stored = tt; known = λ k. record { lower = λ n e m above. tt; known = tt } };
  loc = record { stored = tt; known = λ k. record { lower = λ n e m above. tt; known = tt } };
  keepers = tt;
}

pub in_order : CallsRunInOrder
in_order s inputs = run_order (node_start s) inputs [] (first_knows s)

-- ---- what is spent

from_grown : (P : RanCall → Type 0) (before new : List RanCall) → AllByRecursion P (grown before new) → AllByRecursion P before × AllByRecursion P new
from_grown P before [] h = (h, tt)
from_grown P before (r ∷ rs) h = let z = from_grown P (r ∷ before) rs h in (z.0.1, (z.0.0, z.1))

seat_within : (o : Option Seat) (k : Key) → IsWithin (pair_of o) k.epoch k.number → IsUpToSeat o k
seat_within None k h = h
seat_within (Some seat) k h = h

within_seat : (o : Option Seat) (k : Key) → IsUpToSeat o k → IsWithin (pair_of o) k.epoch k.number
within_seat None k h = h
within_seat (Some seat) k h = h

-- what is stored at every callee is spent
stored_spent : (c : NodeCell) (r : RanCall) (q : Node) → r.callee ≡ q → IsKeeper q → ((i : ℕ) → IsStored (Server i) (memory (c.hosts i).state) r) → IsStored Loc (loc_memory c.loc.state) r → r.changed ≡ true → IsSpent c q (key_of r.head)
stored_spent c r (Server i) is k hosts loc did = seat_within (call_seat r.head.from (c.hosts i).state.file.lasting.kept) (key_of r.head) ((hosts i).kept is did)
stored_spent c r Loc is k hosts loc did = seat_within (call_seat r.head.from c.loc.state.lasting.kept) (key_of r.head) (loc.kept is did)
stored_spent c r (Client n) is k hosts loc did = absurd k
stored_spent c r (Admin n) is k hosts loc did = absurd k

-- what holds at each place of a list, for each number
all_spend : (c : NodeCell) (rs : List RanCall) → AllByRecursion (λ (r : RanCall). IsKeeper r.callee) rs → ((i : ℕ) → AreStored (Server i) (memory (c.hosts i).state) rs) → AreStored Loc (loc_memory c.loc.state) rs → AllByRecursion (SpendsIts c) rs
all_spend c [] k hosts loc = tt
all_spend c (r ∷ rs) k hosts loc = ((λ did. stored_spent c r r.callee refl k.0 (λ i. (hosts i).0) loc.0 did), all_spend c rs k.1 (λ i. (hosts i).1) loc.1)

knows_spend : (c : NodeCell) (before new : List RanCall) → CellKnows c (grown before new) → AllByRecursion (SpendsIts c) before × AllByRecursion (SpendsIts c) new
knows_spend c before new h = from_grown (SpendsIts c) before new (all_spend c (grown before new) h.keepers (λ i. (h.hosts i).stored) h.loc.stored)

-- ---- a key that is spent, as a call that ran

abbrev spender : Node → Key → RanCall
spender callee k = record {
  callee = callee;
  boot = 0;
  head = record { half = halves.Call; from = k.node; to = callee; epoch = k.epoch; number = k.number; boot = 0; stamp = 0; opcode = 0 };
  changed = true;
}

decided : (b : Bool) (p : ℕ × ℕ) (e n : ℕ) → pair_below p.0 p.1 e n ≡ b → IsAbove (Some p) e n ⊎ IsWithin (Some p) e n
decided true p e n is = inl (below-true p.0 p.1 e n is)
decided false p e n is = inr (below-false p.0 p.1 e n is)

above_or_within : (o : Option (ℕ × ℕ)) (e n : ℕ) → IsAbove o e n ⊎ IsWithin o e n
above_or_within None e n = inl tt
above_or_within (Some p) e n = decided (pair_below p.0 p.1 e n) p e n refl

not_both : (o : Option (ℕ × ℕ)) (e n : ℕ) → IsAbove o e n → IsWithin o e n → ⊥
not_both None e n a w = w
not_both (Some p) e n a w = below_not p.0 p.1 e n a w

-- what is kept of a caller is no later call than its last
within_last : (me : Node) (m : Memory) (rs : List RanCall) (n : Node) (e k : ℕ) → AreKnown me m rs → IsWithin (m.kept n) e k → IsWithin (m.last n) e k
within_last me m rs n e k h w = elim (above_or_within (m.last n) e k) [ inl above ↦ absurd (not_both (m.kept n) e k (h.lower n e k above) w) | inr within ↦ within ]

spent_known : {S : Type 0} (me callee : Node) (mem : S → Memory) (down : Option Fall) (s : S) (k : Key) (before : List RanCall) → AreStored me (mem s) before → (Counts down → AreKnown me (mem s) before) → (callee ≡ me → IsWithin ((mem s).kept k.node) k.epoch k.number)
    → AreStored me (mem s) (spender callee k ∷ before) × (Counts down → AreKnown me (mem s) (spender callee k ∷ before))
spent_known {S} me callee mem down s k before stored known w = (
  (record { boot = λ its. omega (arith); kept = λ its did. w its }, stored),
  λ counts. record { lower = (known counts).lower; known = ((λ its in_boot. within_last me (mem s) before k.node k.epoch k.number (known counts) (w its)), (known counts).known) },
)

spent_at : (c : NodeCell) (callee : Node) (k : Key) (i : ℕ) → IsSpent c callee k → callee ≡ Server i → IsWithin ((memory (c.hosts i).state).kept k.node) k.epoch k.number
spent_at c callee k i h is = within_seat (call_seat k.node (c.hosts i).state.file.lasting.kept) k (subst (λ (q : Node). IsSpent c q k) is h)

spent_loc : (c : NodeCell) (callee : Node) (k : Key) → IsSpent c callee k → callee ≡ Loc → IsWithin ((loc_memory c.loc.state).kept k.node) k.epoch k.number
spent_loc c callee k h is = within_seat (call_seat k.node c.loc.state.lasting.kept) k (subst (λ (q : Node). IsSpent c q k) is h)

spent_keeper : (c : NodeCell) (callee : Node) (k : Key) → IsSpent c callee k → IsKeeper callee
spent_keeper c (Server i) k h = tt
spent_keeper c Loc k h = tt
spent_keeper c (Client n) k h = absurd h
spent_keeper c (Admin n) k h = absurd h

spent_knows : (c : NodeCell) (before : List RanCall) (callee : Node) (k : Key) → CellKnows c before → IsSpent c callee k → CellKnows c (spender callee k ∷ before)
spent_knows c before callee k h spent = record {
  hosts = λ i. let z = spent_known (Server i) callee memory (c.hosts i).down (c.hosts i).state k before (h.hosts i).stored (h.hosts i).known (spent_at c callee k i spent) in record { stored = z.0; known = z.1 };
  loc = let z = spent_known Loc callee loc_memory c.loc.down c.loc.state k before h.loc.stored h.loc.known (spent_loc c callee k spent) in record { stored = z.0; known = z.1 };
  keepers = (spent_keeper c callee k spent, h.keepers);
}

-- ---- what ran first stands before all

first_of : (P : RanCall → Type 0) (before : List RanCall) (p : RanCall) → AllByRecursion P (before ++ p ∷ []) → P p
first_of P [] p h = h.0
first_of P (r ∷ rs) p h = first_of P rs p h.1

follow_first : (before : List RanCall) (p : RanCall) (rs : List RanCall) → AreInOrder (before ++ p ∷ []) rs → AllByRecursion (λ (r : RanCall). MayFollow p r) rs
follow_first before p [] h = tt
follow_first before p (r ∷ rs) h = (first_of (λ (b : RanCall). MayFollow b r) before p h.0.0, follow_first (r ∷ before) p rs h.1)

not_earlier : (callee : Node) (k : Key) (r : RanCall) → MayFollow (spender callee k) r → IsNotUnder callee k r
not_earlier callee k r h at same =
    let earlier : IsEarlier (spender callee k).head r.head = h.pair (sym at) (ap (λ (x : Key). x.node) (sym same)) (inr refl) in
    itself k (subst (λ (x : Key). (k.epoch < x.epoch) ⊎ ((k.epoch ≡ x.epoch) × (k.number < x.number))) same earlier)
  where
    itself : (k : Key) → (k.epoch < k.epoch) ⊎ ((k.epoch ≡ k.epoch) × (k.number < k.number)) → ⊥
    itself k (inl x) = absurd (omega (arith, x))
    itself k (inr x) = let y : k.number < k.number = x.1 in absurd (omega (arith, y))

behind_both : (c : NodeCell) (xs ys : List CellInput) → cell_behind c (xs ++ ys) ≡ cell_behind (cell_behind c xs) ys
behind_both c [] ys = refl
behind_both c (x ∷ xs) ys = behind_both (node_moved c x).cell xs ys

knows_behind : (s : Script) (inputs : List CellInput) → CellKnows (cell_behind (node_start s) inputs) []
knows_behind s inputs = let z = run_knows (node_start s) inputs [] (first_knows s) in record {
  hosts = λ i. record { stored = tt; known = λ k. record { lower = ((z.hosts i).known k).lower; known = tt } };
  loc = record { stored = tt; known = λ k. record { lower = (z.loc.known k).lower; known = tt } };
  keepers = tt;
}

pub are_spent : KeysAreSpent
are_spent = record {
  stay = λ s inputs later callee k spent.
      let c : NodeCell = cell_behind (node_start s) inputs in
      let z = knows_spend (cell_behind c later) (spender callee k ∷ []) (ran_in c later) (run_knows c later (spender callee k ∷ []) (spent_knows c [] callee k (knows_behind s inputs) spent)) in
      subst (λ (d : NodeCell). IsSpent d callee k) (sym (behind_both (node_start s) inputs later)) (z.0.0 refl);
  never = λ s inputs later callee k spent.
      let c : NodeCell = cell_behind (node_start s) inputs in
      every (λ (r : RanCall). MayFollow (spender callee k) r) (IsNotUnder callee k) (ran_in c later) (not_earlier callee k) (follow_first [] (spender callee k) (ran_in c later) (run_order c later (spender callee k ∷ []) (spent_knows c [] callee k (knows_behind s inputs) spent)));
  spend = λ s inputs. (knows_spend (cell_behind (node_start s) inputs) [] (ran_in (node_start s) inputs) (run_knows (node_start s) inputs [] (first_knows s))).1;
}
