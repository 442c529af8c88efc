-- What a callee remembers of its callers, and what its steps do to that: so no call runs behind a later one.
use Rattle.std.proofs.Common.{◌≡◌, ◌≤◌, ◌<◌, ◌⊎◌, inl, inr, ℕ, Bool, true, false, cond, List, [], ◌∷◌, Option, Some, None, refl, sym, ap, subst, ◌∙◌, arith, eqb-true}
use Rattle.std.proofs.Math.Nat.{le_trans}
use Rattle.std.specs.Prelude.{⊤}
use Rattle.std.specs.List.{AllByRecursion}
use Rattle.std.specs.Option.{option_map}
use Rattle.afs_num.specs.declared.messages.Message.{Message}
use Rattle.afs_num.specs.declared.types.Head.{Head}
use Rattle.afs_num.specs.declared.types.Key.{Key}
use Rattle.afs_num.specs.declared.types.Node.{Node}
use Rattle.spec_model.specs.Calls.{call_seat, call_seated, finished, is_last_call}
use Rattle.spec_rows.specs.ServerRow.{seat_placed}
use Rattle.spec_rows.specs.States.{Seat}
use Rattle.law_legal.proofs.BaseLaws.{at_seat, below_more, below_up_to, both, own_seat, up_to_below, Below, UpTo}
use Rattle.law_legal.proofs.ServerDiskKeeps.{at_placed, own_placed}
use Rattle.law_keys.specs.Ran.{RanCall}
use Rattle.law_keys.specs.Once.{IsNamed, MayFollow}

-- ---- pairs of epoch and number

abbrev pub pair : Seat → ℕ × ℕ
pair seat = (seat.epoch, seat.number)

abbrev pub pair_of : Option Seat → Option (ℕ × ℕ)
pair_of o = option_map pair o

-- above that of the last call, or not
abbrev pub IsAbove : Option (ℕ × ℕ) → ℕ → ℕ → Type 0
IsAbove None e n = ⊤
IsAbove (Some p) e n = Below p.0 p.1 e n

abbrev pub IsWithin : Option (ℕ × ℕ) → ℕ → ℕ → Type 0
IsWithin None e n = ⊥
IsWithin (Some p) e n = UpTo e n p.0 p.1

pub within_above : (o : Option (ℕ × ℕ)) (e n d m : ℕ) → IsWithin o e n → IsAbove o d m → Below e n d m
within_above None e n d m w a = absurd w
within_above (Some p) e n d m w a = up_to_below e n p.0 p.1 d m w a

-- ---- seats: one is changed at most

abbrev Sits : Seat → (Node → Option (ℕ × ℕ)) → (Node → Option (ℕ × ℕ)) → Type 0
Sits x was now = (n : Node) → ((x.caller ≡ n) × (now n ≡ Some (pair x))) ⊎ (now n ≡ was n)

pub seated_sits : (x : Seat) (seats : List Seat) → Sits x (λ (n : Node). pair_of (call_seat n seats)) (λ (n : Node). pair_of (call_seat n (call_seated x seats)))
seated_sits x seats n = at_seat x n seats (λ (o : Option Seat). ((x.caller ≡ n) × (pair_of o ≡ Some (pair x))) ⊎ (pair_of o ≡ pair_of (call_seat n seats))) (λ same. inl (same, refl)) (λ other. inr refl)

pub seated_own : (x : Seat) (seats : List Seat) → pair_of (call_seat x.caller (call_seated x seats)) ≡ Some (pair x)
seated_own x seats = ap pair_of (own_seat x seats)

pub placed_sits : (x : Seat) (seats : List Seat) → Sits x (λ (n : Node). pair_of (call_seat n seats)) (λ (n : Node). pair_of (call_seat n (seat_placed x seats)))
placed_sits x seats n = at_placed x n seats (λ (o : Option Seat). ((x.caller ≡ n) × (pair_of o ≡ Some (pair x))) ⊎ (pair_of o ≡ pair_of (call_seat n seats))) (λ same. inl (same, refl)) (λ other. inr refl)

pub placed_own : (x : Seat) (seats : List Seat) → pair_of (call_seat x.caller (seat_placed x seats)) ≡ Some (pair x)
placed_own x seats = ap pair_of (own_placed x seats)

-- a call that has ended keeps its pair
abbrev at_end : Key → Message → Seat
at_end key reply = record { caller = key.node; epoch = key.epoch; number = key.number; reply = Some reply }

abbrev as_pair : ℕ → ℕ → ℕ × ℕ
as_pair e n = (e, n)

last_pair : (key : Key) (o : Option Seat) → is_last_call key o ≡ true → pair_of o ≡ Some (as_pair key.epoch key.number)
last_pair key None e = absurd cc
last_pair key (Some seat) e =
    let p = both _ _ e in
    ap (λ (x : ℕ). Some (as_pair x seat.number)) (eqb-true seat.epoch key.epoch p.0) ∙ ap (λ (x : ℕ). Some (as_pair key.epoch x)) (eqb-true seat.number key.number p.1)

ended_by : (key : Key) (reply : Message) (seats : List Seat) (n : Node) (b : Bool) → is_last_call key (call_seat key.node seats) ≡ b → pair_of (call_seat n (cond b (call_seated (at_end key reply) seats) seats)) ≡ pair_of (call_seat n seats)
ended_by key reply seats n true e =
    at_seat (at_end key reply) n seats (λ (o : Option Seat). pair_of o ≡ pair_of (call_seat n seats))
    (λ same. sym (ap (λ (m : Node). pair_of (call_seat m seats)) (sym same) ∙ last_pair key (call_seat key.node seats) e)) (λ other. refl)
ended_by key reply seats n false e = refl

pub ended_sits : (key : Key) (reply : Message) (seats : List Seat) (n : Node) → pair_of (call_seat n (finished key reply seats)) ≡ pair_of (call_seat n seats)
ended_sits key reply seats n = ended_by key reply seats n (is_last_call key (call_seat key.node seats)) refl

-- ---- what a callee remembers: its boot number; of each caller the last call, and the last one that is kept on the disk

pub record Memory : Type 0 where
  pub boot : ℕ
  pub last : Node → Option (ℕ × ℕ)
  pub kept : Node → Option (ℕ × ℕ)

-- ---- what a step does to it

-- no call runs
pub record Keeps (a b : Memory) : Type 0 where
  pub boot : b.boot ≡ a.boot
  pub last : (n : Node) → b.last n ≡ a.last n
  pub kept : (n : Node) → b.kept n ≡ a.kept n

abbrev pub pair_in : Head → ℕ × ℕ
pair_in head = (head.epoch, head.number)

-- what is kept on the disk changes for a call that changes something
pub record Stores (a b : Memory) (r : RanCall) : Type 0 where
  pub boot : b.boot ≡ a.boot
  pub own : r.changed ≡ true → b.kept r.head.from ≡ Some (pair_in r.head)
  pub kept : (n : Node) → ((r.head.from ≡ n) × (b.kept n ≡ Some (pair_in r.head))) ⊎ (b.kept n ≡ a.kept n)

-- the call may run: it is above its caller's last one, and in this boot
pub record Runs (me : Node) (a : Memory) (r : RanCall) : Type 0 where
  pub callee : r.callee ≡ me
  pub boot : r.boot ≡ a.boot
  pub above : IsAbove (a.last r.head.from) r.head.epoch r.head.number
  pub named : IsNamed r

-- and it does
pub record Done (me : Node) (a b : Memory) (r : RanCall) : Type 0 where
  pub runs : Runs me a r
  pub stores : Stores a b r
  pub own : b.last r.head.from ≡ Some (pair_in r.head)
  pub last : (n : Node) → ((r.head.from ≡ n) × (b.last n ≡ Some (pair_in r.head))) ⊎ (b.last n ≡ a.last n)

-- one call at most runs
abbrev pub Steps : Node → Memory → Memory → List RanCall → Type 0
Steps me a b [] = Keeps a b
Steps me a b (r ∷ []) = Done me a b r
Steps me a b (r ∷ q ∷ rs) = ⊥

-- Of a step that its disk ended, a restart finds what is kept.
pub record Found (me : Node) (a b : Memory) (r : RanCall) : Type 0 where
  pub runs : Runs me a r
  pub stores : Stores a b r

pub record FoundNothing (a b : Memory) : Type 0 where
  pub boot : a.boot ≤ b.boot
  pub kept : (n : Node) → b.kept n ≡ a.kept n

abbrev pub Finds : Node → Memory → Memory → List RanCall → Type 0
Finds me a b [] = FoundNothing a b
Finds me a b (r ∷ []) = Found me a b r
Finds me a b (r ∷ q ∷ rs) = ⊥

-- a start: the next boot, and of each caller the last call that is kept
pub record Rises (a b : Memory) : Type 0 where
  pub boot : a.boot < b.boot
  pub last : (n : Node) → b.last n ≡ a.kept n
  pub kept : (n : Node) → b.kept n ≡ a.kept n

-- ---- calls that ran are remembered: those that changed something, on the disk

pub record IsStored (me : Node) (m : Memory) (r : RanCall) : Type 0 where
  pub boot : r.callee ≡ me → r.boot ≤ m.boot
  pub kept : r.callee ≡ me → r.changed ≡ true → IsWithin (m.kept r.head.from) r.head.epoch r.head.number

abbrev pub AreStored : Node → Memory → List RanCall → Type 0
AreStored me m rs = AllByRecursion (IsStored me m) rs

-- and those of this boot in memory, where what is kept of a caller is no later call than its last
abbrev pub IsKnown : Node → Memory → RanCall → Type 0
IsKnown me m r = r.callee ≡ me → r.boot ≡ m.boot → IsWithin (m.last r.head.from) r.head.epoch r.head.number

pub record AreKnown (me : Node) (m : Memory) (rs : List RanCall) : Type 0 where
  pub lower : (n : Node) (e k : ℕ) → IsAbove (m.last n) e k → IsAbove (m.kept n) e k
  pub known : AllByRecursion (IsKnown me m) rs

-- ---- what goes on

pub every : {A : Type 0} (P Q : A → Type 0) (xs : List A) → ((x : A) → P x → Q x) → AllByRecursion P xs → AllByRecursion Q xs
every {A} P Q [] w h = tt
every {A} P Q (x ∷ xs) w h = (w x h.0, every P Q xs w h.1)

pub every_two : {A : Type 0} (P Q R : A → Type 0) (xs : List A) → ((x : A) → P x → Q x → R x) → AllByRecursion P xs → AllByRecursion Q xs → AllByRecursion R xs
every_two {A} P Q R [] w h k = tt
every_two {A} P Q R (x ∷ xs) w h k = (w x h.0 k.0, every_two P Q R xs w h.1 k.1)

keeps_stored : (me : Node) (a b : Memory) → Keeps a b → (r : RanCall) → IsStored me a r → IsStored me b r
keeps_stored me a b k r h = record {
  boot = λ its. subst (λ (x : ℕ). r.boot ≤ x) (sym k.boot) (h.boot its);
  kept = λ its did. subst (λ (x : Option (ℕ × ℕ)). IsWithin x r.head.epoch r.head.number) (sym (k.kept r.head.from)) (h.kept its did);
}

pub keeps_all_stored : (me : Node) (a b : Memory) (rs : List RanCall) → Keeps a b → AreStored me a rs → AreStored me b rs
keeps_all_stored me a b rs k h = every (IsStored me a) (IsStored me b) rs (keeps_stored me a b k) h

pub keeps_known : (me : Node) (a b : Memory) (rs : List RanCall) → Keeps a b → AreKnown me a rs → AreKnown me b rs
keeps_known me a b rs k h = record {
  lower = λ n e m above. subst (λ (x : Option (ℕ × ℕ)). IsAbove x e m) (sym (k.kept n)) (h.lower n e m (subst (λ (x : Option (ℕ × ℕ)). IsAbove x e m) (k.last n) above));
  known = every (IsKnown me a) (IsKnown me b) rs (λ r q its in_boot. subst (λ (x : Option (ℕ × ℕ)). IsWithin x r.head.epoch r.head.number) (sym (k.last r.head.from)) (q its (in_boot ∙ k.boot))) h.known;
}

-- ---- a call runs behind those before it

follows : (me : Node) (a : Memory) (r : RanCall) → Runs me a r → ((n : Node) (e k : ℕ) → IsAbove (a.last n) e k → IsAbove (a.kept n) e k) → (p : RanCall) → IsStored me a p → IsKnown me a p → MayFollow p r
follows me a r run lower p stored known = record {
  boot = λ same. subst (λ (x : ℕ). p.boot ≤ x) (sym run.boot) (stored.boot (same ∙ run.callee));
  pair = λ same from which. elim which [
    | inl boot ↦ within_above (a.last r.head.from) p.head.epoch p.head.number r.head.epoch r.head.number
        (subst (λ (n : Node). IsWithin (a.last n) p.head.epoch p.head.number) from (known (same ∙ run.callee) (boot ∙ run.boot))) run.above
    | inr did ↦ within_above (a.kept r.head.from) p.head.epoch p.head.number r.head.epoch r.head.number
        (subst (λ (n : Node). IsWithin (a.kept n) p.head.epoch p.head.number) from (stored.kept (same ∙ run.callee) did)) (lower r.head.from r.head.epoch r.head.number run.above)
  ];
}

pub all_follow : (me : Node) (a : Memory) (rs : List RanCall) (r : RanCall) → Runs me a r → AreStored me a rs → AreKnown me a rs → AllByRecursion (λ (p : RanCall). MayFollow p r) rs
all_follow me a rs r run stored known = every_two (IsStored me a) (IsKnown me a) (λ (p : RanCall). MayFollow p r) rs (follows me a r run known.lower) stored known.known

-- what was within stays so behind a call that is above
within_still : (o f : Option (ℕ × ℕ)) (n m : Node) (e k d l : ℕ) → ((n ≡ m) × (f ≡ Some (as_pair d l))) ⊎ (f ≡ o) → (n ≡ m → IsAbove o d l) → IsWithin o e k → IsWithin f e k
within_still o f n m e k d l (inl new) above w = subst (λ (x : Option (ℕ × ℕ)). IsWithin x e k) (sym new.1) (below_up_to e k d l (within_above o e k d l w (above new.0)))
within_still o f n m e k d l (inr same) above w = subst (λ (x : Option (ℕ × ℕ)). IsWithin x e k) (sym same) w

own_within : (o : Option (ℕ × ℕ)) (e n : ℕ) → o ≡ Some (as_pair e n) → IsWithin o e n
own_within o e n is = subst (λ (x : Option (ℕ × ℕ)). IsWithin x e n) (sym is) (inr (refl, omega (arith)))

pub stores_stored : (me : Node) (a b : Memory) (rs : List RanCall) (r : RanCall) → Runs me a r → Stores a b r → ((n : Node) (e k : ℕ) → IsAbove (a.last n) e k → IsAbove (a.kept n) e k) → AreStored me a rs → AreStored me b (r ∷ rs)
stores_stored me a b rs r run s lower h = (
  record { boot = λ its. subst (λ (x : ℕ). r.boot ≤ x) (sym s.boot) (subst (λ (x : ℕ). x ≤ a.boot) (sym run.boot) (omega (arith))); kept = λ its did. own_within (b.kept r.head.from) r.head.epoch r.head.number (s.own did) },
  every (IsStored me a) (IsStored me b) rs (λ p q. record {
    boot = λ its. subst (λ (x : ℕ). p.boot ≤ x) (sym s.boot) (q.boot its);
    kept = λ its did. within_still (a.kept p.head.from) (b.kept p.head.from) r.head.from p.head.from p.head.epoch p.head.number r.head.epoch r.head.number (s.kept p.head.from)
        (λ same. subst (λ (n : Node). IsAbove (a.kept n) r.head.epoch r.head.number) same (lower r.head.from r.head.epoch r.head.number run.above)) (q.kept its did);
  }) h,
)

-- what is above a later pair is above an earlier one
above_more : (o : Option (ℕ × ℕ)) (e n d m : ℕ) → IsAbove o e n → Below e n d m → IsAbove o d m
above_more None e n d m h l = tt
above_more (Some p) e n d m h l = below_more p.0 p.1 e n d m h (below_up_to e n d m l)

done_lower : (me : Node) (a b : Memory) (r : RanCall) → Done me a b r → ((n : Node) (e k : ℕ) → IsAbove (a.last n) e k → IsAbove (a.kept n) e k) → (n : Node) (e k : ℕ) → IsAbove (b.last n) e k → IsAbove (b.kept n) e k
done_lower me a b r d lower n e k above = elim (d.stores.kept n) [
  | inl new ↦ subst (λ (x : Option (ℕ × ℕ)). IsAbove x e k) (sym new.1) (subst (λ (x : Option (ℕ × ℕ)). IsAbove x e k) (subst (λ (m : Node). b.last m ≡ Some (pair_in r.head)) new.0 d.own) above)
  | inr same ↦ subst (λ (x : Option (ℕ × ℕ)). IsAbove x e k) (sym same) (elim (d.last n) [
    | inl new ↦ above_more (a.kept n) r.head.epoch r.head.number e k (subst (λ (m : Node). IsAbove (a.kept m) r.head.epoch r.head.number) new.0 (lower r.head.from r.head.epoch r.head.number d.runs.above))
        (subst (λ (x : Option (ℕ × ℕ)). IsAbove x e k) new.1 above)
    | inr still ↦ lower n e k (subst (λ (x : Option (ℕ × ℕ)). IsAbove x e k) still above)
  ])
]

pub done_known : (me : Node) (a b : Memory) (rs : List RanCall) (r : RanCall) → Done me a b r → AreKnown me a rs → AreKnown me b (r ∷ rs)
done_known me a b rs r d h = record {
  lower = done_lower me a b r d h.lower;
  known = (
    λ its in_boot. own_within (b.last r.head.from) r.head.epoch r.head.number d.own,
    every (IsKnown me a) (IsKnown me b) rs (λ p q its in_boot.
        within_still (a.last p.head.from) (b.last p.head.from) r.head.from p.head.from p.head.epoch p.head.number r.head.epoch r.head.number (d.last p.head.from)
        (λ same. subst (λ (n : Node). IsAbove (a.last n) r.head.epoch r.head.number) same d.runs.above) (q its (in_boot ∙ d.stores.boot))) h.known,
  );
}

pub nothing_stored : (me : Node) (a b : Memory) (rs : List RanCall) → FoundNothing a b → AreStored me a rs → AreStored me b rs
nothing_stored me a b rs f h = every (IsStored me a) (IsStored me b) rs (λ r q. record {
  boot = λ its. le_trans (q.boot its) f.boot;
  kept = λ its did. subst (λ (x : Option (ℕ × ℕ)). IsWithin x r.head.epoch r.head.number) (sym (f.kept r.head.from)) (q.kept its did);
}) h

pub rises_stored : (me : Node) (a b : Memory) (rs : List RanCall) → Rises a b → AreStored me a rs → AreStored me b rs
rises_stored me a b rs f h = nothing_stored me a b rs (record { boot = let up : a.boot < b.boot = f.boot in omega (arith, up); kept = f.kept }) h

-- of the new boot nothing has run
pub rises_known : (me : Node) (a b : Memory) (rs : List RanCall) → Rises a b → AreStored me a rs → AreKnown me b rs
rises_known me a b rs f h = record {
  lower = λ n e k above. subst (λ (x : Option (ℕ × ℕ)). IsAbove x e k) (f.last n ∙ sym (f.kept n)) above;
  known = every (IsStored me a) (IsKnown me b) rs (λ r q its in_boot. let le : r.boot ≤ a.boot = q.boot its in let up : a.boot < b.boot = f.boot in let new : a.boot < r.boot = subst (λ (x : ℕ). a.boot < x) (sym in_boot) up in absurd (omega (arith, le, new))) h;
}

-- a call of another callee
pub other_stored : (me : Node) (m : Memory) (rs : List RanCall) (r : RanCall) → (r.callee ≡ me → ⊥) → AreStored me m rs → AreStored me m (r ∷ rs)
other_stored me m rs r other h = (record { boot = λ its. absurd (other its); kept = λ its did. absurd (other its) }, h)

pub other_known : (me : Node) (m : Memory) (rs : List RanCall) (r : RanCall) → (r.callee ≡ me → ⊥) → AreKnown me m rs → AreKnown me m (r ∷ rs)
other_known me m rs r other h = record { lower = h.lower; known = ((λ its in_boot. absurd (other its)), h.known) }
