-- A step draws few numbers of calls: one for each node of the cell at most.
use Rattle.std.proofs.Common.{◌≡◌, ◌≤◌, ◌+◌, ◌-◌, ℕ, zero, suc, Bool, true, false, cond, List, [], ◌∷◌, Option, Some, None, refl, ap, ◌∙◌, arith, leb-true, leb-false}
use Rattle.std.specs.Prelude.{nat_eq, nat_le}
use Rattle.std.specs.List.{All}
use Rattle.std.proofs.lemmas.List.Elements.{All-head, All-tail}
use Rattle.afs_num.specs.Nodes.{is_between, node_number, same_node, IsNode}
use Rattle.afs_num.specs.declared.types.Node.{Node}
use Rattle.afs_num.specs.declared.types.Node.TheVariants.{Loc, Server, Client, Admin}
use Rattle.spec_breaks.specs.declared.types.OwedBreak.{OwedBreak}
use Rattle.spec_model.proofs.Basics.{both, same_node-refl}
use Rattle.spec_rows.specs.Callbacks as row
use Rattle.spec_rows.specs.Callbacks.{given_out, held_after, pumped, put_at, started_call, starts, starts_by, Started}
use Rattle.spec_rows.specs.States.{BackCall}
use Rattle.afs_server_parts.specs.Turning.{IsBreakToNode}

-- ---- nodes without an unanswered call

abbrev free_at : {A : Type 0} → Option A → ℕ
free_at None = 1
free_at (Some c) = 0

-- how many of the first so many nodes of one kind
abbrev free_to : (Node → Option BackCall) → (ℕ → Node) → ℕ → ℕ
free_to calls kind zero = 0
free_to calls kind (suc k) = free_at (calls (kind (suc k))) + free_to calls kind k

unfoldable free : (Node → Option BackCall) → ℕ
free calls = free_at (calls Loc) + (free_to calls Server 8 + (free_to calls Client 16 + free_to calls Admin 4))

few_at : {A : Type 0} (o : Option A) → free_at o ≤ 1
few_at None = omega arith
few_at (Some c) = omega arith

few_to : (calls : Node → Option BackCall) (kind : ℕ → Node) (m : ℕ) → free_to calls kind m ≤ m
few_to calls kind zero = omega arith
few_to calls kind (suc k) = let one = few_at (calls (kind (suc k))) in let rest = few_to calls kind k in omega (arith, one, rest)

few : (calls : Node → Option BackCall) → free calls ≤ 29
unfolding free
few calls =
    let loc = few_at (calls Loc) in
    let servers = few_to calls Server 8 in
    let clients = few_to calls Client 16 in
    let admins = few_to calls Admin 4 in
    omega (arith, loc, servers, clients, admins)

-- ---- a node that is called is one of them no more

fewer_at : {A : Type 0} (b : Bool) (c : A) (o : Option A) → b ≡ true → o ≡ None → free_at (cond b (Some c) o) + 1 ≤ free_at o
fewer_at {A} b c o called none = rw (called, none) (omega arith)

no_more_at : {A : Type 0} (b : Bool) (c : A) (o : Option A) → free_at (cond b (Some c) o) ≤ free_at o
no_more_at {A} true c o = omega arith
no_more_at {A} false c o = omega arith

module _ (n : Node) (c : BackCall) (calls : Node → Option BackCall) where
  called : Node → Option BackCall
  called = put_at n (Some c) calls

  no_more_to : (kind : ℕ → Node) (m : ℕ) → free_to (put_at n (Some c) calls) kind m ≤ free_to calls kind m
  no_more_to kind zero = omega arith
  no_more_to kind (suc k) = let one = no_more_at (same_node n (kind (suc k))) c (calls (kind (suc k))) in let rest = no_more_to kind k in omega (arith, one, rest)

  fewer_there : (m : Node) → m ≡ n → calls n ≡ None → free_at (put_at n (Some c) calls m) + 1 ≤ free_at (calls m)
  fewer_there m is none = fewer_at (same_node n m) c (calls m) (ap (same_node n) is ∙ same_node-refl n) (ap calls is ∙ none)

  fewer_by : (b : Bool) (kind : ℕ → Node) (i k : ℕ) → nat_le i k ≡ b → i ≤ suc k → kind i ≡ n → calls n ≡ None → (i ≤ k → free_to (put_at n (Some c) calls) kind k + 1 ≤ free_to calls kind k) →
      free_to (put_at n (Some c) calls) kind (suc k) + 1 ≤ free_to calls kind (suc k)
  fewer_by true kind i k e most is none ih =
      let rest = ih (leb-true i k e) in
      let one = no_more_at (same_node n (kind (suc k))) c (calls (kind (suc k))) in
      omega (arith, one, rest)
  fewer_by false kind i k e most is none ih =
      let above = leb-false i k e in
      let last : suc k ≡ i = omega (arith, above, most) in
      let one = fewer_there (kind (suc k)) (ap kind last ∙ is) none in
      let rest = no_more_to kind k in
      omega (arith, one, rest)

  fewer_to : (kind : ℕ → Node) (i m : ℕ) → 1 ≤ i → i ≤ m → kind i ≡ n → calls n ≡ None → free_to (put_at n (Some c) calls) kind m + 1 ≤ free_to calls kind m
  fewer_to kind i zero least most is none = absurd (omega (arith, least, most))
  fewer_to kind i (suc k) least most is none = fewer_by (nat_le i k) kind i k refl most is none (λ le. fewer_to kind i k least le is none)

  abbrev some : Node → Option Node
  some m = Some m

  some_of : (x y : Node) → some x ≡ some y → x ≡ y
  some_of x y e = cc

  fewer_in : (k : ℕ) (a b d e : Bool) → nat_eq k 0 ≡ a → is_between 1 8 k ≡ b → is_between 101 116 k ≡ d → is_between 201 204 k ≡ e →
      cond a (some Loc) (cond b (some (Server k)) (cond d (some (Client (k - 100))) (cond e (some (Admin (k - 200))) None))) ≡ some n → calls n ≡ None → free (put_at n (Some c) calls) + 1 ≤ free calls
  unfolding free
  fewer_in k true b d e x y z w is none =
      let loc = fewer_there Loc (some_of Loc n is) none in
      let servers = no_more_to Server 8 in
      let clients = no_more_to Client 16 in
      let admins = no_more_to Admin 4 in
      omega (arith, loc, servers, clients, admins)
  fewer_in k false true d e x y z w is none =
      let p = both (nat_le 1 k) (nat_le k 8) y in
      let loc = no_more_at (same_node n Loc) c (calls Loc) in
      let servers = fewer_to Server k 8 (leb-true 1 k p.0) (leb-true k 8 p.1) (some_of (Server k) n is) none in
      let clients = no_more_to Client 16 in
      let admins = no_more_to Admin 4 in
      omega (arith, loc, servers, clients, admins)
  fewer_in k false false true e x y z w is none =
      let p = both (nat_le 101 k) (nat_le k 116) z in
      let least = leb-true 101 k p.0 in
      let most = leb-true k 116 p.1 in
      let loc = no_more_at (same_node n Loc) c (calls Loc) in
      let servers = no_more_to Server 8 in
      let clients = fewer_to Client (k - 100) 16 (omega (arith, least)) (omega (arith, most)) (some_of (Client (k - 100)) n is) none in
      let admins = no_more_to Admin 4 in
      omega (arith, loc, servers, clients, admins)
  fewer_in k false false false true x y z w is none =
      let p = both (nat_le 201 k) (nat_le k 204) w in
      let least = leb-true 201 k p.0 in
      let most = leb-true k 204 p.1 in
      let loc = no_more_at (same_node n Loc) c (calls Loc) in
      let servers = no_more_to Server 8 in
      let clients = no_more_to Client 16 in
      let admins = fewer_to Admin (k - 200) 4 (omega (arith, least)) (omega (arith, most)) (some_of (Admin (k - 200)) n is) none in
      omega (arith, loc, servers, clients, admins)
  fewer_in k false false false false x y z w is none = absurd cc

  fewer : IsNode n → calls n ≡ None → free (put_at n (Some c) calls) + 1 ≤ free calls
  fewer node none =
      let k = node_number n in
      fewer_in k (nat_eq k 0) (is_between 1 8 k) (is_between 101 116 k) (is_between 201 204 k) refl refl refl refl node none

-- ---- the calls that are begun at the end of a step

start_draws : (me : Node) (boot : ℕ) (t : Started) (o : OwedBreak) (q : Option BackCall) → t.backs.calls o.client ≡ q → IsNode o.client →
    (starts_by me boot t o q).backs.last_call + free (starts_by me boot t o q).backs.calls ≤ t.backs.last_call + free t.backs.calls
start_draws me boot t o None none node = let less = fewer o.client (started_call t.backs o) t.backs.calls node none in omega (arith, less)
start_draws me boot t o (Some c) some node = omega arith

starts_draw : (me : Node) (boot : ℕ) (os : List OwedBreak) (t : Started) → All IsBreakToNode os → (starts me boot os t).backs.last_call + free (starts me boot os t).backs.calls ≤ t.backs.last_call + free t.backs.calls
starts_draw me boot [] t to = omega arith
starts_draw me boot (o ∷ os) t to =
    let first = start_draws me boot t o (t.backs.calls o.client) refl (All-head IsBreakToNode o os to) in
    let rest = starts_draw me boot os (starts_by me boot t o (t.backs.calls o.client)) (All-tail IsBreakToNode o os to) in
    omega (arith, first, rest)

start_lists : (me : Node) (boot : ℕ) (t : Started) (o : OwedBreak) (q : Option BackCall) → (starts_by me boot t o q).backs.lists ≡ t.backs.lists
start_lists me boot t o None = refl
start_lists me boot t o (Some c) = refl

starts_lists : (me : Node) (boot : ℕ) (os : List OwedBreak) (t : Started) → (starts me boot os t).backs.lists ≡ t.backs.lists
starts_lists me boot [] t = refl
starts_lists me boot (o ∷ os) t = starts_lists me boot os (starts_by me boot t o (t.backs.calls o.client)) ∙ start_lists me boot t o (t.backs.calls o.client)

-- the last number of a call after a step, where what it owes is to nodes
pub pumped_draws : (me : Node) (boot : ℕ) (t : row.CallbackStep) → All IsBreakToNode t.backs.lists.owed → (pumped me boot t).backs.last_call ≤ t.backs.last_call + 29
pumped_draws me boot t to =
    let drawn = starts_draw me boot t.backs.lists.owed (record { backs = held_after t; sent = given_out t }) to in
    let most = few t.backs.calls in
    omega (arith, drawn, most)

-- what is promised and owed is as before its end
pub pumped_lists : (me : Node) (boot : ℕ) (t : row.CallbackStep) → (pumped me boot t).backs.lists ≡ t.backs.lists
pumped_lists me boot t = starts_lists me boot t.backs.lists.owed (record { backs = held_after t; sent = given_out t })
