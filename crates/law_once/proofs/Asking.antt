-- Under one key a client makes one call: what it asked under each key goes on, and no message of it has a later one.
use Rattle.std.proofs.Common.{◌≡◌, ◌≤◌, ℕ, ◌⊎◌, inl, inr, Bool, true, false, cond, List, [], ◌∷◌, ◌++◌, Option, Some, None, refl, sym, ap, subst, ◌∙◌, arith}
use Rattle.std.proofs.lemmas.List.{append-nil}
use Rattle.std.specs.List.{AllByRecursion}
use Rattle.afs_num.specs.declared.histories.Actor.TheVariants as actors
use Rattle.afs_num.specs.declared.messages.Carried.TheVariants as carried
use Rattle.afs_num.specs.declared.messages.Message.{Message}
use Rattle.afs_num.specs.declared.messages.Received.TheVariants.{Whole}
use Rattle.afs_num.specs.declared.types.Key.{Key}
use Rattle.afs_num.specs.declared.types.Node.{Node}
use Rattle.afs_num.specs.declared.types.Node.TheVariants.{Admin, Client, Loc, Server}
use Rattle.spec_history.specs.declared.lines.Line.TheVariants as lines
use Rattle.spec_history.specs.declared.scripts.Script.{Script}
use Rattle.spec_copyrows.specs.CopyRow.{copies_reborn, copy_begin_row, copy_row, copy_seek_row, copy_timeout_row}
use Rattle.spec_copyrows.specs.Sites.{CopyState}
use Rattle.spec_model.specs.Calls.{key_of, same_key}
use Rattle.spec_rows.specs.Callbacks.{put}
use Rattle.spec_rows.specs.Runs.{Entry}
use Rattle.spec_rows.specs.Steps.{Step}
use Rattle.spec_runs.specs.NodeRuns.{client_falls, client_moves, client_rises, node_moved, node_start, CellInput, NodeCell, NodeLeads, NodeMoved}
use Rattle.law_walks.specs.Kinds.{Each}
use Rattle.law_walks.specs.Messages.{HaveSenders, IsOf}
use Rattle.law_walks.specs.Sends.{SeatsAre}
use Rattle.law_walks.proofs.EachKind.{any_admin, any_database, any_server, each}
use Rattle.law_walks.proofs.Seats.{all_more, found_at, weaker_all}
use Rattle.law_walks.proofs.Senders.{senders_are_told}
use Rattle.law_places.specs.Accepting.{cell_behind}
use Rattle.law_legal.proofs.BaseLaws.{at_put, below_not, below_up_to, same_key-refl, same_key-true, up_to_below, UpTo}
use Rattle.law_keys.specs.Asked.{AreOneCall, IsCall}
use Rattle.law_once.specs.Clients.{ClientCallsAreOne}
use Rattle.law_once.proofs.CopyAsks.{client_begun, client_given, client_late, client_seek_late, FromCopy}
use Rattle.law_once.proofs.Pending.{pending, same_goes, ClientAsk, IsLaterCall, IsNow, IsOfAsk, NoCall, Pending, SaysNow, Stays}

-- ---- what is asked under each key

abbrev waiting : NodeCell → ℕ → Pending
waiting c n = pending (c.clients n).client

abbrev key_at : ℕ → Pending → Key
key_at n p = record { node = Client n; epoch = p.epoch; number = p.last }

abbrev asked_by : Option ClientAsk → Option ClientAsk → ClientAsk → ClientAsk
asked_by (Some q) o old = q
asked_by None (Some q) old = q
asked_by None None old = old

-- behind a step in which a client made a later call
abbrev asked_then : (Key → ClientAsk) → ℕ → Pending → Key → ClientAsk
asked_then asked n b k = cond (same_key k (key_at n b)) (asked_by b.file b.seek (asked k)) (asked k)

abbrev IsUpTo : Message → Pending → Type 0
IsUpTo m p = UpTo m.head.epoch m.head.number p.epoch p.last

-- a call of a client is none later than its last, and what it asked under its key
abbrev pub IsKnown : (Key → ClientAsk) → (ℕ → CopyState) → Message → Type 0
IsKnown asked clients m = (n : ℕ) → m.head.from ≡ Client n → IsCall m.carried → IsUpTo m (pending (clients n).client) × IsOfAsk (asked (key_of m.head)) m

abbrev Waits : (Key → ClientAsk) → ℕ → Pending → Type 0
Waits asked n p = (q : ClientAsk) → (p.file ≡ Some q) ⊎ (p.seek ≡ Some q) → asked (key_at n p) ≡ q

pub record KnowsAsks (asked : Key → ClientAsk) (c : NodeCell) : Type 0 where
  pub calls : AllByRecursion (IsKnown asked c.clients) c.sent
  pub seats : (n : ℕ) → SeatsAre NoCall (c.clients n).client.seats
  pub waits : (n : ℕ) → Waits asked n (waiting c n)

pub record Knows (c : NodeCell) : Type 0 where
  pub asked : Key → ClientAsk
  pub asks : KnowsAsks asked c

client_number : (i j : ℕ) → Client i ≡ Client j → i ≡ j
client_number i j e = cc

-- a message that says what its node now waits for
now_known : (asked : Key → ClientAsk) (clients : ℕ → CopyState) (n : ℕ) (b : CopyState) (m : Message) → Waits asked n (pending b.client) → SaysNow (Client n) (pending b.client) m → IsKnown asked (put n b clients) m
now_known asked clients n b m waits says j from call =
    let now : IsNow (Client n) (pending b.client) m = says call in
    let same : n ≡ j = client_number n j (sym now.from ∙ from) in
    let key : key_of m.head ≡ key_at n (pending b.client) = ap (λ (x : Node). record { node = x; epoch = m.head.epoch; number = m.head.number }) now.from ∙ (ap (λ (e : ℕ). record { node = Client n; epoch = e; number = m.head.number }) now.epoch ∙ ap (λ (k : ℕ). record { node = Client n; epoch = b.client.epoch; number = k }) now.number) in (
      at_put n j (λ (x : CopyState). IsUpTo m (pending x.client)) b clients (λ is. inr (now.epoch, up_equal m.head.number b.client.last now.number)) (λ other. absurd (other same)),
      subst (λ (q : ClientAsk). IsOfAsk q m) (sym (ap asked key ∙ waits now.asked now.waits)) now.of,
    )
  where
    up_equal : (x y : ℕ) → x ≡ y → x ≤ y
    up_equal x y e = omega arith

-- ---- a step in which a client waits as before

module _ (asked : Key → ClientAsk) (clients : ℕ → CopyState) (waits : (j : ℕ) → Waits asked j (pending (clients j).client)) (n : ℕ) (b : CopyState) where
  module _ (stays : Stays (pending (clients n).client) (pending b.client)) where
    stays_waits : Waits asked n (pending b.client)
    stays_waits q h =
        subst (λ (e : ℕ). asked (record { node = Client n; epoch = e; number = b.client.last }) ≡ q) (sym stays.epoch) (subst (λ (k : ℕ). asked (record { node = Client n; epoch = (clients n).client.epoch; number = k }) ≡ q) (sym stays.last)
        (waits n q (elim h [ inl x ↦ inl (stays.file q x) | inr x ↦ inr (stays.seek q x) ])))

    stays_known : (m : Message) → IsKnown asked clients m → IsKnown asked (put n b clients) m
    stays_known m h j from call =
        let k = h j from call in (
          at_put n j (λ (x : CopyState). IsUpTo m (pending x.client)) b clients
              (λ same. subst (λ (e : ℕ). UpTo m.head.epoch m.head.number e b.client.last) (sym stays.epoch) (subst (λ (l : ℕ). UpTo m.head.epoch m.head.number (clients n).client.epoch l) (sym stays.last) (subst (λ (i : ℕ). IsUpTo m (pending (clients i).client)) (sym same) k.0)))
              (λ other. k.0),
          k.1,
        )

  -- ---- a step in which it made a later call

  module _ (later : IsLaterCall (pending (clients n).client) (pending b.client)) where
    abbrev then : Key → ClientAsk
    then = asked_then asked n (pending b.client)

    then_is : (t : Bool) → t ≡ true → (q old : ClientAsk) → (b.client.epoch ≡ b.client.epoch) → asked_by (pending b.client).file (pending b.client).seek old ≡ q → cond t (asked_by (pending b.client).file (pending b.client).seek old) old ≡ q
    then_is true is q old same h = h
    then_is false is q old same h = absurd cc

    by_waits : (f s : Option ClientAsk) (q old : ClientAsk) → (f ≡ None) ⊎ (s ≡ None) → (f ≡ Some q) ⊎ (s ≡ Some q) → asked_by f s old ≡ q
    by_waits (Some f) s q old (inl none) w = absurd cc
    by_waits (Some f) s q old (inr none) (inl is) = let e : f ≡ q = cc in e
    by_waits (Some f) s q old (inr none) (inr is) = let e : None ≡ Some q = sym none ∙ is in absurd cc
    by_waits None (Some s) q old one (inl is) = absurd cc
    by_waits None (Some s) q old one (inr is) = let e : s ≡ q = cc in e
    by_waits None None q old one (inl is) = absurd cc
    by_waits None None q old one (inr is) = absurd cc

    later_waits : Waits then n (pending b.client)
    later_waits q w = then_is (same_key (key_at n (pending b.client)) (key_at n (pending b.client))) (same_key-refl (key_at n (pending b.client))) q (asked (key_at n (pending b.client))) refl
        (by_waits (pending b.client).file (pending b.client).seek q (asked (key_at n (pending b.client))) later.1 w)

    -- under another key nothing is new
    else_by : (t : Bool) (k : Key) → same_key k (key_at n (pending b.client)) ≡ t → (k ≡ key_at n (pending b.client) → ⊥) → cond t (asked_by (pending b.client).file (pending b.client).seek (asked k)) (asked k) ≡ asked k
    else_by true k is other = absurd (other (same_key-true k (key_at n (pending b.client)) is))
    else_by false k is other = refl

    other_key : (j : ℕ) (p : Pending) → (n ≡ j → ⊥) → key_at j p ≡ key_at n (pending b.client) → ⊥
    other_key j p other is = other (sym (client_number j n (ap (λ (k : Key). k.node) is)))

    then_waits : (j : ℕ) → Waits then j (pending (put n b clients j).client)
    then_waits j = at_put n j (λ (x : CopyState). Waits then j (pending x.client)) b clients
        (λ same. subst (λ (i : ℕ). Waits then i (pending b.client)) same later_waits)
        (λ other q w. else_by (same_key (key_at j (pending (clients j).client)) (key_at n (pending b.client))) (key_at j (pending (clients j).client)) refl (other_key j (pending (clients j).client) other) ∙ waits j q w)

    -- a message that was sent before has another key
    not_now : (m : Message) (j : ℕ) → m.head.from ≡ Client j → IsUpTo m (pending (clients j).client) → key_of m.head ≡ key_at n (pending b.client) → ⊥
    not_now m j from up key =
        let j_is : j ≡ n = client_number j n (sym from ∙ ap (λ (k : Key). k.node) key) in
        below_not (clients n).client.epoch (clients n).client.last b.client.epoch b.client.last later.0
        (subst (λ (k : Key). UpTo k.epoch k.number (clients n).client.epoch (clients n).client.last) key (subst (λ (i : ℕ). IsUpTo m (pending (clients i).client)) j_is up))

    later_known : (m : Message) → IsKnown asked clients m → IsKnown then (put n b clients) m
    later_known m h j from call =
        let k = h j from call in (
          at_put n j (λ (x : CopyState). IsUpTo m (pending x.client)) b clients
              (λ same. below_up_to m.head.epoch m.head.number b.client.epoch b.client.last (up_to_below m.head.epoch m.head.number (clients n).client.epoch (clients n).client.last b.client.epoch b.client.last (subst (λ (i : ℕ). IsUpTo m (pending (clients i).client)) (sym same) k.0) later.0))
              (λ other. k.0),
          subst (λ (q : ClientAsk). IsOfAsk q m) (sym (else_by (same_key (key_of m.head) (key_at n (pending b.client))) (key_of m.head) refl (not_now m j from k.0))) k.1,
        )

-- ---- the steps of a cell

module _ (c : NodeCell) (k : Knows c) where
  module _ (n : ℕ) (s : Step CopyState) (x : FromCopy (Client n) (c.clients n) s) where
    abbrev now : ℕ → CopyState
    now = put n s.state c.clients

    seats_now : (j : ℕ) → SeatsAre NoCall (now j).client.seats
    seats_now j = at_put n j (λ (y : CopyState). SeatsAre NoCall y.client.seats) s.state c.clients (λ same. x.seats' (k.asks.seats n)) (λ other. k.asks.seats j)

    all_known : (asked : Key → ClientAsk) → ((m : Message) → IsKnown k.asked c.clients m → IsKnown asked now m) → Waits asked n (pending s.state.client) → AllByRecursion (IsKnown asked now) (c.sent ++ s.sent)
    all_known asked older waits = all_more (IsKnown asked now) c.sent s.sent (weaker_all (IsKnown k.asked c.clients) (IsKnown asked now) c.sent older k.asks.calls)
        (weaker_all (SaysNow (Client n) (pending s.state.client)) (IsKnown asked now) s.sent (λ m says. now_known asked c.clients n s.state m waits says) x.sent)

    stays_moved : Stays (waiting c n) (pending s.state.client) → Knows (client_moves c n s).cell
    stays_moved stays =
        let w : Waits k.asked n (pending s.state.client) = stays_waits k.asked c.clients k.asks.waits n s.state stays in
        record {
          asked = k.asked;
          asks = record {
            calls = all_known k.asked (stays_known k.asked c.clients k.asks.waits n s.state stays) w;
            seats = seats_now;
            waits = λ j. at_put n j (λ (y : CopyState). Waits k.asked j (pending y.client)) s.state c.clients (λ same. subst (λ (i : ℕ). Waits k.asked i (pending s.state.client)) same w) (λ other. k.asks.waits j);
          };
        }

    later_moved : IsLaterCall (waiting c n) (pending s.state.client) → Knows (client_moves c n s).cell
    later_moved later = record {
      asked = asked_then k.asked n (pending s.state.client);
      asks = record {
        calls = all_known (asked_then k.asked n (pending s.state.client)) (later_known k.asked c.clients k.asks.waits n s.state later) (later_waits k.asked c.clients k.asks.waits n s.state later);
        seats = seats_now;
        waits = then_waits k.asked c.clients k.asks.waits n s.state later;
      };
    }

    client_known : Knows (client_moves c n s).cell
    client_known = elim x.goes [ inl later ↦ later_moved later | inr stays ↦ stays_moved stays ]

  -- ---- others: what they send says of itself that it is theirs

  abbrev Goes : NodeMoved → Type 0
  Goes m = ((q : Node) → m.entry.actor ≡ actors.Node q → AllByRecursion (IsOf q) m.entry.sent) → Knows m.cell

  not_client : (q : Node) (ms : List Message) → ((n : ℕ) → q ≡ Client n → ⊥) → AllByRecursion (IsOf q) ms → AllByRecursion (IsKnown k.asked c.clients) ms
  not_client q ms not h = weaker_all (IsOf q) (IsKnown k.asked c.clients) ms (λ m of n from call. absurd (not n (sym of ∙ from))) h

  others : (d : NodeCell) (q : Node) (ms : List Message) → d.clients ≡ c.clients → d.sent ≡ c.sent ++ ms → ((n : ℕ) → q ≡ Client n → ⊥) → AllByRecursion (IsOf q) ms → Knows d
  others d q ms clients sent not h = record {
    asked = k.asked;
    asks = record {
      calls = subst (AllByRecursion (IsKnown k.asked d.clients)) (sym sent) (subst (λ (f : ℕ → CopyState). AllByRecursion (IsKnown k.asked f) (c.sent ++ ms)) (sym clients) (all_more (IsKnown k.asked c.clients) c.sent ms k.asks.calls (not_client q ms not h)));
      seats = subst (λ (f : ℕ → CopyState). (n : ℕ) → SeatsAre NoCall (f n).client.seats) (sym clients) k.asks.seats;
      waits = subst (λ (f : ℕ → CopyState). (n : ℕ) → Waits k.asked n (pending (f n).client)) (sym clients) k.asks.waits;
    };
  }

  still : (d : NodeCell) → d.clients ≡ c.clients → d.sent ≡ c.sent → Knows d
  still d clients sent = others d Loc [] clients (sent ∙ sym (append-nil c.sent)) (λ n e. absurd cc) tt

  goes_each : Each Goes c
  goes_each = record {
    void = λ h. still _ refl refl;
    ticks = λ n h. still _ refl refl;
    servers = any_server Goes c (λ i s h. others _ (Server i) s.sent refl refl (λ n e. absurd cc) (h (Server i) refl));
    database = any_database Goes c (λ s h. others _ Loc s.sent refl refl (λ n e. absurd cc) (h Loc refl));
    clients = record {
      begins = λ n act up idle h. client_known n (copy_begin_row (Client n) (c.clients n) c.clock act) (client_begun (Client n) (c.clients n) c.clock act);
      given = λ n place m up g h. client_known n (copy_row (Client n) (c.clients n) c.clock place (Whole m)) (client_given (Client n) (c.clients n) c.clock place m (k.asks.seats n));
      seek_late = λ n q up is h. client_known n (copy_seek_row (Client n) (c.clients n) q) (client_seek_late (Client n) (c.clients n) q is);
      late = λ n act up is h. client_known n (copy_timeout_row (Client n) (c.clients n) act) (client_late (Client n) (c.clients n) act is);
      stops = λ n up h. fallen n;
      starts = λ n away h. risen n;
    };
    admins = any_admin Goes c (λ n s h. others _ (Admin n) s.sent refl refl (λ j e. absurd cc) (h (Admin n) refl)) (λ n h. others _ Loc [] refl refl (λ j e. absurd cc) tt) (λ n h. others _ Loc [] refl refl (λ j e. absurd cc) tt);
  }
    where
      fallen : (n : ℕ) → Knows (client_falls c n).cell
      fallen n =
          let z = client_known n (record { state = copies_reborn c.handed (c.clients n); lines = lines.Crash (Client n) ∷ []; sent = [] }) (record { goes = inl (inl (omega (arith)), inl refl); sent = tt; seats' = λ h. tt }) in
          record { asked = z.asked; asks = record { calls = z.asks.calls; seats = z.asks.seats; waits = z.asks.waits } }

      risen : (n : ℕ) → Knows (client_rises c n).cell
      risen n =
          let z = client_known n (record { state = c.clients n; lines = lines.Restart (Client n) (c.clients n).client.epoch ∷ []; sent = [] }) (record { goes = same_goes (waiting c n); sent = tt; seats' = λ h. h }) in
          record { asked = z.asked; asks = record { calls = z.asks.calls; seats = z.asks.seats; waits = z.asks.waits } }

-- ---- a run

-- the entries of these inputs
abbrev entries_in : NodeCell → List CellInput → List Entry
entries_in c [] = []
entries_in c (x ∷ xs) = (node_moved c x).entry ∷ entries_in (node_moved c x).cell xs

they_lead : (c : NodeCell) (xs : List CellInput) → NodeLeads c xs (entries_in c xs) (cell_behind c xs)
they_lead c [] = refl
they_lead c (x ∷ xs) = (refl, they_lead (node_moved c x).cell xs)

run_knows : (c : NodeCell) (xs : List CellInput) → HaveSenders (entries_in c xs) → Knows c → Knows (cell_behind c xs)
run_knows c [] h k = k
run_knows c (x ∷ xs) h k = run_knows (node_moved c x).cell xs h.1 (each (Goes c k) c (goes_each c k) x h.0)

-- at set-up nothing was asked
first_ask : ClientAsk
first_ask = record { callee = Loc; opcode = 0; carried = carried.Notice }

no_wait : (q : ClientAsk) → (None ≡ Some q) ⊎ (None ≡ Some q) → ⊥
no_wait q (inl h) = absurd cc
no_wait q (inr h) = absurd cc

first_knows : (s : Script) → Knows (node_start s)
first_knows s = record { asked = λ k. first_ask; asks = record { calls = tt; seats = λ n. tt; waits = λ n q w. absurd (no_wait q w) } }

pub knows_asks : (s : Script) (inputs : List CellInput) → Knows (cell_behind (node_start s) inputs)
knows_asks s inputs = run_knows (node_start s) inputs (senders_are_told s inputs (entries_in (node_start s) inputs) (cell_behind (node_start s) inputs) (they_lead (node_start s) inputs)) (first_knows s)

one_call : (q : ClientAsk) (a b : Message) → IsOfAsk q a → IsOfAsk q b → AreOneCall a b
one_call q a b h k = record { to = h.0 ∙ sym k.0; stamp = h.1.0 ∙ sym k.1.0; opcode = h.1.1.0 ∙ sym k.1.1.0; carried = h.1.1.1 ∙ sym k.1.1.1 }

pub client_calls_one : ClientCallsAreOne
client_calls_one s inputs n first second a b at_first at_second from call other key =
    let c : NodeCell = cell_behind (node_start s) inputs in
    let k : Knows c = knows_asks s inputs in
    let same : b.head.from ≡ Client n = sym (ap (λ (x : Key). x.node) key) ∙ from in
    one_call (k.asked (key_of b.head)) a b
    (subst (λ (x : Key). IsOfAsk (k.asked x) a) key (found_at (IsKnown k.asked c.clients) first c.sent a k.asks.calls at_first n from call).1)
    (found_at (IsKnown k.asked c.clients) second c.sent b k.asks.calls at_second n same other).1
