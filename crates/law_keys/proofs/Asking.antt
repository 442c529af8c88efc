-- Under one key an administrator makes one call: what it asked under each key goes on, and no message of it has a later one.
use Rattle.std.proofs.Common.{◌≡◌, ◌⊎◌, inl, inr, ℕ, Bool, true, false, cond, List, [], ◌∷◌, ◌++◌, Option, Some, None, refl, sym, ap, subst, ◌∙◌, arith}
use Rattle.std.proofs.lemmas.List.{append-nil}
use Rattle.std.specs.List.{AllByRecursion}
use Rattle.afs_num.specs.Nodes.{same_node}
use Rattle.afs_num.specs.declared.histories.Actor.TheVariants as actors
use Rattle.afs_num.specs.declared.location_calls.LocCall.TheVariants as calls
use Rattle.afs_num.specs.declared.messages.Call.TheVariants as ask
use Rattle.afs_num.specs.declared.messages.Carried.{Carried}
use Rattle.afs_num.specs.declared.messages.Carried.TheVariants as carried
use Rattle.afs_num.specs.declared.messages.Message.{Message}
use Rattle.afs_num.specs.declared.messages.Received.TheVariants.{Whole}
use Rattle.afs_num.specs.declared.types.Head.{Head}
use Rattle.afs_num.specs.declared.types.Key.{Key}
use Rattle.afs_num.specs.declared.types.Node.{Node}
use Rattle.afs_num.specs.declared.types.Node.TheVariants.{Admin, Client, Loc, Server}
use Rattle.spec_history.specs.declared.lines.Line.{Line}
use Rattle.spec_history.specs.declared.lines.Line.TheVariants as lines
use Rattle.spec_history.specs.declared.scripts.AdminAct.{AdminAct}
use Rattle.spec_history.specs.declared.scripts.Script.{Script}
use Rattle.spec_adminrows.specs.Acts.{answered, begins_with, refused}
use Rattle.spec_adminrows.specs.AdminRow.{admin_begin_row, admin_reborn, admin_row, admin_timeout_row, admits, ask_message, ask_of, awaits, dump_held, errand_of, gets, hears, is_awaited, label_in, turned, AdminState}
use Rattle.spec_adminrows.specs.Turns.{dead}
use Rattle.spec_adminrows.specs.declared.turns.Ask.{Ask}
use Rattle.spec_adminrows.specs.declared.turns.Running.{Running}
use Rattle.spec_adminrows.specs.declared.turns.Turn.{Turn}
use Rattle.spec_adminrows.specs.declared.turns.Turn.TheVariants as turns
use Rattle.spec_model.specs.Calls.{admitted, is_sent_again, key_of, same_key, Admitted}
use Rattle.spec_model.specs.Calls as pairs
use Rattle.spec_model.specs.CellRows.{call_number}
use Rattle.spec_rows.specs.Callbacks.{put}
use Rattle.spec_rows.specs.Runs.{Entry}
use Rattle.spec_rows.specs.Steps.{Step}
use Rattle.spec_runs.specs.NodeRuns.{admin_falls, admin_moves, admin_rises, node_moved, node_start, CellInput, NodeCell, NodeLeads, NodeMoved}
use Rattle.law_walks.specs.Kinds.{Each}
use Rattle.law_walks.specs.Messages.{HaveSenders, IsOf}
use Rattle.law_walks.specs.Sends.{AnswersAre, AsksIs, SeatsAre}
use Rattle.law_walks.proofs.AdminSends.{admin_begun, admin_given, admin_late, AdminSends}
use Rattle.law_walks.proofs.EachKind.{any_client, any_database, any_server, each}
use Rattle.law_walks.proofs.Seats.{all_more, found_at, weaker_all, weaker_seats}
use Rattle.law_walks.proofs.Senders.{senders_are_told}
use Rattle.law_places.specs.Accepting.{cell_behind}
use Rattle.law_legal.proofs.BaseLaws.{at_put, below_not, below_up_to, same_key-refl, same_key-true, up_to_below, Below, UpTo}
use Rattle.law_keys.specs.Asked.{AreOneCall, CallsAreKnown, CallsAreOne, IsCall, IsUpToLast}

-- ---- an administrator goes on: with a later call, or with the one that it asks

record Stays (a b : AdminState) : Type 0 where
  epoch : b.epoch ≡ a.epoch
  last : b.last ≡ a.last
  asks : (r : Running) → b.running ≡ Some r → (q : Running) × ((a.running ≡ Some q) × (ask_of b r ≡ ask_of a q))

abbrev GoesOn : AdminState → AdminState → Type 0
GoesOn a b = Below a.epoch a.last b.epoch b.last ⊎ Stays a b

none_asks : (a b : AdminState) → b.epoch ≡ a.epoch → b.last ≡ a.last → b.running ≡ None → GoesOn a b
none_asks a b epoch last none = inr (record { epoch = epoch; last = last; asks = λ r is. let no : None ≡ Some r = sym none ∙ is in absurd cc })

as_was : (a b : AdminState) → b.epoch ≡ a.epoch → b.last ≡ a.last → b.running ≡ a.running → b.servers ≡ a.servers → GoesOn a b
as_was a b epoch last running servers = inr (record {
  epoch = epoch;
  last = last;
  asks = λ r is. (r, (sym running ∙ is, ap (λ (n : ℕ). ask_of (record a { servers = n }) r) servers));
})

turned_goes : (me : Node) (a : AdminState) (act : AdminAct) (ls : List Line) (t : Turn) → GoesOn a (turned me a act ls t).state
turned_goes me a act ls (turns.Goes p) = inl (inr (refl, omega (arith)))
turned_goes me a act ls (turns.Keeps label bytes p) = inl (inr (refl, omega (arith)))
turned_goes me a act ls (turns.Ends code) = none_asks a _ refl refl refl
turned_goes me a act ls (turns.Sticks code) = none_asks a _ refl refl refl
turned_goes me a act ls turns.Passes = as_was a a refl refl refl refl

begun_goes : (me : Node) (a : AdminState) (act : AdminAct) → GoesOn a (admin_begin_row me a act).state
unfolding admin_begin_row
begun_goes me a act = turned_goes me a act (lines.BeginAdmin me act ∷ []) (begins_with act (dump_held (label_in act) a.dumps))

admits_goes : (a : AdminState) (place : ℕ) (head : Head) (o : Admitted Message) → GoesOn a (admits a place head o).state
admits_goes a place head pairs.runs = as_was a _ refl refl refl refl
admits_goes a place head (pairs.kept reply) = as_was a a refl refl refl refl
admits_goes a place head pairs.in_progress = as_was a a refl refl refl refl
admits_goes a place head pairs.older = as_was a a refl refl refl refl
admits_goes a place head (pairs.wrong_boot boot) = as_was a a refl refl refl refl

hears_goes : (me : Node) (a : AdminState) (place : ℕ) (r : Running) (head : Head) (x : Carried) → GoesOn a (hears me a place r head x).state
hears_goes me a place r head (carried.Call user call) = as_was a a refl refl refl refl
hears_goes me a place r head (carried.Refusal code) = turned_goes me a r.act (lines.Given place ∷ []) (refused r.place code)
hears_goes me a place r head (carried.Reply reply) = turned_goes me a r.act (lines.Given place ∷ []) (answered (errand_of a r.act) r.place reply)
hears_goes me a place r head carried.Notice = as_was a _ refl refl refl refl

either_goes : (a : AdminState) (b : Bool) (x y : Step AdminState) → GoesOn a x.state → GoesOn a y.state → GoesOn a (cond b x y).state
either_goes a true x y h k = h
either_goes a false x y h k = k

awaits_goes : (me : Node) (a : AdminState) (place : ℕ) (head : Head) (x : Carried) (o : Option Running) → GoesOn a (awaits me a place head x o).state
awaits_goes me a place head x None = as_was a a refl refl refl refl
awaits_goes me a place head x (Some r) = either_goes a (is_awaited a head (ask_of a r)) _ _ (hears_goes me a place r head x) (as_was a a refl refl refl refl)

gets_goes : (me : Node) (a : AdminState) (place : ℕ) (head : Head) (x : Carried) → GoesOn a (gets me a place head x).state
gets_goes me a place head (carried.Call user call) = admits_goes a place head (admitted a.epoch a.seats head)
gets_goes me a place head (carried.Refusal code) = awaits_goes me a place head (carried.Refusal code) a.running
gets_goes me a place head (carried.Reply reply) = awaits_goes me a place head (carried.Reply reply) a.running
gets_goes me a place head carried.Notice = awaits_goes me a place head carried.Notice a.running

given_goes : (me : Node) (a : AdminState) (place : ℕ) (m : Message) → GoesOn a (admin_row me a place (Whole m)).state
unfolding admin_row
given_goes me a place m = either_goes a (same_node m.head.to me) _ _ (gets_goes me a place m.head m.carried) (as_was a a refl refl refl refl)

late_goes : (me : Node) (a : AdminState) (r : Running) → GoesOn a (admin_timeout_row me a r).state
unfolding admin_timeout_row
late_goes me a r = either_goes a (is_sent_again a.tries) _ _ (as_was a _ refl refl refl refl) (turned_goes me a r.act _ (refused r.place dead))

-- ---- what is asked under each key

abbrev key_at : ℕ → AdminState → Key
key_at n a = record { node = Admin n; epoch = a.epoch; number = a.last }

abbrev ask_by : AdminState → Option Running → Ask → Ask
ask_by a None old = old
ask_by a (Some r) old = ask_of a r

-- behind a step of an administrator
abbrev asked_then : (Key → Ask) → ℕ → AdminState → Key → Ask
asked_then asked n b k = cond (same_key k (key_at n b)) (ask_by b b.running (asked k)) (asked k)

abbrev IsOfAsk : Ask → Message → Type 0
IsOfAsk q m = (m.head.to ≡ q.callee) × ((m.head.stamp ≡ q.stamp) × ((m.head.opcode ≡ call_number q.call) × (m.carried ≡ carried.Call [] q.call)))

-- a call of an administrator is none later than its last, and what it asked under its key
abbrev IsKnown : (Key → Ask) → (ℕ → AdminState) → Message → Type 0
IsKnown asked admins m = (n : ℕ) → m.head.from ≡ Admin n → IsCall m.carried → IsUpToLast m (admins n) × IsOfAsk (asked (key_of m.head)) m

record Asks (asked : Key → Ask) (c : NodeCell) : Type 0 where
  calls : AllByRecursion (IsKnown asked c.admins) c.sent
  seats : (n : ℕ) → SeatsAre (IsKnown asked c.admins) (c.admins n).seats
  present : (n : ℕ) (r : Running) → (c.admins n).running ≡ Some r → asked (key_at n (c.admins n)) ≡ ask_of (c.admins n) r

record Knows (c : NodeCell) : Type 0 where
  asked : Key → Ask
  asks : Asks asked c

-- ---- a step of an administrator

admin_number : (i j : ℕ) → Admin i ≡ Admin j → i ≡ j
admin_number i j e = cc

module _ (asked : Key → Ask) (admins : ℕ → AdminState) (n : ℕ) (b : AdminState) (present : (j : ℕ) (r : Running) → (admins j).running ≡ Some r → asked (key_at j (admins j)) ≡ ask_of (admins j) r) (goes : GoesOn (admins n) b) where
  abbrev then : Key → Ask
  then = asked_then asked n b

  now_by : (t : Bool) (r : Running) → t ≡ true → b.running ≡ Some r → cond t (ask_by b b.running (asked (key_at n b))) (asked (key_at n b)) ≡ ask_of b r
  now_by true r is running = ap (λ (o : Option Running). ask_by b o (asked (key_at n b))) running
  now_by false r is running = absurd cc

  now : (r : Running) → b.running ≡ Some r → then (key_at n b) ≡ ask_of b r
  now r running = now_by (same_key (key_at n b) (key_at n b)) r (same_key-refl (key_at n b)) running

  else_by : (t : Bool) (j : ℕ) → same_key (key_at j (admins j)) (key_at n b) ≡ t → (n ≡ j → ⊥) → cond t (ask_by b b.running (asked (key_at j (admins j)))) (asked (key_at j (admins j))) ≡ asked (key_at j (admins j))
  else_by true j is other = absurd (other (sym (admin_number j n (ap (λ (k : Key). k.node) (same_key-true (key_at j (admins j)) (key_at n b) is)))))
  else_by false j is other = refl

  present_then : (j : ℕ) (r : Running) → (put n b admins j).running ≡ Some r → then (key_at j (put n b admins j)) ≡ ask_of (put n b admins j) r
  present_then j = at_put n j (λ (x : AdminState). (r : Running) → x.running ≡ Some r → then (key_at j x) ≡ ask_of x r) b admins
      (λ same r is. subst (λ (i : ℕ). then (key_at i b) ≡ ask_of b r) same (now r is))
      (λ other r is. else_by (same_key (key_at j (admins j)) (key_at n b)) j refl other ∙ present j r is)

  -- a message that was sent before
  up_then : (m : Message) → IsUpToLast m (admins n) → IsUpToLast m b
  up_then m up = elim goes [
    | inl below ↦ below_up_to m.head.epoch m.head.number b.epoch b.last (up_to_below m.head.epoch m.head.number (admins n).epoch (admins n).last b.epoch b.last up below)
    | inr stays ↦ subst (λ (e : ℕ). UpTo m.head.epoch m.head.number e b.last) (sym stays.epoch) (subst (λ (k : ℕ). UpTo m.head.epoch m.head.number (admins n).epoch k) (sym stays.last) up)
  ]

  -- its key is the present one: then that was so before, and what is asked is the same
  same_ask : (o : Option Running) (m : Message) → b.running ≡ o → key_of m.head ≡ key_at n b → IsUpToLast m (admins n) → ask_by b o (asked (key_of m.head)) ≡ asked (key_of m.head)
  same_ask None m running is up = refl
  same_ask (Some r) m running is up = elim goes [
    | inl below ↦ absurd (below_not (admins n).epoch (admins n).last b.epoch b.last below
        (subst (λ (k : Key). UpTo k.epoch k.number (admins n).epoch (admins n).last) is up))
    | inr stays ↦ let z = stays.asks r running in
        z.1.1 ∙ (sym (present n z.0 z.1.0) ∙ ap asked (sym (is ∙ same_at stays)))
  ]
    where
      same_at : Stays (admins n) b → key_at n b ≡ key_at n (admins n)
      same_at s = ap (λ (e : ℕ). record { node = Admin n; epoch = e; number = b.last }) s.epoch ∙ ap (λ (k : ℕ). record { node = Admin n; epoch = (admins n).epoch; number = k }) s.last

  of_by : (t : Bool) (m : Message) (j : ℕ) → same_key (key_of m.head) (key_at n b) ≡ t → m.head.from ≡ Admin j → IsUpToLast m (admins j) → cond t (ask_by b b.running (asked (key_of m.head))) (asked (key_of m.head)) ≡ asked (key_of m.head)
  of_by true m j is from up =
      let key : key_of m.head ≡ key_at n b = same_key-true (key_of m.head) (key_at n b) is in
      let j_is : j ≡ n = admin_number j n (sym from ∙ ap (λ (k : Key). k.node) key) in
      same_ask b.running m refl key (subst (λ (i : ℕ). IsUpToLast m (admins i)) j_is up)
  of_by false m j is from up = refl

  known_then : (m : Message) → IsKnown asked admins m → IsKnown then (put n b admins) m
  known_then m h j from call =
      let k = h j from call in (
        at_put n j (λ (x : AdminState). IsUpToLast m x) b admins (λ same. up_then m (subst (λ (i : ℕ). IsUpToLast m (admins i)) (sym same) k.0)) (λ other. k.0),
        subst (λ (q : Ask). IsOfAsk q m) (sym (of_by (same_key (key_of m.head) (key_at n b)) m j refl from k.0)) k.1,
      )

  -- what it asks now
  asks_now : AsksIs (IsKnown then (put n b admins)) (Admin n) b
  asks_now r running j from call =
      let same : n ≡ j = admin_number n j from in (
        at_put n j (λ (x : AdminState). UpTo b.epoch b.last x.epoch x.last) b admins (λ is. inr (refl, omega (arith))) (λ other. absurd (other same)),
        subst (λ (q : Ask). IsOfAsk q (ask_message (Admin n) b (ask_of b r))) (sym (now r running)) (refl, (refl, (refl, refl))),
      )

  no_answer : (boot : ℕ) → AnswersAre (IsKnown then (put n b admins)) (Admin n) boot
  no_answer boot = record { notice = λ head to j from call. absurd call; refusal = λ head code to j from call. absurd call }

module _ (c : NodeCell) (k : Knows c) where
  module _ (n : ℕ) (s : Step AdminState) (goes : GoesOn (c.admins n) s.state) where
    abbrev after : Message → Type 0
    after = IsKnown (asked_then k.asked n s.state) (put n s.state c.admins)

    older : (m : Message) → IsKnown k.asked c.admins m → after m
    older = known_then k.asked c.admins n s.state k.asks.present goes

    admin_known : AdminSends after s → Knows (admin_moves c n s).cell
    admin_known z = record {
      asked = asked_then k.asked n s.state;
      asks = record {
        calls = all_more after c.sent s.sent (weaker_all (IsKnown k.asked c.admins) after c.sent older k.asks.calls) z.sent;
        seats = λ j. at_put n j (λ (x : AdminState). SeatsAre after x.seats) s.state c.admins (λ same. z.seats) (λ other. weaker_seats (IsKnown k.asked c.admins) after (c.admins j).seats older (k.asks.seats j));
        present = present_then k.asked c.admins n s.state k.asks.present goes;
      };
    }

    asks_it : AsksIs after (Admin n) s.state
    asks_it = asks_now k.asked c.admins n s.state k.asks.present goes

    kept_it : SeatsAre after (c.admins n).seats
    kept_it = weaker_seats (IsKnown k.asked c.admins) after (c.admins n).seats older (k.asks.seats n)

  admin_begins : (n : ℕ) (act : AdminAct) → Knows (admin_moves c n (admin_begin_row (Admin n) (c.admins n) act)).cell
  admin_begins n act =
      let s : Step AdminState = admin_begin_row (Admin n) (c.admins n) act in
      let g : GoesOn (c.admins n) s.state = begun_goes (Admin n) (c.admins n) act in
      admin_known n s g (admin_begun (after n s g) (Admin n) (c.admins n) (kept_it n s g) act (asks_it n s g))

  admin_hears : (n place : ℕ) (m : Message) → Knows (admin_moves c n (admin_row (Admin n) (c.admins n) place (Whole m))).cell
  admin_hears n place m =
      let s : Step AdminState = admin_row (Admin n) (c.admins n) place (Whole m) in
      let g : GoesOn (c.admins n) s.state = given_goes (Admin n) (c.admins n) place m in
      admin_known n s g (admin_given (after n s g) (Admin n) (c.admins n) (kept_it n s g) place m (no_answer k.asked c.admins n s.state k.asks.present g (c.admins n).epoch) (asks_it n s g))

  admin_waits : (n : ℕ) (r : Running) → (c.admins n).running ≡ Some r → Knows (admin_moves c n (admin_timeout_row (Admin n) (c.admins n) r)).cell
  admin_waits n r is =
      let s : Step AdminState = admin_timeout_row (Admin n) (c.admins n) r in
      let g : GoesOn (c.admins n) s.state = late_goes (Admin n) (c.admins n) r in
      admin_known n s g (admin_late (after n s g) (Admin n) (c.admins n) (kept_it n s g) r is (asks_it n s g))

  -- ---- others: what they send says of itself that it is theirs

  abbrev Goes : NodeMoved → Type 0
  Goes m = ((q : Node) → m.entry.actor ≡ actors.Node q → AllByRecursion (IsOf q) m.entry.sent) → Knows m.cell

  not_admin : (q : Node) (ms : List Message) → ((n : ℕ) → q ≡ Admin n → ⊥) → AllByRecursion (IsOf q) ms → AllByRecursion (IsKnown k.asked c.admins) ms
  not_admin q ms not h = weaker_all (IsOf q) (IsKnown k.asked c.admins) ms (λ m of n from call. absurd (not n (sym of ∙ from))) h

  others : (d : NodeCell) (q : Node) (ms : List Message) → d.admins ≡ c.admins → d.sent ≡ c.sent ++ ms → ((n : ℕ) → q ≡ Admin n → ⊥) → AllByRecursion (IsOf q) ms → Knows d
  others d q ms admins sent not h = record {
    asked = k.asked;
    asks = record {
      calls = subst (AllByRecursion (IsKnown k.asked d.admins)) (sym sent) (subst (λ (f : ℕ → AdminState). AllByRecursion (IsKnown k.asked f) (c.sent ++ ms)) (sym admins) (all_more (IsKnown k.asked c.admins) c.sent ms k.asks.calls (not_admin q ms not h)));
      seats = subst (λ (f : ℕ → AdminState). (n : ℕ) → SeatsAre (IsKnown k.asked f) (f n).seats) (sym admins) k.asks.seats;
      present = subst (λ (f : ℕ → AdminState). (n : ℕ) (r : Running) → (f n).running ≡ Some r → k.asked (key_at n (f n)) ≡ ask_of (f n) r) (sym admins) k.asks.present;
    };
  }

  still : (d : NodeCell) → d.admins ≡ c.admins → d.sent ≡ c.sent → Knows d
  still d admins sent = others d Loc [] admins (sent ∙ sym (append-nil c.sent)) (λ n e. absurd cc) tt

  goes_each : Each Goes c
  goes_each = record {
    void = λ h. still _ refl refl;
    ticks = λ n h. still _ refl refl;
    servers = any_server Goes c (λ i s h. others _ (Server i) s.sent refl refl (λ n e. absurd cc) (h (Server i) refl));
    database = any_database Goes c (λ s h. others _ Loc s.sent refl refl (λ n e. absurd cc) (h Loc refl));
    clients = any_client Goes c (λ n s h. others _ (Client n) s.sent refl refl (λ j e. absurd cc) (h (Client n) refl)) (λ n h. others _ Loc [] refl refl (λ j e. absurd cc) tt) (λ n h. others _ Loc [] refl refl (λ j e. absurd cc) tt);
    admins = record {
      begins = λ n act up idle h. admin_begins n act;
      given = λ n place m up g h. admin_hears n place m;
      late = λ n r up is h. admin_waits n r is;
      stops = λ n up h. fallen n;
      starts = λ n gone h. risen n;
    };
  }
    where
      fallen : (n : ℕ) → Knows (admin_falls c n).cell
      fallen n =
          let z = admin_known n (record { state = admin_reborn (c.admins n); lines = lines.Crash (Admin n) ∷ []; sent = [] }) (inl (inl (omega (arith)))) (record { seats = tt; sent = tt }) in
          record { asked = z.asked; asks = record { calls = z.asks.calls; seats = z.asks.seats; present = z.asks.present } }

      risen : (n : ℕ) → Knows (admin_rises c n).cell
      risen n =
          let s : Step AdminState = record { state = c.admins n; lines = lines.Restart (Admin n) (c.admins n).epoch ∷ []; sent = [] } in
          let g : GoesOn (c.admins n) s.state = as_was (c.admins n) (c.admins n) refl refl refl refl in
          let z = admin_known n s g (record { seats = kept_it n s g; sent = tt }) in
          record { asked = z.asked; asks = record { calls = z.asks.calls; seats = z.asks.seats; present = z.asks.present } }

-- ---- a run

-- the entries of these inputs
abbrev entries_in : NodeCell → List CellInput → List Entry
entries_in c [] = []
entries_in c (x ∷ xs) = (node_moved c x).entry ∷ entries_in (node_moved c x).cell xs

they_lead : (c : NodeCell) (xs : List CellInput) → NodeLeads c xs (entries_in c xs) (cell_behind c xs)
they_lead c [] = refl
they_lead c (x ∷ xs) = (refl, they_lead (node_moved c x).cell xs)

run_knows : (c : NodeCell) (xs : List CellInput) → HaveSenders (entries_in c xs) → Knows c → Knows (cell_behind c xs)
run_knows c [] h k = k
run_knows c (x ∷ xs) h k = run_knows (node_moved c x).cell xs h.1 (each (Goes c k) c (goes_each c k) x h.0)

-- at set-up nothing was asked
first_ask : Ask
first_ask = record { callee = Loc; stamp = 0; call = ask.Location calls.GetNewVolumeId }

first_knows : (s : Script) → Knows (node_start s)
first_knows s = record { asked = λ k. first_ask; asks = record { calls = tt; seats = λ n. tt; present = λ n r is. absurd cc } }

knows : (s : Script) (inputs : List CellInput) → Knows (cell_behind (node_start s) inputs)
knows s inputs = run_knows (node_start s) inputs (senders_are_told s inputs (entries_in (node_start s) inputs) (cell_behind (node_start s) inputs) (they_lead (node_start s) inputs)) (first_knows s)

pub calls_known : CallsAreKnown
calls_known s inputs n place m at from call =
    let k : Knows (cell_behind (node_start s) inputs) = knows s inputs in
    (found_at (IsKnown k.asked (cell_behind (node_start s) inputs).admins) place (cell_behind (node_start s) inputs).sent m k.asks.calls at n from call).0

one_call : (q : Ask) (a b : Message) → IsOfAsk q a → IsOfAsk q b → AreOneCall a b
one_call q a b h k = record { to = h.0 ∙ sym k.0; stamp = h.1.0 ∙ sym k.1.0; opcode = h.1.1.0 ∙ sym k.1.1.0; carried = h.1.1.1 ∙ sym k.1.1.1 }

pub calls_one : CallsAreOne
calls_one s inputs n first second a b at_first at_second from call other key =
    let c : NodeCell = cell_behind (node_start s) inputs in
    let k : Knows c = knows s inputs in
    let same : b.head.from ≡ Admin n = sym (ap (λ (x : Key). x.node) key) ∙ from in
    one_call (k.asked (key_of b.head)) a b
    (subst (λ (x : Key). IsOfAsk (k.asked x) a) key (found_at (IsKnown k.asked c.admins) first c.sent a k.asks.calls at_first n from call).1)
    (found_at (IsKnown k.asked c.admins) second c.sent b k.asks.calls at_second n same other).1
