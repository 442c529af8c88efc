-- The walk over a history: what was decided is kept in mind, and each reply to a client is among it.
use Rattle.std.proofs.Common.{◌≡◌, ℕ, true, false, List, [], ◌∷◌, ◌++◌, Option, Some, None, refl, sym, ap, subst, ◌∙◌}
use Rattle.std.specs.Prelude.{⊤}
use Rattle.std.specs.List.{AllByRecursion}
use Rattle.std.proofs.lemmas.List.{append-nil}
use Rattle.afs_num.specs.declared.histories.Actor.TheVariants as actors
use Rattle.afs_num.specs.declared.messages.Message.{Message}
use Rattle.afs_num.specs.declared.messages.Received.TheVariants.{Whole}
use Rattle.afs_num.specs.declared.types.Head.{Head}
use Rattle.afs_num.specs.declared.types.Node.{Node}
use Rattle.afs_num.specs.declared.types.Node.TheVariants.{Admin, Client, Loc, Server}
use Rattle.spec_history.specs.declared.lines.Line.{Line}
use Rattle.spec_history.specs.declared.lines.Line.TheVariants as lines
use Rattle.spec_history.specs.declared.scripts.Script.{Script}
use Rattle.spec_rows.specs.Callbacks.{expired, turned_in}
use Rattle.spec_rows.specs.Hosts.{at_rest, in_boot, in_step, served_by, struck, Blow, Fall, HostStep}
use Rattle.spec_rows.specs.Runs.{message_at, Entry}
use Rattle.spec_rows.specs.ServerRow.{is_client}
use Rattle.spec_volrows.specs.FileRow.{file_row}
use Rattle.spec_volrows.specs.NodeHosts.{node_kind, NodeHost}
use Rattle.spec_volrows.specs.VolStates.{NodeState, Sending}
use Rattle.spec_volrows.specs.VolSteps.{node_file_decides, node_row}
use Rattle.spec_runs.specs.NodeRuns.{node_moved, node_start, server_stepped, CellInput, NodeCell, NodeLeads, NodeMoved}
use Rattle.law_walks.specs.Messages.{HaveSenders, IsOf}
use Rattle.law_walks.specs.Sends.{HeldIs, NodeIs}
use Rattle.law_walks.proofs.AllMessages.{all_put, grows}
use Rattle.law_walks.proofs.EachKind.{any_admin, any_client, any_database, each}
use Rattle.law_walks.proofs.Seats.{all_more, found_at, weaker_all, weaker_seats}
use Rattle.law_walks.proofs.Senders.{senders_are_told}
use Rattle.law_places.specs.Accepting.{cell_behind}
use Rattle.law_legal.proofs.BaseWords.{up_boot}
use Rattle.law_legal.proofs.ServerKeepsKeys.{does_given}
use Rattle.law_legal.specs.Ideal.{set_up_entry}
use Rattle.law_legal.specs.Past.{answered_key, called_key, given_message, lines_of, onto, sent_of, server_boot, IsCall}
use Rattle.law_replies.specs.Decided.{is_server, DecidesAnswer, IsAsDecided, OfMessages, RepliesAreDecided, WasDecided}
use Rattle.law_replies.specs.Heard.{AreHeard, IfGiven, IsAnswerOf, IsHeard, RunsAnswerTheirCalls}
use Rattle.law_replies.proofs.Answering.{answers_it, IsItsAnswer}
use Rattle.law_replies.proofs.Boots.{boots_first, boots_next, BootsAre}
use Rattle.law_replies.proofs.Hosting.{break_holds, crashed_holds, fail_holds, of_other, piece_holds, restarts_holds, serves_holds, stop_holds, told_later, woken_holds, FallDecided, Holds, HostHolds, IsOthers, IsSaid}

-- ---- weaker of all that a server has

weaker_host : (P Q : Message → Type 0) (S T : Sending → Type 0) (s : NodeState) → ((m : Message) → P m → Q m) → ((x : Sending) → S x → T x) → NodeIs P S s → NodeIs Q T s
weaker_host P Q S T s w v h = record {
  file = record {
    seats = weaker_seats P Q s.file.seats w h.file.seats;
    kept = weaker_seats P Q s.file.lasting.kept w h.file.kept;
    held = weaker_all (HeldIs P) (HeldIs Q) s.file.backs.held (λ x. w x.reply) h.file.held;
  };
  seats = weaker_seats P Q s.vol.seats w h.seats;
  held = weaker_all (HeldIs P) (HeldIs Q) s.vol.held (λ x. w x.reply) h.held;
  sendings = λ n. weaker_all S T (s.vol.sendings n) v (h.sendings n);
}

-- ---- a cell, behind these entries

record Good (D : Message → Type 0) (es : List Entry) (c : NodeCell) : Type 0 where
  hosts : (i : ℕ) → Holds D (lines_of es) (Server i) (c.hosts i)
  sent : AllByRecursion (IsSaid D (lines_of es)) c.sent

-- each message of an entry says of itself that it is of this node
abbrev SendersOf : Entry → Type 0
SendersOf e = (n : Node) → e.actor ≡ actors.Node n → AllByRecursion (IsOf n) e.sent

module _ (D E : Message → Type 0) (grow : (m : Message) → D m → E m) (es : List Entry) (c : NodeCell) (h : Good D es c) where
  said_later : (ls : List Line) (m : Message) → IsSaid D (lines_of es) m → IsSaid E (onto (lines_of es) ls) m
  said_later ls m k is = let z = k is in (grow m z.0, told_later ls (lines_of es) m z.1)

  host_later : (ls : List Line) (i : ℕ) → NodeIs (IsSaid E (onto (lines_of es) ls)) IsOthers (c.hosts i).state
  host_later ls i = weaker_host (IsSaid D (lines_of es)) (IsSaid E (onto (lines_of es) ls)) IsOthers IsOthers (c.hosts i).state (said_later ls) (λ x k. k) (h.hosts i).0

  fall_later : (me : Node) (s : NodeState) (d : Option Fall) → FallDecided D me s d → FallDecided E me s d
  fall_later me s None k = tt
  fall_later me s (Some at_rest) k = tt
  fall_later me s (Some in_boot) k = tt
  fall_later me s (Some (in_step m clock b)) k = λ is reply a. grow reply (k is reply a)

  holds_later : (ls : List Line) (i : ℕ) → Holds E (onto (lines_of es) ls) (Server i) (c.hosts i)
  holds_later ls i = (host_later ls i, fall_later (Server i) (c.hosts i).state (c.hosts i).down (h.hosts i).1)

  sent_later : (ls : List Line) → AllByRecursion (IsSaid E (onto (lines_of es) ls)) c.sent
  sent_later ls = weaker_all (IsSaid D (lines_of es)) (IsSaid E (onto (lines_of es) ls)) c.sent (said_later ls) h.sent

  -- what comes of a step
  record Next (m : NodeMoved) : Type 0 where
    good : SendersOf m.entry → ((reply : Message) → DecidesAnswer c m reply → E reply) → Good E (m.entry ∷ es) m.cell

  host_next : (i : ℕ) (s : HostStep NodeState) → (((reply : Message) → DecidesAnswer c (server_stepped c i s) reply → E reply) → HostHolds E (lines_of es) (Server i) s) → Next (server_stepped c i s)
  host_next i s k = record {
    good = λ senders new. let z = k new in record {
      hosts = all_put i (λ (j : ℕ) (x : NodeHost). Holds E (onto (lines_of es) s.lines) (Server j) x) s.host c.hosts z.holds (holds_later s.lines);
      sent = all_more (IsSaid E (onto (lines_of es) s.lines)) c.sent s.sent (sent_later s.lines) z.sent;
    };
  }

  -- what another node sends answers no client in a server's name
  all_other : (ls : List Line) (n : Node) (ms : List Message) → is_server n ≡ false → AllByRecursion (IsOf n) ms → AllByRecursion (IsSaid E ls) ms
  all_other ls n ms other k = weaker_all (IsOf n) (IsSaid E ls) ms (λ m of. of_other E ls m (ap is_server of ∙ other)) k

  other_next : (m : NodeMoved) (n : Node) → is_server n ≡ false → m.entry.actor ≡ actors.Node n → m.cell.hosts ≡ c.hosts → m.cell.sent ≡ c.sent ++ m.entry.sent → Next m
  other_next m n other who hosts sent = record {
    good = λ senders new. record {
      hosts = subst (λ (f : ℕ → NodeHost). (i : ℕ) → Holds E (onto (lines_of es) m.entry.lines) (Server i) (f i)) (sym hosts) (holds_later m.entry.lines);
      sent = subst (AllByRecursion (IsSaid E (onto (lines_of es) m.entry.lines))) (sym sent)
          (all_more (IsSaid E (onto (lines_of es) m.entry.lines)) c.sent m.entry.sent (sent_later m.entry.lines) (all_other (onto (lines_of es) m.entry.lines) n m.entry.sent other (senders n who)));
    };
  }

  silent_next : (m : NodeMoved) → m.cell.hosts ≡ c.hosts → m.cell.sent ≡ c.sent → Next m
  silent_next m hosts sent = record {
    good = λ senders new. record {
      hosts = subst (λ (f : ℕ → NodeHost). (i : ℕ) → Holds E (onto (lines_of es) m.entry.lines) (Server i) (f i)) (sym hosts) (holds_later m.entry.lines);
      sent = subst (AllByRecursion (IsSaid E (onto (lines_of es) m.entry.lines))) (sym sent) (sent_later m.entry.lines);
    };
  }

  next : (x : CellInput) → Next (node_moved c x)
  next x = each Next c (record {
    void = silent_next _ refl refl;
    ticks = λ n. silent_next _ refl refl;
    servers = record {
      serves = λ i place luck m up g. host_next i _ (λ new. serves_holds E (lines_of es) (Server i) (c.hosts i) (λ ls. host_later ls i) (holds_later [] i).1 c.clock place luck m
          (λ is reply a. new reply (record { server = i; place = place; luck = luck; call = m; up = up; given = g; step = refl; client = is; answer = a })));
      crashes = λ i up. host_next i _ (λ new. crashed_holds E (lines_of es) (Server i) (c.hosts i) (λ ls. host_later ls i) (holds_later [] i).1);
      stop_set = λ i calls pick up. host_next i _ (λ new. stop_holds E (lines_of es) (Server i) (c.hosts i) (λ ls. host_later ls i) (holds_later [] i).1 calls pick);
      fail_set = λ i call up. host_next i _ (λ new. fail_holds E (lines_of es) (Server i) (c.hosts i) (λ ls. host_later ls i) (holds_later [] i).1 call);
      restarts = λ i after o fall there down. host_next i _ (λ new. restarts_holds E (lines_of es) (Server i) (c.hosts i) (λ ls. host_later ls i) (holds_later [] i).1 c.clock c.count after o fall down);
      piece_late = λ i n p up is. host_next i _ (λ new. piece_holds E (lines_of es) (Server i) (c.hosts i) (λ ls. host_later ls i) (holds_later [] i).1 c.clock n p);
      break_late = λ i n b up is. host_next i _ (λ new. break_holds E (lines_of es) (Server i) (c.hosts i) (λ ls. host_later ls i) (holds_later [] i).1 c.clock n b);
      wakes = λ i up. host_next i _ (λ new. woken_holds E (lines_of es) (Server i) (c.hosts i) (λ ls. host_later ls i) (holds_later [] i).1 c.clock);
    };
    database = any_database Next c (λ s. other_next _ Loc refl refl refl refl);
    clients = any_client Next c (λ n s. other_next _ (Client n) refl refl refl refl) (λ n. other_next _ (Client n) refl refl refl refl) (λ n. other_next _ (Client n) refl refl refl refl);
    admins = any_admin Next c (λ n s. other_next _ (Admin n) refl refl refl refl) (λ n. other_next _ (Admin n) refl refl refl refl) (λ n. other_next _ (Admin n) refl refl refl refl);
  }) x

-- ---- the entry of a call

-- of the reply: the server was given its call
record RanAt (es : List Entry) (reply : Message) : Type 0 where
  newer : List Entry
  at : Entry
  older : List Entry
  split : es ≡ newer ++ (at ∷ older)
  node : at.actor ≡ actors.Node reply.head.from
  call : Message
  given : given_message at.lines (sent_of older) ≡ Some call
  is_call : IsCall call.carried
  callee : call.head.to ≡ reply.head.from
  key : called_key call.head ≡ answered_key reply.head
  opcode : call.head.opcode ≡ reply.head.opcode
  boot : call.head.boot ≡ reply.head.boot
  up : server_boot reply.head.from (lines_of older) ≡ Some reply.head.boot
  kind : IsAnswerOf call.carried reply.carried

ran_later : (e : Entry) (es : List Entry) (m : Message) → RanAt es m → RanAt (e ∷ es) m
ran_later e es m h = record {
  newer = e ∷ h.newer;
  at = h.at;
  older = h.older;
  split = ap (λ (xs : List Entry). e ∷ xs) h.split;
  node = h.node;
  call = h.call;
  given = h.given;
  is_call = h.is_call;
  callee = h.callee;
  key = h.key;
  opcode = h.opcode;
  boot = h.boot;
  up = h.up;
  kind = h.kind;
}

file_given : (me : Node) (s : NodeState) (clock place : ℕ) (m : Message) (sent : List Message) → is_client m.head.from ≡ true → given_message (node_row me s clock place (Whole m)).lines sent ≡ message_at sent place
unfolding node_row file_row
file_given me s clock place m sent is = rw is (does_given me s.file clock place (node_file_decides me s clock (Whole m)) (turned_in me s.file clock (expired clock s.file.backs) (node_file_decides me s clock (Whole m)) (Whole m)).lines sent)

served_given : (me : Node) (h : NodeHost) (clock place : ℕ) (m : Message) (b : Option Blow) (sent : List Message) → is_client m.head.from ≡ true → given_message (served_by (node_kind me) h clock place m b).lines sent ≡ message_at sent place
served_given me h clock place m None sent is = file_given me h.state clock place m sent is
served_given me h clock place m (Some b) sent is = refl

ran_here : (es : List Entry) (c : NodeCell) (m : NodeMoved) (reply : Message) → sent_of es ≡ c.sent → BootsAre c (lines_of es) → DecidesAnswer c m reply → RanAt (m.entry ∷ es) reply
ran_here es c m reply same boots d =
    let me : Node = Server d.server in
    let h : NodeHost = c.hosts d.server in
    let k : IsItsAnswer me h.state.file.lasting.boot d.call reply = answers_it me h.state c.clock d.call reply d.answer in
    let from : d.call.head.to ≡ reply.head.from = sym (ap (λ (x : Head). x.from) k.head) in
    record {
      newer = [];
      at = m.entry;
      older = es;
      split = refl;
      node = ap (λ (x : NodeMoved). x.entry.actor) d.step ∙ ap actors.Node (sym k.callee ∙ from);
      call = d.call;
      given = ap (λ (x : NodeMoved). given_message x.entry.lines (sent_of es)) d.step
          ∙ (served_given me h c.clock d.place d.call (struck h.armed d.luck _) (sent_of es) d.client ∙ (ap (λ (ms : List Message). message_at ms d.place) same ∙ d.given.sent));
      is_call = k.is_call;
      callee = from;
      key = sym (ap answered_key k.head);
      opcode = sym (ap (λ (x : Head). x.opcode) k.head);
      boot = k.boot ∙ sym (ap (λ (x : Head). x.boot) k.head);
      up = subst (λ (q : Node). server_boot q (lines_of es) ≡ Some reply.head.boot) (sym k.callee ∙ from)
          (boots d.server ∙ (ap (λ (f : Option Fall). up_boot f h.state.file.lasting.boot) d.up.up ∙ ap Some (sym (ap (λ (x : Head). x.boot) k.head))));
      kind = k.kind;
    }

-- ---- what was decided so far, in the steps and in the entries

abbrev Both : NodeCell → List CellInput → List Entry → Message → Type 0
Both first xs es m = WasDecided first xs m × RanAt es m

append_both : (a b d : List CellInput) → (a ++ b) ++ d ≡ a ++ (b ++ d)
append_both [] b d = refl
append_both (x ∷ a) b d = ap (λ (ys : List CellInput). x ∷ ys) (append_both a b d)

behind_one : (c : NodeCell) (xs : List CellInput) (x : CellInput) → cell_behind c (xs ++ x ∷ []) ≡ (node_moved (cell_behind c xs) x).cell
behind_one c [] x = refl
behind_one c (y ∷ xs) x = behind_one (node_moved c y).cell xs x

decided_later : (first : NodeCell) (xs : List CellInput) (x : CellInput) (m : Message) → WasDecided first xs m → WasDecided first (xs ++ x ∷ []) m
decided_later first xs x m h = record {
  before = h.before;
  input = h.input;
  after = h.after ++ x ∷ [];
  split = ap (λ (ys : List CellInput). ys ++ x ∷ []) h.split ∙ append_both h.before (h.input ∷ h.after) (x ∷ []);
  decides = h.decides;
}

decided_here : (first : NodeCell) (xs : List CellInput) (x : CellInput) (m : Message) → DecidesAnswer (cell_behind first xs) (node_moved (cell_behind first xs) x) m → WasDecided first (xs ++ x ∷ []) m
decided_here first xs x m d = record { before = xs; input = x; after = []; split = refl; decides = d }

-- ---- a run

record Stands (first : NodeCell) (xs : List CellInput) (es : List Entry) : Type 0 where
  good : Good (Both first xs es) es (cell_behind first xs)
  same : sent_of es ≡ (cell_behind first xs).sent
  boots : BootsAre (cell_behind first xs) (lines_of es)

stands_on : (first : NodeCell) (xs : List CellInput) (es : List Entry) (x : CellInput) → SendersOf (node_moved (cell_behind first xs) x).entry → Stands first xs es → Stands first (xs ++ x ∷ []) ((node_moved (cell_behind first xs) x).entry ∷ es)
stands_on first xs es x senders h =
    let c : NodeCell = cell_behind first xs in
    let m : NodeMoved = node_moved c x in
    let z : Good (Both first (xs ++ x ∷ []) (m.entry ∷ es)) (m.entry ∷ es) m.cell =
    (next (Both first xs es) (Both first (xs ++ x ∷ []) (m.entry ∷ es)) (λ r k. (decided_later first xs x r k.0, ran_later m.entry es r k.1)) es c h.good x).good senders (λ r d. (decided_here first xs x r d, ran_here es c m r h.same h.boots d)) in
    record {
      good = subst (Good (Both first (xs ++ x ∷ []) (m.entry ∷ es)) (m.entry ∷ es)) (sym (behind_one first xs x)) z;
      same = ap (λ (ms : List Message). ms ++ m.entry.sent) h.same ∙ (sym (grows c x) ∙ ap (λ (d : NodeCell). d.sent) (sym (behind_one first xs x)));
      boots = subst (λ (d : NodeCell). BootsAre d (lines_of (m.entry ∷ es))) (sym (behind_one first xs x)) (boots_next c es h.boots x);
    }

heard_of : (first : NodeCell) (xs : List CellInput) (es : List Entry) (m : Message) → IsSaid (Both first xs es) (lines_of es) m → IsHeard es m
heard_of first xs es m h is =
    let z = h is in
    let r : RanAt es m = z.0.1 in
    record { newer = r.newer; at = r.at; older = r.older; split = r.split; node = r.node; call = r.call; given = r.given; is_call = r.is_call; callee = r.callee; key = r.key; opcode = r.opcode; boot = r.boot; up = r.up; kind = r.kind; made = z.1 }

-- what is given was sent
at_is : (P : Message → Type 0) (sent : List Message) (place : ℕ) (o : Option Message) → AllByRecursion P sent → message_at sent place ≡ o → IfGiven P o
at_is P sent place None h is = tt
at_is P sent place (Some m) h is = found_at P place sent m h is

given_is : (P : Message → Type 0) (ls : List Line) (sent : List Message) → AllByRecursion P sent → IfGiven P (given_message ls sent)
given_is P [] sent h = tt
given_is P (lines.Given place ∷ ls) sent h = at_is P sent place (message_at sent place) h refl
given_is P (l ∷ ls) sent h = given_is P ls sent h

entry_heard : (first : NodeCell) (xs : List CellInput) (es : List Entry) (e : Entry) → Stands first xs es → IfGiven (IsHeard es) (given_message e.lines (sent_of es))
entry_heard first xs es e h =
    given_is (IsHeard es) e.lines (sent_of es)
    (weaker_all (IsSaid (Both first xs es) (lines_of es)) (IsHeard es) (sent_of es) (heard_of first xs es) (subst (AllByRecursion (IsSaid (Both first xs es) (lines_of es))) (sym h.same) h.good.sent))

follows : (first : NodeCell) (xs : List CellInput) (es : List Entry) (ys : List CellInput) (next_entries : List Entry) (end : NodeCell) → NodeLeads (cell_behind first xs) ys next_entries end → HaveSenders next_entries → Stands first xs es → AreHeard es next_entries
follows first xs es [] [] end is senders h = tt
follows first xs es [] (e ∷ next_entries) end is senders h = absurd is
follows first xs es (y ∷ ys) [] end is senders h = absurd is
follows first xs es (y ∷ ys) (e ∷ next_entries) end is senders h =
    let m : NodeMoved = node_moved (cell_behind first xs) y in
    let later : NodeLeads (cell_behind first (xs ++ y ∷ [])) ys next_entries end = subst (λ (c : NodeCell). NodeLeads c ys next_entries end) (sym (behind_one first xs y)) is.1 in
    let now : Stands first (xs ++ y ∷ []) (m.entry ∷ es) = stands_on first xs es y (subst SendersOf is.0 senders.0) h in
    (entry_heard first xs es e h, subst (λ (x : Entry). AreHeard (x ∷ es) next_entries) (sym is.0) (follows first (xs ++ y ∷ []) (m.entry ∷ es) ys next_entries end later senders.1 now))

first_stands : (s : Script) → Stands (node_start s) [] (set_up_entry s ∷ [])
first_stands s = record {
  good = record {
    hosts = λ i. (record { file = record { seats = tt; kept = tt; held = tt }; seats = tt; held = tt; sendings = λ n. tt }, tt);
    sent = tt;
  };
  same = refl;
  boots = boots_first s;
}

pub answers_heard : RunsAnswerTheirCalls
answers_heard s inputs history end leads = follows (node_start s) [] (set_up_entry s ∷ []) inputs history end leads (senders_are_told s inputs history end leads) (first_stands s)

-- ---- the same of cells, whatever their history

abbrev history_of : NodeCell → List CellInput → List Entry
history_of c [] = []
history_of c (x ∷ xs) = (node_moved c x).entry ∷ history_of (node_moved c x).cell xs

history_leads : (c : NodeCell) (xs : List CellInput) → NodeLeads c xs (history_of c xs) (cell_behind c xs)
history_leads c [] = refl
history_leads c (x ∷ xs) = (refl, history_leads (node_moved c x).cell xs)

abbrev Sound : NodeCell → List CellInput → Type 0
Sound first xs = OfMessages (IsAsDecided first xs) (cell_behind first xs)

sound_of : (first : NodeCell) (xs : List CellInput) (es : List Entry) → Stands first xs es → Sound first xs
sound_of first xs es h =
    let w : (m : Message) → IsSaid (Both first xs es) (lines_of es) m → IsAsDecided first xs m = λ m k is. (k is).0.0 in
    record {
      sent = weaker_all (IsSaid (Both first xs es) (lines_of es)) (IsAsDecided first xs) (cell_behind first xs).sent w h.good.sent;
      servers = λ i. weaker_host (IsSaid (Both first xs es) (lines_of es)) (IsAsDecided first xs) IsOthers (λ (x : Sending). ⊤) ((cell_behind first xs).hosts i).state w (λ x k. tt) (h.good.hosts i).0;
    }

sound_from : (first : NodeCell) (xs : List CellInput) (es : List Entry) (ys : List CellInput) → HaveSenders (history_of (cell_behind first xs) ys) → Stands first xs es → Sound first (xs ++ ys)
sound_from first xs es [] senders h = subst (Sound first) (sym (append-nil xs)) (sound_of first xs es h)
sound_from first xs es (y ∷ ys) senders h =
    let m : NodeMoved = node_moved (cell_behind first xs) y in
    subst (Sound first) (append_both xs (y ∷ []) ys)
    (sound_from first (xs ++ y ∷ []) (m.entry ∷ es) ys (subst (λ (c : NodeCell). HaveSenders (history_of c ys)) (sym (behind_one first xs y)) senders.1) (stands_on first xs es y senders.0 h))

pub replies_decided : RepliesAreDecided
replies_decided s inputs =
    sound_from (node_start s) [] (set_up_entry s ∷ []) inputs (senders_are_told s inputs (history_of (node_start s) inputs) (cell_behind (node_start s) inputs) (history_leads (node_start s) inputs)) (first_stands s)
