-- What a client tells a server is the answer to a call of that server, and behind the drops of what the call breaks.
use Rattle.std.proofs.Common.{◌≡◌, ℕ, Bool, true, false, cond, List, [], ◌∷◌, ◌++◌, Option, Some, None, refl, sym, ap, subst, ◌∙◌, append-nil, nat_eq, eqb-true}
use Rattle.std.specs.List.{AllByRecursion}
use Rattle.std.specs.Prelude.{⊤}
use Rattle.afs_num.specs.declared.histories.Actor.{Actor}
use Rattle.afs_num.specs.declared.histories.Actor.TheVariants as actors
use Rattle.afs_num.specs.declared.messages.Carried.{Carried}
use Rattle.afs_num.specs.declared.messages.Message.{Message}
use Rattle.afs_num.specs.declared.messages.Received.TheVariants.{Whole}
use Rattle.afs_num.specs.declared.types.Head.{Head}
use Rattle.afs_num.specs.declared.types.Key.{Key}
use Rattle.afs_num.specs.declared.types.Node.{Node}
use Rattle.afs_num.specs.declared.types.Node.TheVariants.{Admin, Client, Loc, Server}
use Rattle.spec_history.specs.declared.scripts.Script.{Script}
use Rattle.law_legal.proofs.BaseLaws.{a_key}
use Rattle.law_legal.specs.Ideal.{set_up_entry}
use Rattle.law_legal.specs.Past.{called_key, sent_of, HasCode, IsCall}
use Rattle.spec_rows.specs.Runs.{message_at, Entry}
use Rattle.spec_rows.specs.States.{Seat}
use Rattle.spec_rows.specs.Steps.{Step}
use Rattle.spec_rows.specs.ServerRow.{replied}
use Rattle.spec_history.specs.declared.lines.Line.TheVariants as lines
use Rattle.spec_copyrows.specs.CopyRow.{copies_reborn, copy_begin_row, copy_row, copy_seek_row, copy_timeout_row}
use Rattle.spec_copyrows.specs.Sites.{CopyState}
use Rattle.spec_runs.specs.NodeRuns.{client_falls, client_moves, client_rises, node_moved, node_start, CellInput, NodeCell, NodeMoved}
use Rattle.law_walks.proofs.AllMessages.{all_put}
use Rattle.law_walks.proofs.EachKind.{any_admin, any_database, any_server, each}
use Rattle.law_walks.proofs.Seats.{all_more, weaker_all, weaker_seats}
use Rattle.law_walks.specs.Kinds.{Each, IsGiven, OfClients}
use Rattle.law_walks.specs.Messages.{IsOf}
use Rattle.law_walks.specs.Sends.{SeatsAre}
use Rattle.law_owed.proofs.Walk.{Senders}
use Rattle.law_settled.proofs.ClientAnswers.{DropsFor, DropsIn, IsTold, Makes}
use Rattle.law_settled.proofs.CopyAnswers.{client_begun, client_given, client_late, client_seek_late, CopyAnswers}

-- The past, split at an entry behind the sending of a call of this server to this client, of the key and the number of operation that this header
-- names. That entry drops what the call breaks.
pub record Handled (s c : Node) (head : Head) (es : List Entry) : Type 0 where
  pub newer : List Entry
  pub at : Entry
  pub older : List Entry
  pub split : es ≡ newer ++ (at ∷ older)
  pub place : ℕ
  pub call : Message
  pub sent : message_at (sent_of older) place ≡ Some call
  pub calls : IsCall call.carried
  pub under : called_key call.head ≡ a_key s head.epoch head.number
  pub to : call.head.to ≡ c
  pub opcode : call.head.opcode ≡ head.opcode
  pub drops : DropsFor s c call.carried at.lines

handled_over : (s c : Node) (head : Head) (e : Entry) (es : List Entry) → Handled s c head es → Handled s c head (e ∷ es)
handled_over s c head e es h = record {
  newer = e ∷ h.newer;
  at = h.at;
  older = h.older;
  split = ap (λ (xs : List Entry). e ∷ xs) h.split;
  place = h.place;
  call = h.call;
  sent = h.sent;
  calls = h.calls;
  under = h.under;
  to = h.to;
  opcode = h.opcode;
  drops = h.drops;
}

-- what this client keeps, or tells
abbrev pub TellsHandled : ℕ → List Entry → Message → Type 0
TellsHandled n es m = (i : ℕ) → m.head.to ≡ Server i → Handled (Server i) (Client n) m.head es

-- and of any message of a cell, where a client tells a server a code
abbrev pub IsAnswered : List Entry → Message → Type 0
IsAnswered es m = (i n : ℕ) → m.head.from ≡ Client n → m.head.to ≡ Server i → HasCode m.carried → Handled (Server i) (Client n) m.head es

pub record CellAnswers (c : NodeCell) (es : List Entry) : Type 0 where
  pub sent : sent_of es ≡ c.sent
  pub answered : AllByRecursion (IsAnswered es) (sent_of es)
  pub kept : (n : ℕ) → SeatsAre (TellsHandled n es) (c.clients n).client.seats

-- ---- one entry

older_answered : (e : Entry) (es : List Entry) (ms : List Message) → AllByRecursion (IsAnswered es) ms → AllByRecursion (IsAnswered (e ∷ es)) ms
older_answered e es ms h = weaker_all (IsAnswered es) (IsAnswered (e ∷ es)) ms (λ m k i n from to code. handled_over (Server i) (Client n) m.head e es (k i n from to code)) h

older_kept : (n : ℕ) (e : Entry) (es : List Entry) (seats : List Seat) → SeatsAre (TellsHandled n es) seats → SeatsAre (TellsHandled n (e ∷ es)) seats
older_kept n e es seats h = weaker_seats (TellsHandled n es) (TellsHandled n (e ∷ es)) seats (λ m k i to. handled_over (Server i) (Client n) m.head e es (k i to)) h

-- messages of another node than a client
others_answered : (q : Node) (es : List Entry) (ms : List Message) → ((n : ℕ) → q ≡ Client n → ⊥) → AllByRecursion (IsOf q) ms → AllByRecursion (IsAnswered es) ms
others_answered q es [] ne h = tt
others_answered q es (m ∷ ms) ne h = ((λ i n from to code. absurd (ne n (sym h.0 ∙ from))), others_answered q es ms ne h.1)

-- messages of a client
one_client : (n k : ℕ) → Client n ≡ Client k → n ≡ k
one_client n k e = cc

client_answered : (n : ℕ) (es : List Entry) (ms : List Message) → AllByRecursion (IsOf (Client n)) ms → AllByRecursion (IsTold (TellsHandled n es)) ms → AllByRecursion (IsAnswered es) ms
client_answered n es [] h k = tt
client_answered n es (m ∷ ms) h k = (
  (λ i j from to code. subst (λ (x : ℕ). Handled (Server i) (Client x) m.head es) (one_client n j (sym h.0 ∙ from)) (k.0 code i to)),
  client_answered n es ms h.1 k.1,
)

module _ (c : NodeCell) (es : List Entry) (h : CellAnswers c es) where
  -- the cell behind a step of another node, or of nobody
  beside : (m : NodeMoved) → m.cell.clients ≡ c.clients → m.cell.sent ≡ c.sent ++ m.entry.sent → AllByRecursion (IsAnswered (m.entry ∷ es)) m.entry.sent → CellAnswers m.cell (m.entry ∷ es)
  beside m same grown new = record {
    sent = ap (λ (ms : List Message). ms ++ m.entry.sent) h.sent ∙ sym grown;
    answered = all_more (IsAnswered (m.entry ∷ es)) (sent_of es) m.entry.sent (older_answered m.entry es (sent_of es) h.answered) new;
    kept = λ n. subst (λ (f : ℕ → CopyState). SeatsAre (TellsHandled n (m.entry ∷ es)) (f n).client.seats) (sym same) (older_kept n m.entry es (c.clients n).client.seats (h.kept n));
  }

  of_node : (q : Node) (m : NodeMoved) → ((n : ℕ) → q ≡ Client n → ⊥) → m.entry.actor ≡ actors.Node q → m.cell.clients ≡ c.clients → m.cell.sent ≡ c.sent ++ m.entry.sent → Senders m.entry → CellAnswers m.cell (m.entry ∷ es)
  of_node q m ne actor same grown senders = beside m same grown (others_answered q (m.entry ∷ es) m.entry.sent ne (senders q actor))

  -- behind one of a client
  moves : (n : ℕ) (s : Step CopyState) → CopyAnswers (TellsHandled n ((client_moves c n s).entry ∷ es)) (c.clients n).client.seats s → Senders (client_moves c n s).entry → CellAnswers (client_moves c n s).cell ((client_moves c n s).entry ∷ es)
  moves n s k senders =
      let e : Entry = (client_moves c n s).entry in
      record {
        sent = ap (λ (ms : List Message). ms ++ s.sent) h.sent;
        answered = all_more (IsAnswered (e ∷ es)) (sent_of es) s.sent (older_answered e es (sent_of es) h.answered) (client_answered n (e ∷ es) s.sent (senders (Client n) refl) k.sent);
        kept = all_put n (λ (j : ℕ) (x : CopyState). SeatsAre (TellsHandled j (e ∷ es)) x.client.seats) s.state c.clients (k.kept (older_kept n e es (c.clients n).client.seats (h.kept n))) (λ j. older_kept j e es (c.clients j).client.seats (h.kept j));
      }

  calls : (n : ℕ) (s : Step CopyState) → ((T : Message → Type 0) → CopyAnswers T (c.clients n).client.seats s) → Senders (client_moves c n s).entry → CellAnswers (client_moves c n s).cell ((client_moves c n s).entry ∷ es)
  calls n s w senders = moves n s (w (TellsHandled n ((client_moves c n s).entry ∷ es))) senders

  -- it answers the call that it was given
  makes : (n place : ℕ) (m : Message) (e : Entry) → IsGiven c place m (Client n) → Makes (TellsHandled n (e ∷ es)) (Client n) m e.lines
  makes n place m e g boot x to call drops i from = record {
    newer = [];
    at = e;
    older = es;
    split = refl;
    place = place;
    call = m;
    sent = subst (λ (ms : List Message). message_at ms place ≡ Some m) (sym h.sent) g.sent;
    calls = call;
    under = ap (λ (q : Node). a_key q m.head.epoch m.head.number) from;
    to = to;
    opcode = refl;
    drops = subst (λ (q : Node). DropsFor q (Client n) m.carried e.lines) from drops;
  }

  given : (n place : ℕ) (m : Message) → IsGiven c place m (Client n) → Senders (client_moves c n (copy_row (Client n) (c.clients n) c.clock place (Whole m))).entry
      → CellAnswers (client_moves c n (copy_row (Client n) (c.clients n) c.clock place (Whole m))).cell ((client_moves c n (copy_row (Client n) (c.clients n) c.clock place (Whole m))).entry ∷ es)
  given n place m g senders =
      let s : Step CopyState = copy_row (Client n) (c.clients n) c.clock place (Whole m) in
      let e : Entry = (client_moves c n s).entry in
      let T : Message → Type 0 = TellsHandled n (e ∷ es) in
      moves n s (client_given T (Client n) m e.lines (makes n place m e g) (c.clients n) c.clock place (older_kept n e es (c.clients n).client.seats (h.kept n)) (λ q d what z. z)) senders

abbrev pub Answered : List Entry → NodeMoved → Type 0
Answered es m = Senders m.entry → CellAnswers m.cell (m.entry ∷ es)

not_client : (i n : ℕ) → Server i ≡ Client n → ⊥
not_client i n e = absurd cc

not_admin : (i n : ℕ) → Admin i ≡ Client n → ⊥
not_admin i n e = absurd cc

not_loc : (n : ℕ) → Loc ≡ Client n → ⊥
not_loc n e = absurd cc

clients_each : (c : NodeCell) (es : List Entry) → CellAnswers c es → OfClients (Answered es) c
clients_each c es h = record {
  begins = λ n act up idle senders. calls c es h n (copy_begin_row (Client n) (c.clients n) c.clock act) (λ T. client_begun T (Client n) (c.clients n) c.clock act) senders;
  given = λ n place m up g senders. given c es h n place m g senders;
  seek_late = λ n k up is senders. calls c es h n (copy_seek_row (Client n) (c.clients n) k) (λ T. client_seek_late T (Client n) (c.clients n) k) senders;
  late = λ n act up is senders. calls c es h n (copy_timeout_row (Client n) (c.clients n) act) (λ T. client_late T (Client n) (c.clients n) act) senders;
  stops = λ n up senders. (let k = calls c es h n (record { state = copies_reborn c.handed (c.clients n); lines = lines.Crash (Client n) ∷ []; sent = [] }) (λ T. record { sent = tt; kept = λ x. tt }) senders in record { sent = k.sent; answered = k.answered; kept = k.kept });
  starts = λ n away senders. (let k = calls c es h n (record { state = c.clients n; lines = lines.Restart (Client n) (c.clients n).client.epoch ∷ []; sent = [] }) (λ T. record { sent = tt; kept = λ x. x }) senders in record { sent = k.sent; answered = k.answered; kept = k.kept });
}

answered_each : (c : NodeCell) (es : List Entry) → CellAnswers c es → Each (Answered es) c
answered_each c es h = record {
  void = λ senders. beside c es h _ refl (sym (append-nil c.sent)) tt;
  ticks = λ n senders. beside c es h _ refl (sym (append-nil c.sent)) tt;
  servers = any_server (Answered es) c (λ i s senders. of_node c es h (Server i) _ (not_client i) refl refl refl senders);
  database = any_database (Answered es) c (λ s senders. of_node c es h Loc _ not_loc refl refl refl senders);
  clients = clients_each c es h;
  admins = any_admin (Answered es) c (λ n s senders. of_node c es h (Admin n) _ (not_admin n) refl refl refl senders) (λ n senders. of_node c es h (Admin n) _ (not_admin n) refl refl refl senders)
      (λ n senders. of_node c es h (Admin n) _ (not_admin n) refl refl refl senders);
}

pub answered_on : (c : NodeCell) (es : List Entry) (x : CellInput) → CellAnswers c es → Senders (node_moved c x).entry → CellAnswers (node_moved c x).cell ((node_moved c x).entry ∷ es)
answered_on c es x h senders = each (Answered es) c (answered_each c es h) x senders

pub answered_first : (s : Script) → CellAnswers (node_start s) (set_up_entry s ∷ [])
answered_first s = record { sent = refl; answered = tt; kept = λ n. tt }
