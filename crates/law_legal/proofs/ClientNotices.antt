-- A notice of a client tells its epoch, however many servers a cell has.
use Rattle.law_legal.proofs.ActCallsInRuns.{quietly}
use Rattle.spec_history.specs.declared.lines.Line.{Line}
use Rattle.spec_history.specs.declared.lines.Line.TheVariants as lines
use Rattle.spec_history.specs.declared.scripts.Script.{Script}
use Rattle.law_legal.proofs.BaseLaws.{Each, OfNotice}
use Rattle.law_legal.proofs.ClientCalls.{AreReplies, IsAnswer, IsCallOf, Tame, answer_over, any_call, begins_tame, caller_at, given_tame, waits_tame, missed_tame, sought_tame}
use Rattle.law_legal.proofs.VolumeChanges.{run_each}
use Rattle.law_legal.proofs.CallKeysOnce.{IsKnown, any_told, by_key}
use Rattle.law_legal.proofs.RunsKnown.{Known, any_given}
use Rattle.law_legal.proofs.ClientLives.{Alive, Lived, alive_epoch, begun_alive, lived_first, lived_kept, told_alive, waited_alive, missed_alive}
use Rattle.law_legal.proofs.RunWalk.{EachMove, each_moved}
use Rattle.law_legal.proofs.ServerSeats.{AreSeated}
use Rattle.law_legal.specs.Ideal.{set_up_entry}
use Rattle.law_legal.specs.Lives.{epoch_after}
use Rattle.law_legal.specs.Parts.{EachEntry, EachSent}
use Rattle.law_legal.specs.Past.{HasCode, lines_of}
use Rattle.afs_num.specs.declared.histories.Actor.TheVariants as actors
use Rattle.afs_num.specs.declared.messages.Carried.{Carried}
use Rattle.afs_num.specs.declared.messages.Carried.TheVariants as carried
use Rattle.afs_num.specs.declared.messages.Message.{Message}
use Rattle.afs_num.specs.declared.messages.Received.TheVariants.{Whole}
use Rattle.afs_num.specs.declared.types.Head.{Head}
use Rattle.afs_num.specs.declared.types.Node.{Node}
use Rattle.afs_num.specs.declared.types.Node.TheVariants.{Client, Server}
use Rattle.spec_rows.specs.ClientRow.{begin_row, client_row, timeout_row, seek_timeout_row, sought_by}
use Rattle.spec_rows.specs.Going.{ClientState}
use Rattle.spec_rows.specs.Runs.{Cell, Entry, Moved, RunsTo, message_at, start}
use Rattle.spec_rows.specs.States.{Seat}
use Rattle.spec_rows.specs.Steps.{Step}
use Rattle.std.proofs.Common.{◌≡◌, ℕ, List, [], ◌∷◌, Option, Some, None, refl, sym, subst, ◌∙◌}
use Rattle.std.specs.Prelude.{⊤}

-- ---- what tells a code is no notice

pub coded_notice : (X : Type 0) (c : Carried) → HasCode c → OfNotice X c
coded_notice X (carried.Refusal code) h = tt
coded_notice X (carried.Reply reply) h = tt
coded_notice X (carried.Call user call) h = absurd h
coded_notice X carried.Notice h = absurd h

-- so among the replies that a client keeps is none
kept_replies : (K L : Head → Type 0) (me : Node) (seats : List Seat) → AreReplies K any_told seats → AreSeated me seats → AreReplies any_told L seats
kept_replies K L me seats r s n seat m at is =
    let a : IsAnswer any_told any_told m = answer_over K any_told any_told any_told (λ h x. tt) (λ h x. x) m (r n seat m at is) in
    (a.0, (a.1.0, coded_notice (L m.head) m.carried (s n seat m at is).reply.1))

any_notice : (c : Carried) → OfNotice ⊤ c
any_notice (carried.Refusal code) = tt
any_notice (carried.Reply reply) = tt
any_notice (carried.Call user call) = tt
any_notice carried.Notice = tt

-- ---- what it sends

abbrev pub TellsEpoch : ℕ → List Entry → Message → Type 0
TellsEpoch j past m = m.carried ≡ carried.Notice → epoch_after (Client j) (lines_of past) ≡ m.head.boot

abbrev OfEpoch : ℕ → Head → Type 0
OfEpoch epoch head = head.boot ≡ epoch

abbrev AnyBoot : Node → ℕ → Type 0
AnyBoot q boot = ⊤

each_told : (j epoch : ℕ) (past : List Entry) (ms : List Message) → epoch_after (Client j) (lines_of past) ≡ epoch → Each (λ m. OfNotice (OfEpoch epoch m.head) m.carried) ms → EachSent (TellsEpoch j) past ms
each_told j epoch past [] e h = tt
each_told j epoch past (m ∷ ms) e h = (λ is. (let told : m.head.boot ≡ epoch = subst (OfNotice (OfEpoch epoch m.head)) is h.0 in e ∙ sym told), each_told j epoch past ms e h.1)

-- ---- every step

abbrev pub OfClients : List Entry → Entry → Type 0
OfClients past e = (j : ℕ) → e.actor ≡ actors.Node (Client j) → EachSent (TellsEpoch j) (e ∷ past) e.sent

abbrev NoticeStep : Cell → List Entry → Moved → Type 0
NoticeStep c past m = OfClients past m.entry

one_client : (n j : ℕ) → actors.Node (Client n) ≡ actors.Node (Client j) → n ≡ j
one_client n j e = cc

abbrev of_client : ℕ → Step ClientState → Entry
of_client n st = record { actor = actors.Node (Client n); lines = st.lines; sent = st.sent; volumes = [] }

client_told : (s : Script) (c : Cell) (past : List Entry) (n : ℕ) (D : Option ℕ) (st : Step ClientState) → Lived s c past → Alive st.lines → Tame any_told (OfEpoch (c.clients n).epoch) AnyBoot D n (caller_at (c.clients n)) st → OfClients past (of_client n st)
client_told s c past n D st h alive t j is =
    subst (λ (k : ℕ). EachSent (TellsEpoch k) (of_client n st ∷ past) st.sent) (one_client n j is) (each_told n (c.clients n).epoch (of_client n st ∷ past) st.sent (alive_epoch (Client n) st.lines (lines_of past) alive ∙ h.1.1 n) t.notices)

seated : (s : Script) (c : Cell) (past : List Entry) (n : ℕ) → Lived s c past → AreReplies any_told (OfEpoch (c.clients n).epoch) (c.clients n).seats
seated s c past n h = let K : Known c past = h.0.0.0 in kept_replies (by_key (IsKnown K.keys.callees c.clients)) (OfEpoch (c.clients n).epoch) (Client n) (c.clients n).seats (K.keys.replies n) (h.0.0.1.seats n)

given_told : (s : Script) (c : Cell) (past : List Entry) (n place : ℕ) (m : Message) → Lived s c past → message_at c.sent place ≡ Some m → OfClients past (of_client n (client_row (Client n) (c.clients n) c.clock place (Whole m)))
given_told s c past n place m h at =
    let x : ClientState = c.clients n in
    let call : IsCallOf any_told x.epoch x.seats m.head m.carried = any_call any_told x.epoch x.seats m.head m.carried (any_given c past place m h.0.0.0 at) in
    client_told s c past n (Some place) (client_row (Client n) x c.clock place (Whole m)) h (told_alive (Client n) x c.clock place m) (given_tame any_told (OfEpoch x.epoch) AnyBoot n x c.clock place m (seated s c past n h) call refl (any_notice m.carried))

notice_moves : (s : Script) → EachMove (Lived s) NoticeStep
notice_moves s = record {
  void = λ c past h j is. tt;
  ticked = λ c past n h j is. tt;
  begun = λ c past n act h r z0. client_told s c past n None (begin_row (Client n) (c.clients n) c.clock act) h (begun_alive (Client n) (c.clients n) c.clock act) (begins_tame any_told (OfEpoch (c.clients n).epoch) AnyBoot n (c.clients n) c.clock act (seated s c past n h));
  told = λ c past n place m h at to un. given_told s c past n place m h at;
  sought = λ c past n place m k h at to z e. client_told s c past n (Some place) (sought_by (Client n) (c.clients n) c.clock place k m.head m.carried) h (quietly s c past n place m k (λ st. Alive st.lines) h.0.0.1 at z e (λ code. refl) refl refl)
      (sought_tame any_told (OfEpoch (c.clients n).epoch) AnyBoot n (c.clients n) c.clock place k m.head m.carried (λ b. tt) (seated s c past n h));
  missed = λ c past n k h r z. client_told s c past n None (seek_timeout_row (Client n) (c.clients n) k) h (missed_alive (Client n) (c.clients n) k) (missed_tame any_told (OfEpoch (c.clients n).epoch) AnyBoot n (c.clients n) k (seated s c past n h));
  loc = λ c past l ls ms h st j is. absurd cc;
  waited = λ c past n act h r. client_told s c past n None (timeout_row (Client n) (c.clients n) act) h (waited_alive (Client n) (c.clients n) act) (waits_tame any_told (OfEpoch (c.clients n).epoch) AnyBoot n (c.clients n) act r (seated s c past n h));
  fallen = λ c past n h j is. tt;
  risen = λ c past n h j is. tt;
  served = λ c past i place m armed h up at to j is. absurd cc;
  cut = λ c past i place m t h up at to j is. tt;
  stopped = λ c past i h up j is. tt;
  stop_set = λ c past i calls pick armed h up j is. tt;
  fail_set = λ c past i call armed h up j is. tt;
  timed = λ c past i n b armed h up at j is. absurd cc;
  woken = λ c past i armed h up j is. absurd cc;
  started = λ c past i after fall h down j is. absurd cc;
  early = λ c past i fall h down j is. tt;
  midway = λ c past i after fall h down j is. tt;
  full = λ c past i after fall h down j is. tt;
}

pub run_noticed : (s : Script) (h : List Entry) (end : Cell) → RunsTo h s end → EachEntry OfClients (set_up_entry s ∷ []) h
run_noticed s h end r =
    run_each (Lived s) OfClients (lived_kept s) (λ c past x so k. each_moved (Lived s) NoticeStep (notice_moves s) c past x so k) r.inputs s (set_up_entry s ∷ []) h end (lived_first s) r.leads
