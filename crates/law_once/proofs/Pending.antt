-- What a client asks under the key of its last call, and that a step goes on with it or makes a later call.
use Rattle.std.proofs.Common.{◌≡◌, ℕ, ◌+◌, ◌⊎◌, inl, inr, List, [], ◌∷◌, Option, Some, None, refl, sym, ap, subst, arith}
use Rattle.std.specs.List.{AllByRecursion}
use Rattle.afs_num.specs.declared.messages.Call.TheVariants as ask
use Rattle.afs_num.specs.declared.messages.Carried.{Carried}
use Rattle.afs_num.specs.declared.messages.Carried.TheVariants as carried
use Rattle.afs_num.specs.declared.messages.Message.{Message}
use Rattle.afs_num.specs.declared.types.Node.{Node}
use Rattle.afs_num.specs.declared.types.Node.TheVariants.{Loc}
use Rattle.spec_model.specs.CellRows as cell_rows
use Rattle.spec_model.specs.FsRows as file_rows
use Rattle.spec_rows.specs.ClientRow.{asking, call_by, call_message, call_of, ended, opcode_of, question, seek_message, seeking_for}
use Rattle.spec_rows.specs.Going.{next, ClientState, Going, Seek}
use Rattle.spec_rows.specs.States.{CacheEntry, Gift, Seat}
use Rattle.spec_rows.specs.Steps.{Step}
use Rattle.law_walks.specs.Sends.{SeatsAre}
use Rattle.law_legal.proofs.BaseLaws.{Below}
use Rattle.law_keys.specs.Asked.{IsCall}

-- ---- what waits for an answer

-- what stands in each message of a call
pub record ClientAsk : Type 0 where
  pub callee : Node
  pub opcode : ℕ
  pub carried : Carried

abbrev pub file_ask : Node → List ℕ → List Gift → Option Going → Option ClientAsk
file_ask callee user gifts None = None
file_ask callee user gifts (Some act) =
    Some (record { callee = callee; opcode = file_rows.call_number (call_by gifts (next act)); carried = carried.Call user (ask.File (call_by gifts (next act))) })

abbrev pub seek_ask : List ℕ → Option Seek → Option ClientAsk
seek_ask user None = None
seek_ask user (Some k) =
    Some (record { callee = Loc; opcode = cell_rows.call_number (ask.Location (question k.operand)); carried = carried.Call user (ask.Location (question k.operand)) })

-- the pair of the client's last call, and what it waits for: an answer of a server, or of the location database
pub record Pending : Type 0 where
  pub epoch : ℕ
  pub last : ℕ
  pub file : Option ClientAsk
  pub seek : Option ClientAsk

abbrev pub pending : ClientState → Pending
pending c = record { epoch = c.epoch; last = c.last; file = file_ask c.callee c.user c.gifts c.running; seek = seek_ask c.user c.seeking }

-- ---- behind a step

-- it waits for what it waited for
pub record Stays (p q : Pending) : Type 0 where
  pub epoch : q.epoch ≡ p.epoch
  pub last : q.last ≡ p.last
  pub file : (x : ClientAsk) → q.file ≡ Some x → p.file ≡ Some x
  pub seek : (x : ClientAsk) → q.seek ≡ Some x → p.seek ≡ Some x

-- or it made a later call, and waits for one answer at most
abbrev pub IsLaterCall : Pending → Pending → Type 0
IsLaterCall p q = Below p.epoch p.last q.epoch q.last × ((q.file ≡ None) ⊎ (q.seek ≡ None))

abbrev pub GoesOn : Pending → Pending → Type 0
GoesOn p q = IsLaterCall p q ⊎ Stays p q

-- ---- what it sends

abbrev pub IsOfAsk : ClientAsk → Message → Type 0
IsOfAsk q m = (m.head.to ≡ q.callee) × ((m.head.stamp ≡ 0) × ((m.head.opcode ≡ q.opcode) × (m.carried ≡ q.carried)))

-- a call is what it waits for now, under its last key
pub record IsNow (me : Node) (p : Pending) (m : Message) : Type 0 where
  pub from : m.head.from ≡ me
  pub epoch : m.head.epoch ≡ p.epoch
  pub number : m.head.number ≡ p.last
  pub asked : ClientAsk
  pub waits : (p.file ≡ Some asked) ⊎ (p.seek ≡ Some asked)
  pub of : IsOfAsk asked m

abbrev pub SaysNow : Node → Pending → Message → Type 0
SaysNow me p m = IsCall m.carried → IsNow me p m

abbrev pub NoCall : Message → Type 0
NoCall m = IsCall m.carried → ⊥

pub now_call : (me : Node) (b : ClientState) (act : Going) → b.running ≡ Some act → IsNow me (pending b) (call_message me b act)
now_call me b act is = record {
  from = refl;
  epoch = refl;
  number = refl;
  asked = record { callee = b.callee; opcode = opcode_of b act; carried = carried.Call b.user (ask.File (call_of b act)) };
  waits = inl (ap (file_ask b.callee b.user b.gifts) is);
  of = (refl, (refl, (refl, refl)));
}

pub now_seek : (me : Node) (b : ClientState) (k : Seek) → b.seeking ≡ Some k → IsNow me (pending b) (seek_message me b k.operand)
now_seek me b k is = record {
  from = refl;
  epoch = refl;
  number = refl;
  asked = record { callee = Loc; opcode = cell_rows.call_number (ask.Location (question k.operand)); carried = carried.Call b.user (ask.Location (question k.operand)) };
  waits = inr (ap (seek_ask b.user) is);
  of = (refl, (refl, (refl, refl)));
}

-- ---- a step, from what waited, with these kept replies before it: by the client behind it, and by what it sends

pub record Asks (me : Node) (p : Pending) (seats : List Seat) (b : ClientState) (ms : List Message) : Type 0 where
  pub epoch : b.epoch ≡ p.epoch
  pub goes : GoesOn p (pending b)
  pub sent : AllByRecursion (SaysNow me (pending b)) ms
  pub seats' : SeatsAre NoCall seats → SeatsAre NoCall b.seats

abbrev pub From : Node → ClientState → Step ClientState → Type 0
From me c s = Asks me (pending c) c.seats s.state s.sent

-- it is in the same place
pub same_goes : (p : Pending) → GoesOn p p
same_goes p = inr (record { epoch = refl; last = refl; file = λ x h. h; seek = λ x h. h })

module _ (me : Node) (a c : ClientState) (epoch : c.epoch ≡ a.epoch) (last : c.last ≡ a.last) (seats : c.seats ≡ a.seats) where
  kept : SeatsAre NoCall a.seats → SeatsAre NoCall c.seats
  kept k = subst (SeatsAre NoCall) (sym seats) k

  below : Below a.epoch a.last c.epoch (c.last + 1)
  below = inr (sym epoch, omega arith)

  pub calls_anew : (act : Going) → Asks me (pending a) a.seats (asking c act) (call_message me (asking c act) act ∷ [])
  calls_anew act = record { epoch = epoch; goes = inl (below, inr refl); sent = (λ call. now_call me (asking c act) act refl, tt); seats' = kept }

  pub seeks_anew : (k : Seek) (cache : List CacheEntry) → Asks me (pending a) a.seats (seeking_for c k cache) (seek_message me (seeking_for c k cache) k.operand ∷ [])
  seeks_anew k cache = record { epoch = epoch; goes = inl (below, inl refl); sent = (λ call. now_seek me (seeking_for c k cache) k refl, tt); seats' = kept }

  pub ends_idle : (cache : List CacheEntry) → Asks me (pending a) a.seats (ended c cache) []
  ends_idle cache = record { epoch = epoch; goes = inr (record { epoch = epoch; last = last; file = λ x h. absurd cc; seek = λ x h. absurd cc }); sent = tt; seats' = kept }
