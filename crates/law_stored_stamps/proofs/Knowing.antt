-- What is known of messages: at which place an administrator's call was asked, and that a server which listed volumes for it has its stamp.
use Rattle.std.proofs.Common.{◌≡◌, ◌≤◌, ◌<◌, ◌⊎◌, inl, inr, ℕ, zero, suc, Bool, true, false, cond, List, [], ◌∷◌, Option, Some, None, refl, sym, ap, subst, ◌∙◌, arith}
use Rattle.std.proofs.Math.Nat.{le_refl, le_trans}
use Rattle.std.specs.Prelude.{⊤, nat_eq}
use Rattle.afs_num.specs.declared.messages.Call.{Call}
use Rattle.afs_num.specs.declared.messages.Carried.{Carried}
use Rattle.afs_num.specs.declared.messages.Carried.TheVariants as carried
use Rattle.afs_num.specs.declared.messages.Message.{Message}
use Rattle.afs_num.specs.declared.messages.Reply.TheVariants as tell
use Rattle.afs_num.specs.declared.types.Head.{Head}
use Rattle.afs_num.specs.declared.types.Node.{Node}
use Rattle.afs_num.specs.declared.types.Node.TheVariants.{Admin}
use Rattle.afs_num.specs.declared.volume_calls.VolReply.TheVariants as volumes
use Rattle.spec_adminrows.specs.Acts.{asks_at}
use Rattle.spec_adminrows.specs.AdminRow.{ask_of, errand_of, AdminState}
use Rattle.spec_adminrows.specs.declared.places.Place.{Place}
use Rattle.spec_adminrows.specs.declared.places.Place.TheVariants as places
use Rattle.spec_adminrows.specs.declared.turns.Ask.{Ask}
use Rattle.spec_adminrows.specs.declared.turns.Running.{Running}
use Rattle.spec_runs.specs.NodeRuns.{has_host, NodeCell}
use Rattle.law_stamps.specs.Stamps.{stored_stamp}
use Rattle.law_courses.specs.Courses.{IsUpTo}
use Rattle.law_stored_stamps.specs.Surveys.{IsStored, IsSurveyed}
use Rattle.law_stored_stamps.proofs.Surveyed.{IsBrought}

-- ---- the calls of an administrator, by their pairs of epoch and number

-- its last one
abbrev pub IsLast : ℕ → ℕ → AdminState → Type 0
IsLast epoch number a = (epoch ≡ a.epoch) × (number ≡ a.last)

-- the call is what this asks
pub record IsOfAsk (q : Ask) (head : Head) (call : Call) : Type 0 where
  pub asks : q.call ≡ call
  pub stamp : head.stamp ≡ q.stamp
  pub callee : head.to ≡ q.callee

-- An administrator's call: where it is the last one and the act still runs, it is that of the act's place.
pub record CallOf (c : NodeCell) (head : Head) (call : Call) (n : ℕ) : Type 0 where
  pub up_to : IsUpTo head.epoch head.number (c.admins n)
  pub now : IsLast head.epoch head.number (c.admins n) → (r : Running) → (c.admins n).running ≡ Some r → IsOfAsk (ask_of (c.admins n) r) head call

-- a list for an administrator: where it is for the last call, the server has the stamp
pub record ListFor (c : NodeCell) (head : Head) (n : ℕ) : Type 0 where
  pub up_to : IsUpTo head.epoch head.number (c.admins n)
  pub now : IsLast head.epoch head.number (c.admins n) → (r : Running) → (c.admins n).running ≡ Some r → IsBrought c (ask_of (c.admins n) r)

abbrev pub CallBy : NodeCell → Head → Call → Node → Type 0
CallBy c head call (Admin n) = CallOf c head call n
CallBy c head call node = ⊤

abbrev pub ListTo : NodeCell → Head → Node → Type 0
ListTo c head (Admin n) = ListFor c head n
ListTo c head node = ⊤

abbrev pub KnownBy : NodeCell → Head → Carried → Type 0
KnownBy c head (carried.Call user call) = CallBy c head call head.from
KnownBy c head (carried.Reply (tell.Volume (volumes.ListVols ls))) = ListTo c head head.to
KnownBy c head x = ⊤

abbrev pub Known : NodeCell → Message → Type 0
Known c m = KnownBy c m.head m.carried

-- ---- as the cell goes on

-- it made further calls
abbrev pub IsLater : AdminState → AdminState → Type 0
IsLater a b = (a.epoch < b.epoch) ⊎ ((a.epoch ≡ b.epoch) × (a.last < b.last))

-- it made none, and its act is the same, or has ended
pub record IsSame (a b : AdminState) : Type 0 where
  pub epoch : b.epoch ≡ a.epoch
  pub last : b.last ≡ a.last
  pub servers : b.servers ≡ a.servers
  pub running : (b.running ≡ a.running) ⊎ (b.running ≡ None)

abbrev pub GoesOn : AdminState → AdminState → Type 0
GoesOn a b = IsLater a b ⊎ IsSame a b

pub record Grows (c d : NodeCell) : Type 0 where
  pub hosts : (i family : ℕ) → stored_stamp c i family ≤ stored_stamp d i family
  pub count : d.host_count ≡ c.host_count
  pub admins : (n : ℕ) → GoesOn (c.admins n) (d.admins n)

pub same_on : (a : AdminState) → GoesOn a a
same_on a = inr (record { epoch = refl; last = refl; servers = refl; running = inl refl })

still_up_to : (epoch number : ℕ) (a b : AdminState) → IsUpTo epoch number a → GoesOn a b → IsUpTo epoch number b
still_up_to epoch number a b (inl below) (inl (inl later)) = inl (omega (arith, below, later))
still_up_to epoch number a b (inl below) (inl (inr later)) = let e : a.epoch ≡ b.epoch = later.0 in inl (omega (arith, below, e))
still_up_to epoch number a b (inl below) (inr same) = let e : b.epoch ≡ a.epoch = same.epoch in inl (omega (arith, below, e))
still_up_to epoch number a b (inr now) (inl (inl later)) = let e : epoch ≡ a.epoch = now.0 in inl (omega (arith, later, e))
still_up_to epoch number a b (inr now) (inl (inr later)) = let k : number ≤ a.last = now.1 in let l : a.last < b.last = later.1 in inr (now.0 ∙ later.0, omega (arith, k, l))
still_up_to epoch number a b (inr now) (inr same) = let k : number ≤ a.last = now.1 in let l : b.last ≡ a.last = same.last in inr (now.0 ∙ sym same.epoch, omega (arith, k, l))

-- what is its last call now, and of the act that runs, was so before
record Was (epoch number : ℕ) (a b : AdminState) (r : Running) : Type 0 where
  last : IsLast epoch number a
  running : a.running ≡ Some r
  servers : b.servers ≡ a.servers

ran : (a b : AdminState) (r : Running) → (b.running ≡ a.running) ⊎ (b.running ≡ None) → b.running ≡ Some r → a.running ≡ Some r
ran a b r (inl same) is = sym same ∙ is
ran a b r (inr none) is = let no : None ≡ Some r = sym none ∙ is in absurd cc

was : (epoch number : ℕ) (a b : AdminState) (r : Running) → IsUpTo epoch number a → GoesOn a b → IsLast epoch number b → b.running ≡ Some r → Was epoch number a b r
was epoch number a b r (inl below) (inl (inl later)) is run = let e : epoch ≡ b.epoch = is.0 in absurd (omega (arith, below, later, e))
was epoch number a b r (inl below) (inl (inr later)) is run = let e : epoch ≡ b.epoch = is.0 in let f : a.epoch ≡ b.epoch = later.0 in absurd (omega (arith, below, f, e))
was epoch number a b r (inl below) (inr same) is run = let e : epoch ≡ b.epoch = is.0 in let f : b.epoch ≡ a.epoch = same.epoch in absurd (omega (arith, below, f, e))
was epoch number a b r (inr now) (inl (inl later)) is run = let e : epoch ≡ b.epoch = is.0 in let f : epoch ≡ a.epoch = now.0 in absurd (omega (arith, later, f, e))
was epoch number a b r (inr now) (inl (inr later)) is run = let e : number ≡ b.last = is.1 in let k : number ≤ a.last = now.1 in let l : a.last < b.last = later.1 in absurd (omega (arith, l, k, e))
was epoch number a b r (inr now) (inr same) is run = record { last = (now.0, is.1 ∙ same.last); running = ran a b r same.running run; servers = same.servers }

-- a place stays as it is while no server forgets a stamp for a lower one
module _ (c d : NodeCell) (hosts : (i family : ℕ) → stored_stamp c i family ≤ stored_stamp d i family) (count : d.host_count ≡ c.host_count) where
  same_host : (i : ℕ) → has_host d i ≡ has_host c i
  same_host zero = refl
  same_host (suc i) = rw count refl

  still_stored : (family stamp : ℕ) (left : List ℕ) → IsStored c family stamp left → IsStored d family stamp left
  still_stored family stamp left h i there none = le_trans (h i (sym (same_host i) ∙ there) none) (hosts i family)

  pub stays_surveyed : (p : Place) → IsSurveyed c p → IsSurveyed d p
  stays_surveyed (places.Surveys h why s left seen) all = still_stored _ h.stamp (s ∷ left) all
  stays_surveyed (places.Plans h target) all = still_stored _ h.stamp [] all
  stays_surveyed (places.Moves m step) all = still_stored _ m.hold.stamp [] all
  stays_surveyed (places.Removes h seen step) all = still_stored _ h.stamp [] all
  stays_surveyed (places.Sweeps h spot left step) all = still_stored _ h.stamp [] all
  stays_surveyed (places.Asks cause h seen) all = still_stored _ h.stamp [] all
  stays_surveyed (places.Mends m step) all = still_stored m.volume m.stamp [] all
  stays_surveyed p all = tt

module _ (c d : NodeCell) (up : Grows c d) where
  pub still_surveyed : (p : Place) → IsSurveyed c p → IsSurveyed d p
  still_surveyed = stays_surveyed c d up.hosts up.count

  still_brought : (q : Ask) → IsBrought c q → IsBrought d q
  still_brought q h i call callee is = le_trans (h i call callee is) (up.hosts i _)

  still_call : (head : Head) (call : Call) (n : ℕ) → CallOf c head call n → CallOf d head call n
  still_call head call n h = record {
    up_to = still_up_to head.epoch head.number (c.admins n) (d.admins n) h.up_to (up.admins n);
    now = λ last r run.
        let w = was head.epoch head.number (c.admins n) (d.admins n) r h.up_to (up.admins n) last run in
        subst (λ (k : ℕ). IsOfAsk (asks_at (record { act = r.act; servers = k }) r.place) head call) (sym w.servers) (h.now w.last r w.running);
  }

  still_list : (head : Head) (n : ℕ) → ListFor c head n → ListFor d head n
  still_list head n h = record {
    up_to = still_up_to head.epoch head.number (c.admins n) (d.admins n) h.up_to (up.admins n);
    now = λ last r run.
        let w = was head.epoch head.number (c.admins n) (d.admins n) r h.up_to (up.admins n) last run in
        subst (λ (k : ℕ). IsBrought d (asks_at (record { act = r.act; servers = k }) r.place)) (sym w.servers) (still_brought _ (h.now w.last r w.running));
  }

  call_by : (head : Head) (call : Call) (n : Node) → CallBy c head call n → CallBy d head call n
  call_by head call (Admin n) h = still_call head call n h
  call_by head call n h = tt

  list_to : (head : Head) (n : Node) → ListTo c head n → ListTo d head n
  list_to head (Admin n) h = still_list head n h
  list_to head n h = tt

  known_by : (head : Head) (x : Carried) → KnownBy c head x → KnownBy d head x
  known_by head (carried.Call user call) h = call_by head call head.from h
  known_by head (carried.Reply (tell.Volume (volumes.ListVols ls))) h = list_to head head.to h
  known_by head x h = tt

  pub still_known : (m : Message) → Known c m → Known d m
  still_known m h = known_by m.head m.carried h
