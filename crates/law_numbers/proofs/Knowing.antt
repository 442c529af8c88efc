-- What is known of messages: calls write sound entries, and replies tell sound entries and numbers that were drawn. A number that is told for
-- the call of a release that still runs is another than its family's.
use Rattle.std.proofs.Common.{◌≡◌, ◌≤◌, ◌<◌, ◌⊎◌, inl, inr, ℕ, Some, None, refl, sym, ◌∙◌, arith}
use Rattle.std.specs.Prelude.{⊤}
use Rattle.afs_num.specs.declared.location_calls.LocCall.{LocCall}
use Rattle.afs_num.specs.declared.location_calls.LocCall.TheVariants as calls
use Rattle.afs_num.specs.declared.location_calls.LocReply.{LocReply}
use Rattle.afs_num.specs.declared.location_calls.LocReply.TheVariants as replies
use Rattle.afs_num.specs.declared.messages.Call.TheVariants as ask
use Rattle.afs_num.specs.declared.messages.Carried.{Carried}
use Rattle.afs_num.specs.declared.messages.Carried.TheVariants as carried
use Rattle.afs_num.specs.declared.messages.Message.{Message}
use Rattle.afs_num.specs.declared.messages.Reply.TheVariants as tell
use Rattle.afs_num.specs.declared.types.Head.{Head}
use Rattle.afs_num.specs.declared.types.Node.{Node}
use Rattle.afs_num.specs.declared.types.Node.TheVariants.{Admin}
use Rattle.spec_adminrows.specs.AdminRow.{AdminState}
use Rattle.spec_adminrows.specs.declared.turns.Running.{Running}
use Rattle.spec_runs.specs.NodeRuns.{NodeCell}
use Rattle.law_numbers.specs.Numbers.{next_volume, IsDrawn, IsSound, WritesSound}
use Rattle.law_numbers.proofs.Drawing.{still_drawn, still_sound}
use Rattle.law_numbers.proofs.Leading.{IsNewAt}

-- ---- the calls of an administrator, by their pairs of epoch and number

-- no later than its last one
abbrev pub IsUpTo : ℕ → ℕ → AdminState → Type 0
IsUpTo epoch number a = (epoch < a.epoch) ⊎ ((epoch ≡ a.epoch) × (number ≤ a.last))

-- its last one
abbrev pub IsLast : ℕ → ℕ → AdminState → Type 0
IsLast epoch number a = (epoch ≡ a.epoch) × (number ≡ a.last)

-- a number for an administrator: where it is for the last call, the act that runs may take it
pub record NewFor (c : NodeCell) (head : Head) (k n : ℕ) : Type 0 where
  pub up_to : IsUpTo head.epoch head.number (c.admins n)
  pub now : IsLast head.epoch head.number (c.admins n) → (r : Running) → (c.admins n).running ≡ Some r → IsNewAt k r.place

abbrev pub CallFrom : NodeCell → Head → Node → Type 0
CallFrom c head (Admin n) = IsUpTo head.epoch head.number (c.admins n)
CallFrom c head node = ⊤

abbrev pub NewTo : NodeCell → Head → ℕ → Node → Type 0
NewTo c head k (Admin n) = NewFor c head k n
NewTo c head k node = ⊤

abbrev pub ReplyIs : NodeCell → Head → LocReply → Type 0
ReplyIs c head (replies.SetLock stamp e) = IsSound (next_volume c) e
ReplyIs c head (replies.GetNewVolumeId k) = IsDrawn (next_volume c) k × NewTo c head k head.to
ReplyIs c head reply = ⊤

abbrev pub KnownBy : NodeCell → Head → Carried → Type 0
KnownBy c head (carried.Call user (ask.Location call)) = WritesSound (next_volume c) call × CallFrom c head head.from
KnownBy c head (carried.Reply (tell.Location reply)) = ReplyIs c head reply
KnownBy c head x = ⊤

abbrev pub Known : NodeCell → Message → Type 0
Known c m = KnownBy c m.head m.carried

-- ---- as the cell goes on

-- it made further calls
abbrev pub IsLater : AdminState → AdminState → Type 0
IsLater a b = (a.epoch < b.epoch) ⊎ ((a.epoch ≡ b.epoch) × (a.last < b.last))

-- it made none, and its act is the same, or has ended
pub record IsSame (a b : AdminState) : Type 0 where
  pub epoch : b.epoch ≡ a.epoch
  pub last : b.last ≡ a.last
  pub running : (b.running ≡ a.running) ⊎ (b.running ≡ None)

abbrev pub GoesOn : AdminState → AdminState → Type 0
GoesOn a b = IsLater a b ⊎ IsSame a b

pub record Grows (c d : NodeCell) : Type 0 where
  pub next : next_volume c ≤ next_volume d
  pub admins : (n : ℕ) → GoesOn (c.admins n) (d.admins n)

pub same_admin : (a : AdminState) → GoesOn a a
same_admin a = inr (record { epoch = refl; last = refl; running = inl refl })

pub still_up_to : (epoch number : ℕ) (a b : AdminState) → IsUpTo epoch number a → GoesOn a b → IsUpTo epoch number b
still_up_to epoch number a b (inl below) (inl (inl later)) = inl (omega (arith, below, later))
still_up_to epoch number a b (inl below) (inl (inr later)) = let e : a.epoch ≡ b.epoch = later.0 in inl (omega (arith, below, e))
still_up_to epoch number a b (inl below) (inr same) = let e : b.epoch ≡ a.epoch = same.epoch in inl (omega (arith, below, e))
still_up_to epoch number a b (inr now) (inl (inl later)) = let e : epoch ≡ a.epoch = now.0 in inl (omega (arith, later, e))
still_up_to epoch number a b (inr now) (inl (inr later)) = let k : number ≤ a.last = now.1 in let l : a.last < b.last = later.1 in inr (now.0 ∙ later.0, omega (arith, k, l))
still_up_to epoch number a b (inr now) (inr same) = let k : number ≤ a.last = now.1 in let l : b.last ≡ a.last = same.last in inr (now.0 ∙ sym same.epoch, omega (arith, k, l))

-- what is its last call now, and of the act that runs, was so before
record Was (epoch number : ℕ) (a : AdminState) (r : Running) : Type 0 where
  last : IsLast epoch number a
  running : a.running ≡ Some r

ran : (a b : AdminState) (r : Running) → (b.running ≡ a.running) ⊎ (b.running ≡ None) → b.running ≡ Some r → a.running ≡ Some r
ran a b r (inl same) is = sym same ∙ is
ran a b r (inr none) is = let no : None ≡ Some r = sym none ∙ is in absurd cc

was : (epoch number : ℕ) (a b : AdminState) (r : Running) → IsUpTo epoch number a → GoesOn a b → IsLast epoch number b → b.running ≡ Some r → Was epoch number a r
was epoch number a b r (inl below) (inl (inl later)) is run = let e : epoch ≡ b.epoch = is.0 in absurd (omega (arith, below, later, e))
was epoch number a b r (inl below) (inl (inr later)) is run = let e : epoch ≡ b.epoch = is.0 in let f : a.epoch ≡ b.epoch = later.0 in absurd (omega (arith, below, f, e))
was epoch number a b r (inl below) (inr same) is run = let e : epoch ≡ b.epoch = is.0 in let f : b.epoch ≡ a.epoch = same.epoch in absurd (omega (arith, below, f, e))
was epoch number a b r (inr now) (inl (inl later)) is run = let e : epoch ≡ b.epoch = is.0 in let f : epoch ≡ a.epoch = now.0 in absurd (omega (arith, later, f, e))
was epoch number a b r (inr now) (inl (inr later)) is run = let e : number ≡ b.last = is.1 in let k : number ≤ a.last = now.1 in let l : a.last < b.last = later.1 in absurd (omega (arith, l, k, e))
was epoch number a b r (inr now) (inr same) is run = record { last = (now.0, is.1 ∙ same.last); running = ran a b r same.running run }

module _ (c d : NodeCell) (up : Grows c d) where
  pub still_writes : (call : LocCall) → WritesSound (next_volume c) call → WritesSound (next_volume d) call
  still_writes (calls.CreateEntry e) h = still_sound (next_volume c) (next_volume d) e up.next h
  still_writes (calls.ReplaceEntry id e) h = (still_sound (next_volume c) (next_volume d) e up.next h.0, h.1)
  still_writes call h = tt

  still_from : (head : Head) (n : Node) → CallFrom c head n → CallFrom d head n
  still_from head (Admin n) h = still_up_to head.epoch head.number (c.admins n) (d.admins n) h (up.admins n)
  still_from head n h = tt

  still_to : (head : Head) (k : ℕ) (n : Node) → NewTo c head k n → NewTo d head k n
  still_to head k (Admin n) h = record {
    up_to = still_up_to head.epoch head.number (c.admins n) (d.admins n) h.up_to (up.admins n);
    now = λ last r run. let w = was head.epoch head.number (c.admins n) (d.admins n) r h.up_to (up.admins n) last run in h.now w.last r w.running;
  }
  still_to head k n h = tt

  still_reply : (head : Head) (reply : LocReply) → ReplyIs c head reply → ReplyIs d head reply
  still_reply head (replies.SetLock stamp e) h = still_sound (next_volume c) (next_volume d) e up.next h
  still_reply head (replies.GetNewVolumeId k) h = (still_drawn (next_volume c) (next_volume d) k up.next h.0, still_to head k head.to h.1)
  still_reply head reply h = tt

  known_by : (head : Head) (x : Carried) → KnownBy c head x → KnownBy d head x
  known_by head (carried.Call user (ask.Location call)) h = (still_writes call h.0, still_from head head.from h.1)
  known_by head (carried.Reply (tell.Location reply)) h = still_reply head reply h
  known_by head x h = tt

  pub still_known : (m : Message) → Known c m → Known d m
  still_known m h = known_by m.head m.carried h
