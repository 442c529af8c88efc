-- What is known of messages: the boots that calls and notices name, and what the transactions are that replies tell of.
use Rattle.std.proofs.Common.{◌≡◌, ◌≤◌, ◌<◌, ◌⊎◌, inl, inr, ℕ, Bool, true, false, cond, List, Option, Some, None, refl, sym, ap, subst, ◌∙◌, arith, eqb-true, eq-eqb}
use Rattle.std.proofs.Math.Nat.{le_refl, le_trans}
use Rattle.std.proofs.lemmas.Bool.Decides.{nat_tests}
use Rattle.std.specs.Prelude.{⊤, not}
use Rattle.afs_num.specs.declared.messages.Call.{Call}
use Rattle.afs_num.specs.declared.messages.Call.TheVariants as ask
use Rattle.afs_num.specs.declared.messages.Carried.{Carried}
use Rattle.afs_num.specs.declared.messages.Carried.TheVariants as carried
use Rattle.afs_num.specs.declared.messages.Message.{Message}
use Rattle.afs_num.specs.declared.messages.Reply.TheVariants as tell
use Rattle.afs_num.specs.declared.types.Head.{Head}
use Rattle.afs_num.specs.declared.types.Node.{Node}
use Rattle.afs_num.specs.declared.types.Node.TheVariants.{Admin, Server}
use Rattle.afs_num.specs.declared.volume_calls.VolCall.{VolCall}
use Rattle.afs_num.specs.declared.volume_calls.VolReply.TheVariants as volumes
use Rattle.spec_adminrows.specs.AdminRow.{AdminState}
use Rattle.law_legal.proofs.BaseLaws.{below-false, below-true, below_not, below_up_to, Below, UpTo}
use Rattle.spec_model.specs.Calls.{pair_below}
use Rattle.spec_rows.specs.Runs.{message_at}
use Rattle.spec_runs.specs.NodeRuns.{NodeCell}
use Rattle.law_transactions.specs.Begun.{AsksFor}
use Rattle.law_transactions.specs.Numbers.{boot_at}
use Rattle.law_fences.proofs.Live.{IsNumbered}

-- ---- bounds

-- At the moment when an administrator came to this number in this epoch, the server had this boot number, or a lower one. So no call of it under
-- an earlier number names a later boot of the server.
abbrev pub Bounds : Type 0
Bounds = ℕ → ℕ → ℕ → ℕ → ℕ

-- it is a pair of no later call than its last
abbrev pub IsPast : ℕ → ℕ → AdminState → Type 0
IsPast epoch number a = UpTo epoch number a.epoch a.last

abbrev pub is_past : ℕ → ℕ → AdminState → Bool
is_past epoch number a = not (pair_below a.epoch a.last epoch number)

past_by : (epoch number : ℕ) (a : AdminState) (b : Bool) → pair_below a.epoch a.last epoch number ≡ b → not b ≡ true → IsPast epoch number a
past_by epoch number a true e not_so = absurd cc
past_by epoch number a false e not_so = below-false a.epoch a.last epoch number e

pub past_is : (epoch number : ℕ) (a : AdminState) → is_past epoch number a ≡ true → IsPast epoch number a
past_is epoch number a e = past_by epoch number a (pair_below a.epoch a.last epoch number) refl e

is_by : (epoch number : ℕ) (a : AdminState) (b : Bool) → pair_below a.epoch a.last epoch number ≡ b → IsPast epoch number a → not b ≡ true
is_by epoch number a true e past = absurd (below_not a.epoch a.last epoch number (below-true a.epoch a.last epoch number e) past)
is_by epoch number a false e past = refl

pub is_past-true : (epoch number : ℕ) (a : AdminState) → IsPast epoch number a → is_past epoch number a ≡ true
is_past-true epoch number a past = is_by epoch number a (pair_below a.epoch a.last epoch number) refl past

-- new pairs are bound by the boots of the cell behind the step
abbrev pub bounds_on : NodeCell → NodeCell → Bounds → Bounds
bounds_on c d bounds n epoch number i = cond (is_past epoch number (c.admins n)) (bounds n epoch number i) (boot_at d i)

-- ---- messages

-- A call of an administrator to a server names no boot of it that is still to come; nor one above the bound of any later number.
pub record IsBound (bounds : Bounds) (c : NodeCell) (head : Head) (n i : ℕ) : Type 0 where
  pub past : IsPast head.epoch head.number (c.admins n)
  pub boot : head.boot ≤ boot_at c i
  pub held : (epoch number : ℕ) → Below head.epoch head.number epoch number → IsPast epoch number (c.admins n) → head.boot ≤ bounds n epoch number i

-- The reply tells the number of a transaction, which its call asked for; and the bound of its own number isn't above its boot.
pub record IsTold (bounds : Bounds) (c : NodeCell) (head : Head) (number n i : ℕ) : Type 0 where
  pub place : ℕ
  pub m : Message
  pub user : List ℕ
  pub call : VolCall
  pub volume : ℕ
  pub family : ℕ
  pub sent : message_at c.sent place ≡ Some m
  pub from : m.head.from ≡ Admin n
  pub to : m.head.to ≡ Server i
  pub in_epoch : m.head.epoch ≡ head.epoch
  pub of_number : m.head.number ≡ head.number
  pub asks : m.carried ≡ carried.Call user (ask.Volume call)
  pub begins : AsksFor volume family call
  pub named : IsNumbered c i head.boot number volume family m.head.stamp
  pub past : IsPast head.epoch head.number (c.admins n)
  pub after : bounds n head.epoch head.number i ≤ head.boot

abbrev pub CallBy : Bounds → NodeCell → Head → Node → Node → Type 0
CallBy bounds c head (Admin n) (Server i) = IsBound bounds c head n i
CallBy bounds c head from to = ⊤

abbrev pub NoticeBy : NodeCell → Head → Node → Type 0
NoticeBy c head (Server i) = head.boot ≤ boot_at c i
NoticeBy c head from = ⊤

abbrev pub ToldBy : Bounds → NodeCell → Head → ℕ → Node → Node → Type 0
ToldBy bounds c head number (Admin n) (Server i) = IsTold bounds c head number n i
ToldBy bounds c head number to from = ⊤

abbrev pub KnownBy : Bounds → NodeCell → Head → Carried → Type 0
KnownBy bounds c head (carried.Call user call) = CallBy bounds c head head.from head.to
KnownBy bounds c head carried.Notice = NoticeBy c head head.from
KnownBy bounds c head (carried.Reply (tell.Volume (volumes.TransCreate number))) = ToldBy bounds c head number head.to head.from
KnownBy bounds c head (carried.Reply (tell.Volume (volumes.CreateVolume number))) = ToldBy bounds c head number head.to head.from
KnownBy bounds c head x = ⊤

abbrev pub Known : Bounds → NodeCell → Message → Type 0
Known bounds c m = KnownBy bounds c m.head m.carried

-- ---- as the cell goes on

pub record Grows (c d : NodeCell) : Type 0 where
  pub boots : (i : ℕ) → boot_at c i ≤ boot_at d i
  pub admins : (n epoch number : ℕ) → IsPast epoch number (c.admins n) → IsPast epoch number (d.admins n)
  pub sent : (place : ℕ) (m : Message) → message_at c.sent place ≡ Some m → message_at d.sent place ≡ Some m
  pub named : (i boot number volume family stamp : ℕ) → IsNumbered c i boot number volume family stamp → IsNumbered d i boot number volume family stamp

module _ (bounds : Bounds) (c d : NodeCell) (up : Grows c d) where
  abbrev then : Bounds
  then = bounds_on c d bounds

  pub same_bound : (n epoch number i : ℕ) → IsPast epoch number (c.admins n) → then n epoch number i ≡ bounds n epoch number i
  same_bound n epoch number i past = ap (λ (b : Bool). cond b (bounds n epoch number i) (boot_at d i)) (is_past-true epoch number (c.admins n) past)

  held_by : (b : Bool) (boot n epoch number i : ℕ) → is_past epoch number (c.admins n) ≡ b → boot ≤ boot_at c i → (IsPast epoch number (c.admins n) → boot ≤ bounds n epoch number i) → boot ≤ cond b (bounds n epoch number i) (boot_at d i)
  held_by true boot n epoch number i is low held = held (past_is epoch number (c.admins n) is)
  held_by false boot n epoch number i is low held = le_trans low (up.boots i)

  still_bound : (head : Head) (n i : ℕ) → IsBound bounds c head n i → IsBound then d head n i
  still_bound head n i h = record {
    past = up.admins n head.epoch head.number h.past;
    boot = le_trans h.boot (up.boots i);
    held = λ epoch number below past. held_by (is_past epoch number (c.admins n)) head.boot n epoch number i refl h.boot (h.held epoch number below);
  }

  still_told : (head : Head) (number n i : ℕ) → IsTold bounds c head number n i → IsTold then d head number n i
  still_told head number n i h = record {
    place = h.place;
    m = h.m;
    user = h.user;
    call = h.call;
    volume = h.volume;
    family = h.family;
    sent = up.sent h.place h.m h.sent;
    from = h.from;
    to = h.to;
    in_epoch = h.in_epoch;
    of_number = h.of_number;
    asks = h.asks;
    begins = h.begins;
    named = up.named i head.boot number h.volume h.family h.m.head.stamp h.named;
    past = up.admins n head.epoch head.number h.past;
    after = subst (λ (b : ℕ). b ≤ head.boot) (sym (same_bound n head.epoch head.number i h.past)) h.after;
  }

  call_by : (head : Head) (from to : Node) → CallBy bounds c head from to → CallBy then d head from to
  call_by head (Admin n) (Server i) h = still_bound head n i h
  call_by head from to h = tt

  notice_by : (head : Head) (from : Node) → NoticeBy c head from → NoticeBy d head from
  notice_by head (Server i) h = le_trans h (up.boots i)
  notice_by head from h = tt

  told_by : (head : Head) (number : ℕ) (to from : Node) → ToldBy bounds c head number to from → ToldBy then d head number to from
  told_by head number (Admin n) (Server i) h = still_told head number n i h
  told_by head number to from h = tt

  known_by : (head : Head) (x : Carried) → KnownBy bounds c head x → KnownBy then d head x
  known_by head (carried.Call user call) h = call_by head head.from head.to h
  known_by head carried.Notice h = notice_by head head.from h
  known_by head (carried.Reply (tell.Volume (volumes.TransCreate number))) h = told_by head number head.to head.from h
  known_by head (carried.Reply (tell.Volume (volumes.CreateVolume number))) h = told_by head number head.to head.from h
  known_by head x h = tt

  pub still_known : (m : Message) → Known bounds c m → Known then d m
  still_known m h = known_by m.head m.carried h
