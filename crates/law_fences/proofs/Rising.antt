-- The steps of an administrator: its calls go on, and the boots that it knows of servers are none that are still to come.
use Rattle.std.proofs.Common.{◌≡◌, ◌≤◌, ◌<◌, ◌⊎◌, inl, inr, ℕ, ◌+◌, Bool, true, false, cond, List, [], ◌∷◌, Option, Some, None, refl, sym, ap, subst, ◌∙◌, arith}
use Rattle.std.proofs.Math.Nat.{le_refl}
use Rattle.afs_num.specs.Nodes.{same_node}
use Rattle.afs_num.specs.declared.messages.Carried.{Carried}
use Rattle.afs_num.specs.declared.messages.Carried.TheVariants as carried
use Rattle.afs_num.specs.declared.messages.Message.{Message}
use Rattle.afs_num.specs.declared.messages.Received.TheVariants.{Whole}
use Rattle.afs_num.specs.declared.types.Head.{Head}
use Rattle.afs_num.specs.declared.types.Node.{Node}
use Rattle.afs_num.specs.declared.types.Node.TheVariants.{Server}
use Rattle.spec_history.specs.declared.lines.Line.{Line}
use Rattle.spec_history.specs.declared.lines.Line.TheVariants as lines
use Rattle.spec_history.specs.declared.scripts.AdminAct.{AdminAct}
use Rattle.law_legal.proofs.ClientCallsInBoot.{boot_here, boot_other}
use Rattle.spec_model.proofs.Basics.{same_node-true}
use Rattle.spec_model.specs.Calls.{admitted, is_sent_again, Admitted}
use Rattle.spec_model.specs.Calls as pairs
use Rattle.spec_rows.specs.ClientRow.{boot_of, with_boot}
use Rattle.spec_rows.specs.States.{KnownBoot}
use Rattle.spec_rows.specs.Steps.{Step}
use Rattle.spec_adminrows.specs.Acts.{answered, begins_with, refused}
use Rattle.spec_adminrows.specs.AdminRow.{admin_begin_row, admin_row, admin_timeout_line, admin_timeout_row, admits, ask_of, awaits, dump_held, errand_of, gets, hears, is_awaited, label_in, sends_again, told, turned, AdminState}
use Rattle.spec_adminrows.specs.Turns.{dead}
use Rattle.spec_adminrows.specs.declared.turns.Running.{Running}
use Rattle.spec_adminrows.specs.declared.turns.Turn.{Turn}
use Rattle.spec_adminrows.specs.declared.turns.Turn.TheVariants as turns
use Rattle.spec_runs.specs.NodeRuns.{NodeCell}
use Rattle.law_transactions.specs.Numbers.{boot_at}
use Rattle.law_fences.proofs.Knowing.{NoticeBy}

-- ---- boots that are known

-- of each server none that is still to come
abbrev pub BootsAre : NodeCell → List KnownBoot → Type 0
BootsAre c boots = (i : ℕ) → boot_of (Server i) boots ≤ boot_at c i

noticed_by : (c : NodeCell) (head : Head) (i : ℕ) (n : Node) → n ≡ Server i → NoticeBy c head n → head.boot ≤ boot_at c i
noticed_by c head i n is h = subst (NoticeBy c head) is h

with_one_by : (c : NodeCell) (head : Head) (boots : List KnownBoot) (i : ℕ) (b : Bool) → same_node head.from (Server i) ≡ b → NoticeBy c head head.from → BootsAre c boots → boot_of (Server i) (with_boot head.from head.boot boots) ≤ boot_at c i
with_one_by c head boots i true is h all = subst (λ (n : ℕ). n ≤ boot_at c i) (sym (boot_here head.from (Server i) head.boot boots is)) (noticed_by c head i head.from (same_node-true head.from (Server i) is) h)
with_one_by c head boots i false is h all = subst (λ (n : ℕ). n ≤ boot_at c i) (sym (boot_other head.from (Server i) head.boot boots is)) (all i)

with_one : (c : NodeCell) (head : Head) (boots : List KnownBoot) → NoticeBy c head head.from → BootsAre c boots → BootsAre c (with_boot head.from head.boot boots)
with_one c head boots h all i = with_one_by c head boots i (same_node head.from (Server i)) refl h all

-- ---- steps

pub record AdminGoes (c : NodeCell) (a : AdminState) (s : Step AdminState) : Type 0 where
  pub rises : (a.epoch < s.state.epoch) ⊎ ((a.epoch ≡ s.state.epoch) × (a.last ≤ s.state.last))
  pub boots : BootsAre c s.state.boots

module _ (c : NodeCell) (me : Node) (a : AdminState) (all : BootsAre c a.boots) where
  -- it asks nothing new
  rests : (s : Step AdminState) → s.state.epoch ≡ a.epoch → s.state.last ≡ a.last → BootsAre c s.state.boots → AdminGoes c a s
  rests s epoch last boots = record { rises = inr (sym epoch, (let e : s.state.last ≡ a.last = last in omega (arith, e))); boots = boots }

  asks : (s : Step AdminState) → s.state.epoch ≡ a.epoch → s.state.last ≡ a.last + 1 → BootsAre c s.state.boots → AdminGoes c a s
  asks s epoch last boots = record { rises = inr (sym epoch, (let e : s.state.last ≡ a.last + 1 = last in omega (arith, e))); boots = boots }

  turned_goes : (act : AdminAct) (ls : List Line) (t : Turn) → AdminGoes c a (turned me a act ls t)
  turned_goes act ls (turns.Goes p) = asks _ refl refl all
  turned_goes act ls (turns.Keeps label bytes p) = asks _ refl refl all
  turned_goes act ls (turns.Ends code) = rests _ refl refl all
  turned_goes act ls (turns.Sticks code) = rests _ refl refl all
  turned_goes act ls turns.Passes = rests _ refl refl all

  pub begun_goes : (act : AdminAct) → AdminGoes c a (admin_begin_row me a act)
  unfolding admin_begin_row
  begun_goes act = turned_goes act (lines.BeginAdmin me act ∷ []) (begins_with act (dump_held (label_in act) a.dumps))

  admits_goes : (place : ℕ) (head : Head) (o : Admitted Message) → AdminGoes c a (admits a place head o)
  admits_goes place head pairs.runs = rests _ refl refl all
  admits_goes place head (pairs.kept reply) = rests _ refl refl all
  admits_goes place head pairs.in_progress = rests _ refl refl all
  admits_goes place head pairs.older = rests _ refl refl all
  admits_goes place head (pairs.wrong_boot boot) = rests _ refl refl all

  -- by what it is told of a boot
  abbrev NoticeIs : Head → Carried → Type 0
  NoticeIs head x = x ≡ carried.Notice → NoticeBy c head head.from

  hears_goes : (place : ℕ) (r : Running) (head : Head) (x : Carried) → NoticeIs head x → AdminGoes c a (hears me a place r head x)
  hears_goes place r head (carried.Call user call) h = rests _ refl refl all
  hears_goes place r head (carried.Refusal code) h = turned_goes r.act (lines.Given place ∷ []) (refused r.place code)
  hears_goes place r head (carried.Reply reply) h = turned_goes r.act (lines.Given place ∷ []) (answered (errand_of a r.act) r.place reply)
  hears_goes place r head carried.Notice h = rests _ refl refl (with_one c head a.boots (h refl) all)

  either_goes : (b : Bool) (x y : Step AdminState) → AdminGoes c a x → AdminGoes c a y → AdminGoes c a (cond b x y)
  either_goes true x y h k = h
  either_goes false x y h k = k

  awaits_goes : (place : ℕ) (head : Head) (x : Carried) (o : Option Running) → NoticeIs head x → AdminGoes c a (awaits me a place head x o)
  awaits_goes place head x None h = rests _ refl refl all
  awaits_goes place head x (Some r) h = either_goes (is_awaited a head (ask_of a r)) _ (told a place []) (hears_goes place r head x h) (rests _ refl refl all)

  gets_goes : (place : ℕ) (head : Head) (x : Carried) → NoticeIs head x → AdminGoes c a (gets me a place head x)
  gets_goes place head (carried.Call user call) h = admits_goes place head (admitted a.epoch a.seats head)
  gets_goes place head (carried.Refusal code) h = awaits_goes place head (carried.Refusal code) a.running h
  gets_goes place head (carried.Reply reply) h = awaits_goes place head (carried.Reply reply) a.running h
  gets_goes place head carried.Notice h = awaits_goes place head carried.Notice a.running h

  pub given_goes : (place : ℕ) (m : Message) → (m.carried ≡ carried.Notice → NoticeBy c m.head m.head.from) → AdminGoes c a (admin_row me a place (Whole m))
  unfolding admin_row
  given_goes place m h = either_goes (same_node m.head.to me) _ (told a place []) (gets_goes place m.head m.carried h) (rests _ refl refl all)

  pub late_goes : (r : Running) → AdminGoes c a (admin_timeout_row me a r)
  unfolding admin_timeout_row
  late_goes r = either_goes (is_sent_again a.tries) (sends_again me a (ask_of a r)) _ (rests _ refl refl all) (turned_goes r.act (admin_timeout_line me a (ask_of a r) ∷ []) (refused r.place dead))
