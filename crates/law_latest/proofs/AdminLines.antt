-- The steps of administrators tell lines of administrators alone.
use Rattle.std.proofs.Common.{◌≡◌, ℕ, Bool, true, false, cond, List, [], ◌∷◌, Option, Some, None, refl}
use Rattle.afs_num.specs.Nodes.{same_node}
use Rattle.afs_num.specs.declared.messages.Carried.{Carried}
use Rattle.afs_num.specs.declared.messages.Carried.TheVariants as carried
use Rattle.afs_num.specs.declared.messages.Message.{Message}
use Rattle.afs_num.specs.declared.messages.Received.TheVariants.{Whole}
use Rattle.afs_num.specs.declared.types.Head.{Head}
use Rattle.afs_num.specs.declared.types.Node.{Node}
use Rattle.spec_history.specs.declared.lines.Line.{Line}
use Rattle.spec_history.specs.declared.lines.Line.TheVariants as lines
use Rattle.spec_history.specs.declared.scripts.AdminAct.{AdminAct}
use Rattle.spec_model.specs.Calls.{admitted, is_sent_again, Admitted}
use Rattle.spec_model.specs.Calls as pairs
use Rattle.spec_rows.specs.Steps.{Step}
use Rattle.spec_adminrows.specs.Acts.{answered, begins_with, refused}
use Rattle.spec_adminrows.specs.AdminRow.{admin_begin_row, admin_row, admin_timeout_line, admin_timeout_row, admits, ask_of, awaits, dump_held, errand_of, gets, hears, is_awaited, label_in, sends_again, told, turned, AdminState}
use Rattle.spec_adminrows.specs.Turns.{dead}
use Rattle.spec_adminrows.specs.declared.turns.Running.{Running}
use Rattle.spec_adminrows.specs.declared.turns.Turn.{Turn}
use Rattle.spec_adminrows.specs.declared.turns.Turn.TheVariants as turns
use Rattle.law_places.proofs.Turning.{all_lines, all_on}

-- a line that administrators tell in their steps; a crash and a restart are no steps
abbrev pub admin_tells : Line → Bool
admin_tells (lines.BeginAdmin a act) = true
admin_tells (lines.Given place) = true
admin_tells (lines.Answer a code) = true
admin_tells (lines.Stuck a code) = true
admin_tells (lines.Dumped a label size) = true
admin_tells (lines.Timeout a callee epoch number count) = true
admin_tells l = false

abbrev pub AreOfAdmin : List Line → Type 0
AreOfAdmin ls = all_lines admin_tells ls ≡ true

pub record AdminTells (s : Step AdminState) : Type 0 where
  pub told : AreOfAdmin s.lines

turned_tells : (me : Node) (a : AdminState) (act : AdminAct) (ls : List Line) (t : Turn) → AreOfAdmin ls → AdminTells (turned me a act ls t)
turned_tells me a act ls (turns.Goes p) h = record { told = h }
turned_tells me a act ls (turns.Keeps label bytes p) h = record { told = all_on admin_tells ls _ h refl }
turned_tells me a act ls (turns.Ends code) h = record { told = all_on admin_tells ls _ h refl }
turned_tells me a act ls (turns.Sticks code) h = record { told = all_on admin_tells ls _ h refl }
turned_tells me a act ls turns.Passes h = record { told = h }

pub begun_tells : (me : Node) (a : AdminState) (act : AdminAct) → AdminTells (admin_begin_row me a act)
unfolding admin_begin_row
begun_tells me a act = turned_tells me a act (lines.BeginAdmin me act ∷ []) (begins_with act (dump_held (label_in act) a.dumps)) refl

told_tells : (a : AdminState) (place : ℕ) (ms : List Message) → AdminTells (told a place ms)
told_tells a place ms = record { told = refl }

admits_tells : (a : AdminState) (place : ℕ) (head : Head) (o : Admitted Message) → AdminTells (admits a place head o)
admits_tells a place head pairs.runs = record { told = refl }
admits_tells a place head (pairs.kept reply) = told_tells a place _
admits_tells a place head pairs.in_progress = told_tells a place []
admits_tells a place head pairs.older = told_tells a place []
admits_tells a place head (pairs.wrong_boot boot) = told_tells a place _

either_tells : (b : Bool) (x y : Step AdminState) → AdminTells x → AdminTells y → AdminTells (cond b x y)
either_tells true x y h k = h
either_tells false x y h k = k

hears_tells : (me : Node) (a : AdminState) (place : ℕ) (r : Running) (head : Head) (x : Carried) → AdminTells (hears me a place r head x)
hears_tells me a place r head (carried.Call user call) = told_tells a place []
hears_tells me a place r head (carried.Refusal code) = turned_tells me a r.act (lines.Given place ∷ []) (refused r.place code) refl
hears_tells me a place r head (carried.Reply reply) = turned_tells me a r.act (lines.Given place ∷ []) (answered (errand_of a r.act) r.place reply) refl
hears_tells me a place r head carried.Notice = record { told = refl }

awaits_tells : (me : Node) (a : AdminState) (place : ℕ) (head : Head) (x : Carried) (o : Option Running) → AdminTells (awaits me a place head x o)
awaits_tells me a place head x None = told_tells a place []
awaits_tells me a place head x (Some r) = either_tells (is_awaited a head (ask_of a r)) _ _ (hears_tells me a place r head x) (told_tells a place [])

gets_tells : (me : Node) (a : AdminState) (place : ℕ) (head : Head) (x : Carried) → AdminTells (gets me a place head x)
gets_tells me a place head (carried.Call user call) = admits_tells a place head (admitted a.epoch a.seats head)
gets_tells me a place head (carried.Refusal code) = awaits_tells me a place head (carried.Refusal code) a.running
gets_tells me a place head (carried.Reply reply) = awaits_tells me a place head (carried.Reply reply) a.running
gets_tells me a place head carried.Notice = awaits_tells me a place head carried.Notice a.running

pub given_tells : (me : Node) (a : AdminState) (place : ℕ) (m : Message) → AdminTells (admin_row me a place (Whole m))
unfolding admin_row
given_tells me a place m = either_tells (same_node m.head.to me) _ _ (gets_tells me a place m.head m.carried) (told_tells a place [])

pub waited_tells : (me : Node) (a : AdminState) (r : Running) → AdminTells (admin_timeout_row me a r)
unfolding admin_timeout_row
waited_tells me a r =
    either_tells (is_sent_again a.tries) (sends_again me a (ask_of a r)) _ (record { told = refl })
    (turned_tells me a r.act (admin_timeout_line me a (ask_of a r) ∷ []) (refused r.place dead) refl)
