-- The steps of an administrator: what it sends and keeps stays P, where what it then asks is.
use Rattle.std.proofs.Common.{◌≡◌, ℕ, Bool, true, false, cond, List, [], ◌∷◌, Option, Some, None, refl}
use Rattle.std.specs.List.{AllByRecursion}
use Rattle.afs_num.specs.Nodes.{same_node}
use Rattle.afs_num.specs.declared.messages.Carried.{Carried}
use Rattle.afs_num.specs.declared.messages.Carried.TheVariants as carried
use Rattle.afs_num.specs.declared.messages.Message.{Message}
use Rattle.afs_num.specs.declared.messages.Received.TheVariants.{Whole}
use Rattle.afs_num.specs.declared.types.Head.{Head}
use Rattle.afs_num.specs.declared.types.Node.{Node}
use Rattle.spec_history.specs.declared.lines.Line.{Line}
use Rattle.spec_history.specs.declared.lines.Line.TheVariants as lines
use Rattle.spec_history.specs.declared.scripts.AdminAct.{AdminAct}
use Rattle.spec_model.specs.Calls.{admitted, is_sent_again, Admitted}
use Rattle.spec_model.specs.Calls as pairs
use Rattle.spec_rows.specs.ServerRow.{not_served, refusal, seat_for}
use Rattle.spec_rows.specs.Steps.{Step}
use Rattle.spec_adminrows.specs.Acts.{answered, begins_with, refused}
use Rattle.spec_adminrows.specs.AdminRow.{admin_begin_row, admin_row, admin_timeout_line, admin_timeout_row, admits, ask_of, awaits, dump_held, errand_of, gets, hears, is_awaited, label_in, sends_again, told, turned, AdminState}
use Rattle.spec_adminrows.specs.Turns.{dead}
use Rattle.spec_adminrows.specs.declared.turns.Running.{Running}
use Rattle.spec_adminrows.specs.declared.turns.Turn.{Turn}
use Rattle.spec_adminrows.specs.declared.turns.Turn.TheVariants as turns
use Rattle.law_walks.specs.Sends.{AdmittedIs, AnswersAre, AsksIs, IsTo, SeatsAre}
use Rattle.law_walks.proofs.Seats.{admitted_is, seated_is}

pub record AdminSends (P : Message → Type 0) (s : Step AdminState) : Type 0 where
  pub seats : SeatsAre P s.state.seats
  pub sent : AllByRecursion P s.sent

module _ (P : Message → Type 0) (me : Node) (a : AdminState) (seats : SeatsAre P a.seats) where
  turned_sends : (act : AdminAct) (ls : List Line) (t : Turn) → AsksIs P me (turned me a act ls t).state → AdminSends P (turned me a act ls t)
  turned_sends act ls (turns.Goes p) asks = record { seats = seats; sent = (asks (record { act = act; place = p }) refl, tt) }
  turned_sends act ls (turns.Keeps label bytes p) asks = record { seats = seats; sent = (asks (record { act = act; place = p }) refl, tt) }
  turned_sends act ls (turns.Ends code) asks = record { seats = seats; sent = tt }
  turned_sends act ls (turns.Sticks code) asks = record { seats = seats; sent = tt }
  turned_sends act ls turns.Passes asks = record { seats = seats; sent = tt }

  pub admin_begun : (act : AdminAct) → AsksIs P me (admin_begin_row me a act).state → AdminSends P (admin_begin_row me a act)
  unfolding admin_begin_row
  admin_begun act asks = turned_sends act (lines.BeginAdmin me act ∷ []) (begins_with act (dump_held (label_in act) a.dumps)) asks

  told_sends : (place : ℕ) (ms : List Message) → AllByRecursion P ms → AdminSends P (told a place ms)
  told_sends place ms h = record { seats = seats; sent = h }

  admits_sends : (place : ℕ) (head : Head) (o : Admitted Message) → AnswersAre P me a.epoch → IsTo me head → AdmittedIs P o → AdminSends P (admits a place head o)
  admits_sends place head pairs.runs answers to h =
      record { seats = seated_is P (seat_for head (refusal a.epoch head not_served)) a.seats (answers.refusal head not_served to) seats; sent = (answers.refusal head not_served to, tt) }
  admits_sends place head (pairs.kept reply) answers to h = told_sends place _ (h, tt)
  admits_sends place head pairs.in_progress answers to h = told_sends place [] tt
  admits_sends place head pairs.older answers to h = told_sends place [] tt
  admits_sends place head (pairs.wrong_boot boot) answers to h = told_sends place _ (answers.notice head to, tt)

  hears_sends : (place : ℕ) (r : Running) (head : Head) (x : Carried) → a.running ≡ Some r → AsksIs P me (hears me a place r head x).state → AdminSends P (hears me a place r head x)
  hears_sends place r head (carried.Call user call) is asks = told_sends place [] tt
  hears_sends place r head (carried.Refusal code) is asks = turned_sends r.act (lines.Given place ∷ []) (refused r.place code) asks
  hears_sends place r head (carried.Reply reply) is asks = turned_sends r.act (lines.Given place ∷ []) (answered (errand_of a r.act) r.place reply) asks
  hears_sends place r head carried.Notice is asks = record { seats = seats; sent = (asks r is, tt) }

  awaits_by : (place : ℕ) (r : Running) (head : Head) (x : Carried) (b : Bool) → a.running ≡ Some r → AsksIs P me (cond b (hears me a place r head x) (told a place [])).state → AdminSends P (cond b (hears me a place r head x) (told a place []))
  awaits_by place r head x true is asks = hears_sends place r head x is asks
  awaits_by place r head x false is asks = told_sends place [] tt

  awaits_sends : (place : ℕ) (head : Head) (x : Carried) (o : Option Running) → a.running ≡ o → AsksIs P me (awaits me a place head x o).state → AdminSends P (awaits me a place head x o)
  awaits_sends place head x None is asks = told_sends place [] tt
  awaits_sends place head x (Some r) is asks = awaits_by place r head x (is_awaited a head (ask_of a r)) is asks

  gets_sends : (place : ℕ) (head : Head) (x : Carried) → AnswersAre P me a.epoch → IsTo me head → AsksIs P me (gets me a place head x).state → AdminSends P (gets me a place head x)
  gets_sends place head (carried.Call user call) answers to asks = admits_sends place head (admitted a.epoch a.seats head) answers to (admitted_is P a.epoch a.seats head seats)
  gets_sends place head (carried.Refusal code) answers to asks = awaits_sends place head (carried.Refusal code) a.running refl asks
  gets_sends place head (carried.Reply reply) answers to asks = awaits_sends place head (carried.Reply reply) a.running refl asks
  gets_sends place head carried.Notice answers to asks = awaits_sends place head carried.Notice a.running refl asks

  given_by : (place : ℕ) (m : Message) (b : Bool) → same_node m.head.to me ≡ b → AnswersAre P me a.epoch → AsksIs P me (cond b (gets me a place m.head m.carried) (told a place [])).state → AdminSends P (cond b (gets me a place m.head m.carried) (told a place []))
  given_by place m true to answers asks = gets_sends place m.head m.carried answers to asks
  given_by place m false to answers asks = told_sends place [] tt

  pub admin_given : (place : ℕ) (m : Message) → AnswersAre P me a.epoch → AsksIs P me (admin_row me a place (Whole m)).state → AdminSends P (admin_row me a place (Whole m))
  unfolding admin_row
  admin_given place m answers asks = given_by place m (same_node m.head.to me) refl answers asks

  late_by : (r : Running) (b : Bool) → a.running ≡ Some r → AsksIs P me (cond b (sends_again me a (ask_of a r)) (turned me a r.act (admin_timeout_line me a (ask_of a r) ∷ []) (refused r.place dead))).state →
      AdminSends P (cond b (sends_again me a (ask_of a r)) (turned me a r.act (admin_timeout_line me a (ask_of a r) ∷ []) (refused r.place dead)))
  late_by r true is asks = record { seats = seats; sent = (asks r is, tt) }
  late_by r false is asks = turned_sends r.act (admin_timeout_line me a (ask_of a r) ∷ []) (refused r.place dead) asks

  pub admin_late : (r : Running) → a.running ≡ Some r → AsksIs P me (admin_timeout_row me a r).state → AdminSends P (admin_timeout_row me a r)
  unfolding admin_timeout_row
  admin_late r is asks = late_by r (is_sent_again a.tries) is asks
