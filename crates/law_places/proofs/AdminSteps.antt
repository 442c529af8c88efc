-- The steps of administrators tell nothing of where volumes accept stores, and none asks for a clone that is a read-write volume.
use Rattle.std.proofs.Common.{ℕ, Bool, true, false, cond, List, [], ◌∷◌, Option, Some, None, refl}
use Rattle.afs_num.specs.Nodes.{same_node}
use Rattle.afs_num.specs.declared.messages.Carried.{Carried}
use Rattle.afs_num.specs.declared.messages.Carried.TheVariants as carried
use Rattle.afs_num.specs.declared.messages.Message.{Message}
use Rattle.afs_num.specs.declared.messages.Received.TheVariants.{Whole}
use Rattle.afs_num.specs.declared.types.Head.{Head}
use Rattle.afs_num.specs.declared.types.Node.{Node}
use Rattle.spec_history.specs.declared.lines.Line.{Line}
use Rattle.spec_history.specs.declared.lines.Line.TheVariants as lines
use Rattle.spec_history.specs.declared.scripts.AdminAct.{AdminAct}
use Rattle.spec_model.specs.Calls.{admitted, is_sent_again, Admitted}
use Rattle.spec_model.specs.Calls as pairs
use Rattle.spec_rows.specs.Steps.{Step}
use Rattle.spec_adminrows.specs.Acts.{answered, asks_at, begins_with, refused}
use Rattle.spec_adminrows.specs.AdminRow.{admin_begin_row, admin_row, admin_timeout_line, admin_timeout_row, admits, ask_of, awaits, dump_held, errand_of, gets, hears, is_awaited, label_in, sends_again, told, turned, AdminState}
use Rattle.spec_adminrows.specs.Copying.{backup_asks, dump_asks}
use Rattle.spec_adminrows.specs.Creating.{create_asks}
use Rattle.spec_adminrows.specs.Moving.{move_asks}
use Rattle.spec_adminrows.specs.Recovering.{mend_asks}
use Rattle.spec_adminrows.specs.Releasing.{release_asks, tour_asks, visit_asks}
use Rattle.spec_adminrows.specs.Removing.{remove_asks, sweep_asks}
use Rattle.spec_adminrows.specs.Turns.{dead}
use Rattle.spec_adminrows.specs.declared.places.Backing.{Backing}
use Rattle.spec_adminrows.specs.declared.places.Backing.TheVariants as backing
use Rattle.spec_adminrows.specs.declared.places.Creating.{Creating}
use Rattle.spec_adminrows.specs.declared.places.Creating.TheVariants as creating
use Rattle.spec_adminrows.specs.declared.places.Dumping.{Dumping}
use Rattle.spec_adminrows.specs.declared.places.Dumping.TheVariants as dumping
use Rattle.spec_adminrows.specs.declared.places.Fresh.{Fresh}
use Rattle.spec_adminrows.specs.declared.places.Hold.{Hold}
use Rattle.spec_adminrows.specs.declared.places.Mend.{Mend}
use Rattle.spec_adminrows.specs.declared.places.Mending.{Mending}
use Rattle.spec_adminrows.specs.declared.places.Mending.TheVariants as mending
use Rattle.spec_adminrows.specs.declared.places.Moving.{Moving}
use Rattle.spec_adminrows.specs.declared.places.Moving.TheVariants as moving
use Rattle.spec_adminrows.specs.declared.places.Place.{Place}
use Rattle.spec_adminrows.specs.declared.places.Place.TheVariants as places
use Rattle.spec_adminrows.specs.declared.places.Releasing.{Releasing}
use Rattle.spec_adminrows.specs.declared.places.Releasing.TheVariants as releasing
use Rattle.spec_adminrows.specs.declared.places.Removing.{Removing}
use Rattle.spec_adminrows.specs.declared.places.Removing.TheVariants as removing
use Rattle.spec_adminrows.specs.declared.places.Saving.{Saving}
use Rattle.spec_adminrows.specs.declared.places.Spot.{Spot}
use Rattle.spec_adminrows.specs.declared.places.Sweeping.{Sweeping}
use Rattle.spec_adminrows.specs.declared.places.Sweeping.TheVariants as sweeping
use Rattle.spec_adminrows.specs.declared.places.Tour.{Tour}
use Rattle.spec_adminrows.specs.declared.places.Touring.{Touring}
use Rattle.spec_adminrows.specs.declared.places.Touring.TheVariants as touring
use Rattle.spec_adminrows.specs.declared.places.Trip.{Trip}
use Rattle.spec_adminrows.specs.declared.places.Visiting.{Visiting}
use Rattle.spec_adminrows.specs.declared.places.Visiting.TheVariants as visiting
use Rattle.spec_adminrows.specs.declared.turns.Errand.{Errand}
use Rattle.spec_adminrows.specs.declared.turns.Running.{Running}
use Rattle.spec_adminrows.specs.declared.turns.Turn.{Turn}
use Rattle.spec_adminrows.specs.declared.turns.Turn.TheVariants as turns
use Rattle.law_places.proofs.Copies.{admitted_copies, seated_copies, AdmittedCopies, AllCopies, AsksCopy, SeatsCopy}
use Rattle.law_places.proofs.Turning.{all_on, is_still, AreStill}

-- ---- what is asked: a clone of a move or of a release is of kind 1, and a backup of kind 2

create_asked : (name : List ℕ) (f : Fresh) (at : Creating) → AsksCopy (create_asks name f at).call
create_asked name f creating.Numbers = tt
create_asked name f at = tt

backup_asked : (name : List ℕ) (h : Hold) (at : Backing) → AsksCopy (backup_asks name h at).call
backup_asked name h (backing.Clones t x) = refl
backup_asked name h at = tt

dump_asked : (s : Saving) (at : Dumping) → AsksCopy (dump_asks s at).call
dump_asked s dumping.Stamps = tt
dump_asked s at = tt

release_asked : (h : Hold) (at : Releasing) → AsksCopy (release_asks h at).call
release_asked h releasing.Stamps = tt
release_asked h at = tt

tour_asked : (name : List ℕ) (r : Tour) (at : Touring) → AsksCopy (tour_asks name r at).call
tour_asked name r (touring.Clones t) = refl
tour_asked name r at = tt

visit_asked : (name : List ℕ) (r : Tour) (s : ℕ) (at : Visiting) → AsksCopy (visit_asks name r s at).call
visit_asked name r s visiting.Stamps = tt
visit_asked name r s at = tt

move_asked : (name : List ℕ) (m : Trip) (at : Moving) → AsksCopy (move_asks name m at).call
move_asked name m (moving.Clones t) = refl
move_asked name m at = tt

remove_asked : (h : Hold) (at : Removing) → AsksCopy (remove_asks h at).call
remove_asked h removing.Begins = tt
remove_asked h at = tt

sweep_asked : (h : Hold) (spot : Spot) (at : Sweeping) → AsksCopy (sweep_asks h spot at).call
sweep_asked h spot sweeping.Begins = tt
sweep_asked h spot at = tt

mend_asked : (m : Mend) (at : Mending) → AsksCopy (mend_asks m at).call
mend_asked m mending.Begins = tt
mend_asked m at = tt

asked : (e : Errand) (p : Place) → AsksCopy (asks_at e p).call
asked e (places.Seeks c) = tt
asked e (places.Locks c v) = tt
asked e (places.Frees h code first) = tt
asked e (places.Creates f at) = create_asked _ f at
asked e (places.Adds h server) = tt
asked e (places.Backs h at) = backup_asked _ h at
asked e (places.Dumps s at) = dump_asked s at
asked e (places.Releases h at) = release_asked h at
asked e (places.Tours r at) = tour_asked _ r at
asked e (places.Visits r s at) = visit_asked _ r s at
asked e (places.Surveys h why s left seen) = tt
asked e (places.Plans h target) = tt
asked e (places.Moves m at) = move_asked _ m at
asked e (places.Removes h seen at) = remove_asked h at
asked e (places.Sweeps h spot left at) = sweep_asked h spot at
asked e (places.Asks c h seen) = tt
asked e (places.Mends m at) = mend_asked m at

-- ---- a step of an administrator

pub record AdminQuiet (a : AdminState) (s : Step AdminState) : Type 0 where
  pub told : AreStill s.lines
  pub sent : AllCopies s.sent
  pub seats : SeatsCopy a.seats → SeatsCopy s.state.seats

turned_quiet : (me : Node) (a : AdminState) (act : AdminAct) (ls : List Line) (t : Turn) → AreStill ls → AdminQuiet a (turned me a act ls t)
turned_quiet me a act ls (turns.Goes p) h = record { told = h; sent = (asked (errand_of a act) p, tt); seats = λ k. k }
turned_quiet me a act ls (turns.Keeps label bytes p) h = record { told = all_on is_still ls _ h refl; sent = (asked (errand_of a act) p, tt); seats = λ k. k }
turned_quiet me a act ls (turns.Ends code) h = record { told = all_on is_still ls _ h refl; sent = tt; seats = λ k. k }
turned_quiet me a act ls (turns.Sticks code) h = record { told = all_on is_still ls _ h refl; sent = tt; seats = λ k. k }
turned_quiet me a act ls turns.Passes h = record { told = h; sent = tt; seats = λ k. k }

pub begun_quiet : (me : Node) (a : AdminState) (act : AdminAct) → AdminQuiet a (admin_begin_row me a act)
unfolding admin_begin_row
begun_quiet me a act = turned_quiet me a act (lines.BeginAdmin me act ∷ []) (begins_with act (dump_held (label_in act) a.dumps)) refl

told_quiet : (a : AdminState) (place : ℕ) (ms : List Message) → AllCopies ms → AdminQuiet a (told a place ms)
told_quiet a place ms h = record { told = refl; sent = h; seats = λ k. k }

admits_quiet : (a : AdminState) (place : ℕ) (head : Head) (o : Admitted Message) → AdmittedCopies o → AdminQuiet a (admits a place head o)
admits_quiet a place head pairs.runs h = record { told = refl; sent = (tt, tt); seats = λ k. seated_copies _ a.seats tt k }
admits_quiet a place head (pairs.kept reply) h = told_quiet a place _ (h, tt)
admits_quiet a place head pairs.in_progress h = told_quiet a place [] tt
admits_quiet a place head pairs.older h = told_quiet a place [] tt
admits_quiet a place head (pairs.wrong_boot boot) h = told_quiet a place _ (tt, tt)

either_quiet : (b : Bool) (a : AdminState) (x y : Step AdminState) → AdminQuiet a x → AdminQuiet a y → AdminQuiet a (cond b x y)
either_quiet true a x y h k = h
either_quiet false a x y h k = k

hears_quiet : (me : Node) (a : AdminState) (place : ℕ) (r : Running) (head : Head) (x : Carried) → AdminQuiet a (hears me a place r head x)
hears_quiet me a place r head (carried.Call user call) = told_quiet a place [] tt
hears_quiet me a place r head (carried.Refusal code) = turned_quiet me a r.act (lines.Given place ∷ []) (refused r.place code) refl
hears_quiet me a place r head (carried.Reply reply) = turned_quiet me a r.act (lines.Given place ∷ []) (answered (errand_of a r.act) r.place reply) refl
hears_quiet me a place r head carried.Notice = record { told = refl; sent = (asked (errand_of a r.act) r.place, tt); seats = λ k. k }

awaits_quiet : (me : Node) (a : AdminState) (place : ℕ) (head : Head) (x : Carried) (o : Option Running) → AdminQuiet a (awaits me a place head x o)
awaits_quiet me a place head x None = told_quiet a place [] tt
awaits_quiet me a place head x (Some r) = either_quiet (is_awaited a head (ask_of a r)) a _ _ (hears_quiet me a place r head x) (told_quiet a place [] tt)

gets_quiet : (me : Node) (a : AdminState) (place : ℕ) (head : Head) (x : Carried) → SeatsCopy a.seats → AdminQuiet a (gets me a place head x)
gets_quiet me a place head (carried.Call user call) h = admits_quiet a place head (admitted a.epoch a.seats head) (admitted_copies a.epoch a.seats head h)
gets_quiet me a place head (carried.Refusal code) h = awaits_quiet me a place head (carried.Refusal code) a.running
gets_quiet me a place head (carried.Reply reply) h = awaits_quiet me a place head (carried.Reply reply) a.running
gets_quiet me a place head carried.Notice h = awaits_quiet me a place head carried.Notice a.running

pub given_quiet : (me : Node) (a : AdminState) (place : ℕ) (m : Message) → SeatsCopy a.seats → AdminQuiet a (admin_row me a place (Whole m))
unfolding admin_row
given_quiet me a place m h = either_quiet (same_node m.head.to me) a _ _ (gets_quiet me a place m.head m.carried h) (told_quiet a place [] tt)

pub waited_quiet : (me : Node) (a : AdminState) (r : Running) → AdminQuiet a (admin_timeout_row me a r)
unfolding admin_timeout_row
waited_quiet me a r =
    either_quiet (is_sent_again a.tries) a (sends_again me a (ask_of a r)) _ (record { told = refl; sent = (asked (errand_of a r.act) r.place, tt); seats = λ k. k })
    (turned_quiet me a r.act (admin_timeout_line me a (ask_of a r) ∷ []) (refused r.place dead) refl)
