-- What a place of an act tells of how it got there: the first failure, the stage, and what replies told.
use Rattle.std.proofs.Common.{◌≡◌, ℕ, true, false, List, [], Option, Some, None}
use Rattle.std.specs.Prelude.{⊤, not, is_some}
use Rattle.spec_history.specs.declared.scripts.AdminAct.{AdminAct}
use Rattle.afs_num.specs.declared.messages.Call.{Call}
use Rattle.afs_num.specs.declared.messages.Reply.{Reply}
use Rattle.afs_num.specs.declared.types.Code.{Code}
use Rattle.spec_adminrows.specs.Acts.{asks_at}
use Rattle.spec_adminrows.specs.AdminRow.{ask_of, AdminState}
use Rattle.spec_adminrows.specs.Turns.{code_or, fine, not_there}
use Rattle.spec_adminrows.specs.declared.places.Cause.{Cause}
use Rattle.spec_adminrows.specs.declared.places.Cause.TheVariants as causes
use Rattle.spec_adminrows.specs.declared.places.Creating.{Creating}
use Rattle.spec_adminrows.specs.declared.places.Creating.TheVariants as creating
use Rattle.spec_adminrows.specs.declared.places.Mending.{Mending}
use Rattle.spec_adminrows.specs.declared.places.Mending.TheVariants as mending
use Rattle.spec_adminrows.specs.declared.places.Place.{Place}
use Rattle.spec_adminrows.specs.declared.places.Place.TheVariants as places
use Rattle.spec_adminrows.specs.declared.places.Purpose.{Purpose}
use Rattle.spec_adminrows.specs.declared.places.Purpose.TheVariants as purposes
use Rattle.spec_adminrows.specs.declared.places.Seen.{Seen}
use Rattle.spec_adminrows.specs.declared.places.Tour.{Tour}
use Rattle.spec_adminrows.specs.declared.places.Visiting.{Visiting}
use Rattle.spec_adminrows.specs.declared.places.Visiting.TheVariants as visiting
use Rattle.spec_adminrows.specs.declared.turns.Ask.{Ask}
use Rattle.spec_adminrows.specs.declared.turns.Errand.{Errand}
use Rattle.spec_adminrows.specs.declared.turns.Running.{Running}
use Rattle.spec_adminrows.specs.declared.turns.Turn.{Turn}
use Rattle.spec_adminrows.specs.declared.turns.Turn.TheVariants as turns
use Rattle.law_answers.specs.Answers.{counts_as_answer, is_last, is_removal}
use Rattle.law_answers.specs.Courses.{ends, locked, nothing_found, recovering, stage_asking, sticks, unlocked, Asked, ActCourse, Ending, Findings, Stage}

-- ---- the first failure

abbrev pub first_by : Cause → Option Code
first_by causes.Asked = None
first_by (causes.After code) = Some code

abbrev pub first_creating : Creating → Option Code
first_creating (creating.Checks v code) = Some code
first_creating (creating.Scraps v code) = Some code
first_creating (creating.Scrapped v code t) = Some code
first_creating step = None

abbrev pub first_visiting : Tour → Visiting → Option Code
first_visiting r (visiting.Leaves code x) = Some (code_or code r.first)
first_visiting r step = r.first

abbrev pub first_surveying : Purpose → Option Code
first_surveying (purposes.Mends c) = first_by c
first_surveying why = None

abbrev pub first_at : Place → Option Code
first_at (places.Seeks c) = first_by c
first_at (places.Locks c v) = first_by c
first_at (places.Frees h code first) = first
first_at (places.Creates f step) = first_creating step
first_at (places.Tours r step) = r.first
first_at (places.Visits r s step) = first_visiting r step
first_at (places.Surveys h why s left seen) = first_surveying why
first_at (places.Asks c h seen) = first_by c
first_at (places.Mends m step) = first_by m.cause
first_at p = None

-- ---- the stage

abbrev pub stage_by : Cause → Stage
stage_by causes.Asked = unlocked
stage_by (causes.After code) = recovering

abbrev pub stage_creating : Creating → Stage
stage_creating (creating.Begins v stamp) = locked
stage_creating (creating.Opens v stamp t) = locked
stage_creating (creating.Opened v stamp t) = locked
stage_creating (creating.Frees v stamp) = locked
stage_creating step = unlocked

abbrev pub stage_surveying : Purpose → Stage
stage_surveying (purposes.Mends c) = recovering
stage_surveying why = locked

abbrev pub stage_at : Place → Stage
stage_at (places.Seeks c) = stage_by c
stage_at (places.Locks c v) = stage_by c
stage_at (places.Creates f step) = stage_creating step
stage_at (places.Surveys h why s left seen) = stage_surveying why
stage_at (places.Asks c h seen) = recovering
stage_at (places.Mends m step) = recovering
stage_at p = locked

-- ---- what replies told

-- without a failure it ends well
abbrev pub EndsWell : Cause → Code → Type 0
EndsWell causes.Asked ending = ending ≡ fine
EndsWell (causes.After code) ending = ⊤

-- before the first server of a recovery is asked what it has
abbrev pub IsUnlisted : Findings → Type 0
IsUnlisted x = (x.listed ≡ []) × (x.misses ≡ false)

abbrev pub FoundBy : Cause → Findings → Type 0
FoundBy causes.Asked x = x ≡ nothing_found
FoundBy (causes.After code) x = IsUnlisted x

abbrev pub HasListed : Cause → List Seen → Findings → Type 0
HasListed c seen x = EndsWell c x.ending × ((x.listed ≡ seen) × (x.misses ≡ false))

-- of a removal
abbrev pub FoundRemoving : AdminAct → Findings → Type 0
FoundRemoving act x = (x ≡ nothing_found) × (is_removal act ≡ true)

abbrev pub FoundSurveying : AdminAct → Purpose → List Seen → Findings → Type 0
FoundSurveying act (purposes.Mends c) seen x = HasListed c seen x
FoundSurveying act purposes.Removes seen x = FoundRemoving act x
FoundSurveying act (purposes.Moves target) seen x = x ≡ nothing_found

-- the volume comes into service, or the lock goes: the server has the volume
abbrev pub IsThere : Option ℕ → Mending → Type 0
IsThere flags mending.Begins = is_some flags ≡ true
IsThere flags (mending.Opens t) = is_some flags ≡ true
IsThere flags (mending.Ends t) = is_some flags ≡ true
IsThere flags mending.Frees = is_some flags ≡ true
IsThere flags step = ⊤

abbrev pub FoundAt : AdminAct → Place → Findings → Type 0
FoundAt act (places.Seeks c) x = FoundBy c x
FoundAt act (places.Locks c v) x = FoundBy c x
FoundAt act (places.Frees h code first) x = (code ≡ code_or x.ending first) × IsUnlisted x
FoundAt act (places.Surveys h why s left seen) x = FoundSurveying act why seen x
FoundAt act (places.Removes h seen step) x = FoundRemoving act x
FoundAt act (places.Sweeps h spot left step) x = FoundRemoving act x
FoundAt act (places.Asks c h seen) x = HasListed c seen x
FoundAt act (places.Mends m step) x = EndsWell m.cause x.ending × ((x.misses ≡ not (is_some m.flags)) × IsThere m.flags step)
FoundAt act p x = x ≡ nothing_found

-- ---- the course of an act at a place

abbrev pub asked_of : AdminState → Ask → Asked
asked_of a q = record { callee = q.callee; epoch = a.epoch; number = a.last; call = q.call }

abbrev pub course_at : AdminState → Running → Findings → ActCourse
course_at a r x = record { act = r.act; asked = asked_of a (ask_of a r); first = first_at r.place; stage = stage_at r.place; found = x }

-- ---- a turn of the act, where by the history this was the first failure, the stage is this, and replies told this

abbrev pub Goes : Errand → Option Code → Stage → Findings → Place → Type 0
Goes e first stage x p = (first ≡ first_at p) × ((stage_asking stage (asks_at e p).call ≡ stage_at p) × FoundAt e.act p x)

-- behind this reply to this call
abbrev pub Answers : Errand → Call → Reply → Option Code → Stage → Findings → Turn → Type 0
Answers e call reply first stage x (turns.Goes p) = Goes e first stage x p
Answers e call reply first stage x (turns.Keeps label bytes p) = Goes e first stage x p
Answers e call reply first stage x (turns.Ends code) = (code ≡ code_or x.ending first) × ((x.misses ≡ false) × (is_last first e.act stage call ≡ true))
Answers e call reply first stage x (turns.Sticks code) = (code ≡ code_or not_there first) × ((x.misses ≡ true) × (stage ≡ recovering))
Answers e call reply first stage x turns.Passes = counts_as_answer call reply ≡ false

-- behind a failure, where by the history the act ends so
abbrev pub Fails : Errand → Option Ending → Option Code → Stage → Findings → Turn → Type 0
Fails e end first stage x (turns.Goes p) = (end ≡ None) × Goes e first stage x p
Fails e end first stage x (turns.Keeps label bytes p) = ⊥
Fails e end first stage x (turns.Ends code) = end ≡ Some (ends code)
Fails e end first stage x (turns.Sticks code) = end ≡ Some (sticks code)
Fails e end first stage x turns.Passes = ⊥
