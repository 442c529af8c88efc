-- Where a call fails, an act ends as the history has it, or goes on.
use Rattle.std.proofs.Common.{◌≡◌, ℕ, Bool, true, false, cond, List, [], ◌∷◌, Option, Some, None, refl, subst, sym}
use Rattle.std.specs.Prelude.{not}
use Rattle.afs_num.specs.declared.types.Code.{Code}
use Rattle.spec_adminrows.specs.Acts.{asks_at, refused}
use Rattle.spec_adminrows.specs.Creating.{create_refused}
use Rattle.spec_adminrows.specs.Releasing.{goes_to, tours_on, visit_refused}
use Rattle.spec_adminrows.specs.Turns.{code_or, fails, is_dead, is_superseded, is_unlisted, mend_fails}
use Rattle.spec_adminrows.specs.declared.places.Cause.{Cause}
use Rattle.spec_adminrows.specs.declared.places.Cause.TheVariants as causes
use Rattle.spec_adminrows.specs.declared.places.Creating.{Creating}
use Rattle.spec_adminrows.specs.declared.places.Creating.TheVariants as creating
use Rattle.spec_adminrows.specs.declared.places.Fresh.{Fresh}
use Rattle.spec_adminrows.specs.declared.places.Hold.{Hold}
use Rattle.spec_adminrows.specs.declared.places.Place.{Place}
use Rattle.spec_adminrows.specs.declared.places.Place.TheVariants as places
use Rattle.spec_adminrows.specs.declared.places.Purpose.{Purpose}
use Rattle.spec_adminrows.specs.declared.places.Purpose.TheVariants as purposes
use Rattle.spec_adminrows.specs.declared.places.Seen.{Seen}
use Rattle.spec_adminrows.specs.declared.places.Tour.{Tour}
use Rattle.spec_adminrows.specs.declared.places.Visiting.{Visiting}
use Rattle.spec_adminrows.specs.declared.places.Visiting.TheVariants as visiting
use Rattle.spec_adminrows.specs.declared.turns.Errand.{Errand}
use Rattle.spec_adminrows.specs.declared.turns.Turn.TheVariants as turns
use Rattle.law_answers.specs.Answers.{end_at_failure}
use Rattle.law_answers.specs.Courses.{ends, locked, nothing_found, recovering, sticks, unlocked, Findings}
use Rattle.law_answers.proofs.Places.{first_at, first_by, stage_at, Fails, FoundAt, FoundSurveying, IsUnlisted}

-- the act ends, or goes on, by one test
end_or_go : (e : Errand) (b : Bool) (first : Option Code) (x : Findings) (code : Code) (p : Place) → Fails e None first locked x (turns.Goes p) → Fails e (cond b (Some (ends code)) None) first locked x (cond b (turns.Ends code) (turns.Goes p))
end_or_go e true first x code p h = refl
end_or_go e false first x code p h = h

-- while the lock is held: a recovery follows
held_fails : (e : Errand) (first : Option Code) (x : Findings) (code : Code) → IsUnlisted x → Fails e (cond (is_superseded code) (Some (ends code)) None) (Some (code_or code first)) locked x (fails first code)
held_fails e first x code h = end_or_go e (is_superseded code) (Some (code_or code first)) x code (places.Seeks (causes.After (code_or code first))) (refl, (refl, (refl, h)))

-- in a recovery
mend_by : (e : Errand) (b : Bool) (c : Cause) (f : Option Code) (x : Findings) (code : Code) → Fails e (cond b (Some (ends code)) (Some (sticks (code_or code (first_by c))))) f recovering x (cond b (turns.Ends code) (turns.Sticks (code_or code (first_by c))))
mend_by e true c f x code = refl
mend_by e false c f x code = refl

mending_fails : (e : Errand) (c : Cause) (f : Option Code) (x : Findings) (code : Code) → Fails e (cond (is_superseded code) (Some (ends code)) (Some (sticks (code_or code (first_by c))))) f recovering x (mend_fails c code)
mending_fails e causes.Asked f x code = mend_by e (is_superseded code) causes.Asked f x code
mending_fails e (causes.After first) f x code = mend_by e (is_superseded code) (causes.After first) f x code

-- ---- a new volume

enters_by : (e : Errand) (fresh : Fresh) (v : ℕ) (b : Bool) (code : Code) → Fails e (cond (not b) None (Some (ends code))) (Some code) unlocked nothing_found (cond b (turns.Ends code) (turns.Goes (places.Creates fresh (creating.Checks v code))))
enters_by e fresh v true code = refl
enters_by e fresh v false code = (refl, (refl, (refl, refl)))

checks_by : (e : Errand) (fresh : Fresh) (v : ℕ) (b : Bool) (first : Code) → Fails e (cond b None (Some (ends first))) (Some first) unlocked nothing_found (cond b (turns.Goes (places.Creates fresh (creating.Scraps v first))) (turns.Ends first))
checks_by e fresh v true first = (refl, (refl, (refl, refl)))
checks_by e fresh v false first = refl

create_fails : (e : Errand) (f : Fresh) (step : Creating) (code : Code) →
    Fails e (end_at_failure (stage_at (places.Creates f step)) (asks_at e (places.Creates f step)).call (first_at (places.Creates f step)) code) (Some (code_or code (first_at (places.Creates f step)))) (stage_at (places.Creates f step)) nothing_found (create_refused f step code)
create_fails e f (creating.Enters v) code = enters_by e f v (is_dead code) code
create_fails e f (creating.Checks v first) code = checks_by e f v (is_unlisted code) first
create_fails e f (creating.Scraps v first) code = refl
create_fails e f (creating.Scrapped v first t) code = refl
create_fails e f (creating.Begins v stamp) code = held_fails e None nothing_found code (refl, refl)
create_fails e f (creating.Opens v stamp t) code = held_fails e None nothing_found code (refl, refl)
create_fails e f (creating.Opened v stamp t) code = held_fails e None nothing_found code (refl, refl)
create_fails e f (creating.Frees v stamp) code = held_fails e None nothing_found code (refl, refl)
create_fails e f creating.Numbers code = refl
create_fails e f (creating.Makes v) code = refl
create_fails e f (creating.Fills v t offset) code = refl
create_fails e f (creating.Closes v t) code = refl
create_fails e f (creating.Ends v t) code = refl

-- ---- a site of a release is left

pub on_by : (e : Errand) (r : Tour) (left : List ℕ) → Fails e None r.first locked nothing_found (goes_to r left)
on_by e r [] = (refl, (refl, (refl, refl)))
on_by e r (s ∷ left) = (refl, (refl, (refl, refl)))

skip_by : (e : Errand) (b : Bool) (code : Code) (r : Tour) → Fails e (cond b (Some (ends code)) None) r.first locked nothing_found (cond b (turns.Ends code) (tours_on r))
skip_by e true code r = refl
skip_by e false code r = on_by e r r.left

visit_fails : (e : Errand) (r : Tour) (s : ℕ) (step : Visiting) (code : Code) →
    Fails e (cond (is_superseded code) (Some (ends code)) None) (Some (code_or code (first_at (places.Visits r s step)))) locked nothing_found (visit_refused r s step code)
visit_fails e r s (visiting.Sends t x) code = end_or_go e (is_superseded code) _ nothing_found code (places.Visits r s (visiting.Leaves code x)) (refl, (refl, (refl, refl)))
visit_fails e r s (visiting.Leaves first x) code = skip_by e (is_superseded code) code (record r { first = Some (code_or first r.first) })
visit_fails e r s visiting.Stamps code = skip_by e (is_superseded code) code (record r { first = Some (code_or code r.first) })
visit_fails e r s visiting.Takes code = skip_by e (is_superseded code) code (record r { first = Some (code_or code r.first) })
visit_fails e r s visiting.Makes code = skip_by e (is_superseded code) code (record r { first = Some (code_or code r.first) })
visit_fails e r s (visiting.Opens t) code = skip_by e (is_superseded code) code (record r { first = Some (code_or code r.first) })
visit_fails e r s (visiting.Closes t x) code = skip_by e (is_superseded code) code (record r { first = Some (code_or code r.first) })
visit_fails e r s (visiting.Sets t) code = skip_by e (is_superseded code) code (record r { first = Some (code_or code r.first) })
visit_fails e r s (visiting.Ends t) code = skip_by e (is_superseded code) code (record r { first = Some (code_or code r.first) })

-- ---- each place

-- with nothing found
plain_fails : (e : Errand) (x : Findings) (code : Code) → x ≡ nothing_found → Fails e (cond (is_superseded code) (Some (ends code)) None) (Some code) locked x (fails None code)
plain_fails e x code h = subst (λ (y : Findings). Fails e (cond (is_superseded code) (Some (ends code)) None) (Some code) locked y (fails None code)) (sym h) (held_fails e None nothing_found code (refl, refl))

abbrev pub FailsAt : Errand → Place → Findings → Code → Type 0
FailsAt e p x code = Fails e (end_at_failure (stage_at p) (asks_at e p).call (first_at p) code) (Some (code_or code (first_at p))) (stage_at p) x (refused p code)

seek_at : (e : Errand) (c : Cause) (x : Findings) (code : Code) → FailsAt e (places.Seeks c) x code
seek_at e causes.Asked x code = refl
seek_at e (causes.After first) x code = mending_fails e (causes.After first) _ x code

lock_at : (e : Errand) (c : Cause) (v : ℕ) (x : Findings) (code : Code) → FailsAt e (places.Locks c v) x code
lock_at e causes.Asked v x code = refl
lock_at e (causes.After first) v x code = mending_fails e (causes.After first) _ x code

survey_at : (e : Errand) (h : Hold) (why : Purpose) (s : ℕ) (left : List ℕ) (seen : List Seen) (x : Findings) (code : Code) → FoundSurveying e.act why seen x → FailsAt e (places.Surveys h why s left seen) x code
survey_at e h (purposes.Moves target) s left seen x code k = plain_fails e x code k
survey_at e h purposes.Removes s left seen x code k = plain_fails e x code k.0
survey_at e h (purposes.Mends c) s left seen x code k = mending_fails e c _ x code

pub failed_at : (e : Errand) (p : Place) (x : Findings) (code : Code) → FoundAt e.act p x → FailsAt e p x code
failed_at e (places.Seeks c) x code k = seek_at e c x code
failed_at e (places.Locks c v) x code k = lock_at e c v x code
failed_at e (places.Frees h ending first) x code k = held_fails e first x code k.1
failed_at e (places.Creates f step) x code k = subst (λ (y : Findings). FailsAt e (places.Creates f step) y code) (sym k) (create_fails e f step code)
failed_at e (places.Adds h server) x code k = plain_fails e x code k
failed_at e (places.Backs h step) x code k = plain_fails e x code k
failed_at e (places.Dumps s step) x code k = plain_fails e x code k
failed_at e (places.Releases h step) x code k = plain_fails e x code k
failed_at e (places.Tours r step) x code k = subst (λ (y : Findings). FailsAt e (places.Tours r step) y code) (sym k) (held_fails e r.first nothing_found code (refl, refl))
failed_at e (places.Visits r s step) x code k = subst (λ (y : Findings). FailsAt e (places.Visits r s step) y code) (sym k) (visit_fails e r s step code)
failed_at e (places.Surveys h why s left seen) x code k = survey_at e h why s left seen x code k
failed_at e (places.Plans h target) x code k = plain_fails e x code k
failed_at e (places.Moves m step) x code k = plain_fails e x code k
failed_at e (places.Removes h seen step) x code k = plain_fails e x code k.0
failed_at e (places.Sweeps h spot left step) x code k = plain_fails e x code k.0
failed_at e (places.Asks c h seen) x code k = mending_fails e c _ x code
failed_at e (places.Mends m step) x code k = mending_fails e m.cause _ x code
