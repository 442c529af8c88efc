-- Where the answers and refusals of most places lead: to places that are neither of a creation before its entry, nor of a removal behind its
-- decision.
use Rattle.std.proofs.Common.{◌≡◌, ℕ, Bool, true, false, cond, List, [], ◌∷◌, ◌++◌, Option, Some, None, refl, nat_eq}
use Rattle.std.specs.Prelude.{⊤, map}
use Rattle.afs_num.specs.declared.location_calls.LocReply.TheVariants as entries
use Rattle.afs_num.specs.declared.messages.Reply.{Reply}
use Rattle.afs_num.specs.declared.messages.Reply.TheVariants as tell
use Rattle.afs_num.specs.declared.types.Code.{Code}
use Rattle.afs_num.specs.declared.volume_calls.VolReply.TheVariants as volumes
use Rattle.spec_history.specs.declared.scripts.AdminAct.{AdminAct}
use Rattle.spec_history.specs.declared.scripts.AdminAct.TheVariants as acts
use Rattle.spec_adminrows.specs.Acts.{answered, begins_with, can_go_on, creates_from, free_answered, goes_on_locked, lock_answered, locked, refused, seek_answered}
use Rattle.spec_adminrows.specs.Asks.{all_servers, home}
use Rattle.spec_adminrows.specs.Copying.{add_answered}
use Rattle.spec_adminrows.specs.Creating.{create_refused}
use Rattle.spec_adminrows.specs.Entries.{has_read_only_at, is_usable}
use Rattle.spec_adminrows.specs.Moving.{plan_answered}
use Rattle.spec_adminrows.specs.Recovering.{entry_answered, mend_of, takes_copies}
use Rattle.spec_adminrows.specs.Surveying.{seen_by, survey_answered, surveys, surveys_all}
use Rattle.spec_adminrows.specs.Turns.{frees, is_dead, is_unlisted, same_place}
use Rattle.spec_adminrows.specs.declared.places.Cause.{Cause}
use Rattle.spec_adminrows.specs.declared.places.Cause.TheVariants as causes
use Rattle.spec_adminrows.specs.declared.places.Creating.{Creating}
use Rattle.spec_adminrows.specs.declared.places.Creating.TheVariants as creating
use Rattle.spec_adminrows.specs.declared.places.Fresh.{Fresh}
use Rattle.spec_adminrows.specs.declared.places.Hold.{Hold}
use Rattle.spec_adminrows.specs.declared.places.Mend.{Mend}
use Rattle.spec_adminrows.specs.declared.places.Place.{Place}
use Rattle.spec_adminrows.specs.declared.places.Place.TheVariants as places
use Rattle.spec_adminrows.specs.declared.places.Purpose.{Purpose}
use Rattle.spec_adminrows.specs.declared.places.Purpose.TheVariants as purposes
use Rattle.spec_adminrows.specs.declared.places.Removing.{Removing}
use Rattle.spec_adminrows.specs.declared.places.Removing.TheVariants as removing
use Rattle.spec_adminrows.specs.declared.places.Seen.{Seen}
use Rattle.spec_adminrows.specs.declared.turns.Errand.{Errand}
use Rattle.spec_adminrows.specs.declared.turns.Turn.{Turn}
use Rattle.spec_adminrows.specs.declared.turns.Turn.TheVariants as turns
use Rattle.law_walks.proofs.Places.{backup_is, dump_is, ends_is, fails_is, mend_is, move_is, release_is, seek_fails_is, survey_refused_is, takes_is, tour_is, visit_is, visit_refused_is, TurnIs}

-- ---- places of a creation

-- the number of its volume, up to the question that asks for the entry
abbrev pub new_in : Creating → Option ℕ
new_in (creating.Makes v) = Some v
new_in (creating.Fills v t offset) = Some v
new_in (creating.Closes v t) = Some v
new_in (creating.Ends v t) = Some v
new_in (creating.Enters v) = Some v
new_in step = None

abbrev pub new_at : Place → Option ℕ
new_at (places.Creates f step) = new_in step
new_at p = None

-- ---- places of a removal

-- what it removes, behind the deletion of the entry
abbrev pub removed_in : Hold → Removing → Option Hold
removed_in h (removing.Deletes t) = Some h
removed_in h step = None

abbrev pub removed_at : Place → Option Hold
removed_at (places.Removes h seen step) = removed_in h step
removed_at (places.Sweeps h spot left step) = Some h
removed_at p = None

-- ---- plain places

pub record IsPlain (p : Place) : Type 0 where
  pub not_new : new_at p ≡ None
  pub not_removed : removed_at p ≡ None

-- What is behind these isn't always plain.
abbrev pub IsOrdinary : Place → Type 0
IsOrdinary (places.Creates f step) = ⊥
IsOrdinary (places.Removes h seen step) = ⊥
IsOrdinary (places.Sweeps h spot left step) = ⊥
IsOrdinary p = ⊤

module _ (F : Place → Type 0) (plain : (p : Place) → IsPlain p → F p) where
  out : (p : Place) → new_at p ≡ None → removed_at p ≡ None → F p
  out p new removed = plain p (record { not_new = new; not_removed = removed })

  pub either : (b : Bool) (x y : Turn) → TurnIs F x → TurnIs F y → TurnIs F (cond b x y)
  either true x y h k = h
  either false x y h k = k

  survey_on : (h : Hold) (why : Purpose) (left : List ℕ) (seen : List Seen) → TurnIs F (surveys h why left seen)
  survey_on h (purposes.Moves target) [] seen = out _ refl refl
  survey_on h purposes.Removes [] seen = out _ refl refl
  survey_on h (purposes.Mends c) [] seen = out _ refl refl
  survey_on h why (s ∷ left) seen = out _ refl refl

  goes : (e : Errand) (h : Hold) (act : AdminAct) → TurnIs F (goes_on_locked e h act)
  goes e h (acts.Create name server quota) = tt
  goes e h (acts.Restore name server label) = tt
  goes e h (acts.AddSite name server) = either (has_read_only_at server h.entry) _ _ (out _ refl refl) (out _ refl refl)
  goes e h (acts.Backup name) = out _ refl refl
  goes e h (acts.Release name) = out _ refl refl
  goes e h (acts.Move name server) = either (nat_eq server (home h)) (frees h same_place) (surveys_all e h (purposes.Moves server)) (out (places.Frees h same_place None) refl refl) (survey_on h (purposes.Moves server) (all_servers e) [])
  goes e h (acts.Dump name label from) = out _ refl refl
  goes e h (acts.Remove name) = survey_on h purposes.Removes (all_servers e) []
  goes e h (acts.Recover name) = survey_on h (purposes.Mends causes.Asked) (all_servers e) []

  locked_goes : (e : Errand) (h : Hold) (cause : Cause) → TurnIs F (locked e h cause)
  locked_goes e h causes.Asked = goes e h e.act
  locked_goes e h (causes.After code) = survey_on h (purposes.Mends (causes.After code)) (all_servers e) []

  lock_goes : (e : Errand) (cause : Cause) (reply : Reply) → TurnIs F (lock_answered e cause reply)
  lock_goes e cause (tell.Location (entries.SetLock stamp n)) = either (can_go_on e n) _ turns.Passes (locked_goes e (record { entry = n; stamp = stamp }) cause) tt
  lock_goes e cause reply = tt

  seek_goes : (cause : Cause) (reply : Reply) → TurnIs F (seek_answered cause reply)
  seek_goes cause (tell.Location (entries.GetEntryByName n)) = out _ refl refl
  seek_goes cause reply = tt

  free_goes : (code : Code) (reply : Reply) → TurnIs F (free_answered code reply)
  free_goes code (tell.Location entries.ReleaseLock) = tt
  free_goes code reply = tt

  add_goes : (h : Hold) (reply : Reply) → TurnIs F (add_answered h reply)
  add_goes h (tell.Location entries.ReplaceEntry) = out _ refl refl
  add_goes h reply = tt

  plan_goes : (h : Hold) (target : ℕ) (reply : Reply) → TurnIs F (plan_answered h target reply)
  plan_goes h target (tell.Location (entries.GetNewVolumeId x)) = out _ refl refl
  plan_goes h target reply = tt

  survey_goes : (h : Hold) (why : Purpose) (s : ℕ) (left : List ℕ) (seen : List Seen) (reply : Reply) → TurnIs F (survey_answered h why s left seen reply)
  survey_goes h why s left seen (tell.Volume (volumes.ListVols ls)) = survey_on h why left (seen ++ map (seen_by s) ls)
  survey_goes h why s left seen reply = tt

  entry_goes : (e : Errand) (cause : Cause) (h : Hold) (seen : List Seen) (reply : Reply) → TurnIs F (entry_answered e cause h seen reply)
  entry_goes e cause h seen (tell.Location (entries.GetEntryById n)) =
      let m : Mend = mend_of e cause h seen n in either (is_usable n) (takes_copies m m.copies) turns.Passes (takes_is F m m.copies (λ copies others step. out _ refl refl)) tt
  entry_goes e cause h seen reply = tt

  -- ---- behind any refusal, and where an act begins

  refused_goes : (f : Fresh) (step : Creating) (code : Code) → TurnIs F (create_refused f step code)
  refused_goes f (creating.Enters v) code = either (is_dead code) (turns.Ends code) _ tt (out _ refl refl)
  refused_goes f (creating.Checks v first) code = either (is_unlisted code) _ (turns.Ends first) (out _ refl refl) tt
  refused_goes f (creating.Scraps v first) code = tt
  refused_goes f (creating.Scrapped v first t) code = tt
  refused_goes f (creating.Begins v stamp) code = fails_is F None code (λ c. out _ refl refl)
  refused_goes f (creating.Opens v stamp t) code = fails_is F None code (λ c. out _ refl refl)
  refused_goes f (creating.Opened v stamp t) code = fails_is F None code (λ c. out _ refl refl)
  refused_goes f (creating.Frees v stamp) code = fails_is F None code (λ c. out _ refl refl)
  refused_goes f step code = tt

  pub refused_out : (b : Place) (code : Code) → TurnIs F (refused b code)
  refused_out (places.Seeks cause) code = seek_fails_is F cause code
  refused_out (places.Locks cause v) code = seek_fails_is F cause code
  refused_out (places.Frees h ending first) code = fails_is F first code (λ x. out _ refl refl)
  refused_out (places.Creates f step) code = refused_goes f step code
  refused_out (places.Adds h server) code = fails_is F None code (λ x. out _ refl refl)
  refused_out (places.Backs h step) code = fails_is F None code (λ x. out _ refl refl)
  refused_out (places.Dumps s step) code = fails_is F None code (λ x. out _ refl refl)
  refused_out (places.Releases h step) code = fails_is F None code (λ x. out _ refl refl)
  refused_out (places.Tours r step) code = fails_is F r.first code (λ x. out _ refl refl)
  refused_out (places.Visits r s step) code = visit_refused_is F r s step code (λ q is step. out _ refl refl) (λ q is s step. out _ refl refl)
  refused_out (places.Surveys h why s left seen) code = survey_refused_is F why code (λ x. out _ refl refl)
  refused_out (places.Plans h target) code = fails_is F None code (λ x. out _ refl refl)
  refused_out (places.Moves m step) code = fails_is F None code (λ x. out _ refl refl)
  refused_out (places.Removes h seen step) code = fails_is F None code (λ x. out _ refl refl)
  refused_out (places.Sweeps h spot left step) code = fails_is F None code (λ x. out _ refl refl)
  refused_out (places.Asks cause h seen) code = ends_is F cause code
  refused_out (places.Mends m step) code = ends_is F m.cause code

  creates_out : (server : ℕ) (o : Option (List ℕ)) → TurnIs F (creates_from server o)
  creates_out server None = tt
  creates_out server (Some bytes) = out _ refl refl

  pub first_out : (act : AdminAct) (held : Option (List ℕ)) → TurnIs F (begins_with act held)
  first_out (acts.Create name server quota) held = out _ refl refl
  first_out (acts.Restore name server label) held = creates_out server held
  first_out act held = out _ refl refl

  -- ---- behind an answer

  pub answered_out : (e : Errand) (p : Place) (reply : Reply) → IsOrdinary p → TurnIs F (answered e p reply)
  answered_out e (places.Creates f step) reply other = absurd other
  answered_out e (places.Removes h seen step) reply other = absurd other
  answered_out e (places.Sweeps h spot left step) reply other = absurd other
  answered_out e (places.Seeks cause) reply other = seek_goes cause reply
  answered_out e (places.Locks cause v) reply other = lock_goes e cause reply
  answered_out e (places.Frees h code first) reply other = free_goes code reply
  answered_out e (places.Adds h server) reply other = add_goes h reply
  answered_out e (places.Backs h step) reply other = backup_is F h step reply (λ at. out _ refl refl) (out _ refl refl)
  answered_out e (places.Dumps s step) reply other = dump_is F s step reply (λ bytes at. out _ refl refl) (out _ refl refl)
  answered_out e (places.Releases h step) reply other = release_is F h step reply (λ at. out _ refl refl) (λ r at. out _ refl refl)
  answered_out e (places.Tours r step) reply other = tour_is F r step reply (λ q is at. out _ refl refl) (λ q is s at. out _ refl refl) (λ code first. out _ refl refl)
  answered_out e (places.Visits r s step) reply other = visit_is F r s step reply (λ q is at. out _ refl refl) (λ q is t at. out _ refl refl)
  answered_out e (places.Surveys h why s left seen) reply other = survey_goes h why s left seen reply
  answered_out e (places.Plans h target) reply other = plan_goes h target reply
  answered_out e (places.Moves m step) reply other = move_is F m step reply (λ at. out _ refl refl) (out _ refl refl)
  answered_out e (places.Asks cause h seen) reply other = entry_goes e cause h seen reply
  answered_out e (places.Mends m step) reply other = mend_is F m step reply (λ copies others at. out _ refl refl)
