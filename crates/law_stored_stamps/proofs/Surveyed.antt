-- From place to place an act's stamp gets to the servers that it asks.
use Rattle.std.proofs.Common.{◌≡◌, ◌≤◌, ◌<◌, ℕ, zero, suc, ◌+◌, Bool, true, false, cond, List, [], ◌∷◌, ◌++◌, map, Option, Some, None, refl, sym, ap, subst, ◌∙◌, arith, eqb-true}
use Rattle.std.proofs.Math.Nat.{le_trans}
use Rattle.std.proofs.lemmas.Bool.Decides.{nat_tests}
use Rattle.std.specs.Prelude.{⊤, nat_eq, nat_lt, ◌||◌}
use Rattle.std.specs.List.{list_any}
use Rattle.afs_num.specs.declared.location_calls.LocReply.TheVariants as entries
use Rattle.afs_num.specs.declared.messages.Call.TheVariants as ask
use Rattle.afs_num.specs.declared.messages.Reply.{Reply}
use Rattle.afs_num.specs.declared.messages.Reply.TheVariants as tell
use Rattle.afs_num.specs.declared.types.Code.{Code}
use Rattle.afs_num.specs.declared.types.Node.TheVariants.{Server}
use Rattle.afs_num.specs.declared.volume_calls.ListedVolume.{ListedVolume}
use Rattle.afs_num.specs.declared.volume_calls.VolCall.{VolCall}
use Rattle.afs_num.specs.declared.volume_calls.VolCall.TheVariants as vol
use Rattle.spec_volrows.specs.VolRow.{family_of}
use Rattle.afs_num.specs.declared.volume_calls.VolReply.TheVariants as volumes
use Rattle.spec_history.specs.declared.scripts.AdminAct.{AdminAct}
use Rattle.spec_history.specs.declared.scripts.AdminAct.TheVariants as acts
use Rattle.spec_adminrows.specs.Acts.{answered, asks_at, begins_with, can_go_on, creates_from, free_answered, goes_on_locked, lock_answered, locked, refused, seek_answered}
use Rattle.spec_adminrows.specs.Asks.{all_servers, family, from_to, home}
use Rattle.spec_adminrows.specs.Copying.{add_answered, adds}
use Rattle.spec_adminrows.specs.Entries.{has_read_only_at, is_usable}
use Rattle.spec_adminrows.specs.Moving.{moves_to, plan_answered}
use Rattle.spec_adminrows.specs.Recovering.{entry_answered, mend_of}
use Rattle.spec_adminrows.specs.Surveying.{seen_by, survey_answered, surveyed, surveys, surveys_all}
use Rattle.spec_adminrows.specs.declared.places.Cause.{Cause}
use Rattle.spec_adminrows.specs.declared.places.Cause.TheVariants as causes
use Rattle.spec_adminrows.specs.declared.places.Hold.{Hold}
use Rattle.spec_adminrows.specs.declared.places.Mend.{Mend}
use Rattle.spec_adminrows.specs.declared.places.Place.{Place}
use Rattle.spec_adminrows.specs.declared.places.Place.TheVariants as places
use Rattle.spec_adminrows.specs.declared.places.Purpose.{Purpose}
use Rattle.spec_adminrows.specs.declared.places.Purpose.TheVariants as purposes
use Rattle.spec_adminrows.specs.declared.places.Seen.{Seen}
use Rattle.spec_adminrows.specs.declared.turns.Ask.{Ask}
use Rattle.spec_adminrows.specs.declared.turns.Errand.{Errand}
use Rattle.spec_adminrows.specs.declared.turns.Turn.{Turn}
use Rattle.spec_adminrows.specs.declared.turns.Turn.TheVariants as turns
use Rattle.spec_runs.specs.NodeRuns.{has_host, NodeCell}
use Rattle.law_stamps.specs.Stamps.{stored_stamp}
use Rattle.law_stored_stamps.specs.Surveys.{IsStored, IsSurveyed}
use Rattle.law_walks.proofs.Places.{backup_is, create_is, create_refused_is, dump_is, ends_is, fails_is, mend_is, move_is, release_is, remove_is, seek_fails_is, survey_refused_is, sweep_is, takes_is, tour_is, visit_is, visit_refused_is, TurnIs}

-- ---- which servers are asked

among : (b : Bool) (n i : ℕ) (rest : List ℕ) → nat_eq i n ≡ b → (b ≡ false → list_any (nat_eq i) rest ≡ true) → list_any (nat_eq i) (n ∷ rest) ≡ true
among true n i rest is k = rw is refl
among false n i rest is k = rw is (k refl)

above : (n i : ℕ) → n ≤ i → nat_eq i n ≡ false → n + 1 ≤ i
above n i low other = grind (arith, nat_tests, low, other)

in_range : (n k i : ℕ) → n ≤ i → i < n + k → list_any (nat_eq i) (from_to n k) ≡ true
in_range n zero i low high = absurd (let no : n < n = omega (arith, low, high) in omega (arith, no))
in_range n (suc k) i low high = among (nat_eq i n) n i (from_to (n + 1) k) refl (λ no. in_range (n + 1) k i (above n i low no) (omega (arith, high)))

-- all servers of the cell are asked, for an administrator knows how many there are
asked_all : (c : NodeCell) (e : Errand) (i : ℕ) → e.servers ≡ c.host_count → has_host c i ≡ true → list_any (nat_eq i) (all_servers e) ≡ true
asked_all c e zero count there = absurd cc
asked_all c e (suc i) count there = let high : suc i < 1 + e.servers = grind (arith, nat_tests, count, there) in in_range 1 e.servers (suc i) (omega (arith)) high

-- ---- what is stored

-- the server of this callee has stored the stamp of a call that it answered
abbrev pub IsBrought : NodeCell → Ask → Type 0
IsBrought c q = (i : ℕ) (call : VolCall) → q.callee ≡ Server i → q.call ≡ ask.Volume call → q.stamp ≤ stored_stamp c i (family_of call)

module _ (c : NodeCell) where
  none_left : (i s : ℕ) (left : List ℕ) → nat_eq i s ≡ false → list_any (nat_eq i) left ≡ false → list_any (nat_eq i) (s ∷ left) ≡ false
  none_left i s left other none = rw other none

  one_by : (b : Bool) (family stamp i s : ℕ) (left : List ℕ) → nat_eq i s ≡ b → IsStored c family stamp (s ∷ left) → stamp ≤ stored_stamp c s family → has_host c i ≡ true → list_any (nat_eq i) left ≡ false → stamp ≤ stored_stamp c i family
  one_by true family stamp i s left is h here there none = subst (λ (k : ℕ). stamp ≤ stored_stamp c k family) (sym (eqb-true i s is)) here
  one_by false family stamp i s left is h here there none = h i there (none_left i s left is none)

  -- one that has it needn't be asked any more
  one_less : (family stamp s : ℕ) (left : List ℕ) → IsStored c family stamp (s ∷ left) → stamp ≤ stored_stamp c s family → IsStored c family stamp left
  one_less family stamp s left h here i there none = one_by (nat_eq i s) family stamp i s left refl h here there none

  surveyed_is : (h : Hold) (why : Purpose) (seen : List Seen) → IsStored c (family h) h.stamp [] → TurnIs (IsSurveyed c) (surveyed h why seen)
  surveyed_is h (purposes.Moves target) seen all = all
  surveyed_is h purposes.Removes seen all = all
  surveyed_is h (purposes.Mends cause) seen all = all

  surveys_is : (h : Hold) (why : Purpose) (left : List ℕ) (seen : List Seen) → IsStored c (family h) h.stamp left → TurnIs (IsSurveyed c) (surveys h why left seen)
  surveys_is h why [] seen all = surveyed_is h why seen all
  surveys_is h why (s ∷ left) seen all = all

  -- at first all are to be asked
  begins_is : (e : Errand) (h : Hold) (why : Purpose) → e.servers ≡ c.host_count → TurnIs (IsSurveyed c) (surveys_all e h why)
  begins_is e h why count = surveys_is h why (all_servers e) [] (λ i there none. let no : true ≡ false = sym (asked_all c e i count there) ∙ none in absurd cc)

  survey_is : (h : Hold) (why : Purpose) (s : ℕ) (left : List ℕ) (seen : List Seen) (reply : Reply) → IsStored c (family h) h.stamp (s ∷ left) → ((ls : List ListedVolume) → reply ≡ tell.Volume (volumes.ListVols ls) → h.stamp ≤ stored_stamp c s (family h)) → TurnIs (IsSurveyed c) (survey_answered h why s left seen reply)
  survey_is h why s left seen (tell.Volume (volumes.ListVols ls)) all here = surveys_is h why left (seen ++ map (seen_by s) ls) (one_less (family h) h.stamp s left all (here ls refl))
  survey_is h why s left seen reply all here = tt

  either : (b : Bool) (x y : Turn) → TurnIs (IsSurveyed c) x → TurnIs (IsSurveyed c) y → TurnIs (IsSurveyed c) (cond b x y)
  either true x y h k = h
  either false x y h k = k

  goes_is : (e : Errand) (h : Hold) (act : AdminAct) → e.servers ≡ c.host_count → TurnIs (IsSurveyed c) (goes_on_locked e h act)
  goes_is e h (acts.Create name server quota) count = tt
  goes_is e h (acts.Restore name server label) count = tt
  goes_is e h (acts.AddSite name server) count = either (has_read_only_at server h.entry) _ _ tt tt
  goes_is e h (acts.Backup name) count = tt
  goes_is e h (acts.Release name) count = tt
  goes_is e h (acts.Move name server) count = either (nat_eq server (home h)) _ _ tt (begins_is e h (purposes.Moves server) count)
  goes_is e h (acts.Dump name label from) count = tt
  goes_is e h (acts.Remove name) count = begins_is e h purposes.Removes count
  goes_is e h (acts.Recover name) count = begins_is e h (purposes.Mends causes.Asked) count

  locked_is : (e : Errand) (h : Hold) (cause : Cause) → e.servers ≡ c.host_count → TurnIs (IsSurveyed c) (locked e h cause)
  locked_is e h causes.Asked count = goes_is e h e.act count
  locked_is e h (causes.After code) count = begins_is e h (purposes.Mends (causes.After code)) count

  lock_is : (e : Errand) (cause : Cause) (reply : Reply) → e.servers ≡ c.host_count → TurnIs (IsSurveyed c) (lock_answered e cause reply)
  lock_is e cause (tell.Location (entries.SetLock stamp n)) count = either (can_go_on e n) _ turns.Passes (locked_is e (record { entry = n; stamp = stamp }) cause count) tt
  lock_is e cause reply count = tt

  seek_is : (cause : Cause) (reply : Reply) → TurnIs (IsSurveyed c) (seek_answered cause reply)
  seek_is cause (tell.Location (entries.GetEntryByName n)) = tt
  seek_is cause reply = tt

  free_is : (code : Code) (reply : Reply) → TurnIs (IsSurveyed c) (free_answered code reply)
  free_is code (tell.Location entries.ReleaseLock) = tt
  free_is code reply = tt

  add_is : (h : Hold) (reply : Reply) → TurnIs (IsSurveyed c) (add_answered h reply)
  add_is h (tell.Location entries.ReplaceEntry) = tt
  add_is h reply = tt

  plan_is : (h : Hold) (target : ℕ) (reply : Reply) → IsStored c (family h) h.stamp [] → TurnIs (IsSurveyed c) (plan_answered h target reply)
  plan_is h target (tell.Location (entries.GetNewVolumeId x)) all = all
  plan_is h target reply all = tt

  entry_is : (e : Errand) (cause : Cause) (h : Hold) (seen : List Seen) (reply : Reply) → IsStored c (family h) h.stamp [] → TurnIs (IsSurveyed c) (entry_answered e cause h seen reply)
  entry_is e cause h seen (tell.Location (entries.GetEntryById n)) all =
      let m : Mend = mend_of e cause h seen n in either (is_usable n) _ turns.Passes (takes_is (IsSurveyed c) m m.copies (λ copies others step. all)) tt
  entry_is e cause h seen reply all = tt

  -- ---- behind a reply: that of a list is of a server that has the stamp

  pub answered_is : (e : Errand) (p : Place) (reply : Reply) → e.servers ≡ c.host_count → IsSurveyed c p → ((ls : List ListedVolume) → reply ≡ tell.Volume (volumes.ListVols ls) → IsBrought c (asks_at e p)) → TurnIs (IsSurveyed c) (answered e p reply)
  answered_is e (places.Seeks cause) reply count all brought = seek_is cause reply
  answered_is e (places.Locks cause v) reply count all brought = lock_is e cause reply count
  answered_is e (places.Frees h code first) reply count all brought = free_is code reply
  answered_is e (places.Creates f step) reply count all brought = create_is (IsSurveyed c) f step reply (λ step. tt)
  answered_is e (places.Adds h server) reply count all brought = add_is h reply
  answered_is e (places.Backs h step) reply count all brought = backup_is (IsSurveyed c) h step reply (λ step. tt) tt
  answered_is e (places.Dumps s step) reply count all brought = dump_is (IsSurveyed c) s step reply (λ bytes step. tt) tt
  answered_is e (places.Releases h step) reply count all brought = release_is (IsSurveyed c) h step reply (λ step. tt) (λ r step. tt)
  answered_is e (places.Tours r step) reply count all brought = tour_is (IsSurveyed c) r step reply (λ r same step. tt) (λ r same s step. tt) (λ code first. tt)
  answered_is e (places.Visits r s step) reply count all brought = visit_is (IsSurveyed c) r s step reply (λ r same step. tt) (λ r same s step. tt)
  answered_is e (places.Surveys h why s left seen) reply count all brought = survey_is h why s left seen reply all (λ ls is. brought ls is s (vol.ListVols (family h)) refl refl)
  answered_is e (places.Plans h target) reply count all brought = plan_is h target reply all
  answered_is e (places.Moves m step) reply count all brought = move_is (IsSurveyed c) m step reply (λ step. all) tt
  answered_is e (places.Removes h seen step) reply count all brought = remove_is (IsSurveyed c) h seen step reply (λ step. all) (λ spot left step. all)
  answered_is e (places.Sweeps h spot left step) reply count all brought = sweep_is (IsSurveyed c) h spot left step reply (λ spot left step. all)
  answered_is e (places.Asks cause h seen) reply count all brought = entry_is e cause h seen reply all
  answered_is e (places.Mends m step) reply count all brought = mend_is (IsSurveyed c) m step reply (λ copies others step. all)

  -- ---- behind a refusal it goes to no place of which something is said

  pub refused_is : (p : Place) (code : Code) → TurnIs (IsSurveyed c) (refused p code)
  refused_is (places.Seeks cause) code = seek_fails_is (IsSurveyed c) cause code
  refused_is (places.Locks cause v) code = seek_fails_is (IsSurveyed c) cause code
  refused_is (places.Frees h ending first) code = fails_is (IsSurveyed c) first code (λ cause. tt)
  refused_is (places.Creates f step) code = create_refused_is (IsSurveyed c) f step code (λ step. tt) (λ cause. tt)
  refused_is (places.Adds h server) code = fails_is (IsSurveyed c) None code (λ cause. tt)
  refused_is (places.Backs h step) code = fails_is (IsSurveyed c) None code (λ cause. tt)
  refused_is (places.Dumps s step) code = fails_is (IsSurveyed c) None code (λ cause. tt)
  refused_is (places.Releases h step) code = fails_is (IsSurveyed c) None code (λ cause. tt)
  refused_is (places.Tours r step) code = fails_is (IsSurveyed c) r.first code (λ cause. tt)
  refused_is (places.Visits r s step) code = visit_refused_is (IsSurveyed c) r s step code (λ r same step. tt) (λ r same s step. tt)
  refused_is (places.Surveys h why s left seen) code = survey_refused_is (IsSurveyed c) why code (λ cause. tt)
  refused_is (places.Plans h target) code = fails_is (IsSurveyed c) None code (λ cause. tt)
  refused_is (places.Moves m step) code = fails_is (IsSurveyed c) None code (λ cause. tt)
  refused_is (places.Removes h seen step) code = fails_is (IsSurveyed c) None code (λ cause. tt)
  refused_is (places.Sweeps h spot left step) code = fails_is (IsSurveyed c) None code (λ cause. tt)
  refused_is (places.Asks cause h seen) code = ends_is (IsSurveyed c) cause code
  refused_is (places.Mends m step) code = ends_is (IsSurveyed c) m.cause code

  creates_is : (server : ℕ) (o : Option (List ℕ)) → TurnIs (IsSurveyed c) (creates_from server o)
  creates_is server None = tt
  creates_is server (Some bytes) = tt

  -- and so it begins
  pub first_is : (act : AdminAct) (held : Option (List ℕ)) → TurnIs (IsSurveyed c) (begins_with act held)
  first_is (acts.Create name server quota) held = tt
  first_is (acts.Restore name server label) held = creates_is server held
  first_is act held = tt
