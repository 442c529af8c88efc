-- Worked acts: how they may end behind what they met; and ends that may not stand, each for one reason.
use Rattle.std.proofs.Common.{◌≡◌, ℕ, ◌+◌, ◌*◌, List, [], ◌∷◌, Bool, true, false, pos, negsuc, length, refl, ap}
use Rattle.std.specs.Prelude.{codes, nat_eq}
use Rattle.spec_history.specs.declared.lines.Line.{Line}
use Rattle.spec_history.specs.declared.lines.Line.TheVariants as lines
use Rattle.spec_history.specs.declared.scripts.AdminAct.{AdminAct}
use Rattle.spec_history.specs.declared.scripts.AdminAct.TheVariants as acts
use Rattle.spec_model.specs.CellRows.{call_number}
use Rattle.afs_num.specs.declared.histories.Actor.TheVariants as actors
use Rattle.afs_num.specs.declared.location_calls.LocCall.TheVariants as loc
use Rattle.afs_num.specs.declared.location_calls.LocEntry.{LocEntry}
use Rattle.afs_num.specs.declared.location_calls.LocReply.TheVariants as entries
use Rattle.afs_num.specs.declared.messages.Call.{Call}
use Rattle.afs_num.specs.declared.messages.Call.TheVariants as ask
use Rattle.afs_num.specs.declared.messages.Carried.{Carried}
use Rattle.afs_num.specs.declared.messages.Carried.TheVariants as carried
use Rattle.afs_num.specs.declared.messages.Message.{Message}
use Rattle.afs_num.specs.declared.messages.Reply.TheVariants as tell
use Rattle.afs_num.specs.declared.types.Code.{Code}
use Rattle.afs_num.specs.declared.types.Half.TheVariants as halves
use Rattle.afs_num.specs.declared.types.Node.{Node}
use Rattle.afs_num.specs.declared.types.Node.TheVariants.{Admin, Loc, Server}
use Rattle.afs_num.specs.declared.volume_calls.ListedVolume.{ListedVolume}
use Rattle.afs_num.specs.declared.volume_calls.VolCall.TheVariants as vol
use Rattle.afs_num.specs.declared.volume_calls.VolReply.TheVariants as volumes
use Rattle.spec_rows.specs.Runs.{Entry}
use Rattle.spec_adminrows.specs.Entries.{entry_added, new_entry}
use Rattle.spec_ideal.specs.Operations.{is_number}
use Rattle.law_answers.specs.Answers.{known_behind, nothing_known, HasCauses, Known}
use Rattle.law_answers.specs.Courses.{ends, sticks, Ended, Ending}

-- ---- an administrator asks, and is answered

abbrev me : Node
me = Admin 1

abbrev code : ℕ → Code
code n = record { 0 = pos n }

-- what is asked of whom, and what comes back
record Exchange : Type 0 where
  callee : Node
  call : Call
  back : Carried

abbrev asks : ℕ → Exchange → Message
asks n x = record { head = record { half = halves.Call; from = me; to = x.callee; epoch = 1; number = n; boot = 1; stamp = 0; opcode = call_number x.call }; carried = carried.Call [] x.call }

abbrev answers : ℕ → Exchange → Message
answers n x = record { head = record { half = halves.Reply; from = x.callee; to = me; epoch = 1; number = n; boot = 1; stamp = 0; opcode = call_number x.call }; carried = x.back }

abbrev own : List Line → List Message → Entry
own ls ms = record { actor = actors.Node me; lines = ls; sent = ms; volumes = [] }

abbrev theirs : Message → Entry
theirs m = record { actor = actors.Node Loc; lines = []; sent = m ∷ []; volumes = [] }

-- each is answered, and the next one asked; the last answer is under way
abbrev talk : ℕ → List Exchange → List Entry
talk n [] = []
talk n (x ∷ []) = theirs (answers n x) ∷ []
talk n (x ∷ y ∷ xs) = theirs (answers n x) ∷ own (lines.Given (2 * n) ∷ []) (asks (n + 1) y ∷ []) ∷ talk (n + 1) (y ∷ xs)

abbrev first_asked : List Exchange → List Message
first_asked [] = []
first_asked (x ∷ xs) = asks 1 x ∷ []

abbrev met : AdminAct → List Exchange → List Entry
met act xs = own (lines.BeginAdmin me act ∷ []) (first_asked xs) ∷ talk 1 xs

abbrev known_from : Known → List Entry → Known
known_from k [] = k
known_from k (e ∷ es) = known_from (known_behind me k e) es

-- The act met this; then the last answer is given, these lines are told behind it, and this is sent.
abbrev MayTell : AdminAct → List Exchange → List Line → List Message → Type 0
MayTell act xs ls ms = HasCauses me (known_from nothing_known (met act xs)) (own (lines.Given (2 * length xs) ∷ ls) ms)

-- an end that is stuck, and one with this code
abbrev is_stuck : Ending → Bool
is_stuck (ends c) = false
is_stuck (sticks c) = true

abbrev has_code : ℕ → Ending → Bool
has_code n (ends c) = is_number c.0 n
has_code n (sticks c) = is_number c.0 n

abbrev any_stuck : List Ended → Bool
any_stuck [] = false
any_stuck (e ∷ es) = is_stuck e.how

abbrev any_with : ℕ → List Ended → Bool
any_with n [] = false
any_with n (e ∷ es) = has_code n e.how

-- ---- exchanges

abbrev home : ℕ
home = 536870913

abbrev named : List ℕ
named = codes "proj"

abbrev entry : LocEntry
entry = new_entry named home 1

abbrev looks_up : Exchange
looks_up = record { callee = Loc; call = ask.Location (loc.GetEntryByName named); back = carried.Reply (tell.Location (entries.GetEntryByName entry)) }

abbrev locks : Exchange
locks = record { callee = Loc; call = ask.Location (loc.SetLock home 16 1); back = carried.Reply (tell.Location (entries.SetLock 1 entry)) }

abbrev lists : List ListedVolume → Exchange
lists ls = record { callee = Server 1; call = ask.Volume (vol.ListVols home); back = carried.Reply (tell.Volume (volumes.ListVols ls)) }

abbrev there : ListedVolume
there = record { volume = home; kind = 0; flags = 0; release = 0 }

abbrev looks_at : Exchange
looks_at = record { callee = Loc; call = ask.Location (loc.GetEntryById home); back = carried.Reply (tell.Location (entries.GetEntryById entry)) }

abbrev frees : Exchange
frees = record { callee = Loc; call = ask.Location (loc.ReleaseLock home); back = carried.Reply (tell.Location entries.ReleaseLock) }

abbrev begins_at : Exchange
begins_at = record { callee = Server 1; call = ask.Volume (vol.TransCreate home home 1); back = carried.Reply (tell.Volume (volumes.TransCreate 1)) }

abbrev enters : Exchange
enters = record { callee = Loc; call = ask.Location (loc.CreateEntry entry); back = carried.Reply (tell.Location (entries.CreateEntry 1)) }

abbrev refused : ℕ → Exchange → Exchange
refused n x = record x { back = carried.Refusal (code n) }

-- ---- a recovery

abbrev recover : AdminAct
recover = acts.Recover named

abbrev whole : List Exchange
whole = looks_up ∷ locks ∷ lists (there ∷ []) ∷ looks_at ∷ frees ∷ []

-- the named server has no copy
abbrev lacking : List Exchange
lacking = looks_up ∷ locks ∷ lists [] ∷ looks_at ∷ []

a_recovery_ends_well : MayTell recover whole (lines.Answer me (code 0) ∷ []) []
a_recovery_ends_well its = ((refl, (refl, (refl, refl))), tt)

a_recovery_without_the_volume : MayTell recover lacking (lines.Stuck me (code 103) ∷ []) []
a_recovery_without_the_volume its = ((refl, (refl, (refl, refl))), tt)

answered_without_the_volume : MayTell recover lacking (lines.Answer me (code 103) ∷ []) [] → ⊥
answered_without_the_volume h = let no : true ≡ false = (h refl).0.1.1.0 in absurd cc

stuck_with_another_code : MayTell recover lacking (lines.Stuck me (code 0) ∷ []) [] → ⊥
stuck_with_another_code h = let no : false ≡ true = ap (λ (c : Code). is_number c.0 103) (h refl).0.1.0 in absurd cc

stuck_with_the_volume : MayTell recover whole (lines.Stuck me (code 103) ∷ []) [] → ⊥
stuck_with_the_volume h = let no : false ≡ true = (h refl).0.1.1.0 in absurd cc

answered_under_another_name : MayTell recover whole (lines.Answer (Admin 2) (code 0) ∷ []) [] → ⊥
answered_under_another_name h = let no : Admin 2 ≡ me = (h refl).0.0 in absurd cc

answered_with_another_code : MayTell recover whole (lines.Answer me (code 22) ∷ []) [] → ⊥
answered_with_another_code h = let no : false ≡ true = ap (λ (c : Code). is_number c.0 0) (h refl).0.1.0 in absurd cc

-- before it released the lock
answered_too_early : MayTell recover (looks_up ∷ locks ∷ lists (there ∷ []) ∷ []) (lines.Answer me (code 0) ∷ []) [] → ⊥
answered_too_early h = let no : false ≡ true = (h refl).0.1.1.1 in absurd cc

answered_twice : MayTell recover whole (lines.Answer me (code 0) ∷ lines.Answer me (code 0) ∷ []) [] → ⊥
answered_twice h = (h refl).0

answered_and_asked_on : MayTell recover whole (lines.Answer me (code 0) ∷ []) (asks 6 frees ∷ []) → ⊥
answered_and_asked_on h = (h refl).0

not_answered : MayTell recover whole [] [] → ⊥
not_answered h = let no : true ≡ false = (h refl).0 in absurd cc

-- ---- a call fails in a recovery

abbrev fails_late : ℕ → List Exchange
fails_late n = looks_up ∷ locks ∷ refused n (lists []) ∷ []

a_recovery_sticks : MayTell recover (fails_late 104) (lines.Stuck me (code 104) ∷ []) []
a_recovery_sticks its = ((refl, tt), tt)

another_has_the_entry : MayTell recover (fails_late 363541) (lines.Answer me (code 363541) ∷ []) []
another_has_the_entry its = ((refl, tt), tt)

not_stuck : MayTell recover (fails_late 104) (lines.Answer me (code 104) ∷ []) [] → ⊥
not_stuck h = let no : false ≡ true = ap any_stuck (h refl).0.0 in absurd cc

stuck_where_another_has_the_entry : MayTell recover (fails_late 363541) (lines.Stuck me (code 363541) ∷ []) [] → ⊥
stuck_where_another_has_the_entry h = let no : true ≡ false = ap any_stuck (h refl).0.0 in absurd cc

goes_on_where_it_sticks : MayTell recover (fails_late 104) [] (asks 4 looks_at ∷ []) → ⊥
goes_on_where_it_sticks h = let no = (h refl).0.0 in absurd cc

-- before the lock
stuck_before_the_lock : MayTell recover (looks_up ∷ refused 363541 locks ∷ []) (lines.Stuck me (code 363541) ∷ []) [] → ⊥
stuck_before_the_lock h = let no : true ≡ false = ap any_stuck (h refl).0.0 in absurd cc

refused_the_lock : MayTell recover (looks_up ∷ refused 363541 locks ∷ []) (lines.Answer me (code 363541) ∷ []) []
refused_the_lock its = ((refl, tt), tt)

-- ---- a failure while the lock is held leads to a recovery, whose answer is the first code

abbrev move : AdminAct
move = acts.Move named 2

abbrev fails_held : List Exchange
fails_held = looks_up ∷ locks ∷ refused 104 (lists []) ∷ []

abbrev mended : List Exchange
mended = looks_up ∷ locks ∷ refused 104 (lists []) ∷ looks_up ∷ locks ∷ lists (there ∷ []) ∷ looks_at ∷ frees ∷ []

it_is_put_in_order : MayTell move fails_held [] (asks 4 looks_up ∷ [])
it_is_put_in_order its = ((refl, tt), tt)

answered_at_once : MayTell move fails_held (lines.Answer me (code 104) ∷ []) [] → ⊥
answered_at_once h = let no = (h refl).0.0 in absurd cc

neither_ends_nor_asks : MayTell move fails_held [] [] → ⊥
neither_ends_nor_asks h = (h refl).0.1

the_first_code : MayTell move mended (lines.Answer me (code 104) ∷ []) []
the_first_code its = ((refl, (refl, (refl, refl))), tt)

the_failure_is_forgotten : MayTell move mended (lines.Answer me (code 0) ∷ []) [] → ⊥
the_failure_is_forgotten h = let no : false ≡ true = ap (λ (c : Code). is_number c.0 104) (h refl).0.1.0 in absurd cc

-- the recovery fails too: it is stuck with the first code
the_later_code : MayTell move (looks_up ∷ locks ∷ refused 104 (lists []) ∷ looks_up ∷ refused 105 locks ∷ []) (lines.Stuck me (code 105) ∷ []) [] → ⊥
the_later_code h = let no : false ≡ true = ap (any_with 104) (h refl).0.0 in absurd cc

the_first_code_sticks : MayTell move (looks_up ∷ locks ∷ refused 104 (lists []) ∷ looks_up ∷ refused 105 locks ∷ []) (lines.Stuck me (code 104) ∷ []) []
the_first_code_sticks its = ((refl, tt), tt)

-- ---- 22

-- the volume is there already
stays : MayTell (acts.Move named 1) (looks_up ∷ locks ∷ frees ∷ []) (lines.Answer me (code 22) ∷ []) []
stays its = ((refl, (refl, (refl, refl))), tt)

moved_nowhere : MayTell (acts.Move named 1) (looks_up ∷ locks ∷ frees ∷ []) (lines.Answer me (code 0) ∷ []) [] → ⊥
moved_nowhere h = let no : false ≡ true = ap (λ (c : Code). is_number c.0 22) (h refl).0.1.0 in absurd cc

stays_elsewhere : MayTell (acts.Move named 2) (looks_up ∷ locks ∷ frees ∷ []) (lines.Answer me (code 22) ∷ []) [] → ⊥
stays_elsewhere h = let no : false ≡ true = ap (λ (c : Code). is_number c.0 0) (h refl).0.1.0 in absurd cc

abbrev locks_added : Exchange
locks_added = record locks { back = carried.Reply (tell.Location (entries.SetLock 1 (entry_added 2 entry))) }

the_site_is_there : MayTell (acts.AddSite named 2) (looks_up ∷ locks_added ∷ frees ∷ []) (lines.Answer me (code 22) ∷ []) []
the_site_is_there its = ((refl, (refl, (refl, refl))), tt)

the_site_is_new : MayTell (acts.AddSite named 2) (looks_up ∷ locks ∷ frees ∷ []) (lines.Answer me (code 22) ∷ []) [] → ⊥
the_site_is_new h = let no : false ≡ true = ap (λ (c : Code). is_number c.0 0) (h refl).0.1.0 in absurd cc

-- ---- a new volume

abbrev create : AdminAct
create = acts.Create named 1 10

-- where its entry is refused, it is asked whether that is there all the same
asks_for_the_entry : MayTell create (refused 363521 enters ∷ []) [] (asks 2 looks_at ∷ [])
asks_for_the_entry its = ((refl, tt), tt)

answered_without_asking : MayTell create (refused 363521 enters ∷ []) (lines.Answer me (code 363521) ∷ []) [] → ⊥
answered_without_asking h = let no = (h refl).0.0 in absurd cc

-- where it has its entry, a failure leads to a recovery
a_new_volume_is_put_in_order : MayTell create (enters ∷ refused 104 begins_at ∷ []) [] (asks 3 looks_up ∷ [])
a_new_volume_is_put_in_order its = ((refl, tt), tt)

answered_behind_its_entry : MayTell create (enters ∷ refused 104 begins_at ∷ []) (lines.Answer me (code 104) ∷ []) [] → ⊥
answered_behind_its_entry h = let no = (h refl).0.0 in absurd cc

-- ---- timeouts

abbrev Times : ℕ → ℕ → List Line → List Message → Type 0
Times number count ls ms = HasCauses me (known_from nothing_known (own (lines.BeginAdmin me recover ∷ []) (asks 1 looks_up ∷ []) ∷ [])) (own (lines.Timeout me Loc 1 number count ∷ ls) ms)

given_up : Times 1 3 (lines.Answer me (record { 0 = negsuc 0 }) ∷ []) []
given_up its = ((refl, tt), ((refl, (refl, (refl, refl))), tt))

given_up_too_early : Times 1 2 (lines.Answer me (record { 0 = negsuc 0 }) ∷ []) [] → ⊥
given_up_too_early h = let no = (h refl).0 in absurd cc

sent_a_fourth_time : Times 1 3 [] (asks 1 looks_up ∷ []) → ⊥
sent_a_fourth_time h = let no = (h refl).0.0 in absurd cc

times_another_call : Times 2 1 [] (asks 1 looks_up ∷ []) → ⊥
times_another_call h = let no : false ≡ true = ap (λ (n : ℕ). nat_eq n 1) (h refl).1.0.1.1.1 in absurd cc

-- ---- a dump that is held, or not

abbrev restore : AdminAct
restore = acts.Restore named 1 (codes "d1")

abbrev new_number : Exchange
new_number = record { callee = Loc; call = ask.Location loc.GetNewVolumeId; back = carried.Reply (tell.Location (entries.GetNewVolumeId home)) }

abbrev Begins : List Entry → List Line → List Message → Type 0
Begins es ls ms = HasCauses me (known_from nothing_known es) (own (lines.BeginAdmin me restore ∷ ls) ms)

abbrev holds : Entry
holds = own (lines.Dumped me (codes "d1") 280 ∷ []) []

restores : Begins (holds ∷ []) [] (asks 1 new_number ∷ [])
restores its = ((refl, (refl, (refl, tt))), tt)

has_no_dump : Begins [] (lines.Answer me (code 2) ∷ []) []
has_no_dump its = ((refl, (refl, (refl, tt))), tt)

restores_nothing : Begins [] [] (asks 1 new_number ∷ []) → ⊥
restores_nothing h = let no = (h refl).0.1.1.0 in absurd cc

-- a dump goes where its administrator stops
restores_what_went : Begins (holds ∷ own (lines.Crash me ∷ []) [] ∷ []) [] (asks 1 new_number ∷ []) → ⊥
restores_what_went h = let no = (h refl).0.1.1.0 in absurd cc

-- no act runs
answered_without_an_act : HasCauses me nothing_known (own (lines.Given 1 ∷ lines.Answer me (code 0) ∷ []) []) → ⊥
answered_without_an_act h = let no = (h refl).0 in absurd cc
