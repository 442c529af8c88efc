-- What the location database runs: a call that runs is later than its caller's last one, and is the last one then; so none runs twice in
-- a boot, and one that changed something never again.
use Rattle.std.proofs.Common.{arith, ◌≡◌, ◌≤◌, ◌+◌, ℕ, Bool, true, false, cond, List, [], ◌∷◌, Option, Some, None, refl, sym, ap, subst, ◌∙◌}
use Rattle.afs_num.specs.Nodes.{same_node}
use Rattle.afs_num.specs.declared.messages.Call.TheVariants as ask
use Rattle.afs_num.specs.declared.messages.Carried.{Carried}
use Rattle.afs_num.specs.declared.messages.Carried.TheVariants as carried
use Rattle.afs_num.specs.declared.messages.Message.{Message}
use Rattle.afs_num.specs.declared.messages.Received.{Received}
use Rattle.afs_num.specs.declared.messages.Received.TheVariants.{Nothing, Unserved, Unreadable, Whole}
use Rattle.afs_num.specs.declared.types.Head.{Head}
use Rattle.afs_num.specs.declared.types.Key.{Key}
use Rattle.afs_num.specs.declared.types.Node.{Node}
use Rattle.afs_num.specs.declared.types.Node.TheVariants.{Loc}
use Rattle.spec_model.specs.Calls.{admitted, call_seat, call_seated, Admitted}
use Rattle.spec_model.specs.Calls as pairs
use Rattle.spec_records.specs.LocDurable.{loc_has_room}
use Rattle.law_legal.specs.DatabaseRuns.{begins_again, head_run, head_saved, is_given, loc_behind, loc_behind_all, IsAfter, IsOneBoot, CallersAreSettled, LocBootsRise, LocCallsRunOnce, LocChangesAreOnce, LocEvent, LocStaysSettled}
use Rattle.law_legal.proofs.BaseLaws.{Above, above_up, at_seat, below_not, below_up_to, own_seat, runs_admitted, some_of, up_to_same}
use Rattle.law_legal.proofs.ServerDiskKeeps.{at_placed}
use Rattle.spec_rows.specs.LocRow.{admits, called, changes, decided, drops, hears, loc_decides, loc_durable_of, loc_left, loc_op, loc_record_of, reads, refused, refuses, repeats, reply_to, runs, runs_carried, runs_received, saves, shows, tells_boot, LocDecision, LocResult, LocState}
use Rattle.spec_rows.specs.ServerRow.{no_room, not_served, refusal, seat_for, seat_placed, whole}
use Rattle.spec_rows.specs.States.{Seat}

-- ---- what is decided on a call runs that call

abbrev IsOf : Head → LocDecision → Type 0
IsOf head drops = Unit {0}
IsOf head (tells_boot x) = Unit {0}
IsOf head (repeats m) = Unit {0}
IsOf head (refuses x code) = x ≡ head
IsOf head (shows x reply) = x ≡ head
IsOf head (saves x c) = x ≡ head

either_of : (head : Head) (t : Bool) (a b : LocDecision) → IsOf head a → IsOf head b → IsOf head (cond t a b)
either_of head true a b h k = h
either_of head false a b h k = k

decided_of : (s : LocState) (head : Head) (r : LocResult) → IsOf head (decided s head r)
decided_of s head (refused code) = refl
decided_of s head (reads reply) = refl
decided_of s head (changes c) = either_of head (loc_has_room (loc_durable_of s.lasting) (loc_record_of s.lasting.boot head c)) (saves head c) (refuses head no_room) refl refl

carried_of : (s : LocState) (head : Head) (x : Carried) → IsOf head (runs_carried s head x)
carried_of s head (carried.Call user (ask.Location call)) = decided_of s head (loc_op head.stamp call s.lasting)
carried_of s head (carried.Call user (ask.File call)) = refl
carried_of s head (carried.Call user (ask.Volume call)) = refl
carried_of s head (carried.Refusal code) = tt
carried_of s head (carried.Reply reply) = tt
carried_of s head carried.Notice = tt

received_of : (s : LocState) (head : Head) (r : Received) → IsOf head (runs_received s head r)
received_of s head Nothing = tt
received_of s head (Unserved other) = refl
received_of s head (Unreadable other) = refl
received_of s head (Whole m) = carried_of s head m.carried

runs_of : (s : LocState) (head : Head) (r : Received) → IsOf head (runs s head r)
runs_of s head r = either_of head (same_node head.from Loc) (refuses head not_served) (runs_received s head r) refl (received_of s head r)

no_head : (h : Head) → None ≡ Some h → ⊥
no_head h e = absurd cc

run_is : (head h : Head) (d : LocDecision) → IsOf head d → head_run d ≡ Some h → h ≡ head
run_is head h drops is e = absurd (no_head h e)
run_is head h (tells_boot x) is e = absurd (no_head h e)
run_is head h (repeats m) is e = absurd (no_head h e)
run_is head h (refuses x code) is e = sym (some_of x h e) ∙ is
run_is head h (shows x reply) is e = sym (some_of x h e) ∙ is
run_is head h (saves x c) is e = sym (some_of x h e) ∙ is

-- ---- and is later than its caller's last one

after_of : (o : Option Seat) (e k : ℕ) → Above o e k → IsAfter o e k
after_of None e k z = z
after_of (Some seat) e k z = z

above_of : (o : Option Seat) (e k : ℕ) → IsAfter o e k → Above o e k
above_of None e k z = z
above_of (Some seat) e k z = z

abbrev RunsAfter : LocState → LocDecision → Type 0
RunsAfter s d = (h : Head) → head_run d ≡ Some h → IsAfter (call_seat h.from s.seats) h.epoch h.number

admits_after : (s : LocState) (head : Head) (r : Received) (o : Admitted Message) → admitted s.lasting.boot s.seats head ≡ o → RunsAfter s (admits s head r o)
admits_after s head r pairs.runs e h run =
    subst (λ (x : Head). IsAfter (call_seat x.from s.seats) x.epoch x.number) (sym (run_is head h (runs s head r) (runs_of s head r) run)) (after_of (call_seat head.from s.seats) head.epoch head.number (runs_admitted s.lasting.boot s.seats head e).1)
admits_after s head r (pairs.kept reply) e h run = absurd (no_head h run)
admits_after s head r pairs.in_progress e h run = absurd (no_head h run)
admits_after s head r pairs.older e h run = absurd (no_head h run)
admits_after s head r (pairs.wrong_boot boot) e h run = absurd (no_head h run)

called_after : (t : Bool) (s : LocState) (head : Head) (r : Received) → RunsAfter s (cond t (admits s head r (admitted s.lasting.boot s.seats head)) drops)
called_after true s head r h run = admits_after s head r (admitted s.lasting.boot s.seats head) refl h run
called_after false s head r h run = absurd (no_head h run)

hears_after : (s : LocState) (head : Head) (x : Carried) → RunsAfter s (hears s head x)
hears_after s head (carried.Call user call) h run = called_after (same_node head.to Loc) s head (whole head (carried.Call user call)) h run
hears_after s head (carried.Refusal code) h run = absurd (no_head h run)
hears_after s head (carried.Reply reply) h run = absurd (no_head h run)
hears_after s head carried.Notice h run = absurd (no_head h run)

decides_after : (s : LocState) (r : Received) → RunsAfter s (loc_decides s r)
decides_after s Nothing h run = absurd (no_head h run)
decides_after s (Unserved head) h run = called_after (same_node head.to Loc) s head (Unserved head) h run
decides_after s (Unreadable head) h run = called_after (same_node head.to Loc) s head (Unreadable head) h run
decides_after s (Whole m) h run = hears_after s m.head m.carried h run

-- ---- it is the last one then, and callers' last calls never become earlier

-- what is later than a caller's last call in the second was so in the first
abbrev Rises : List Seat → List Seat → Type 0
Rises old new = (n : Node) (e k : ℕ) → IsAfter (call_seat n new) e k → IsAfter (call_seat n old) e k

-- this call isn't later than its caller's last one
abbrev HasRun : Head → List Seat → Type 0
HasRun h seats = IsAfter (call_seat h.from seats) h.epoch h.number → ⊥

not_itself : (head : Head) (m : Message) → IsAfter (Some (seat_for head m)) head.epoch head.number → ⊥
not_itself head m z = below_not head.epoch head.number head.epoch head.number z (up_to_same head.epoch head.number head.epoch head.number refl refl)

over_it : (head : Head) (m : Message) (seats : List Seat) (n : Node) (e k : ℕ) → IsAfter (call_seat head.from seats) head.epoch head.number → head.from ≡ n → IsAfter (Some (seat_for head m)) e k → IsAfter (call_seat n seats) e k
over_it head m seats n e k after same later =
    subst (λ (y : Node). IsAfter (call_seat y seats) e k) same
    (after_of (call_seat head.from seats) e k (above_up (call_seat head.from seats) head.epoch head.number e k (above_of (call_seat head.from seats) head.epoch head.number after) (below_up_to head.epoch head.number e k later)))

seat_rises : (head : Head) (m : Message) (seats : List Seat) → IsAfter (call_seat head.from seats) head.epoch head.number → Rises seats (call_seated (seat_for head m) seats)
seat_rises head m seats after n e k =
    at_seat (seat_for head m) n seats (λ (o : Option Seat). IsAfter o e k → IsAfter (call_seat n seats) e k) (λ same later. over_it head m seats n e k after same later) (λ other later. later)

placed_rises : (head : Head) (m : Message) (seats : List Seat) → IsAfter (call_seat head.from seats) head.epoch head.number → Rises seats (seat_placed (seat_for head m) seats)
placed_rises head m seats after n e k =
    at_placed (seat_for head m) n seats (λ (o : Option Seat). IsAfter o e k → IsAfter (call_seat n seats) e k) (λ same later. over_it head m seats n e k after same later) (λ other later. later)

seat_ran : (head : Head) (m : Message) (seats : List Seat) → HasRun head (call_seated (seat_for head m) seats)
seat_ran head m seats = at_seat (seat_for head m) head.from seats (λ (o : Option Seat). IsAfter o head.epoch head.number → ⊥) (λ same z. not_itself head m z) (λ other. absurd (other refl))

placed_ran : (head : Head) (m : Message) (seats : List Seat) → HasRun head (seat_placed (seat_for head m) seats)
placed_ran head m seats = at_placed (seat_for head m) head.from seats (λ (o : Option Seat). IsAfter o head.epoch head.number → ⊥) (λ same z. not_itself head m z) (λ other. absurd (other refl))

-- ---- a decision that is done

left_rises : (s : LocState) (d : LocDecision) → RunsAfter s d → Rises s.seats (loc_left s d).seats
left_rises s drops a n e k z = z
left_rises s (tells_boot head) a n e k z = z
left_rises s (repeats reply) a n e k z = z
left_rises s (refuses head code) a n e k z = seat_rises head (refusal s.lasting.boot head code) s.seats (a head refl) n e k z
left_rises s (shows head reply) a n e k z = seat_rises head (reply_to s.lasting.boot head reply) s.seats (a head refl) n e k z
left_rises s (saves head c) a n e k z = seat_rises head (reply_to s.lasting.boot head c.reply) s.seats (a head refl) n e k z

left_ran : (s : LocState) (d : LocDecision) (h : Head) → head_run d ≡ Some h → HasRun h (loc_left s d).seats
left_ran s drops h e = absurd (no_head h e)
left_ran s (tells_boot head) h e = absurd (no_head h e)
left_ran s (repeats reply) h e = absurd (no_head h e)
left_ran s (refuses head code) h e = subst (λ (x : Head). HasRun x (loc_left s (refuses head code)).seats) (some_of head h e) (seat_ran head (refusal s.lasting.boot head code) s.seats)
left_ran s (shows head reply) h e = subst (λ (x : Head). HasRun x (loc_left s (shows head reply)).seats) (some_of head h e) (seat_ran head (reply_to s.lasting.boot head reply) s.seats)
left_ran s (saves head c) h e = subst (λ (x : Head). HasRun x (loc_left s (saves head c)).seats) (some_of head h e) (seat_ran head (reply_to s.lasting.boot head c.reply) s.seats)

saved_ran : (s : LocState) (d : LocDecision) (h : Head) → head_saved d ≡ Some h → HasRun h (loc_left s d).lasting.kept
saved_ran s drops h e = absurd (no_head h e)
saved_ran s (tells_boot head) h e = absurd (no_head h e)
saved_ran s (repeats reply) h e = absurd (no_head h e)
saved_ran s (refuses head code) h e = absurd (no_head h e)
saved_ran s (shows head reply) h e = absurd (no_head h e)
saved_ran s (saves head c) h e = subst (λ (x : Head). HasRun x (loc_left s (saves head c)).lasting.kept) (some_of head h e) (placed_ran head (reply_to s.lasting.boot head c.reply) s.lasting.kept)

left_kept : (s : LocState) (d : LocDecision) → RunsAfter s d → CallersAreSettled s → Rises s.lasting.kept (loc_left s d).lasting.kept
left_kept s drops a w n e k z = z
left_kept s (tells_boot head) a w n e k z = z
left_kept s (repeats reply) a w n e k z = z
left_kept s (refuses head code) a w n e k z = z
left_kept s (shows head reply) a w n e k z = z
left_kept s (saves head c) a w n e k z = placed_rises head (reply_to s.lasting.boot head c.reply) s.lasting.kept (w.kept head.from head.epoch head.number (a head refl)) n e k z

-- the seat itself, where the caller is its own
its_seat : (x : Seat) (seats : List Seat) (n : Node) (e k : ℕ) → x.caller ≡ n → IsAfter (call_seat n (call_seated x seats)) e k → IsAfter (Some x) e k
its_seat x seats n e k same z = subst (λ (o : Option Seat). IsAfter o e k) (ap (λ (y : Node). call_seat y (call_seated x seats)) (sym same) ∙ own_seat x seats) z

left_settled : (s : LocState) (d : LocDecision) → RunsAfter s d → CallersAreSettled s → CallersAreSettled (loc_left s d)
left_settled s drops a w = w
left_settled s (tells_boot head) a w = w
left_settled s (repeats reply) a w = w
left_settled s (refuses head code) a w = record { kept = λ n e k z. w.kept n e k (left_rises s (refuses head code) a n e k z) }
left_settled s (shows head reply) a w = record { kept = λ n e k z. w.kept n e k (left_rises s (shows head reply) a n e k z) }
left_settled s (saves head c) a w =
    let m : Message = reply_to s.lasting.boot head c.reply in
    record {
      kept = λ n e k. at_placed (seat_for head m) n s.lasting.kept (λ (o : Option Seat). IsAfter (call_seat n (call_seated (seat_for head m) s.seats)) e k → IsAfter o e k)
          (λ same z. its_seat (seat_for head m) s.seats n e k same z) (λ other z. w.kept n e k (left_rises s (saves head c) a n e k z));
    }

left_boot : (s : LocState) (d : LocDecision) → (loc_left s d).lasting.boot ≡ s.lasting.boot
left_boot s drops = refl
left_boot s (tells_boot head) = refl
left_boot s (repeats reply) = refl
left_boot s (refuses head code) = refl
left_boot s (shows head reply) = refl
left_boot s (saves head c) = refl

-- ---- whatever comes

pub boots_rise : LocBootsRise
boots_rise s [] = (omega arith, λ one. refl)
boots_rise s (is_given r ∷ es) =
    let same : (loc_left s (loc_decides s r)).lasting.boot ≡ s.lasting.boot = left_boot s (loc_decides s r) in
    let ih = boots_rise (loc_left s (loc_decides s r)) es in
    (subst (λ (n : ℕ). n ≤ (loc_behind_all (loc_left s (loc_decides s r)) es).lasting.boot) same ih.0, λ one. ih.1 one ∙ same)
boots_rise s (begins_again ∷ es) =
    let ih = boots_rise (loc_behind s begins_again) es in
    let later : s.lasting.boot + 1 ≤ (loc_behind_all (loc_behind s begins_again) es).lasting.boot = ih.0 in
    (omega arith, λ one. absurd one)

boot_ran : (es : List LocEvent) (s : LocState) (h : Head) → IsOneBoot es → HasRun h s.seats → HasRun h (loc_behind_all s es).seats
boot_ran [] s h one ran = ran
boot_ran (is_given r ∷ es) s h one ran = boot_ran es (loc_left s (loc_decides s r)) h one (λ z. ran (left_rises s (loc_decides s r) (decides_after s r) h.from h.epoch h.number z))
boot_ran (begins_again ∷ es) s h one ran = absurd one

pub runs_once : LocCallsRunOnce
runs_once s r q es head other one run again same =
    let t : LocState = loc_behind_all (loc_left s (loc_decides s r)) es in
    let ran : HasRun head t.seats = boot_ran es (loc_left s (loc_decides s r)) head one (left_ran s (loc_decides s r) head run) in
    ran (subst (λ (k : Key). IsAfter (call_seat k.node t.seats) k.epoch k.number) same (decides_after t q other again))

pub stays_settled : LocStaysSettled
stays_settled s (is_given r) w = left_settled s (loc_decides s r) (decides_after s r) w
stays_settled s begins_again w = record { kept = λ n e k z. z }

event_kept : (s : LocState) (e : LocEvent) → CallersAreSettled s → Rises s.lasting.kept (loc_behind s e).lasting.kept
event_kept s (is_given r) w n e k z = left_kept s (loc_decides s r) (decides_after s r) w n e k z
event_kept s begins_again w n e k z = z

all_changed : (es : List LocEvent) (s : LocState) (h : Head) → CallersAreSettled s → HasRun h s.lasting.kept → CallersAreSettled (loc_behind_all s es) × HasRun h (loc_behind_all s es).lasting.kept
all_changed [] s h w ran = (w, ran)
all_changed (e ∷ es) s h w ran = all_changed es (loc_behind s e) h (stays_settled s e w) (λ z. ran (event_kept s e w h.from h.epoch h.number z))

pub changes_once : LocChangesAreOnce
changes_once s r q es head other w save again same =
    let b : LocState = loc_left s (loc_decides s r) in
    let t : LocState = loc_behind_all b es in
    let both : CallersAreSettled t × HasRun head t.lasting.kept = all_changed es b head (stays_settled s (is_given r) w) (saved_ran s (loc_decides s r) head save) in
    both.1 (subst (λ (k : Key). IsAfter (call_seat k.node t.lasting.kept) k.epoch k.number) same (both.0.kept other.from other.epoch other.number (decides_after t q other again)))
