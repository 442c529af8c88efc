-- Every script is one of a cell: line by line.
use Rattle.spec_ideal.specs.VnodeImage.{most_contents}
use Rattle.std.proofs.Common.{◌≡◌, ℕ, zero, suc, ◌+◌, ◌-◌, ◌<◌, ◌≤◌, Bool, true, false, List, [], ◌∷◌, ◌++◌, length, Option, Some, None, Ok, not, nat_eq, nat_le, nat_lt, slice_get, slice_set, if◌then◌else◌, refl, sym, ap, subst, arith, eqb-true, ltb-true}
use Rattle.std.specs.Prelude.{◌&&◌, ◌||◌}
use Rattle.std.specs.List.{All, list_any}
use Rattle.std.proofs.lemmas.List.Elements.{All-nil, All-push}
use Rattle.afs_num.specs.declared.scripts.Reason.{Reason}
use Rattle.afs_num.specs.declared.scripts.Reason.TheVariants as reasons
use Rattle.spec_ideal.specs.SetUp.{empty_volume, laid, filled_by, laid_or, first_volume}
use Rattle.spec_ideal.specs.Volumes.{Volume}
use Rattle.spec_history.specs.declared.acts.Path.{Path}
use Rattle.spec_history.specs.declared.acts.Written.{Written}
use Rattle.spec_history.specs.declared.scripts.Event.{Event}
use Rattle.spec_history.specs.declared.scripts.Plan.{Plan}
use Rattle.spec_history.specs.declared.scripts.Script.{Script}
use Rattle.spec_history.specs.declared.scripts.SetupLine.{SetupLine}
use Rattle.spec_history.specs.declared.scripts.Task.{Task}
use Rattle.spec_history.specs.declared.scripts.UserLine.{UserLine}
use Rattle.spec_history.specs.declared.scripts.VolumeLine.{VolumeLine}
use Rattle.spec_model.specs.ScriptWords.{◌>>=◌, no_word_left, must, number_at, parts, word_at}
use Rattle.spec_model.specs.Script.{at_line, is_silent}
use Rattle.spec_model.proofs.ScriptReaders.{bound, le_of_test, must_true, ok_of, at_line_ok}
use Rattle.afs_words.specs.declared.nodes.Counts.{Counts}
use Rattle.afs_words.specs.Words.{label_at, name_at, node_number_at, path_at, server_at, written_at}
use Rattle.afs_grammar.specs.declared.spellings.FirstWord.{FirstWord}
use Rattle.afs_grammar.specs.declared.spellings.FirstWord.TheVariants as words
use Rattle.afs_grammar.specs.Acts.{event_at, most_text, plan_at, task_at, Words}
use Rattle.afs_grammar.specs.CellScripts.{AreAccepted, AreApart, AreVolumes, FitsEvent, FitsPlan, FitsTask, FitsUser, IsApart, IsCellScript, IsFrom, IsVolume}
use Rattle.afs_grammar.specs.Forms.{is_unbuilt}
use Rattle.afs_grammar.specs.Lines.{acl_line, admins_line, bounded_for, cache_line, capacity_line, cell_line, clients_line, dir_line, do_line, end_line, event_line, event_told, file_line, filled_up, first_word, fits_all, fits_loc, fits_server, has_name, stands_at_server, last_at, line_at, line_by_word, line_fits, line_fits_in, line_laid_in, line_of, lines_read_from, link_line, loc_length, new_line, nothing_read, place_of, plan_line, schedule_line, schedule_so_far, script_of, servers_line, setup_accepts, setup_accepted, setup_laid, stored_all, ticks_in, user_line, volume_accepted, volume_added, volume_line, lines_of_server, with_line, LinesRead}
use Rattle.afs_grammar.specs.Turns.{from_turn, has_ended, is_due, next_turn, to_turn}
use Rattle.afs_grammar.proofs.Acting.{event_in, plan_in, task_in}
use Rattle.afs_grammar.proofs.Sizes.{first_record}
use Rattle.spec_records.specs.Changes.{record_of_volumes}
use Rattle.spec_records.specs.Durable.{place_length}
use Rattle.std.proofs.lemmas.Bool.Decides.{nat_tests}
use Rattle.afs_grammar.proofs.Readers.{label_in, name_in, node_number_in, number_in}

-- ---- what was read so far

-- nothing of it stands before its turn
record Waits (turn : ℕ) (users : List UserLine) (volumes : List VolumeLine) (tasks : List Task) (plans : List Plan) (schedule : Option (List Event)) : Type 0 where
  pub on_users : turn ≤ 6 → users ≡ []
  pub on_volumes : turn ≤ 7 → volumes ≡ []
  pub on_tasks : turn ≤ 9 → tasks ≡ []
  pub on_plans : turn ≤ 10 → plans ≡ []
  pub on_schedule : turn ≤ 11 → schedule ≡ None

record Holds (r : LinesRead) : Type 0 where
  pub some : 2 ≤ r.turn → 1 ≤ r.counts.servers
  pub servers : r.counts.servers ≤ 8
  pub clients : r.counts.clients ≤ 16
  pub admins : r.counts.admins ≤ 4
  pub cache : IsFrom 1 256 r.cache
  pub capacity : IsFrom 65536 268435456 r.capacity
  pub waits : Waits r.turn r.users r.volumes r.tasks r.plans r.schedule
  pub users : All (FitsUser r.counts) r.users
  pub volumes : AreVolumes r.counts 536870912 r.volumes
  pub few : (server : ℕ) → length (lines_of_server server r.volumes) ≤ 64
  pub apart : AreApart r.volumes
  pub fits : (server : ℕ) → fits_server r.capacity (lines_of_server server r.volumes) ≡ true
  pub loc : fits_loc r.capacity r.volumes ≡ true
  pub tasks : All (FitsTask r.counts) r.tasks
  pub plans : All (FitsPlan r.counts) r.plans
  pub events : All (FitsEvent r.counts) (schedule_so_far r.schedule)
  pub ticks : ticks_in (schedule_so_far r.schedule) ≤ 1000000000

later : (s t : ℕ) (us : List UserLine) (vs : List VolumeLine) (ts : List Task) (ps : List Plan) (e : Option (List Event)) → s ≤ t → Waits s us vs ts ps e → Waits t us vs ts ps e
later s t us vs ts ps e le w = record {
  on_users = λ k. w.on_users (omega (arith, le, k));
  on_volumes = λ k. w.on_volumes (omega (arith, le, k));
  on_tasks = λ k. w.on_tasks (omega (arith, le, k));
  on_plans = λ k. w.on_plans (omega (arith, le, k));
  on_schedule = λ k. w.on_schedule (omega (arith, le, k));
}

moved : (t : ℕ) (r : LinesRead) → Holds r → r.turn ≤ t → (2 ≤ t → 2 ≤ r.turn) → Holds (record r { turn = t })
moved t r h le two = record { some = λ k. h.some (two k); servers = h.servers; clients = h.clients; admins = h.admins; cache = h.cache; capacity = h.capacity; waits = later r.turn t r.users r.volumes r.tasks r.plans r.schedule le h.waits; users = h.users; volumes = h.volumes; few = h.few; apart = h.apart; fits = h.fits; loc = h.loc; tasks = h.tasks; plans = h.plans; events = h.events; ticks = h.ticks }

none_of : {X : Type 0} (P : X → Type 0) (xs : List X) → xs ≡ [] → All P xs
none_of {X} P xs e = subst (All P) (sym e) (All-nil P)

-- the counts are set before anything that they bound
counts_set : (t : ℕ) (r : LinesRead) (c : Counts) → Holds r → r.turn ≤ t → t ≤ 4 → (2 ≤ t → 1 ≤ c.servers) → c.servers ≤ 8 → c.clients ≤ 16 → c.admins ≤ 4 → Holds (record r { turn = t; counts = c })
counts_set t r c h le early some servers clients admins = record { some = some; servers = servers; clients = clients; admins = admins; cache = h.cache; capacity = h.capacity; waits = later r.turn t r.users r.volumes r.tasks r.plans r.schedule le h.waits; users = none_of (FitsUser c) r.users (h.waits.on_users (omega (arith, le, early))); volumes = subst (AreVolumes c 536870912) (sym (h.waits.on_volumes (omega (arith, le, early)))) tt; few = h.few; apart = h.apart; fits = h.fits; loc = h.loc; tasks = none_of (FitsTask c) r.tasks (h.waits.on_tasks (omega (arith, le, early))); plans = none_of (FitsPlan c) r.plans (h.waits.on_plans (omega (arith, le, early))); events = none_of (FitsEvent c) (schedule_so_far r.schedule) (ap schedule_so_far (h.waits.on_schedule (omega (arith, le, early)))); ticks = h.ticks }

-- ---- numbers of the cell

cell_holds : (r x : LinesRead) (ws : Words) → Holds r → cell_line r ws ≡ Ok x → Holds x
unfolding cell_line
cell_holds r x ws h e =
    let version = bound (ℕ × List (List ℕ)) _ Reason (number_at 1 1 ws) _ _ e in
    let done = bound (Unit {0}) _ Reason (no_word_left version.value.1) _ _ version.rest in
    subst Holds (ok_of _ _ _ _ done.rest) h

servers_holds : (level : ℕ) (r x : LinesRead) (ws : Words) → Holds r → r.turn ≤ 2 → servers_line level (record r { turn = 2 }) ws ≡ Ok x → Holds x
unfolding servers_line
servers_holds level r x ws h le e =
    let count = bound (ℕ × List (List ℕ)) _ Reason (number_at 1 8 ws) _ _ e in
    let done = bound (Unit {0}) _ Reason (no_word_left count.value.1) _ _ count.rest in
    let built = bound (Unit {0}) _ Reason (must (nat_le 7 level || nat_eq count.value.0 1) reasons.Limit) _ _ done.rest in
    let n = number_in 1 8 ws count.value count.first in
    subst Holds (ok_of _ _ _ _ built.rest) (counts_set 2 r (record r.counts { servers = count.value.0 }) h le (omega arith) (λ k. n.0) n.1 h.clients h.admins)

clients_holds : (level : ℕ) (r x : LinesRead) (ws : Words) → Holds r → r.turn ≤ 3 → 2 ≤ r.turn → clients_line level (record r { turn = 3 }) ws ≡ Ok x → Holds x
unfolding clients_line
clients_holds level r x ws h le two e =
    let count = bound (ℕ × List (List ℕ)) _ Reason (number_at 0 16 ws) _ _ e in
    let done = bound (Unit {0}) _ Reason (no_word_left count.value.1) _ _ count.rest in
    let built = bound (Unit {0}) _ Reason (must (nat_le 6 level || nat_le count.value.0 1) reasons.Limit) _ _ done.rest in
    let n = number_in 0 16 ws count.value count.first in
    subst Holds (ok_of _ _ _ _ built.rest) (counts_set 3 r (record r.counts { clients = count.value.0 }) h le (omega arith) (λ k. h.some two) h.servers n.1 h.admins)

admins_holds : (r x : LinesRead) (ws : Words) → Holds r → r.turn ≤ 4 → 2 ≤ r.turn → admins_line (record r { turn = 4 }) ws ≡ Ok x → Holds x
unfolding admins_line
admins_holds r x ws h le two e =
    let count = bound (ℕ × List (List ℕ)) _ Reason (number_at 0 4 ws) _ _ e in
    let done = bound (Unit {0}) _ Reason (no_word_left count.value.1) _ _ count.rest in
    let n = number_in 0 4 ws count.value count.first in
    subst Holds (ok_of _ _ _ _ done.rest) (counts_set 4 r (record r.counts { admins = count.value.0 }) h le (omega arith) (λ k. h.some two) h.servers h.clients n.1)

cache_holds : (r x : LinesRead) (ws : Words) → Holds r → cache_line r ws ≡ Ok x → Holds x
unfolding cache_line
cache_holds r x ws h e =
    let most = bound (ℕ × List (List ℕ)) _ Reason (number_at 1 256 ws) _ _ e in
    let done = bound (Unit {0}) _ Reason (no_word_left most.value.1) _ _ most.rest in
    subst Holds (ok_of _ _ _ _ done.rest) (record { some = h.some; servers = h.servers; clients = h.clients; admins = h.admins; cache = number_in 1 256 ws most.value most.first; capacity = h.capacity; waits = h.waits; users = h.users; volumes = h.volumes; few = h.few; apart = h.apart; fits = h.fits; loc = h.loc; tasks = h.tasks; plans = h.plans; events = h.events; ticks = h.ticks })

test_true : (n m : ℕ) → n ≤ m → nat_le n m ≡ true
test_true n m le = grind (arith, nat_tests)

nothing_fits : (capacity : ℕ) → 65536 ≤ capacity → fits_server capacity [] ≡ true
nothing_fits capacity le =
    let size : place_length (record_of_volumes (stored_all [])) ≡ 41 = first_record 0 [] tt in
    test_true (1 + place_length (record_of_volumes (stored_all []))) capacity (omega (arith, size, le))

no_loc_fits : (capacity : ℕ) → 65536 ≤ capacity → fits_loc capacity [] ≡ true
no_loc_fits capacity le = test_true 50 capacity (omega (arith, le))

capacity_holds : (r x : LinesRead) (ws : Words) → r.turn ≤ 6 → Holds r → capacity_line r ws ≡ Ok x → Holds x
unfolding capacity_line
capacity_holds r x ws early h e =
    let bytes = bound (ℕ × List (List ℕ)) _ Reason (number_at 65536 268435456 ws) _ _ e in
    let n = number_in 65536 268435456 ws bytes.value bytes.first in
    let none : r.volumes ≡ [] = h.waits.on_volumes (omega (arith, early)) in
    let done = bound (Unit {0}) _ Reason (no_word_left bytes.value.1) _ _ bytes.rest in
    subst Holds (ok_of _ _ _ _ done.rest) (record { some = h.some; servers = h.servers; clients = h.clients; admins = h.admins; cache = h.cache; capacity = n; waits = h.waits; users = h.users; volumes = h.volumes; few = h.few; apart = h.apart; fits = λ s. subst (λ (ls : List VolumeLine). fits_server bytes.value.0 (lines_of_server s ls) ≡ true) (sym none) (nothing_fits bytes.value.0 n.0); loc = subst (λ (ls : List VolumeLine). fits_loc bytes.value.0 ls ≡ true) (sym none) (no_loc_fits bytes.value.0 n.0); tasks = h.tasks; plans = h.plans; events = h.events; ticks = h.ticks })

user_holds : (r x : LinesRead) (ws : Words) → 7 ≤ r.turn → Holds r → user_line r ws ≡ Ok x → Holds x
unfolding user_line
user_holds r x ws late h e =
    let client = bound (ℕ × List (List ℕ)) _ Reason (node_number_at 99 r.counts.clients ws) _ _ e in
    let name = bound (List ℕ × List (List ℕ)) _ Reason (name_at 64 client.value.1) _ _ client.rest in
    let done = bound (Unit {0}) _ Reason (no_word_left name.value.1) _ _ name.rest in
    subst Holds (ok_of _ _ _ _ done.rest) (record { some = h.some; servers = h.servers; clients = h.clients; admins = h.admins; cache = h.cache; capacity = h.capacity; waits = record { on_users = λ k. absurd (omega (arith, late, k)); on_volumes = h.waits.on_volumes; on_tasks = h.waits.on_tasks; on_plans = h.waits.on_plans; on_schedule = h.waits.on_schedule }; users = All-push (FitsUser r.counts) r.users _ h.users (node_number_in 99 r.counts.clients ws client.value client.first, name_in 64 client.value.1 name.value name.first); volumes = h.volumes; few = h.few; apart = h.apart; fits = h.fits; loc = h.loc; tasks = h.tasks; plans = h.plans; events = h.events; ticks = h.ticks })

-- ---- volumes

volumes_push : (c : Counts) (n : ℕ) (ls : List VolumeLine) (l : VolumeLine) → AreVolumes c n ls → IsVolume c (n + length ls) l → AreVolumes c n (ls ++ l ∷ [])
volumes_push c n [] l h v = (subst (λ (k : ℕ). IsVolume c k l) (let z : n + 0 ≡ n = omega arith in z) v, tt)
volumes_push c n (x ∷ xs) l h v =
    (h.0, volumes_push c (n + 1) xs l h.1 (subst (λ (k : ℕ). IsVolume c k l) (let z : n + length (x ∷ xs) ≡ n + 1 + length xs = omega arith in z) v))

push_by : (t : Bool) (x : VolumeLine) (xs ys : List VolumeLine) (k : ℕ) → length ys ≡ length xs + k → length (if t then x ∷ ys else ys) ≡ length (if t then x ∷ xs else xs) + k
push_by true x xs ys k e = omega (arith, e)
push_by false x xs ys k e = e

one_by : (t : Bool) (l : VolumeLine) → length (if t then l ∷ [] else []) ≡ 0 + (if t then 1 else 0)
one_by true l = refl
one_by false l = refl

count_push : (s : ℕ) (ls : List VolumeLine) (l : VolumeLine) → length (lines_of_server s (ls ++ l ∷ [])) ≡ length (lines_of_server s ls) + (if stands_at_server s l then 1 else 0)
count_push s [] l = one_by (stands_at_server s l) l
count_push s (x ∷ xs) l = push_by (stands_at_server s x) x (lines_of_server s xs) (lines_of_server s (xs ++ l ∷ [])) (if stands_at_server s l then 1 else 0) (count_push s xs l)

few_by : (t : Bool) (s : ℕ) (ls : List VolumeLine) (l : VolumeLine) → stands_at_server s l ≡ t → length (lines_of_server s ls) ≤ 64 → length (lines_of_server l.server ls) < 64 → length (lines_of_server s ls) + (if t then 1 else 0) ≤ 64
few_by true s ls l e few lt =
    let same : l.server ≡ s = eqb-true l.server s e in
    let here : length (lines_of_server s ls) < 64 = subst (λ (k : ℕ). length (lines_of_server k ls) < 64) same lt in
    omega (arith, here)
few_by false s ls l e few lt = omega (arith, few)

few_push : (ls : List VolumeLine) (l : VolumeLine) → ((s : ℕ) → length (lines_of_server s ls) ≤ 64) → length (lines_of_server l.server ls) < 64 → (s : ℕ) → length (lines_of_server s (ls ++ l ∷ [])) ≤ 64
few_push ls l few lt s = subst (λ (k : ℕ). k ≤ 64) (sym (count_push s ls l)) (few_by (stands_at_server s l) s ls l refl (few s) lt)

or_false : (s t : Bool) → (s || t) ≡ false → (s ≡ false) × (t ≡ false)
or_false true t e = absurd cc
or_false false t e = (refl, e)

apart_from : (x : VolumeLine) (xs : List VolumeLine) (l : VolumeLine) → IsApart x xs → has_name l.name x ≡ false → IsApart x (xs ++ l ∷ [])
apart_from x [] l h e = (e, tt)
apart_from x (y ∷ ys) l h e = (h.0, apart_from x ys l h.1 e)

apart_push : (ls : List VolumeLine) (l : VolumeLine) → AreApart ls → list_any (has_name l.name) ls ≡ false → AreApart (ls ++ l ∷ [])
apart_push [] l h e = (tt, tt)
apart_push (x ∷ xs) l h e =
    let es = or_false (has_name l.name x) (list_any (has_name l.name) xs) e in
    (apart_from x xs l h.0 es.0, apart_push xs l h.1 es.1)

other_push : (s : ℕ) (ls : List VolumeLine) (l : VolumeLine) → stands_at_server s l ≡ false → lines_of_server s (ls ++ l ∷ []) ≡ lines_of_server s ls
other_push s [] l e = rw e refl
other_push s (x ∷ xs) l e = ap (λ (zs : List VolumeLine). if stands_at_server s x then x ∷ zs else zs) (other_push s xs l e)

fits_by : (t : Bool) (capacity s : ℕ) (ls : List VolumeLine) (l : VolumeLine) → stands_at_server s l ≡ t → fits_server capacity (lines_of_server s ls) ≡ true → fits_server capacity (lines_of_server l.server (ls ++ l ∷ [])) ≡ true → fits_server capacity (lines_of_server s (ls ++ l ∷ [])) ≡ true
fits_by true capacity s ls l e old new = subst (λ (k : ℕ). fits_server capacity (lines_of_server k (ls ++ l ∷ [])) ≡ true) (eqb-true l.server s e) new
fits_by false capacity s ls l e old new = subst (λ (zs : List VolumeLine). fits_server capacity zs ≡ true) (sym (other_push s ls l e)) old

both_by : (s t : Bool) → (s && t) ≡ true → (s ≡ true) × (t ≡ true)
both_by true t e = (refl, e)
both_by false t e = absurd cc

fits_before : (level : ℕ) (r : LinesRead) (line : VolumeLine) (u : Unit {0}) → volume_accepted level r line ≡ Ok u → fits_all r.capacity line.server (r.volumes ++ line ∷ []) ≡ true
unfolding volume_accepted
fits_before level r line u e =
    let few = bound (Unit {0}) _ Reason (must (nat_lt (length (lines_of_server line.server r.volumes)) 64) reasons.Limit) _ _ e in
    let fits = bound (Unit {0}) _ Reason (must (fits_all r.capacity line.server (r.volumes ++ line ∷ [])) reasons.Limit) _ _ few.rest in
    must_true _ _ _ fits.first

few_before : (level : ℕ) (r : LinesRead) (line : VolumeLine) (u : Unit {0}) → volume_accepted level r line ≡ Ok u → length (lines_of_server line.server r.volumes) < 64
unfolding volume_accepted
few_before level r line u e =
    let few = bound (Unit {0}) _ Reason (must (nat_lt (length (lines_of_server line.server r.volumes)) 64) reasons.Limit) _ _ e in
    ltb-true (length (lines_of_server line.server r.volumes)) 64 (must_true _ _ _ few.first)

with_volumes : (r : LinesRead) (ls : List VolumeLine) → 8 ≤ r.turn → Holds r → AreVolumes r.counts 536870912 ls → ((s : ℕ) → length (lines_of_server s ls) ≤ 64) → AreApart ls → ((s : ℕ) → fits_server r.capacity (lines_of_server s ls) ≡ true) → fits_loc r.capacity ls ≡ true → Holds (record r { volumes = ls })
with_volumes r ls late h are few apart fits loc = record { some = h.some; servers = h.servers; clients = h.clients; admins = h.admins; cache = h.cache; capacity = h.capacity; waits = record { on_users = h.waits.on_users; on_volumes = λ k. absurd (omega (arith, late, k)); on_tasks = h.waits.on_tasks; on_plans = h.waits.on_plans; on_schedule = h.waits.on_schedule }; users = h.users; volumes = are; few = few; apart = apart; fits = fits; loc = loc; tasks = h.tasks; plans = h.plans; events = h.events; ticks = h.ticks }

added_holds : (level : ℕ) (r x : LinesRead) (line : VolumeLine) → 8 ≤ r.turn → Holds r → IsVolume r.counts (536870912 + length r.volumes) line → list_any (has_name line.name) r.volumes ≡ false → volume_added level r line ≡ Ok x → Holds x
unfolding volume_added
added_holds level r x line late h is fresh e =
    let accepted = bound (Unit {0}) _ Reason (volume_accepted level r line) _ _ e in
    let fit = both_by (fits_server r.capacity (lines_of_server line.server (r.volumes ++ line ∷ []))) (fits_loc r.capacity (r.volumes ++ line ∷ [])) (fits_before level r line accepted.value accepted.first) in
    subst Holds (ok_of _ _ _ _ accepted.rest)
    (with_volumes r (r.volumes ++ line ∷ []) late h (volumes_push r.counts 536870912 r.volumes line h.volumes is) (few_push r.volumes line h.few (few_before level r line accepted.value accepted.first))
    (apart_push r.volumes line h.apart fresh) (λ s. fits_by (stands_at_server s line) r.capacity s r.volumes line refl (h.fits s) fit.0) fit.1)

not_true : (t : Bool) → not t ≡ true → t ≡ false
not_true true e = absurd cc
not_true false e = refl

volume_holds : (level : ℕ) (r x : LinesRead) (ws : Words) → 8 ≤ r.turn → Holds r → volume_line level r ws ≡ Ok x → Holds x
unfolding volume_line
volume_holds level r x ws late h e =
    let name = bound (List ℕ × List (List ℕ)) _ Reason (label_at ws) _ _ e in
    let fresh = bound (Unit {0}) _ Reason (must (not (list_any (has_name name.value.0) r.volumes)) reasons.Name) _ _ name.rest in
    let server = bound (ℕ × List (List ℕ)) _ Reason (server_at r.counts name.value.1) _ _ fresh.rest in
    let quota = bound (ℕ × List (List ℕ)) _ Reason (number_at 1 16384 server.value.1) _ _ server.rest in
    let done = bound (Unit {0}) _ Reason (no_word_left quota.value.1) _ _ quota.rest in
    added_holds level r x (new_line (length r.volumes) name.value.0 server.value.0 quota.value.0) late h
    (record { id = refl; name = label_in ws name.value name.first; server = node_number_in 115 r.counts.servers name.value.1 server.value server.first; quota = number_in 1 16384 server.value.1 quota.value quota.first; lines = tt }) (not_true (list_any (has_name name.value.0) r.volumes) (must_true _ _ _ fresh.first)) done.rest

-- ---- lines of set-up

accepts_push : (id : ℕ) (ls : List SetupLine) (x : SetupLine) (v : Volume) → AreAccepted id ls v → setup_accepts (laid id x (filled_by id ls v)) ≡ Ok tt → AreAccepted id (ls ++ x ∷ []) v
accepts_push id [] x v h e = (e, tt)
accepts_push id (l ∷ ls) x v h e = (h.0, accepts_push id ls x (laid_or v (laid id l v)) h.1 e)

line_volume : (c : Counts) (n : ℕ) (x : SetupLine) (l : VolumeLine) → IsVolume c n l → setup_accepts (laid l.id x (first_volume l)) ≡ Ok tt → IsVolume c n (with_line x l)
line_volume c n x l h e = record { id = h.id; name = h.name; server = h.server; quota = h.quota; lines = accepts_push l.id l.lines x (empty_volume l) h.lines e }

some_volume : (x y : VolumeLine) → Some x ≡ Some y → x ≡ y
some_volume x y e = cc

set_volumes : (c : Counts) (n : ℕ) (x : SetupLine) (ls : List VolumeLine) (place : ℕ) (l : VolumeLine) → slice_get ls place ≡ Some l → AreVolumes c n ls → setup_accepts (laid l.id x (first_volume l)) ≡ Ok tt → AreVolumes c n (slice_set ls place (with_line x l))
set_volumes c n x [] place l is h e = absurd cc
set_volumes c n x (y ∷ ys) zero l is h e = (line_volume c n x l (subst (IsVolume c n) (some_volume y l is) h.0) e, h.1)
set_volumes c n x (y ∷ ys) (suc place) l is h e = (h.0, set_volumes c (n + 1) x ys place l is h.1 e)

same_by : (t : Bool) (y z : VolumeLine) (xs : List VolumeLine) → length (if t then y ∷ xs else xs) ≡ length (if t then z ∷ xs else xs)
same_by true y z xs = refl
same_by false y z xs = refl

on_by : (t : Bool) (y : VolumeLine) (xs ys : List VolumeLine) → length ys ≡ length xs → length (if t then y ∷ ys else ys) ≡ length (if t then y ∷ xs else xs)
on_by true y xs ys e = ap suc e
on_by false y xs ys e = e

set_count : (s : ℕ) (x : SetupLine) (ls : List VolumeLine) (place : ℕ) (l : VolumeLine) → slice_get ls place ≡ Some l → length (lines_of_server s (slice_set ls place (with_line x l))) ≡ length (lines_of_server s ls)
set_count s x [] place l is = refl
set_count s x (y ∷ ys) zero l is =
    subst (λ (z : VolumeLine). length (lines_of_server s (with_line x l ∷ ys)) ≡ length (lines_of_server s (z ∷ ys))) (sym (some_volume y l is)) (same_by (stands_at_server s l) (with_line x l) l (lines_of_server s ys))
set_count s x (y ∷ ys) (suc place) l is = on_by (stands_at_server s y) y (lines_of_server s ys) (lines_of_server s (slice_set ys place (with_line x l))) (set_count s x ys place l is)

same_apart : (x : SetupLine) (l : VolumeLine) (ys : List VolumeLine) → IsApart l ys → IsApart (with_line x l) ys
same_apart x l [] h = tt
same_apart x l (y ∷ ys) h = (h.0, same_apart x l ys h.1)

apart_from_set : (x : SetupLine) (y : VolumeLine) (ls : List VolumeLine) (place : ℕ) (l : VolumeLine) → slice_get ls place ≡ Some l → IsApart y ls → IsApart y (slice_set ls place (with_line x l))
apart_from_set x y [] place l is h = tt
apart_from_set x y (z ∷ zs) zero l is h = (subst (λ (w : VolumeLine). has_name w.name y ≡ false) (some_volume z l is) h.0, h.1)
apart_from_set x y (z ∷ zs) (suc place) l is h = (h.0, apart_from_set x y zs place l is h.1)

apart_set : (x : SetupLine) (ls : List VolumeLine) (place : ℕ) (l : VolumeLine) → slice_get ls place ≡ Some l → AreApart ls → AreApart (slice_set ls place (with_line x l))
apart_set x [] place l is h = tt
apart_set x (y ∷ ys) zero l is h = (same_apart x l ys (subst (λ (w : VolumeLine). IsApart w ys) (some_volume y l is) h.0), h.1)
apart_set x (y ∷ ys) (suc place) l is h = (apart_from_set x y ys place l is h.0, apart_set x ys place l is h.1)

other_set : (s : ℕ) (x : SetupLine) (ls : List VolumeLine) (place : ℕ) (l : VolumeLine) → slice_get ls place ≡ Some l → stands_at_server s l ≡ false → lines_of_server s (slice_set ls place (with_line x l)) ≡ lines_of_server s ls
other_set s x [] place l is e = refl
other_set s x (y ∷ ys) zero l is e = subst (λ (z : VolumeLine). lines_of_server s (with_line x l ∷ ys) ≡ lines_of_server s (z ∷ ys)) (sym (some_volume y l is)) (rw e refl)
other_set s x (y ∷ ys) (suc place) l is e = ap (λ (zs : List VolumeLine). if stands_at_server s y then y ∷ zs else zs) (other_set s x ys place l is e)

set_fits_by : (t : Bool) (capacity s : ℕ) (x : SetupLine) (ls : List VolumeLine) (place : ℕ) (l : VolumeLine) → slice_get ls place ≡ Some l → stands_at_server s l ≡ t → fits_server capacity (lines_of_server s ls) ≡ true → fits_server capacity (lines_of_server l.server (slice_set ls place (with_line x l))) ≡ true → fits_server capacity (lines_of_server s (slice_set ls place (with_line x l))) ≡ true
set_fits_by true capacity s x ls place l is e old new = subst (λ (k : ℕ). fits_server capacity (lines_of_server k (slice_set ls place (with_line x l))) ≡ true) (eqb-true l.server s e) new
set_fits_by false capacity s x ls place l is e old new = subst (λ (zs : List VolumeLine). fits_server capacity zs ≡ true) (sym (other_set s x ls place l is e)) old

loc_set : (x : SetupLine) (ls : List VolumeLine) (place : ℕ) (l : VolumeLine) → slice_get ls place ≡ Some l → loc_length (slice_set ls place (with_line x l)) ≡ loc_length ls
loc_set x [] place l is = refl
loc_set x (y ∷ ys) zero l is = ap (λ (z : VolumeLine). loc_length ys + (4 + filled_up (length z.name) + 40)) (sym (some_volume y l is))
loc_set x (y ∷ ys) (suc place) l is = ap (λ (k : ℕ). k + (4 + filled_up (length y.name) + 40)) (loc_set x ys place l is)

accepted_by : (capacity place : ℕ) (x : SetupLine) (ls : List VolumeLine) (u : Unit {0}) (o : Option VolumeLine) (l : VolumeLine) → o ≡ Some l → line_fits_in capacity place x ls o ≡ Ok u → setup_accepts (laid l.id x (first_volume l)) ≡ Ok tt
accepted_by capacity place x ls u None l is e = absurd cc
accepted_by capacity place x ls u (Some m) l is e =
    let stands = bound (Unit {0}) _ Reason (setup_accepts (laid m.id x (first_volume m))) _ _ e in
    subst (λ (v : VolumeLine). setup_accepts (laid v.id x (first_volume v)) ≡ Ok tt) (some_volume m l is) stands.first

accepted : (level : ℕ) (r : LinesRead) (place : ℕ) (x : SetupLine) (u : Unit {0}) (l : VolumeLine) → slice_get r.volumes place ≡ Some l → setup_accepted level r place x ≡ Ok u → setup_accepts (laid l.id x (first_volume l)) ≡ Ok tt
unfolding setup_accepted line_fits
accepted level r place x u l is e =
    let fits = bound (Unit {0}) _ Reason (line_fits_in r.capacity place x r.volumes (slice_get r.volumes place)) _ _ e in
    accepted_by r.capacity place x r.volumes fits.value (slice_get r.volumes place) l is fits.first

fits_after_by : (capacity place : ℕ) (x : SetupLine) (ls : List VolumeLine) (u : Unit {0}) (o : Option VolumeLine) (l : VolumeLine) → o ≡ Some l → line_fits_in capacity place x ls o ≡ Ok u → fits_server capacity (lines_of_server l.server (slice_set ls place (with_line x l))) ≡ true
fits_after_by capacity place x ls u None l is e = absurd cc
fits_after_by capacity place x ls u (Some m) l is e =
    let stands = bound (Unit {0}) _ Reason (setup_accepts (laid m.id x (first_volume m))) _ _ e in
    subst (λ (v : VolumeLine). fits_server capacity (lines_of_server v.server (slice_set ls place (with_line x v))) ≡ true) (some_volume m l is) (must_true _ _ _ stands.rest)

fits_after : (level : ℕ) (r : LinesRead) (place : ℕ) (x : SetupLine) (u : Unit {0}) (l : VolumeLine) → slice_get r.volumes place ≡ Some l → setup_accepted level r place x ≡ Ok u → fits_server r.capacity (lines_of_server l.server (slice_set r.volumes place (with_line x l))) ≡ true
unfolding setup_accepted line_fits
fits_after level r place x u l is e =
    let fits = bound (Unit {0}) _ Reason (line_fits_in r.capacity place x r.volumes (slice_get r.volumes place)) _ _ e in
    fits_after_by r.capacity place x r.volumes fits.value (slice_get r.volumes place) l is fits.first

put_apart : (x : SetupLine) (ls : List VolumeLine) (place : ℕ) (o : Option VolumeLine) → slice_get ls place ≡ o → AreApart ls → AreApart (line_laid_in place x ls o)
put_apart x ls place None is h = h
put_apart x ls place (Some l) is h = apart_set x ls place l is h

put_fits : (capacity : ℕ) (x : SetupLine) (ls : List VolumeLine) (place : ℕ) (o : Option VolumeLine) → slice_get ls place ≡ o → ((s : ℕ) → fits_server capacity (lines_of_server s ls) ≡ true) → ((l : VolumeLine) → o ≡ Some l → fits_server capacity (lines_of_server l.server (slice_set ls place (with_line x l))) ≡ true) → (s : ℕ) → fits_server capacity (lines_of_server s (line_laid_in place x ls o)) ≡ true
put_fits capacity x ls place None is old new s = old s
put_fits capacity x ls place (Some l) is old new s = set_fits_by (stands_at_server s l) capacity s x ls place l is refl (old s) (new l refl)

put_loc : (capacity : ℕ) (x : SetupLine) (ls : List VolumeLine) (place : ℕ) (o : Option VolumeLine) → slice_get ls place ≡ o → fits_loc capacity ls ≡ true → fits_loc capacity (line_laid_in place x ls o) ≡ true
put_loc capacity x ls place None is h = h
put_loc capacity x ls place (Some l) is h = subst (λ (k : ℕ). nat_le (1 + k + 9) capacity ≡ true) (sym (loc_set x ls place l is)) h

put_volumes : (c : Counts) (x : SetupLine) (ls : List VolumeLine) (place : ℕ) (o : Option VolumeLine) → slice_get ls place ≡ o → AreVolumes c 536870912 ls → ((l : VolumeLine) → o ≡ Some l → setup_accepts (laid l.id x (first_volume l)) ≡ Ok tt) → AreVolumes c 536870912 (line_laid_in place x ls o)
put_volumes c x ls place None is h e = h
put_volumes c x ls place (Some l) is h e = set_volumes c 536870912 x ls place l is h (e l refl)

put_few : (x : SetupLine) (ls : List VolumeLine) (place : ℕ) (o : Option VolumeLine) → slice_get ls place ≡ o → ((s : ℕ) → length (lines_of_server s ls) ≤ 64) → (s : ℕ) → length (lines_of_server s (line_laid_in place x ls o)) ≤ 64
put_few x ls place None is few s = few s
put_few x ls place (Some l) is few s = subst (λ (k : ℕ). k ≤ 64) (sym (set_count s x ls place l is)) (few s)

setup_holds : (level : ℕ) (r x : LinesRead) (name : List ℕ) (line : SetupLine) → 9 ≤ r.turn → Holds r → setup_laid level r name line ≡ Ok x → Holds x
unfolding setup_laid
setup_holds level r x name line late h e =
    let place : ℕ = place_of name r.volumes in
    let accepts = bound (Unit {0}) _ Reason (setup_accepted level r place line) _ _ e in
    subst Holds (ok_of _ _ _ _ accepts.rest)
    (with_volumes r (line_laid_in place line r.volumes (slice_get r.volumes place)) (omega (arith, late)) h
    (put_volumes r.counts line r.volumes place (slice_get r.volumes place) refl h.volumes (λ l is. accepted level r place line accepts.value l is accepts.first))
    (put_few line r.volumes place (slice_get r.volumes place) refl h.few)
    (put_apart line r.volumes place (slice_get r.volumes place) refl h.apart)
    (put_fits r.capacity line r.volumes place (slice_get r.volumes place) refl h.fits (λ l is. fits_after level r place line accepts.value l is accepts.first))
    (put_loc r.capacity line r.volumes place (slice_get r.volumes place) refl h.loc))

dir_holds : (level : ℕ) (r x : LinesRead) (ws : Words) → 9 ≤ r.turn → Holds r → dir_line level r ws ≡ Ok x → Holds x
unfolding dir_line
dir_holds level r x ws late h e =
    let path = bound (Path × List (List ℕ)) _ Reason (path_at ws) _ _ e in
    let done = bound (Unit {0}) _ Reason (no_word_left path.value.1) _ _ path.rest in
    setup_holds level r x path.value.0.volume _ late h done.rest

file_holds : (level : ℕ) (r x : LinesRead) (ws : Words) → 9 ≤ r.turn → Holds r → file_line level r ws ≡ Ok x → Holds x
unfolding file_line
file_holds level r x ws late h e =
    let path = bound (Path × List (List ℕ)) _ Reason (path_at ws) _ _ e in
    let bytes = bound (Written × List (List ℕ)) _ Reason (written_at most_contents path.value.1) _ _ path.rest in
    let done = bound (Unit {0}) _ Reason (no_word_left bytes.value.1) _ _ bytes.rest in
    setup_holds level r x path.value.0.volume _ late h done.rest

link_holds : (level : ℕ) (r x : LinesRead) (ws : Words) → 9 ≤ r.turn → Holds r → link_line level r ws ≡ Ok x → Holds x
unfolding link_line
link_holds level r x ws late h e =
    let path = bound (Path × List (List ℕ)) _ Reason (path_at ws) _ _ e in
    let bytes = bound (Written × List (List ℕ)) _ Reason (written_at most_text path.value.1) _ _ path.rest in
    let done = bound (Unit {0}) _ Reason (no_word_left bytes.value.1) _ _ bytes.rest in
    setup_holds level r x path.value.0.volume _ late h done.rest

acl_holds : (level : ℕ) (r x : LinesRead) (ws : Words) → 9 ≤ r.turn → Holds r → acl_line level r ws ≡ Ok x → Holds x
unfolding acl_line
acl_holds level r x ws late h e =
    let path = bound (Path × List (List ℕ)) _ Reason (path_at ws) _ _ e in
    let bytes = bound (Written × List (List ℕ)) _ Reason (written_at most_text path.value.1) _ _ path.rest in
    let done = bound (Unit {0}) _ Reason (no_word_left bytes.value.1) _ _ bytes.rest in
    setup_holds level r x path.value.0.volume _ late h done.rest

-- ---- acts, plans, events

do_holds : (level : ℕ) (r x : LinesRead) (ws : Words) → 10 ≤ r.turn → Holds r → do_line level r ws ≡ Ok x → Holds x
unfolding do_line
do_holds level r x ws late h e =
    let task = bound Task _ Reason (task_at r.counts ws) _ _ e in
    let bounded = bound (Unit {0}) _ Reason (bounded_for (nat_le 5 level) task.value) _ _ task.rest in
    subst Holds (ok_of _ _ _ _ bounded.rest) (record { some = h.some; servers = h.servers; clients = h.clients; admins = h.admins; cache = h.cache; capacity = h.capacity; waits = record { on_users = h.waits.on_users; on_volumes = h.waits.on_volumes; on_tasks = λ k. absurd (omega (arith, late, k)); on_plans = h.waits.on_plans; on_schedule = h.waits.on_schedule }; users = h.users; volumes = h.volumes; few = h.few; apart = h.apart; fits = h.fits; loc = h.loc; tasks = All-push (FitsTask r.counts) r.tasks _ h.tasks (task_in r.counts ws task.value task.first); plans = h.plans; events = h.events; ticks = h.ticks })

plan_holds : (r x : LinesRead) (ws : Words) → 11 ≤ r.turn → Holds r → plan_line r ws ≡ Ok x → Holds x
unfolding plan_line
plan_holds r x ws late h e =
    let plan = bound Plan _ Reason (plan_at r.counts ws) _ _ e in
    subst Holds (ok_of _ _ _ _ plan.rest) (record { some = h.some; servers = h.servers; clients = h.clients; admins = h.admins; cache = h.cache; capacity = h.capacity; waits = record { on_users = h.waits.on_users; on_volumes = h.waits.on_volumes; on_tasks = h.waits.on_tasks; on_plans = λ k. absurd (omega (arith, late, k)); on_schedule = h.waits.on_schedule }; users = h.users; volumes = h.volumes; few = h.few; apart = h.apart; fits = h.fits; loc = h.loc; tasks = h.tasks; plans = All-push (FitsPlan r.counts) r.plans _ h.plans (plan_in r.counts ws plan.value plan.first); events = h.events; ticks = h.ticks })

schedule_holds : (r x : LinesRead) (ws : Words) → 12 ≤ r.turn → Holds r → schedule_line r ws ≡ Ok x → Holds x
unfolding schedule_line
schedule_holds r x ws late h e =
    let done = bound (Unit {0}) _ Reason (no_word_left ws) _ _ e in
    subst Holds (ok_of _ _ _ _ done.rest) (record { some = h.some; servers = h.servers; clients = h.clients; admins = h.admins; cache = h.cache; capacity = h.capacity; waits = record { on_users = h.waits.on_users; on_volumes = h.waits.on_volumes; on_tasks = h.waits.on_tasks; on_plans = h.waits.on_plans; on_schedule = λ k. absurd (omega (arith, late, k)) }; users = h.users; volumes = h.volumes; few = h.few; apart = h.apart; fits = h.fits; loc = h.loc; tasks = h.tasks; plans = h.plans; events = All-nil (FitsEvent r.counts); ticks = omega arith })

event_holds : (first : FirstWord) (r x : LinesRead) (ws : Words) → 13 ≤ r.turn → Holds r → event_line first r ws ≡ Ok x → Holds x
unfolding event_line event_told
event_holds first r x ws late h e =
    let event = bound (Event × List (List ℕ)) _ Reason (event_at first r.counts ws) _ _ e in
    let done = bound (Unit {0}) _ Reason (no_word_left event.value.1) _ _ event.rest in
    let few = bound (Unit {0}) _ Reason (must (nat_le (ticks_in (schedule_so_far r.schedule ++ event.value.0 ∷ [])) 1000000000) reasons.Limit) _ _ done.rest in
    subst Holds (ok_of _ _ _ _ few.rest) (record { some = h.some; servers = h.servers; clients = h.clients; admins = h.admins; cache = h.cache; capacity = h.capacity; waits = record { on_users = h.waits.on_users; on_volumes = h.waits.on_volumes; on_tasks = h.waits.on_tasks; on_plans = h.waits.on_plans; on_schedule = λ k. absurd (omega (arith, late, k)) }; users = h.users; volumes = h.volumes; few = h.few; apart = h.apart; fits = h.fits; loc = h.loc; tasks = h.tasks; plans = h.plans; events = All-push (FitsEvent r.counts) (schedule_so_far r.schedule) event.value.0 h.events (event_in first r.counts ws event.value event.first); ticks = le_of_test _ _ (must_true _ _ _ few.first) })

end_holds : (r x : LinesRead) (ws : Words) → Holds r → end_line r ws ≡ Ok x → Holds x
unfolding end_line
end_holds r x ws h e = let done = bound (Unit {0}) _ Reason (no_word_left ws) _ _ e in subst Holds (ok_of _ _ _ _ done.rest) h

-- ---- a line

by_word : (first : FirstWord) (level : ℕ) (r x : LinesRead) (ws : Words) → Holds r → from_turn first ≤ r.turn → r.turn ≤ to_turn first → line_by_word level first (record r { turn = next_turn first }) ws ≡ Ok x → Holds x
by_word words.Cell level r x ws h from to e = cell_holds (record r { turn = 1 }) x ws (moved 1 r h (omega (arith, to)) (λ k. absurd (omega (arith, k)))) e
by_word words.Servers level r x ws h from to e = servers_holds level r x ws h (omega (arith, to)) e
by_word words.Clients level r x ws h from to e = clients_holds level r x ws h (omega (arith, to)) from e
by_word words.Admins level r x ws h from to e = admins_holds r x ws h (omega (arith, to)) from e
by_word words.Cache level r x ws h from to e = cache_holds (record r { turn = 5 }) x ws (moved 5 r h (omega (arith, to)) (λ k. from)) e
by_word words.Capacity level r x ws h from to e = capacity_holds (record r { turn = 6 }) x ws (omega arith) (moved 6 r h (omega (arith, to)) (λ k. from)) e
by_word words.User level r x ws h from to e = user_holds (record r { turn = 7 }) x ws (omega arith) (moved 7 r h (omega (arith, to)) (λ k. from)) e
by_word words.Volume level r x ws h from to e = volume_holds level (record r { turn = 8 }) x ws (omega arith) (moved 8 r h (omega (arith, to)) (λ k. from)) e
by_word words.Dir level r x ws h from to e = dir_holds level (record r { turn = 9 }) x ws (omega arith) (moved 9 r h (omega (arith, to)) (λ k. from)) e
by_word words.File level r x ws h from to e = file_holds level (record r { turn = 9 }) x ws (omega arith) (moved 9 r h (omega (arith, to)) (λ k. from)) e
by_word words.Link level r x ws h from to e = link_holds level (record r { turn = 9 }) x ws (omega arith) (moved 9 r h (omega (arith, to)) (λ k. from)) e
by_word words.Acl level r x ws h from to e = acl_holds level (record r { turn = 9 }) x ws (omega arith) (moved 9 r h (omega (arith, to)) (λ k. from)) e
by_word words.Do level r x ws h from to e = do_holds level (record r { turn = 10 }) x ws (omega arith) (moved 10 r h (omega (arith, to)) (λ k. from)) e
by_word words.Plan level r x ws h from to e = plan_holds (record r { turn = 11 }) x ws (omega arith) (moved 11 r h (omega (arith, to)) (λ k. from)) e
by_word words.Schedule level r x ws h from to e = schedule_holds (record r { turn = 12 }) x ws (omega arith) (moved 12 r h (omega (arith, to)) (λ k. from)) e
by_word words.Act level r x ws h from to e = event_holds words.Act (record r { turn = 13 }) x ws (omega arith) (moved 13 r h (omega (arith, to)) (λ k. omega (arith, from))) e
by_word words.Deliver level r x ws h from to e = event_holds words.Deliver (record r { turn = 13 }) x ws (omega arith) (moved 13 r h (omega (arith, to)) (λ k. omega (arith, from))) e
by_word words.Drain level r x ws h from to e = event_holds words.Drain (record r { turn = 13 }) x ws (omega arith) (moved 13 r h (omega (arith, to)) (λ k. omega (arith, from))) e
by_word words.Timeout level r x ws h from to e = event_holds words.Timeout (record r { turn = 13 }) x ws (omega arith) (moved 13 r h (omega (arith, to)) (λ k. omega (arith, from))) e
by_word words.Wake level r x ws h from to e = event_holds words.Wake (record r { turn = 13 }) x ws (omega arith) (moved 13 r h (omega (arith, to)) (λ k. omega (arith, from))) e
by_word words.Tick level r x ws h from to e = event_holds words.Tick (record r { turn = 13 }) x ws (omega arith) (moved 13 r h (omega (arith, to)) (λ k. omega (arith, from))) e
by_word words.Crash level r x ws h from to e = event_holds words.Crash (record r { turn = 13 }) x ws (omega arith) (moved 13 r h (omega (arith, to)) (λ k. omega (arith, from))) e
by_word words.Restart level r x ws h from to e = event_holds words.Restart (record r { turn = 13 }) x ws (omega arith) (moved 13 r h (omega (arith, to)) (λ k. omega (arith, from))) e
by_word words.Stop level r x ws h from to e = event_holds words.Stop (record r { turn = 13 }) x ws (omega arith) (moved 13 r h (omega (arith, to)) (λ k. omega (arith, from))) e
by_word words.Fail level r x ws h from to e = event_holds words.Fail (record r { turn = 13 }) x ws (omega arith) (moved 13 r h (omega (arith, to)) (λ k. omega (arith, from))) e
by_word words.End level r x ws h from to e = end_holds (record r { turn = 14 }) x ws (moved 14 r h (omega (arith, to)) (λ k. from)) e

line_holds : (level : ℕ) (r x : LinesRead) (line : Words) → Holds r → line_of level r line ≡ Ok x → Holds x
unfolding line_of
line_holds level r x line h e =
    let word = bound (List ℕ × List (List ℕ)) _ Reason (word_at line) _ _ e in
    let first = bound FirstWord _ Reason (first_word level word.value.0) _ _ word.rest in
    let due = bound (Unit {0}) _ Reason (must (is_due r.turn first.value) reasons.Order) _ _ first.rest in
    let built = bound (Unit {0}) _ Reason (must (not (is_unbuilt level first.value word.value.1)) reasons.Word) _ _ due.rest in
    let turns = both_by (nat_le (from_turn first.value) r.turn) (nat_le r.turn (to_turn first.value)) (must_true _ _ _ due.first) in
    by_word first.value level r x word.value.1 h (le_of_test _ _ turns.0) (le_of_test _ _ turns.1) built.rest

silent_by : (t : Bool) (level : ℕ) (r x : LinesRead) (line : Words) → Holds r → (if t then Ok r else line_of level r line) ≡ Ok x → Holds x
silent_by true level r x line h e = subst Holds (ok_of _ _ _ _ e) h
silent_by false level r x line h e = line_holds level r x line h e

line_at_holds : (level : ℕ) (r x : LinesRead) (number room : ℕ) (line : List ℕ) → Holds r → line_at level r number room line ≡ Ok x → Holds x
unfolding line_at
line_at_holds level r x number room line h e =
    let within = bound (Unit {0}) _ Reason (must (nat_lt (length line) room) reasons.Limit) _ _ e in
    let few = bound (Unit {0}) _ Reason (must (nat_le number 200000) reasons.Limit) _ _ within.rest in
    let short = bound (Unit {0}) _ Reason (must (nat_le (length line) 4200000) reasons.Limit) _ _ few.rest in
    let more = bound (Unit {0}) _ Reason (must (not (has_ended r.turn)) reasons.Order) _ _ short.rest in
    silent_by (is_silent line) level r x (parts 32 line) h more.rest

last_holds : (r : LinesRead) (s : Script) (number room : ℕ) (last : List ℕ) → Holds r → last_at r number room last ≡ Ok s → IsCellScript s
unfolding last_at
last_holds r s number room last h e =
    let within = bound (Unit {0}) _ Reason (must (nat_le (length last) room) reasons.Limit) _ _ e in
    let whole = bound (Unit {0}) _ Reason (must (has_ended r.turn) reasons.Missing) _ _ within.rest in
    let few = bound (Unit {0}) _ Reason (must (nat_eq (length last) 0 || nat_le number 200000) reasons.Limit) _ _ whole.rest in
    let short = bound (Unit {0}) _ Reason (must (nat_le (length last) 4200000) reasons.Limit) _ _ few.rest in
    let none = bound (Unit {0}) _ Reason (must (nat_eq (length last) 0) reasons.Order) _ _ short.rest in
    let end : r.turn ≡ 14 = eqb-true r.turn 14 (must_true _ _ _ whole.first) in
    subst IsCellScript (ok_of _ _ _ _ none.rest)
    (record { servers = (h.some (omega (arith, end)), h.servers); clients = h.clients; admins = h.admins; cache = h.cache; capacity = h.capacity; users = h.users; volumes = h.volumes; few = h.few; apart = h.apart; fits = h.fits; loc = h.loc; tasks = h.tasks; plans = h.plans; events = h.events; ticks = h.ticks })

lines_hold : (level : ℕ) (r : LinesRead) (s : Script) (number room : ℕ) (ls : List (List ℕ)) → Holds r → lines_read_from level r number room ls ≡ Ok s → IsCellScript s
lines_hold level r s number room [] h e = absurd cc
lines_hold level r s number room (last ∷ []) h e = last_holds r s (number + 1) room last h (at_line_ok _ _ _ _ e)
lines_hold level r s number room (line ∷ next ∷ more) h e =
    let read = bound LinesRead Script (ℕ × Reason) (at_line (number + 1) (line_at level r (number + 1) room line)) _ s e in
    lines_hold level read.value s (number + 1) (room - (length line + 1)) (next ∷ more) (line_at_holds level r read.value (number + 1) room line h (at_line_ok _ _ _ _ read.first)) read.rest

nothing_holds : Holds nothing_read
nothing_holds = record {
  some = λ k. absurd (omega (arith, k));
  servers = omega arith;
  clients = omega arith;
  admins = omega arith;
  cache = (omega arith, omega arith);
  capacity = (omega arith, omega arith);
  waits = record { on_users = λ k. refl; on_volumes = λ k. refl; on_tasks = λ k. refl; on_plans = λ k. refl; on_schedule = λ k. refl };
  users = All-nil (FitsUser nothing_read.counts);
  volumes = tt;
  few = λ s. omega arith;
  apart = tt;
  fits = λ s. nothing_fits 268435456 (omega arith);
  loc = no_loc_fits 268435456 (omega arith);
  tasks = All-nil (FitsTask nothing_read.counts);
  plans = All-nil (FitsPlan nothing_read.counts);
  events = All-nil (FitsEvent nothing_read.counts);
  ticks = omega arith;
}

pub scripts_are_of_cells : (level : ℕ) (bytes : List ℕ) (s : Script) → script_of level bytes ≡ Ok s → IsCellScript s
unfolding script_of
scripts_are_of_cells level bytes s e = lines_hold level nothing_read s 0 16777216 (parts 10 bytes) nothing_holds e
