-- Narrower forms have one server: line by line.
use Rattle.spec_ideal.specs.VnodeImage.{most_contents}
use Rattle.std.proofs.Common.{◌≡◌, ℕ, ◌+◌, ◌-◌, ◌<◌, ◌≤◌, Bool, true, false, List, [], ◌∷◌, ◌++◌, length, Ok, not, nat_eq, nat_le, nat_lt, if◌then◌else◌, refl, sym, subst, ◌∙◌, arith, eqb-true}
use Rattle.std.specs.Prelude.{◌&&◌, ◌||◌}
use Rattle.std.specs.List.{list_any}
use Rattle.std.proofs.lemmas.Bool.Decides.{nat_tests}
use Rattle.afs_num.specs.declared.scripts.Reason.{Reason}
use Rattle.afs_num.specs.declared.scripts.Reason.TheVariants as reasons
use Rattle.spec_history.specs.declared.acts.Path.{Path}
use Rattle.spec_history.specs.declared.acts.Written.{Written}
use Rattle.spec_history.specs.declared.scripts.Event.{Event}
use Rattle.spec_history.specs.declared.scripts.Plan.{Plan}
use Rattle.spec_history.specs.declared.scripts.Script.{Script}
use Rattle.spec_history.specs.declared.scripts.SetupLine.{SetupLine}
use Rattle.spec_history.specs.declared.scripts.Task.{Task}
use Rattle.spec_ideal.proofs.Basics.{both}
use Rattle.spec_model.specs.ScriptWords.{◌>>=◌, no_word_left, must, number_at, parts, word_at}
use Rattle.spec_model.specs.Script.{at_line, is_silent}
use Rattle.spec_model.proofs.ScriptReaders.{bound, le_of_test, must_true, ok_of, at_line_ok}
use Rattle.afs_words.specs.Words.{label_at, name_at, node_number_at, path_at, server_at, written_at}
use Rattle.afs_grammar.specs.declared.spellings.FirstWord.{FirstWord}
use Rattle.afs_grammar.specs.declared.spellings.FirstWord.TheVariants as words
use Rattle.afs_grammar.specs.Acts.{event_at, most_text, plan_at, task_at, Words}
use Rattle.afs_grammar.specs.Forms.{is_unbuilt}
use Rattle.afs_grammar.specs.Lines.{acl_line, admins_line, bounded_for, cache_line, capacity_line, cell_line, clients_line, dir_line, do_line, end_line, event_line, event_told, file_line, first_word, has_name, last_at, line_at, line_by_word, line_of, lines_read_from, link_line, new_line, nothing_read, place_of, plan_line, schedule_line, schedule_so_far, script_of, servers_line, setup_accepted, setup_laid, ticks_in, user_line, volume_accepted, volume_added, volume_line, LinesRead}
use Rattle.afs_grammar.specs.Turns.{from_turn, has_ended, is_due, next_turn, to_turn}

-- the server line is behind, and told one
HasOne : LinesRead → Type 0
HasOne r = 2 ≤ r.turn → r.counts.servers ≡ 1

-- a line left the turn and the number of servers as they were
Same : LinesRead → LinesRead → Type 0
Same r x = (x.turn ≡ r.turn) × (x.counts.servers ≡ r.counts.servers)

still : (t : ℕ) (r x : LinesRead) → HasOne r → 2 ≤ r.turn → Same (record r { turn = t }) x → HasOne x
unfolding HasOne Same
still t r x h two same k = same.1 ∙ h two

cell_same : (r x : LinesRead) (ws : Words) → cell_line r ws ≡ Ok x → Same r x
unfolding cell_line Same
cell_same r x ws e =
    let version = bound (ℕ × List (List ℕ)) _ Reason (number_at 1 1 ws) _ _ e in
    let done = bound (Unit {0}) _ Reason (no_word_left version.value.1) _ _ version.rest in
    subst (Same r) (ok_of _ _ _ _ done.rest) (refl, refl)

clients_same : (level : ℕ) (r x : LinesRead) (ws : Words) → clients_line level r ws ≡ Ok x → Same r x
unfolding clients_line Same
clients_same level r x ws e =
    let count = bound (ℕ × List (List ℕ)) _ Reason (number_at 0 16 ws) _ _ e in
    let done = bound (Unit {0}) _ Reason (no_word_left count.value.1) _ _ count.rest in
    let built = bound (Unit {0}) _ Reason (must (nat_le 6 level || nat_le count.value.0 1) reasons.Limit) _ _ done.rest in
    subst (Same r) (ok_of _ _ _ _ built.rest) (refl, refl)

admins_same : (r x : LinesRead) (ws : Words) → admins_line r ws ≡ Ok x → Same r x
unfolding admins_line Same
admins_same r x ws e =
    let count = bound (ℕ × List (List ℕ)) _ Reason (number_at 0 4 ws) _ _ e in
    let done = bound (Unit {0}) _ Reason (no_word_left count.value.1) _ _ count.rest in
    subst (Same r) (ok_of _ _ _ _ done.rest) (refl, refl)

cache_same : (r x : LinesRead) (ws : Words) → cache_line r ws ≡ Ok x → Same r x
unfolding cache_line Same
cache_same r x ws e =
    let most = bound (ℕ × List (List ℕ)) _ Reason (number_at 1 256 ws) _ _ e in
    let done = bound (Unit {0}) _ Reason (no_word_left most.value.1) _ _ most.rest in
    subst (Same r) (ok_of _ _ _ _ done.rest) (refl, refl)

capacity_same : (r x : LinesRead) (ws : Words) → capacity_line r ws ≡ Ok x → Same r x
unfolding capacity_line Same
capacity_same r x ws e =
    let bytes = bound (ℕ × List (List ℕ)) _ Reason (number_at 65536 268435456 ws) _ _ e in
    let done = bound (Unit {0}) _ Reason (no_word_left bytes.value.1) _ _ bytes.rest in
    subst (Same r) (ok_of _ _ _ _ done.rest) (refl, refl)

user_same : (r x : LinesRead) (ws : Words) → user_line r ws ≡ Ok x → Same r x
unfolding user_line Same
user_same r x ws e =
    let client = bound (ℕ × List (List ℕ)) _ Reason (node_number_at 99 r.counts.clients ws) _ _ e in
    let name = bound (List ℕ × List (List ℕ)) _ Reason (name_at 64 client.value.1) _ _ client.rest in
    let done = bound (Unit {0}) _ Reason (no_word_left name.value.1) _ _ name.rest in
    subst (Same r) (ok_of _ _ _ _ done.rest) (refl, refl)

volume_same : (level : ℕ) (r x : LinesRead) (ws : Words) → volume_line level r ws ≡ Ok x → Same r x
unfolding volume_line volume_added Same
volume_same level r x ws e =
    let name = bound (List ℕ × List (List ℕ)) _ Reason (label_at ws) _ _ e in
    let fresh = bound (Unit {0}) _ Reason (must (not (list_any (has_name name.value.0) r.volumes)) reasons.Name) _ _ name.rest in
    let server = bound (ℕ × List (List ℕ)) _ Reason (server_at r.counts name.value.1) _ _ fresh.rest in
    let quota = bound (ℕ × List (List ℕ)) _ Reason (number_at 1 16384 server.value.1) _ _ server.rest in
    let done = bound (Unit {0}) _ Reason (no_word_left quota.value.1) _ _ quota.rest in
    let taken = bound (Unit {0}) _ Reason (volume_accepted level r (new_line (length r.volumes) name.value.0 server.value.0 quota.value.0)) _ _ done.rest in
    subst (Same r) (ok_of _ _ _ _ taken.rest) (refl, refl)

setup_same : (level : ℕ) (r x : LinesRead) (name : List ℕ) (line : SetupLine) → setup_laid level r name line ≡ Ok x → Same r x
unfolding setup_laid Same
setup_same level r x name line e =
    let taken = bound (Unit {0}) _ Reason (setup_accepted level r (place_of name r.volumes) line) _ _ e in
    subst (Same r) (ok_of _ _ _ _ taken.rest) (refl, refl)

dir_same : (level : ℕ) (r x : LinesRead) (ws : Words) → dir_line level r ws ≡ Ok x → Same r x
unfolding dir_line
dir_same level r x ws e =
    let path = bound (Path × List (List ℕ)) _ Reason (path_at ws) _ _ e in
    let done = bound (Unit {0}) _ Reason (no_word_left path.value.1) _ _ path.rest in
    setup_same level r x path.value.0.volume _ done.rest

file_same : (level : ℕ) (r x : LinesRead) (ws : Words) → file_line level r ws ≡ Ok x → Same r x
unfolding file_line
file_same level r x ws e =
    let path = bound (Path × List (List ℕ)) _ Reason (path_at ws) _ _ e in
    let bytes = bound (Written × List (List ℕ)) _ Reason (written_at most_contents path.value.1) _ _ path.rest in
    let done = bound (Unit {0}) _ Reason (no_word_left bytes.value.1) _ _ bytes.rest in
    setup_same level r x path.value.0.volume _ done.rest

link_same : (level : ℕ) (r x : LinesRead) (ws : Words) → link_line level r ws ≡ Ok x → Same r x
unfolding link_line
link_same level r x ws e =
    let path = bound (Path × List (List ℕ)) _ Reason (path_at ws) _ _ e in
    let bytes = bound (Written × List (List ℕ)) _ Reason (written_at most_text path.value.1) _ _ path.rest in
    let done = bound (Unit {0}) _ Reason (no_word_left bytes.value.1) _ _ bytes.rest in
    setup_same level r x path.value.0.volume _ done.rest

acl_same : (level : ℕ) (r x : LinesRead) (ws : Words) → acl_line level r ws ≡ Ok x → Same r x
unfolding acl_line
acl_same level r x ws e =
    let path = bound (Path × List (List ℕ)) _ Reason (path_at ws) _ _ e in
    let bytes = bound (Written × List (List ℕ)) _ Reason (written_at most_text path.value.1) _ _ path.rest in
    let done = bound (Unit {0}) _ Reason (no_word_left bytes.value.1) _ _ bytes.rest in
    setup_same level r x path.value.0.volume _ done.rest

do_same : (level : ℕ) (r x : LinesRead) (ws : Words) → do_line level r ws ≡ Ok x → Same r x
unfolding do_line Same
do_same level r x ws e =
    let task = bound Task _ Reason (task_at r.counts ws) _ _ e in
    let bounded = bound (Unit {0}) _ Reason (bounded_for (nat_le 5 level) task.value) _ _ task.rest in
    subst (Same r) (ok_of _ _ _ _ bounded.rest) (refl, refl)

plan_same : (r x : LinesRead) (ws : Words) → plan_line r ws ≡ Ok x → Same r x
unfolding plan_line Same
plan_same r x ws e =
    let plan = bound Plan _ Reason (plan_at r.counts ws) _ _ e in
    subst (Same r) (ok_of _ _ _ _ plan.rest) (refl, refl)

schedule_same : (r x : LinesRead) (ws : Words) → schedule_line r ws ≡ Ok x → Same r x
unfolding schedule_line Same
schedule_same r x ws e =
    let done = bound (Unit {0}) _ Reason (no_word_left ws) _ _ e in
    subst (Same r) (ok_of _ _ _ _ done.rest) (refl, refl)

event_same : (first : FirstWord) (r x : LinesRead) (ws : Words) → event_line first r ws ≡ Ok x → Same r x
unfolding event_line event_told Same
event_same first r x ws e =
    let event = bound (Event × List (List ℕ)) _ Reason (event_at first r.counts ws) _ _ e in
    let done = bound (Unit {0}) _ Reason (no_word_left event.value.1) _ _ event.rest in
    let few = bound (Unit {0}) _ Reason (must (nat_le (ticks_in (schedule_so_far r.schedule ++ event.value.0 ∷ [])) 1000000000) reasons.Limit) _ _ done.rest in
    subst (Same r) (ok_of _ _ _ _ few.rest) (refl, refl)

end_same : (r x : LinesRead) (ws : Words) → end_line r ws ≡ Ok x → Same r x
unfolding end_line Same
end_same r x ws e =
    let done = bound (Unit {0}) _ Reason (no_word_left ws) _ _ e in
    subst (Same r) (ok_of _ _ _ _ done.rest) (refl, refl)

-- one server alone is built below this level
one_by : (t : Bool) (n : ℕ) → t ≡ false → (t || nat_eq n 1) ≡ true → n ≡ 1
one_by true n wide e = absurd cc
one_by false n wide e = eqb-true n 1 e

servers_one : (level : ℕ) (r x : LinesRead) (ws : Words) → level < 7 → servers_line level r ws ≡ Ok x → HasOne x
unfolding servers_line HasOne
servers_one level r x ws lt e =
    let count = bound (ℕ × List (List ℕ)) _ Reason (number_at 1 8 ws) _ _ e in
    let done = bound (Unit {0}) _ Reason (no_word_left count.value.1) _ _ count.rest in
    let built = bound (Unit {0}) _ Reason (must (nat_le 7 level || nat_eq count.value.0 1) reasons.Limit) _ _ done.rest in
    let narrow : nat_le 7 level ≡ false = grind (arith, nat_tests, lt) in
    let one = one_by (nat_le 7 level) count.value.0 narrow (must_true _ _ _ built.first) in
    subst HasOne (ok_of _ _ _ _ built.rest) (λ k. one)

-- ---- a line

by_word : (first : FirstWord) (level : ℕ) (r x : LinesRead) (ws : Words) → level < 7 → HasOne r → from_turn first ≤ r.turn → line_by_word level first (record r { turn = next_turn first }) ws ≡ Ok x → HasOne x
unfolding HasOne Same
by_word words.Cell level r x ws lt h from e = let same = cell_same (record r { turn = 1 }) x ws e in λ k. absurd (let is = same.0 in omega (arith, k, is))
by_word words.Servers level r x ws lt h from e = servers_one level (record r { turn = 2 }) x ws lt e
by_word words.Clients level r x ws lt h from e = still 3 r x h (omega (arith, from)) (clients_same level (record r { turn = 3 }) x ws e)
by_word words.Admins level r x ws lt h from e = still 4 r x h (omega (arith, from)) (admins_same (record r { turn = 4 }) x ws e)
by_word words.Cache level r x ws lt h from e = still 5 r x h (omega (arith, from)) (cache_same (record r { turn = 5 }) x ws e)
by_word words.Capacity level r x ws lt h from e = still 6 r x h (omega (arith, from)) (capacity_same (record r { turn = 6 }) x ws e)
by_word words.User level r x ws lt h from e = still 7 r x h (omega (arith, from)) (user_same (record r { turn = 7 }) x ws e)
by_word words.Volume level r x ws lt h from e = still 8 r x h (omega (arith, from)) (volume_same level (record r { turn = 8 }) x ws e)
by_word words.Dir level r x ws lt h from e = still 9 r x h (omega (arith, from)) (dir_same level (record r { turn = 9 }) x ws e)
by_word words.File level r x ws lt h from e = still 9 r x h (omega (arith, from)) (file_same level (record r { turn = 9 }) x ws e)
by_word words.Link level r x ws lt h from e = still 9 r x h (omega (arith, from)) (link_same level (record r { turn = 9 }) x ws e)
by_word words.Acl level r x ws lt h from e = still 9 r x h (omega (arith, from)) (acl_same level (record r { turn = 9 }) x ws e)
by_word words.Do level r x ws lt h from e = still 10 r x h (omega (arith, from)) (do_same level (record r { turn = 10 }) x ws e)
by_word words.Plan level r x ws lt h from e = still 11 r x h (omega (arith, from)) (plan_same (record r { turn = 11 }) x ws e)
by_word words.Schedule level r x ws lt h from e = still 12 r x h (omega (arith, from)) (schedule_same (record r { turn = 12 }) x ws e)
by_word words.Act level r x ws lt h from e = still 13 r x h (omega (arith, from)) (event_same words.Act (record r { turn = 13 }) x ws e)
by_word words.Deliver level r x ws lt h from e = still 13 r x h (omega (arith, from)) (event_same words.Deliver (record r { turn = 13 }) x ws e)
by_word words.Drain level r x ws lt h from e = still 13 r x h (omega (arith, from)) (event_same words.Drain (record r { turn = 13 }) x ws e)
by_word words.Timeout level r x ws lt h from e = still 13 r x h (omega (arith, from)) (event_same words.Timeout (record r { turn = 13 }) x ws e)
by_word words.Wake level r x ws lt h from e = still 13 r x h (omega (arith, from)) (event_same words.Wake (record r { turn = 13 }) x ws e)
by_word words.Tick level r x ws lt h from e = still 13 r x h (omega (arith, from)) (event_same words.Tick (record r { turn = 13 }) x ws e)
by_word words.Crash level r x ws lt h from e = still 13 r x h (omega (arith, from)) (event_same words.Crash (record r { turn = 13 }) x ws e)
by_word words.Restart level r x ws lt h from e = still 13 r x h (omega (arith, from)) (event_same words.Restart (record r { turn = 13 }) x ws e)
by_word words.Stop level r x ws lt h from e = still 13 r x h (omega (arith, from)) (event_same words.Stop (record r { turn = 13 }) x ws e)
by_word words.Fail level r x ws lt h from e = still 13 r x h (omega (arith, from)) (event_same words.Fail (record r { turn = 13 }) x ws e)
by_word words.End level r x ws lt h from e = still 14 r x h (omega (arith, from)) (end_same (record r { turn = 14 }) x ws e)

line_one : (level : ℕ) (r x : LinesRead) (line : Words) → level < 7 → HasOne r → line_of level r line ≡ Ok x → HasOne x
unfolding line_of
line_one level r x line lt h e =
    let word = bound (List ℕ × List (List ℕ)) _ Reason (word_at line) _ _ e in
    let first = bound FirstWord _ Reason (first_word level word.value.0) _ _ word.rest in
    let due = bound (Unit {0}) _ Reason (must (is_due r.turn first.value) reasons.Order) _ _ first.rest in
    let built = bound (Unit {0}) _ Reason (must (not (is_unbuilt level first.value word.value.1)) reasons.Word) _ _ due.rest in
    let turns = both (nat_le (from_turn first.value) r.turn) (nat_le r.turn (to_turn first.value)) (must_true _ _ _ due.first) in
    by_word first.value level r x word.value.1 lt h (le_of_test _ _ turns.0) built.rest

silent_one : (t : Bool) (level : ℕ) (r x : LinesRead) (line : Words) → level < 7 → HasOne r → (if t then Ok r else line_of level r line) ≡ Ok x → HasOne x
silent_one true level r x line lt h e = subst HasOne (ok_of _ _ _ _ e) h
silent_one false level r x line lt h e = line_one level r x line lt h e

line_at_one : (level : ℕ) (r x : LinesRead) (number room : ℕ) (line : List ℕ) → level < 7 → HasOne r → line_at level r number room line ≡ Ok x → HasOne x
unfolding line_at
line_at_one level r x number room line lt h e =
    let within = bound (Unit {0}) _ Reason (must (nat_lt (length line) room) reasons.Limit) _ _ e in
    let few = bound (Unit {0}) _ Reason (must (nat_le number 200000) reasons.Limit) _ _ within.rest in
    let short = bound (Unit {0}) _ Reason (must (nat_le (length line) 4200000) reasons.Limit) _ _ few.rest in
    let more = bound (Unit {0}) _ Reason (must (not (has_ended r.turn)) reasons.Order) _ _ short.rest in
    silent_one (is_silent line) level r x (parts 32 line) lt h more.rest

last_one : (r : LinesRead) (s : Script) (number room : ℕ) (last : List ℕ) → HasOne r → last_at r number room last ≡ Ok s → s.servers ≡ 1
unfolding last_at HasOne
last_one r s number room last h e =
    let within = bound (Unit {0}) _ Reason (must (nat_le (length last) room) reasons.Limit) _ _ e in
    let whole = bound (Unit {0}) _ Reason (must (has_ended r.turn) reasons.Missing) _ _ within.rest in
    let few = bound (Unit {0}) _ Reason (must (nat_eq (length last) 0 || nat_le number 200000) reasons.Limit) _ _ whole.rest in
    let short = bound (Unit {0}) _ Reason (must (nat_le (length last) 4200000) reasons.Limit) _ _ few.rest in
    let none = bound (Unit {0}) _ Reason (must (nat_eq (length last) 0) reasons.Order) _ _ short.rest in
    let end : r.turn ≡ 14 = eqb-true r.turn 14 (must_true _ _ _ whole.first) in
    subst (λ (t : Script). t.servers ≡ 1) (ok_of _ _ _ _ none.rest) (h (omega (arith, end)))

lines_one : (level : ℕ) (r : LinesRead) (s : Script) (number room : ℕ) (ls : List (List ℕ)) → level < 7 → HasOne r → lines_read_from level r number room ls ≡ Ok s → s.servers ≡ 1
lines_one level r s number room [] lt h e = absurd cc
lines_one level r s number room (last ∷ []) lt h e = last_one r s (number + 1) room last h (at_line_ok _ _ _ _ e)
lines_one level r s number room (line ∷ next ∷ more) lt h e =
    let read = bound LinesRead Script (ℕ × Reason) (at_line (number + 1) (line_at level r (number + 1) room line)) _ s e in
    lines_one level read.value s (number + 1) (room - (length line + 1)) (next ∷ more) lt (line_at_one level r read.value (number + 1) room line lt h (at_line_ok _ _ _ _ read.first)) read.rest

pub one_server : (level : ℕ) (bytes : List ℕ) (s : Script) → script_of level bytes ≡ Ok s → level < 7 → s.servers ≡ 1
unfolding script_of HasOne
one_server level bytes s e lt = lines_one level nothing_read s 0 16777216 (parts 10 bytes) lt (λ k. absurd (omega (arith, k))) e
