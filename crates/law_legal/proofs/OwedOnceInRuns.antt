use Rattle.spec_breaks.specs.Promises.{has_break, without_break}
use Rattle.spec_history.specs.declared.lines.Line.{Line}
use Rattle.spec_history.specs.declared.lines.Line.TheVariants as lines
use Rattle.spec_history.specs.declared.scripts.Script.{Script}
use Rattle.law_legal.proofs.OwedPasses.{all_lines}
use Rattle.law_legal.proofs.BaseLaws.{at_put, same_node-refl}
use Rattle.law_legal.proofs.VolumeChanges.{run_each}
use Rattle.law_legal.proofs.RunWalk.{EachMove, IsKept, each_moved}
use Rattle.law_legal.proofs.OwedLines.{disk_lines}
use Rattle.law_legal.proofs.RunLinesInPlace.{Placed, PlacedStep, placed_first, placed_kept, placed_moves}
use Rattle.law_legal.proofs.OwedFacts.{AllOf, all_filter, all_map}
use Rattle.law_legal.proofs.PromiseLists.{Owed, ended_call, ended_is, owes_all, risen_is, saves_turn_is, shows_turn_is, without_all}
use Rattle.law_legal.proofs.RunSetUp.{AreVersions, all_versions}
use Rattle.law_legal.specs.Breaks.{HasEnded}
use Rattle.law_legal.specs.Ideal.{Unless, first_lines, set_up_entry}
use Rattle.law_legal.specs.Legal.{IsInPlace, IsOfServer}
use Rattle.law_legal.specs.Parts.{EachLine}
use Rattle.law_legal.specs.Past.{lines_of, onto}
use Rattle.law_legal.specs.ServerParts.{BreaksAreOnce, IsBreakOnce}
use Rattle.spec_model.specs.Calls.{call_seat}
use Rattle.afs_num.specs.Nodes.{same_node}
use Rattle.afs_num.specs.declared.histories.Actor.{Actor}
use Rattle.afs_num.specs.declared.histories.Actor.TheVariants as actors
use Rattle.afs_num.specs.declared.histories.Version.{Version}
use Rattle.afs_num.specs.declared.messages.Carried.{Carried}
use Rattle.afs_num.specs.declared.messages.Carried.TheVariants as carried
use Rattle.afs_num.specs.declared.messages.Message.{Message}
use Rattle.afs_num.specs.declared.messages.Received.TheVariants.{Whole}
use Rattle.afs_num.specs.declared.types.Head.{Head}
use Rattle.afs_num.specs.declared.types.Node.{Node}
use Rattle.afs_num.specs.declared.types.Node.TheVariants.{Admin, Client, Loc, Server}
use Rattle.spec_rows.specs.Callbacks.{CallbackStep, asked_again, expired, held_under, is_back_awaited, is_ready, is_seat_of, key_answered, no_turn, owe_line, pumped, put, put_at, quit_line, quits, renews, renews_by, repeats_by, retries, risen_turn, settle_line, settles, settles_by, still_owed, call_timed_out, turn_for, turned_by, turned_in}
use Rattle.spec_rows.specs.ClientRow.{begin_row, client_row, timeout_row, seek_timeout_row, sought_by}
use Rattle.law_legal.proofs.RunSteps.{blow_line, server_falls, server_moves, server_set, server_stays, loc_becomes}
use Rattle.spec_rows.specs.Runs.{Armed, Cell, Entry, Fall, Moved, at_rest, begun_by_disk, client_falls, client_moves, client_rises, in_boot, in_step, start, ticked, unarmed, voided, ServerHost}
use Rattle.spec_rows.specs.ServerRow.{Decision, begun_after, decides, does, drops, versions_made, promise_ticks, refuses, repeats, revived, saves, shows, tells_boot, versioned}
use Rattle.spec_rows.specs.ServerSteps.{back_timeout_row, server_row, start_row, wake_row}
use Rattle.spec_rows.specs.States.{BackCall, Backs, Held, ServerState}
use Rattle.spec_rows.specs.Steps.{Step, Begun}
use Rattle.std.proofs.Common.{suc, ◌≡◌, ◌+◌, ◌≤◌, ◌⊎◌, inl, inr, ℕ, Bool, true, false, cond, List, [], ◌∷◌, ◌++◌, map, Option, Some, None, refl, sym, ap, subst, ◌∙◌, arith, filter, not, nat_eq, nat_lt, eqb-true, eq-eqb}
use Rattle.std.specs.Prelude.{◌&&◌}
use Rattle.law_legal.proofs.OwedOnce.{AreDistinct, Ends, EndsBehind, IsNot, Listed, Once, alls_distinct, alls_low, alls_once, breakless_line, breakless_once, calm_more, distinct_filter, does_ends, ended_back, ended_one, expired_listed, first_calm, is_breakless, more_ends, not_same, one_call, over_listed, owes_ended, pumped_listed, put_case, saved_ends, shown_ends, still_ends, unless_back, versions_end}

-- ---- a call's end

all_still : (P : Owed → Type 0) (c : BackCall) (b : Backs) → AllOf P c.content → AllOf P (still_owed c b)
all_still P c b h = all_filter P (λ (o : Owed). has_break o.number b.lists.owed) c.content h

-- what is still owed was never ended, and has no number above the last
owed_of : (t : Bool) (n k : ℕ) (P : ℕ → Type 0) (rest : Bool) → nat_eq k n ≡ t → cond t true rest ≡ true → P k → (rest ≡ true → P n) → P n
owed_of true n k P rest is e own more = subst P (eqb-true k n is) own
owed_of false n k P rest is e own more = more e

has_of : (P : ℕ → Type 0) (n : ℕ) (os : List Owed) → has_break n os ≡ true → AllOf (λ (o : Owed). P o.number) os → P n
has_of P n [] e h = absurd cc
has_of P n (o ∷ os) e h = owed_of (nat_eq o.number n) n o.number P (has_break n os) refl e h.0 (λ x. has_of P n os x h.1)

still_by : (t : Bool) (q : Owed → Bool) (o : Owed) (os : List Owed) → q o ≡ t → AllOf (λ (x : Owed). q x ≡ true) os → AllOf (λ (x : Owed). q x ≡ true) (cond t (o ∷ os) os)
still_by true q o os e h = (e, h)
still_by false q o os e h = h

still_holds : (q : Owed → Bool) (os : List Owed) → AllOf (λ (x : Owed). q x ≡ true) (filter q os)
still_holds q [] = tt
still_holds q (o ∷ os) = still_by (q o) q o (filter q os) refl (still_holds q os)

still_have : (P : ℕ → Type 0) (c : BackCall) (b : Backs) → AllOf (λ (o : Owed). P o.number) b.lists.owed → AllOf (λ (o : Owed). P o.number) (still_owed c b)
still_have P c b h = all_map (λ (o : Owed). has_break o.number b.lists.owed ≡ true) (λ (o : Owed). P o.number) (λ o e. has_of P o.number b.lists.owed e h) (still_owed c b) (still_holds (λ (o : Owed). has_break o.number b.lists.owed) c.content)

-- what stays has none of the call's numbers
kept_apart : (n : ℕ) (os : List Owed) → AllOf (IsNot n) (without_break n os)
kept_apart n os = all_map (λ (o : Owed). not (nat_eq o.number n) ≡ true) (IsNot n) (λ o h e. not_same (nat_eq o.number n) (eq-eqb o.number n e) h) (without_break n os) (still_holds (λ (o : Owed). not (nat_eq o.number n)) os)

all_without : (P : Owed → Type 0) (os xs : List Owed) → AllOf P xs → AllOf P (without_all os xs)
all_without P [] xs h = h
all_without P (o ∷ os) xs h = all_without P os (without_break o.number xs) (all_filter P (λ (y : Owed). not (nat_eq y.number o.number)) xs h)

distinct_without : (os xs : List Owed) → AreDistinct xs → AreDistinct (without_all os xs)
distinct_without [] xs h = h
distinct_without (o ∷ os) xs h = distinct_without os (without_break o.number xs) (distinct_filter (λ (y : Owed). not (nat_eq y.number o.number)) xs h)

abbrev IsNone : List Owed → Owed → Type 0
IsNone os x = AllOf (λ (o : Owed). x.number ≡ o.number → ⊥) os

none_without : (os xs : List Owed) → AllOf (IsNone os) (without_all os xs)
none_without [] xs = all_any (IsNone []) xs (λ x. tt)
  where
    all_any : (P : Owed → Type 0) (ys : List Owed) → ((y : Owed) → P y) → AllOf P ys
    all_any P [] w = tt
    all_any P (y ∷ ys) w = (w y, all_any P ys w)
none_without (o ∷ os) xs = all_and (IsNot o.number) (IsNone os) (IsNone (o ∷ os)) (λ x a b. (a, b)) (without_all os (without_break o.number xs)) (all_without (IsNot o.number) os (without_break o.number xs) (kept_apart o.number xs)) (none_without os (without_break o.number xs))
  where
    all_and : (P Q R : Owed → Type 0) → ((x : Owed) → P x → Q x → R x) → (xs : List Owed) → AllOf P xs → AllOf Q xs → AllOf R xs
    all_and P Q R w [] a b = tt
    all_and P Q R w (x ∷ xs) a b = (w x a.0 b.0, all_and P Q R w xs a.1 b.1)

-- the number of one of these breaks
abbrev IsNumber : ℕ → List Owed → Type 0
IsNumber k [] = ⊥
IsNumber k (o ∷ os) = (o.number ≡ k) ⊎ IsNumber k os

settle_once : (me n : Node) (past : List Entry) (os : List Owed) (own : List Line) → AllOf (λ (o : Owed). HasEnded me o.number (own ++ lines_of past) → ⊥) os → AreDistinct os → Once (actors.Node me) past own (map (settle_line me n) os)
settle_once me n past [] own h d = tt
settle_once me n past (o ∷ os) own h d = (h.0, settle_once me n past os (settle_line me n o ∷ own) (two_map os h.1 d.0) d.1)
  where
    two_map : (qs : List Owed) → AllOf (λ (q : Owed). HasEnded me q.number (own ++ lines_of past) → ⊥) qs → AllOf (IsNot o.number) qs → AllOf (λ (q : Owed). HasEnded me q.number (settle_line me n o ∷ own ++ lines_of past) → ⊥) qs
    two_map [] a b = tt
    two_map (q ∷ qs) a b = ((λ x. elim x [ inl y ↦ b.0 (sym y.1) | inr y ↦ a.0 y ]), two_map qs a.1 b.1)

settle_ended : (me n : Node) (k : ℕ) (os : List Owed) (o : List Line) → HasEnded me k (onto o (map (settle_line me n) os)) → HasEnded me k o ⊎ IsNumber k os
settle_ended me n k [] o x = inl x
settle_ended me n k (y ∷ os) o x = elim (settle_ended me n k os (settle_line me n y ∷ o) x) [
  | inl z ↦ elim z [ inl u ↦ inr (inl u.1) | inr u ↦ inl u ]
  | inr z ↦ inr (inr z)
]

quit_once : (me n : Node) (past : List Entry) (os : List Owed) (own : List Line) → AllOf (λ (o : Owed). HasEnded me o.number (own ++ lines_of past) → ⊥) os → AreDistinct os → Once (actors.Node me) past own (map (quit_line me n) os)
quit_once me n past [] own h d = tt
quit_once me n past (o ∷ os) own h d = (h.0, quit_once me n past os (quit_line me n o ∷ own) (two_map os h.1 d.0) d.1)
  where
    two_map : (qs : List Owed) → AllOf (λ (q : Owed). HasEnded me q.number (own ++ lines_of past) → ⊥) qs → AllOf (IsNot o.number) qs → AllOf (λ (q : Owed). HasEnded me q.number (quit_line me n o ∷ own ++ lines_of past) → ⊥) qs
    two_map [] a b = tt
    two_map (q ∷ qs) a b = ((λ x. elim x [ inl y ↦ b.0 (sym y.1) | inr y ↦ a.0 y ]), two_map qs a.1 b.1)

quit_ended : (me n : Node) (k : ℕ) (os : List Owed) (o : List Line) → HasEnded me k (onto o (map (quit_line me n) os)) → HasEnded me k o ⊎ IsNumber k os
quit_ended me n k [] o x = inl x
quit_ended me n k (y ∷ os) o x = elim (quit_ended me n k os (quit_line me n y ∷ o) x) [
  | inl z ↦ elim z [ inl u ↦ inr (inl u.1) | inr u ↦ inl u ]
  | inr z ↦ inr (inr z)
]

-- what a call's end leaves, where these lines ended its breaks and no others
call_listed : (me n : Node) (c : BackCall) (b : Backs) (past : List Entry) (o : List Line) → Listed me b (lines_of past) → ((k : ℕ) → HasEnded me k o → HasEnded me k (lines_of past) ⊎ IsNumber k (still_owed c b)) → Listed me (ended_call n c b) o
call_listed me n c b past o h w = record {
  single = h.single;
  distinct = distinct_without c.content b.lists.owed h.distinct;
  low = all_without (λ (y : Owed). y.number ≤ b.lists.last_owed) c.content b.lists.owed h.low;
  open' = opened (without_all c.content b.lists.owed) (all_without (λ (y : Owed). HasEnded me y.number (lines_of past) → ⊥) c.content b.lists.owed h.open') (none_without c.content b.lists.owed);
  ended = λ k x. elim (w k x) [ inl y ↦ h.ended k y | inr y ↦ number_low k (still_owed c b) y (still_have (λ i. i ≤ b.lists.last_owed) c b h.low) ];
  calls = λ j k e. put_case (same_node n j) None (b.calls j) k (AreDistinct k.content) e (λ y. absurd cc) (h.calls j k);
}
  where
    number_low : (k : ℕ) (os : List Owed) → IsNumber k os → AllOf (λ (y : Owed). y.number ≤ b.lists.last_owed) os → k ≤ b.lists.last_owed
    number_low k [] x a = absurd x
    number_low k (y ∷ os) (inl e) a = subst (λ (i : ℕ). i ≤ b.lists.last_owed) e a.0
    number_low k (y ∷ os) (inr x) a = number_low k os x a.1

    number_not : (k : ℕ) (os : List Owed) → IsNumber k os → AllOf (λ (y : Owed). k ≡ y.number → ⊥) os → ⊥
    number_not k [] x a = x
    number_not k (y ∷ os) (inl e) a = a.0 (sym e)
    number_not k (y ∷ os) (inr x) a = number_not k os x a.1

    opened : (xs : List Owed) → AllOf (λ (y : Owed). HasEnded me y.number (lines_of past) → ⊥) xs → AllOf (IsNone c.content) xs → AllOf (λ (y : Owed). HasEnded me y.number o → ⊥) xs
    opened [] a z = tt
    opened (x ∷ xs) a z = ((λ u. elim (w x.number u) [ inl v ↦ a.0 v | inr v ↦ number_not x.number (still_owed c b) v (all_still (λ (y : Owed). x.number ≡ y.number → ⊥) c b z.0) ]), opened xs a.1 z.1)

settled_ends : (me n : Node) (c : BackCall) (b : Backs) (past : List Entry) → AreDistinct c.content → Listed me b (lines_of past) → EndsBehind me past (ended_call n c b) (map (settle_line me n) (still_owed c b))
settled_ends me n c b past d h own calm =
    let o : List Line = own ++ lines_of past in
    record {
      once = settle_once me n past (still_owed c b) own (still_have (λ i. HasEnded me i o → ⊥) c b (all_map (λ (y : Owed). HasEnded me y.number (lines_of past) → ⊥) (λ (y : Owed). HasEnded me y.number o → ⊥) (λ y x u. x (calm.ends me y.number u)) b.lists.owed h.open')) (distinct_filter (λ (y : Owed). has_break y.number b.lists.owed) c.content d);
      listed = call_listed me n c b past _ h (λ k x. elim (settle_ended me n k (still_owed c b) o x) [ inl y ↦ inl (calm.ends me k y) | inr y ↦ inr y ]);
    }

quitted_ends : (me n : Node) (c : BackCall) (b : Backs) (past : List Entry) → AreDistinct c.content → Listed me b (lines_of past) → EndsBehind me past (ended_call n c b) (map (quit_line me n) (still_owed c b))
quitted_ends me n c b past d h own calm =
    let o : List Line = own ++ lines_of past in
    record {
      once = quit_once me n past (still_owed c b) own (still_have (λ i. HasEnded me i o → ⊥) c b (all_map (λ (y : Owed). HasEnded me y.number (lines_of past) → ⊥) (λ (y : Owed). HasEnded me y.number o → ⊥) (λ y x u. x (calm.ends me y.number u)) b.lists.owed h.open')) (distinct_filter (λ (y : Owed). has_break y.number b.lists.owed) c.content d);
      listed = call_listed me n c b past _ h (λ k x. elim (quit_ended me n k (still_owed c b) o x) [ inl y ↦ inl (calm.ends me k y) | inr y ↦ inr y ]);
    }

-- ---- the turns of a server

either_ends : (t : Bool) (me : Node) (past : List Entry) (a b : CallbackStep) → EndsBehind me past a.backs a.lines → EndsBehind me past b.backs b.lines → EndsBehind me past (cond t a b).backs (cond t a b).lines
either_ends true me past a b h k = h
either_ends false me past a b h k = k

repeats_ends : (me : Node) (past : List Entry) (b : Backs) (reply : Message) (o : Option Held) (good : Bool) → Listed me b (lines_of past) → EndsBehind me past (repeats_by b reply o good).backs (repeats_by b reply o good).lines
repeats_ends me past b reply (Some w) good h = either_ends (w.again && is_ready b.lists.owed w) me past (asked_again b reply w.waits) (no_turn b) (still_ends me past b h) (still_ends me past b h)
repeats_ends me past b reply None true h = still_ends me past b h
repeats_ends me past b reply None false h = still_ends me past b h

for_ends : (me : Node) (x : ServerState) (clock : ℕ) (b : Backs) (d : Decision) (past : List Entry) → Listed me b (lines_of past) → EndsBehind me past (turn_for me x clock b d).backs (turn_for me x clock b d).lines
for_ends me x clock b drops past h = still_ends me past b h
for_ends me x clock b (tells_boot head) past h = still_ends me past b h
for_ends me x clock b (repeats reply) past h = repeats_ends me past b reply (held_under (key_answered reply) b.held) (is_seat_of reply (call_seat reply.head.to x.lasting.kept)) h
for_ends me x clock b (refuses head code) past h = still_ends me past b h
for_ends me x clock b (shows head r) past h = subst (λ (t : CallbackStep). EndsBehind me past t.backs t.lines) (sym (shows_turn_is me x clock b head r)) (shown_ends me x clock b head r past h)
for_ends me x clock b (saves head c) past h = subst (λ (t : CallbackStep). EndsBehind me past t.backs t.lines) (sym (saves_turn_is me x clock b head c)) (saved_ends me x clock b head c past h)

settles_end : (me : Node) (boot : ℕ) (head : Head) (b : Backs) (o : Option BackCall) (past : List Entry) → b.calls head.from ≡ o → Listed me b (lines_of past) → EndsBehind me past (settles_by me boot head b o).backs (settles_by me boot head b o).lines
settles_end me boot head b None past e h = still_ends me past b h
settles_end me boot head b (Some c) past e h =
    either_ends (is_back_awaited boot c head) me past (settles me head.from c b) (no_turn b)
    (subst (λ (y : Backs). EndsBehind me past y (map (settle_line me head.from) (still_owed c b))) (sym (ended_is head.from c b)) (settled_ends me head.from c b past (h.calls head.from c e) h)) (still_ends me past b h)

renews_end : (me : Node) (boot : ℕ) (head : Head) (b : Backs) (o : Option BackCall) (past : List Entry) → Listed me b (lines_of past) → EndsBehind me past (renews_by me boot head b o).backs (renews_by me boot head b o).lines
renews_end me boot head b None past h = still_ends me past b h
renews_end me boot head b (Some c) past h =
    either_ends (is_back_awaited boot c head) me past (renews me boot head.from head.boot c b) (no_turn b)
    (still_ends me past (record b { known = put_at head.from head.boot b.known }) (record { single = h.single; distinct = h.distinct; low = h.low; open' = h.open'; ended = h.ended; calls = h.calls })) (still_ends me past b h)

carried_ends : (me : Node) (x : ServerState) (clock : ℕ) (b : Backs) (d : Decision) (head : Head) (c : Carried) (past : List Entry) → Listed me b (lines_of past) → EndsBehind me past (turned_by me x clock b d head c).backs (turned_by me x clock b d head c).lines
carried_ends me x clock b d head (carried.Call user call) past h = for_ends me x clock b d past h
carried_ends me x clock b d head (carried.Refusal code) past h = either_ends (same_node head.to me) me past (settles_by me x.lasting.boot head b (b.calls head.from)) (no_turn b) (settles_end me x.lasting.boot head b (b.calls head.from) past refl h) (still_ends me past b h)
carried_ends me x clock b d head (carried.Reply reply) past h = either_ends (same_node head.to me) me past (settles_by me x.lasting.boot head b (b.calls head.from)) (no_turn b) (settles_end me x.lasting.boot head b (b.calls head.from) past refl h) (still_ends me past b h)
carried_ends me x clock b d head carried.Notice past h = either_ends (same_node head.to me) me past (renews_by me x.lasting.boot head b (b.calls head.from)) (no_turn b) (renews_end me x.lasting.boot head b (b.calls head.from) past h) (still_ends me past b h)

-- the end of a step leaves what the turn left
pumped_ends : (me : Node) (boot : ℕ) (t : CallbackStep) (past : List Entry) (own ls : List Line) → Ends me past t.backs own ls → Ends me past (pumped me boot t).backs own ls
pumped_ends me boot t past own ls h = record { once = h.once; listed = pumped_listed me boot t (onto (own ++ lines_of past) ls) h.listed }

served_ends : (me : Node) (x : ServerState) (clock place : ℕ) (m : Message) (past : List Entry) → Listed me x.backs (lines_of past) → Ends me past (server_row me x clock place (Whole m)).state.backs [] (server_row me x clock place (Whole m)).lines
unfolding server_row
served_ends me x clock place m past h =
    let d : Decision = decides me x clock (Whole m) in
    let t : CallbackStep = turned_in me x clock (expired clock x.backs) d (Whole m) in
    pumped_ends me (does me x clock place d []).state.lasting.boot t past [] (does me x clock place d t.lines).lines
    (does_ends me past t.backs x clock place d t.lines (carried_ends me x clock (expired clock x.backs) d m.head m.carried past (expired_listed me clock x.backs (lines_of past) h)))

retried_listed : (me n : Node) (c : BackCall) (b : Backs) (ls : List Line) → b.calls n ≡ Some c → Listed me b ls → Listed me (record b { calls = put_at n (Some (record c { tries = c.tries + 1 })) b.calls }) ls
retried_listed me n c b ls e h = record {
  single = h.single;
  distinct = h.distinct;
  low = h.low;
  open' = h.open';
  ended = h.ended;
  calls = λ j k y. put_case (same_node n j) (Some (record c { tries = c.tries + 1 })) (b.calls j) k (AreDistinct k.content) y (λ z. subst (λ (q : BackCall). AreDistinct q.content) (one_call (record c { tries = c.tries + 1 }) k z) (h.calls n c e)) (h.calls j k);
}

timed_ends : (me : Node) (x : ServerState) (clock : ℕ) (n : Node) (c : BackCall) (past : List Entry) → x.backs.calls n ≡ Some c → Listed me x.backs (lines_of past) → Ends me past (back_timeout_row me x clock n c).state.backs [] (back_timeout_row me x clock n c).lines
unfolding back_timeout_row
timed_ends me x clock n c past e h =
    let b : Backs = expired clock x.backs in
    let hb : Listed me b (lines_of past) = expired_listed me clock x.backs (lines_of past) h in
    pumped_ends me x.lasting.boot (call_timed_out me x.lasting.boot n c b) past [] (call_timed_out me x.lasting.boot n c b).lines
    (either_ends (nat_lt c.tries 2) me past (retries me x.lasting.boot n c b) (quits me x.lasting.boot n c b)
    (λ own calm. more_ends me past _ own _ [] refl (still_ends me past (retries me x.lasting.boot n c b).backs (retried_listed me n c b (lines_of past) e hb) _ (calm_more past own _ refl calm)))
    (λ own calm. more_ends me past _ own _ _ refl (subst (λ (y : Backs). EndsBehind me past y (map (quit_line me n) (still_owed c b))) (sym (ended_is n c b)) (quitted_ends me n c b past (hb.calls n c e) hb) _ (calm_more past own _ refl calm)))
    [] (first_calm past))

woken_ends : (me : Node) (x : ServerState) (clock : ℕ) (past : List Entry) → Listed me x.backs (lines_of past) → Ends me past (wake_row me x clock).state.backs [] (wake_row me x clock).lines
unfolding wake_row
woken_ends me x clock past h = pumped_ends me x.lasting.boot (no_turn (expired clock x.backs)) past [] [] (still_ends me past (expired clock x.backs) (expired_listed me clock x.backs (lines_of past) h) [] (first_calm past))

-- ---- a restart

abbrev EndedNone : Node → List Line → Type 0
EndedNone me ls = (n : ℕ) → HasEnded me n ls → ⊥

risen_ends : (me : Node) (clock count : ℕ) (past : List Entry) → EndedNone me (lines_of past) → EndsBehind me past (risen_turn me clock count).backs (risen_turn me clock count).lines
risen_ends me clock count past none own calm =
    let os : List Owed = owes_all (clock + promise_ticks) 0 count in
    let o : List Line = onto (own ++ lines_of past) (map (owe_line me) os) in
    let never : EndedNone me o = λ n x. none n (calm.ends me n (owes_ended me n os (own ++ lines_of past) x)) in
    subst (λ (t : CallbackStep). Ends me past t.backs own t.lines) (sym (risen_is me clock count)) (record {
      once = alls_once me past (clock + promise_ticks) 0 count own (λ j l. calm.owes me (Client j) None);
      listed = record {
        single = tt;
        distinct = alls_distinct (clock + promise_ticks) 0 count;
        low = all_map (λ (y : Owed). y.number ≤ 0 + count) (λ (y : Owed). y.number ≤ count) (λ y le. (let z : y.number ≤ 0 + count = le in omega (arith, z))) os (alls_low (clock + promise_ticks) 0 count);
        open' = all_any os (λ y. never y.number);
        ended = λ n x. absurd (never n x);
        calls = λ j c e. absurd cc;
      };
    })
  where
    all_any : (os : List Owed) → ((y : Owed) → HasEnded me y.number (onto (own ++ lines_of past) (map (owe_line me) (owes_all (clock + promise_ticks) 0 count))) → ⊥) → AllOf (λ (y : Owed). HasEnded me y.number (onto (own ++ lines_of past) (map (owe_line me) (owes_all (clock + promise_ticks) 0 count))) → ⊥) os
    all_any [] w = tt
    all_any (y ∷ os) w = (w y, all_any os w)

after_ends : (me : Node) (past : List Entry) (b : Backs) (x : ServerState) (clock : ℕ) (d : Decision) (ls : List Line) → EndsBehind me past b ls → Ends me past b [] ((begun_after me x clock d).before ls)
after_ends me past b x clock (saves head c) ls k = more_ends me past b [] _ _ refl (versions_end me past b (versions_made c) ls k _ (calm_more past [] _ refl (first_calm past)))
after_ends me past b x clock drops ls k = k [] (first_calm past)
after_ends me past b x clock (tells_boot head) ls k = k [] (first_calm past)
after_ends me past b x clock (repeats reply) ls k = k [] (first_calm past)
after_ends me past b x clock (refuses head code) ls k = k [] (first_calm past)
after_ends me past b x clock (shows head r) ls k = k [] (first_calm past)

disk_ends : (me : Node) (past : List Entry) (b : Backs) (x : ServerState) (after : Bool) (fall : Fall) (ls : List Line) → EndsBehind me past b ls → Ends me past b [] ((begun_by_disk me x after fall).before ls)
disk_ends me past b x after at_rest ls k = k [] (first_calm past)
disk_ends me past b x false (in_step m clock hit) ls k = k [] (first_calm past)
disk_ends me past b x true (in_step m clock hit) ls k = after_ends me past b x clock (decides me x clock (Whole m)) ls k
disk_ends me past b x false in_boot ls k = k [] (first_calm past)
disk_ends me past b x true in_boot ls k = k [] (first_calm past)

started_ends : (me : Node) (x : ServerState) (clock count : ℕ) (after : Bool) (fall : Fall) (past : List Entry) → EndedNone me (lines_of past) → Ends me past (start_row me clock count (begun_by_disk me x after fall)).state.backs [] (start_row me clock count (begun_by_disk me x after fall)).lines
unfolding start_row
started_ends me x clock count after fall past none =
    let t : CallbackStep = risen_turn me clock count in
    pumped_ends me (revived (begun_by_disk me x after fall).state).lasting.boot t past [] _
    (disk_ends me past t.backs x after fall _ (λ own calm. more_ends me past t.backs own _ t.lines refl (risen_ends me clock count past none _ (calm_more past own _ refl calm))))

-- ---- a server that is down

unless_not : (t : Bool) (X : Type 0) → t ≡ true → Unless t X → ⊥
unless_not true X e x = x
unless_not false X e x = absurd cc

blow_none : (i : ℕ) (t : Bool) (o : List Line) → EndedNone (Server i) (blow_line i t ∷ o)
blow_none i true o n x = unless_not (same_node (Server i) (Server i)) (HasEnded (Server i) n o) (same_node-refl (Server i)) x
blow_none i false o n x = unless_not (same_node (Server i) (Server i)) (HasEnded (Server i) n o) (same_node-refl (Server i)) x

versions_top : (P : List Line → Type 0) (vs : List Version) (ls o : List Line) → ((p : List Line) → P (onto p ls)) → P (onto o (versioned vs ls))
versions_top P [] ls o w = w o
versions_top P (v ∷ vs) ls o w = versions_top P vs ls (lines.Version v ∷ o) w

after_top : (P : List Line → Type 0) (me : Node) (x : ServerState) (clock : ℕ) (d : Decision) (ls o : List Line) → ((p : List Line) → P (onto p ls)) → P (onto o ((begun_after me x clock d).before ls))
after_top P me x clock (saves head c) ls o w = versions_top P (versions_made c) ls _ w
after_top P me x clock drops ls o w = w o
after_top P me x clock (tells_boot head) ls o w = w o
after_top P me x clock (repeats reply) ls o w = w o
after_top P me x clock (refuses head code) ls o w = w o
after_top P me x clock (shows head r) ls o w = w o

disk_top : (P : List Line → Type 0) (me : Node) (x : ServerState) (after : Bool) (fall : Fall) (ls o : List Line) → ((p : List Line) → P (onto p ls)) → P (onto o ((begun_by_disk me x after fall).before ls))
disk_top P me x after at_rest ls o w = w o
disk_top P me x false (in_step m clock hit) ls o w = w o
disk_top P me x true (in_step m clock hit) ls o w = after_top P me x clock (decides me x clock (Whole m)) ls o w
disk_top P me x false in_boot ls o w = w o
disk_top P me x true in_boot ls o w = w o

-- ---- every step

abbrev ByDown : ℕ → Option Fall → Backs → List Line → Type 0
ByDown i None b ls = Listed (Server i) b ls
ByDown i (Some fall) b ls = EndedNone (Server i) ls

abbrev IsSingly : ℕ → ServerHost → List Line → Type 0
IsSingly i x ls = ByDown i x.down x.state.backs ls

abbrev SinglyIn : Cell → List Entry → Type 0
SinglyIn c past = (i : ℕ) → IsSingly i (c.hosts i) (lines_of past)

abbrev PlacedSingly : Script → Cell → List Entry → Type 0
PlacedSingly s c past = Placed s c past × SinglyIn c past

down_over : (i : ℕ) (d : Option Fall) (b : Backs) (ls more : List Line) → ((n : ℕ) → HasEnded (Server i) n more → HasEnded (Server i) n ls) → ByDown i d b ls → ByDown i d b more
down_over i None b ls more w h = over_listed (Server i) b ls more w h
down_over i (Some fall) b ls more w h = λ n x. h n (w n x)

up_listed : (i : ℕ) (d : Option Fall) (b : Backs) (ls : List Line) → d ≡ None → ByDown i d b ls → Listed (Server i) b ls
up_listed i None b ls e h = h
up_listed i (Some fall) b ls e h = absurd cc

down_none : (i : ℕ) (d : Option Fall) (fall : Fall) (b : Backs) (ls : List Line) → d ≡ Some fall → ByDown i d b ls → EndedNone (Server i) ls
down_none i None fall b ls e h = absurd cc
down_none i (Some f) fall b ls e h = h

-- the lines of another node's entry end none of a server's breaks
ended_by : (i : ℕ) (who : Actor) (s : Node) (X : Type 0) → (who ≡ actors.Node (Server i) → ⊥) → IsOfServer who s → s ≡ Server i → X
ended_by i who (Server k) X other of same = absurd (other (of ∙ ap actors.Node same))
ended_by i who (Client k) X other of same = absurd of
ended_by i who (Admin k) X other of same = absurd of
ended_by i who Loc X other of same = absurd of

others_ended : (s : Script) (who : Actor) (i n : ℕ) (past : List Entry) (own ls o : List Line) → (who ≡ actors.Node (Server i) → ⊥) → EachLine (IsInPlace s) who past own ls → HasEnded (Server i) n (onto o ls) → HasEnded (Server i) n o
others_ended s who i n past own [] o other p x = x
others_ended s who i n past own (lines.Settle q d k ∷ ls) o other p x = elim (others_ended s who i n past (lines.Settle q d k ∷ own) ls (lines.Settle q d k ∷ o) other p.1 x) [ inl y ↦ ended_by i who q (HasEnded (Server i) n o) other p.0 y.0 | inr y ↦ y ]
others_ended s who i n past own (lines.Quit q d k ∷ ls) o other p x = elim (others_ended s who i n past (lines.Quit q d k ∷ own) ls (lines.Quit q d k ∷ o) other p.1 x) [ inl y ↦ ended_by i who q (HasEnded (Server i) n o) other p.0 y.0 | inr y ↦ y ]
others_ended s who i n past own (lines.Crash m ∷ ls) o other p x = unless_back (same_node m (Server i)) (HasEnded (Server i) n o) (others_ended s who i n past (lines.Crash m ∷ own) ls (lines.Crash m ∷ o) other p.1 x)
others_ended s who i n past own (lines.Fault m ∷ ls) o other p x = unless_back (same_node m (Server i)) (HasEnded (Server i) n o) (others_ended s who i n past (lines.Fault m ∷ own) ls (lines.Fault m ∷ o) other p.1 x)
others_ended s who i n past own (l ∷ ls) o other p x = others_ended s who i n past (l ∷ own) ls (l ∷ o) other p.1 x

-- and owe, settle and give up nothing where that is no server
no_server_line : (who : Actor) (q : Node) (X : Type 0) → ((i : ℕ) → who ≡ actors.Node (Server i) → ⊥) → IsOfServer who q → X
no_server_line who (Server i) X other of = absurd (other i of)
no_server_line who (Client i) X other of = absurd of
no_server_line who (Admin i) X other of = absurd of
no_server_line who Loc X other of = absurd of

others_once : (s : Script) (who : Actor) (past : List Entry) (own ls : List Line) → ((i : ℕ) → who ≡ actors.Node (Server i) → ⊥) → EachLine (IsInPlace s) who past own ls → Once who past own ls
others_once s who past own [] other p = tt
others_once s who past own (lines.Owe q d w n ∷ ls) other p = no_server_line who q _ other p.0
others_once s who past own (lines.Settle q d k ∷ ls) other p = no_server_line who q _ other p.0
others_once s who past own (lines.Quit q d k ∷ ls) other p = no_server_line who q _ other p.0
others_once s who past own (l ∷ ls) other p = (tt, others_once s who past (l ∷ own) ls other p.1)

record Singles (past : List Entry) (m : Moved) : Type 0 where
  once : Once m.entry.actor past [] m.entry.lines
  singly : SinglyIn m.cell (m.entry ∷ past)

abbrev SinglyStep : Cell → List Entry → Moved → Type 0
SinglyStep c past m = Singles past m

-- of no server
besides_single : (s : Script) (c : Cell) (past : List Entry) (m : Moved) → PlacedSingly s c past → EachLine (IsInPlace s) m.entry.actor past [] m.entry.lines → ((i : ℕ) → m.entry.actor ≡ actors.Node (Server i) → ⊥) → m.cell.hosts ≡ c.hosts → Singles past m
besides_single s c past m h p other same = record {
  once = others_once s m.entry.actor past [] m.entry.lines other p;
  singly = λ i. subst (λ (hosts : ℕ → ServerHost). IsSingly i (hosts i) (lines_of (m.entry ∷ past))) (sym same) (down_over i (c.hosts i).down (c.hosts i).state.backs (lines_of past) (lines_of (m.entry ∷ past)) (λ n x. others_ended s m.entry.actor i n past [] m.entry.lines (lines_of past) (other i) p x) (h.1 i));
}

-- of one server
own_single : (s : Script) (c : Cell) (past : List Entry) (i : ℕ) (x : ServerHost) (ls : List Line) (sent : List Message) → PlacedSingly s c past → EachLine (IsInPlace s) (actors.Node (Server i)) past [] ls → IsSingly i x (onto (lines_of past) ls) → (j : ℕ) → IsSingly j (put i x c.hosts j) (onto (lines_of past) ls)
own_single s c past i x ls sent h p own j =
    at_put i j (λ (y : ServerHost). IsSingly j y (onto (lines_of past) ls)) x c.hosts (λ same. subst (λ (k : ℕ). IsSingly k x (onto (lines_of past) ls)) same own)
    (λ other. down_over j (c.hosts j).down (c.hosts j).state.backs (lines_of past) (onto (lines_of past) ls) (λ n y. others_ended s (actors.Node (Server i)) j n past [] ls (lines_of past) (λ e. other (one_server i j e)) p y) (h.1 j))
  where
    one_server : (i j : ℕ) → actors.Node (Server i) ≡ actors.Node (Server j) → i ≡ j
    one_server i j e = cc

up_single : (s : Script) (c : Cell) (past : List Entry) (i : ℕ) (armed : Armed) (st : Step ServerState) → PlacedSingly s c past → EachLine (IsInPlace s) (actors.Node (Server i)) past [] st.lines → Ends (Server i) past st.state.backs [] st.lines → Singles past (server_moves c i armed st)
up_single s c past i armed st h p e = record { once = e.once; singly = own_single s c past i (record { state = st.state; down = None; armed = armed }) st.lines st.sent h p e.listed }

-- one that leaves its state
falls_single : (s : Script) (c : Cell) (past : List Entry) (i : ℕ) (ls : List Line) (fall : Fall) → PlacedSingly s c past → EachLine (IsInPlace s) (actors.Node (Server i)) past [] ls → all_lines is_breakless ls ≡ true → EndedNone (Server i) (onto (lines_of past) ls) → Singles past (server_falls c i ls fall)
falls_single s c past i ls fall h p b none = record { once = breakless_once (actors.Node (Server i)) past [] ls b; singly = own_single s c past i (record (c.hosts i) { down = Some fall; armed = unarmed }) ls [] h p none }

set_single : (s : Script) (c : Cell) (past : List Entry) (i : ℕ) (l : Line) (armed : Armed) → PlacedSingly s c past → EachLine (IsInPlace s) (actors.Node (Server i)) past [] (l ∷ []) → is_breakless l ≡ true → Singles past (server_set c i l armed)
set_single s c past i l armed h p b = record {
  once = (breakless_line (actors.Node (Server i)) l past [] [] b, tt);
  singly = own_single s c past i (record (c.hosts i) { armed = armed }) (l ∷ []) [] h p (down_over i (c.hosts i).down (c.hosts i).state.backs (lines_of past) (l ∷ lines_of past) (λ n x. ended_one (Server i) n l (lines_of past) b x) (h.1 i));
}

stays_single : (s : Script) (c : Cell) (past : List Entry) (i : ℕ) (after : Bool) (was : Fall) (l : Line) (fall : Fall) → PlacedSingly s c past → EachLine (IsInPlace s) (actors.Node (Server i)) past [] ((begun_by_disk (Server i) (c.hosts i).state after was).before (l ∷ [])) → is_breakless l ≡ true → EndedNone (Server i) (onto (lines_of past) ((begun_by_disk (Server i) (c.hosts i).state after was).before (l ∷ [])))
    → Singles past (server_stays c i (begun_by_disk (Server i) (c.hosts i).state after was) l fall)
stays_single s c past i after was l fall h p b none =
    let f : Begun ServerState = begun_by_disk (Server i) (c.hosts i).state after was in
    record {
      once = breakless_once (actors.Node (Server i)) past [] (f.before (l ∷ [])) (disk_lines is_breakless (λ n key z. refl) (λ v. refl) (Server i) (c.hosts i).state after was (l ∷ []) (rw b refl));
      singly = own_single s c past i (record { state = f.state; down = Some fall; armed = unarmed }) (f.before (l ∷ [])) [] h p none;
    }

up_now : (c : Cell) (past : List Entry) (i : ℕ) → SinglyIn c past → (c.hosts i).down ≡ None → Listed (Server i) (c.hosts i).state.backs (lines_of past)
up_now c past i h up = up_listed i (c.hosts i).down (c.hosts i).state.backs (lines_of past) up (h i)

none_now : (c : Cell) (past : List Entry) (i : ℕ) (fall : Fall) → SinglyIn c past → (c.hosts i).down ≡ Some fall → EndedNone (Server i) (lines_of past)
none_now c past i fall h down = down_none i (c.hosts i).down fall (c.hosts i).state.backs (lines_of past) down (h i)

singly_moves : (s : Script) → EachMove (PlacedSingly s) SinglyStep
singly_moves s = (let q : EachMove (Placed s) (PlacedStep s) = placed_moves s in record {
  void = λ c past h. besides_single s c past (voided c) h (q.void c past h.0) (λ i e. absurd cc) refl;
  ticked = λ c past n h. besides_single s c past (ticked c (suc n)) h (q.ticked c past n h.0) (λ i e. absurd cc) refl;
  begun = λ c past n act h r z0. besides_single s c past (client_moves c n (begin_row (Client n) (c.clients n) c.clock act)) h (q.begun c past n act h.0 r z0) (λ i e. absurd cc) refl;
  told = λ c past n place m h at to un. besides_single s c past (client_moves c n (client_row (Client n) (c.clients n) c.clock place (Whole m))) h (q.told c past n place m h.0 at to un) (λ i e. absurd cc) refl;
  sought = λ c past n place m k h at to z e. besides_single s c past (client_moves c n (sought_by (Client n) (c.clients n) c.clock place k m.head m.carried)) h (q.sought c past n place m k h.0 at to z e) (λ i e'. absurd cc) refl;
  missed = λ c past n k h r z. besides_single s c past (client_moves c n (seek_timeout_row (Client n) (c.clients n) k)) h (q.missed c past n k h.0 r z) (λ i e'. absurd cc) refl;
  loc = λ c past l ls ms h st. besides_single s c past (loc_becomes c l ls ms) h (q.loc c past l ls ms h.0 st) (λ i e'. absurd cc) refl;
  waited = λ c past n act h r. besides_single s c past (client_moves c n (timeout_row (Client n) (c.clients n) act)) h (q.waited c past n act h.0 r) (λ i e. absurd cc) refl;
  fallen = λ c past n h. besides_single s c past (client_falls c n) h (q.fallen c past n h.0) (λ i e. absurd cc) refl;
  risen = λ c past n h. besides_single s c past (client_rises c n) h (q.risen c past n h.0) (λ i e. absurd cc) refl;
  served = λ c past i place m armed h up at to. up_single s c past i armed (server_row (Server i) (c.hosts i).state c.clock place (Whole m)) h (q.served c past i place m armed h.0 up at to) (served_ends (Server i) (c.hosts i).state c.clock place m past (up_now c past i h.1 up));
  cut = λ c past i place m t h up at to. falls_single s c past i (lines.Given place ∷ blow_line i t.stops ∷ []) (in_step m c.clock t) h (q.cut c past i place m t h.0 up at to) (blow_breakless i t.stops) (blow_none i t.stops (lines.Given place ∷ lines_of past));
  stopped = λ c past i h up. falls_single s c past i (lines.Crash (Server i) ∷ []) at_rest h (q.stopped c past i h.0 up) refl (blow_none i true (lines_of past));
  stop_set = λ c past i calls pick armed h up. set_single s c past i (lines.Stop (Server i) calls pick) armed h (q.stop_set c past i calls pick armed h.0 up) refl;
  fail_set = λ c past i call armed h up. set_single s c past i (lines.Fail (Server i) call) armed h (q.fail_set c past i call armed h.0 up) refl;
  timed = λ c past i n b armed h up at. up_single s c past i armed (back_timeout_row (Server i) (c.hosts i).state c.clock n b) h (q.timed c past i n b armed h.0 up at) (timed_ends (Server i) (c.hosts i).state c.clock n b past at (up_now c past i h.1 up));
  woken = λ c past i armed h up. up_single s c past i armed (wake_row (Server i) (c.hosts i).state c.clock) h (q.woken c past i armed h.0 up) (woken_ends (Server i) (c.hosts i).state c.clock past (up_now c past i h.1 up));
  started = λ c past i after fall h down. up_single s c past i unarmed (start_row (Server i) c.clock c.count (begun_by_disk (Server i) (c.hosts i).state after fall)) h (q.started c past i after fall h.0 down) (started_ends (Server i) (c.hosts i).state c.clock c.count after fall past (none_now c past i fall h.1 down));
  early = λ c past i fall h down. falls_single s c past i (lines.Fault (Server i) ∷ []) fall h (q.early c past i fall h.0 down) refl (blow_none i false (lines_of past));
  midway = λ c past i after fall h down. stays_single s c past i after fall (lines.Fault (Server i)) in_boot h (q.midway c past i after fall h.0 down) refl (disk_top (EndedNone (Server i)) (Server i) (c.hosts i).state after fall (lines.Fault (Server i) ∷ []) (lines_of past) (λ o. blow_none i false o));
  full = λ c past i after fall h down. stays_single s c past i after fall (lines.Full (Server i)) at_rest h (q.full c past i after fall h.0 down) refl
      (λ n x. none_now c past i fall h.1 down n (ended_back (Server i) n ((begun_by_disk (Server i) (c.hosts i).state after fall).before (lines.Full (Server i) ∷ [])) (lines_of past) (disk_lines is_breakless (λ k key z. refl) (λ v. refl) (Server i) (c.hosts i).state after fall (lines.Full (Server i) ∷ []) refl) x));
})
  where
    blow_breakless : (i : ℕ) (t : Bool) → all_lines is_breakless (lines.Given 0 ∷ blow_line i t ∷ []) ≡ true
    blow_breakless i true = refl
    blow_breakless i false = refl

singly_kept : (s : Script) → IsKept (PlacedSingly s)
singly_kept s c past x so h = (placed_kept s c past x so h.0, (each_moved (PlacedSingly s) SinglyStep (singly_moves s) c past x so h).singly)

singly_first : (s : Script) → PlacedSingly s (start s) (set_up_entry s ∷ [])
singly_first s = (
  placed_first s,
  λ i. record {
    single = tt;
    distinct = tt;
    low = tt;
    open' = tt;
    ended = λ n x. absurd (ended_back (Server i) n (first_lines s.volumes) [] (versions_breakless (first_lines s.volumes) (all_versions s.volumes)) x);
    calls = λ j c e. absurd cc;
  },
)
  where
    versions_breakless : (ls : List Line) → AreVersions ls → all_lines is_breakless ls ≡ true
    versions_breakless [] h = refl
    versions_breakless (lines.Version v ∷ ls) h = versions_breakless ls h
    versions_breakless (l ∷ ls) h = absurd h

pub run_singly : BreaksAreOnce
run_singly s h end r =
    run_each (PlacedSingly s) (λ past e. EachLine IsBreakOnce e.actor past [] e.lines) (singly_kept s) (λ c past x so k. (each_moved (PlacedSingly s) SinglyStep (singly_moves s) c past x so k).once) r.inputs s (set_up_entry s ∷ []) h end (singly_first s) r.leads
