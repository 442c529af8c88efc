-- A client times out the call for which it waits, and no call for which it waits was timed out thrice, however many servers a cell has.
use Rattle.law_legal.proofs.ActBegins.{row_begun}
use Rattle.law_legal.proofs.ActFollows.{none_runs}
use Rattle.spec_history.specs.declared.acts.Act.{Act}
use Rattle.spec_history.specs.declared.lines.Line.{Line}
use Rattle.spec_history.specs.declared.lines.Line.TheVariants as lines
use Rattle.spec_history.specs.declared.scripts.Script.{Script}
use Rattle.law_legal.proofs.ActLines.{Acts, who_at, SeeksOn, runs_act, seeks_act}
use Rattle.law_legal.proofs.ActSteps.{begins_acts, falls_acts, given_acts, rises_acts, waits_acts, missed_acts, by_quiet, sought_quiet}
use Rattle.law_legal.proofs.OwedPasses.{all_lines}
use Rattle.law_legal.proofs.BaseLaws.{UpTo, at_put, same_node-refl, up_to_same}
use Rattle.law_legal.proofs.ServerChooses.{disk_works, one_from, risen_from, risen_lines, serves_works, starts_works, times_works, wakes_works}
use Rattle.law_legal.proofs.ServerHearsInRuns.{client_given}
use Rattle.law_legal.proofs.CallKeysOnce.{IsKnown, any_told, by_key}
use Rattle.law_legal.proofs.RunSetUp.{first_passed}
use Rattle.law_legal.proofs.RunWalk.{Behind, EachMove, IsKept, each_moved}
use Rattle.law_legal.proofs.ActCallsInRuns.{any_cut, any_message, blow_idle, idle_works, loc_idle, sought_acts_in, placed_in, told_in}
use Rattle.law_legal.proofs.ActCalls.{idle_leaves, is_idle, of_client, other_leaves, AskedIn, handed_same, later_pair}
use Rattle.law_legal.proofs.ClientCallsQueued.{GivenQueued, queued_first, queued_kept}
use Rattle.law_legal.specs.Breaks.{HasTimeout}
use Rattle.law_legal.specs.Ideal.{set_up_entry}
use Rattle.law_legal.specs.Legal.{IsInPlace}
use Rattle.law_legal.specs.Parts.{EachLine}
use Rattle.law_legal.specs.Past.{given_message, has_begun, has_given, lines_of, onto}
use Rattle.afs_num.specs.Nodes.{same_node}
use Rattle.afs_num.specs.declared.histories.Actor.{Actor}
use Rattle.afs_num.specs.declared.histories.Actor.TheVariants as actors
use Rattle.afs_num.specs.declared.messages.Message.{Message}
use Rattle.afs_num.specs.declared.messages.Received.TheVariants.{Whole}
use Rattle.afs_num.specs.declared.types.Code.{Code}
use Rattle.afs_num.specs.declared.types.Node.{Node}
use Rattle.afs_num.specs.declared.types.Node.TheVariants.{Client, Server, Loc}
use Rattle.spec_rows.specs.Callbacks.{put}
use Rattle.spec_rows.specs.ClientRow.{Walked, begin_row, begins_by, client_row, dead_code, dropped, gift_of, given_up_in, gives_by, gives_up, goes_by, in_order, most_reads, timeout_line, timeout_row, tries_again, trusted_in, untrusted_in, walked, call_of, sought_by, seek_timeout_row, seeks_on, sought_ends, is_sought, act_by, act_of}
use Rattle.spec_rows.specs.Going.{ClientState, Going, Need, began, gives_back, answers, next, Seek, locates}
use Rattle.law_legal.proofs.RunSteps.{blow_line, server_falls, server_moves, server_rises, server_set, server_stays, loc_becomes}
use Rattle.spec_rows.specs.Runs.{Cell, Entry, at_rest, begun_by_disk, in_boot, in_step, message_at, start, ticked, voided}
use Rattle.law_legal.proofs.RunSteps.{loc_becomes}
use Rattle.spec_rows.specs.ServerSteps.{back_timeout_row, server_row, wake_row}
use Rattle.spec_rows.specs.States.{CacheEntry, Gift}
use Rattle.spec_rows.specs.Steps.{Step}
use Rattle.std.proofs.Common.{suc, ◌≡◌, ◌<◌, ◌+◌, ℕ, ◌⊎◌, inl, inr, Bool, true, false, cond, map, List, [], ◌∷◌, Some, None, refl, sym, ap, subst, ◌∙◌, ltb-true, arith, Option}
use Rattle.std.specs.Prelude.{nat_lt}

-- ---- timeouts among lines

timeout_line' : (s q : Node) (l : Line) (o : List Line) (e n k : ℕ) → HasTimeout s q e n k (l ∷ o) → HasTimeout s q e n k (l ∷ []) ⊎ HasTimeout s q e n k o
timeout_line' s q (lines.Timeout m d i u t) o e n k (inl x) = inl (inl x)
timeout_line' s q (lines.Timeout m d i u t) o e n k (inr x) = inr x
timeout_line' s q l o e n k h = inr h

timeout_first : (s q : Node) (l : Line) (ls : List Line) (e n k : ℕ) → HasTimeout s q e n k (l ∷ []) → HasTimeout s q e n k (l ∷ ls)
timeout_first s q (lines.Timeout m d i u t) ls e n k (inl x) = inl x
timeout_first s q (lines.Timeout m d i u t) ls e n k (inr x) = absurd x
timeout_first s q l ls e n k h = absurd h

timeout_behind : (s q : Node) (l : Line) (ls : List Line) (e n k : ℕ) → HasTimeout s q e n k ls → HasTimeout s q e n k (l ∷ ls)
timeout_behind s q (lines.Timeout m d i u t) ls e n k h = inr h
timeout_behind s q l ls e n k h = h

-- of an entry's lines on older ones
timeout_of : (s q : Node) (ls o : List Line) (e n k : ℕ) → HasTimeout s q e n k (onto o ls) → HasTimeout s q e n k ls ⊎ HasTimeout s q e n k o
timeout_of s q [] o e n k h = inr h
timeout_of s q (l ∷ ls) o e n k h = elim (timeout_of s q ls (l ∷ o) e n k h) [
  | inl x ↦ inl (timeout_behind s q l ls e n k x)
  | inr x ↦ elim (timeout_line' s q l o e n k x) [ inl y ↦ inl (timeout_first s q l ls e n k y) | inr y ↦ inr y ]
]

-- ---- a timeout stands in an entry that was given nothing, and in which its client began no act

record IsAlone (j : ℕ) (own ls : List Line) : Type 0 where
  given : (has_given own ≡ false) × (has_given ls ≡ false)
  begun : (has_begun (Client j) own ≡ false) × (has_begun (Client j) ls ≡ false)

begins_not : (t x : Bool) → cond t true x ≡ false → (t ≡ false) × (x ≡ false)
begins_not true x e = absurd cc
begins_not false x e = (refl, e)

given_line : (l : Line) (own ls : List Line) → (has_given (l ∷ own) ≡ false) × (has_given ls ≡ false) → (has_given own ≡ false) × (has_given (l ∷ ls) ≡ false)
given_line (lines.Given p) own ls h = let no_ : true ≡ false = h.0 in absurd cc
given_line l own ls h = h

begun_line : (j : ℕ) (l : Line) (own ls : List Line) → (has_begun (Client j) (l ∷ own) ≡ false) × (has_begun (Client j) ls ≡ false) → (has_begun (Client j) own ≡ false) × (has_begun (Client j) (l ∷ ls) ≡ false)
begun_line j (lines.Begin m act) own ls h = let t = begins_not (same_node m (Client j)) (has_begun (Client j) own) h.0 in (t.1, rw t.0 h.1)
begun_line j l own ls h = h

alone_more : (j : ℕ) (l : Line) (own ls : List Line) → IsAlone j (l ∷ own) ls → IsAlone j own (l ∷ ls)
alone_more j l own ls a = record { given = given_line l own ls a.given; begun = begun_line j l own ls a.begun }

timed_alone : (s : Script) (j : ℕ) (who : Actor) (past : List Entry) (own ls : List Line) (q : Node) (e n k : ℕ) → EachLine (IsInPlace s) who past own ls → HasTimeout (Client j) q e n k ls → IsAlone j own ls
timed_alone s j who past own [] q e n k place h = absurd h
timed_alone s j who past own (lines.Timeout m d i u t ∷ ls) q e n k place (inl x) = record {
  given = (place.0.1.0.0, place.0.1.1.0);
  begun = subst (λ (c : Node). (has_begun c own ≡ false) × (has_begun c ls ≡ false)) x.0 (place.0.1.0.1, place.0.1.1.1);
}
timed_alone s j who past own (lines.Timeout m d i u t ∷ ls) q e n k place (inr x) = alone_more j (lines.Timeout m d i u t) own ls (timed_alone s j who past (lines.Timeout m d i u t ∷ own) ls q e n k place.1 x)
timed_alone s j who past own (l ∷ ls) q e n k place h = alone_more j l own ls (timed_alone s j who past (l ∷ own) ls q e n k place.1 h)

-- ---- a step of a client

-- the call for which the client waited was timed out; for the third time where its act ends. A server's is that of the act that ran
pub record IsTimedOut (c : ClientState) (st : Step ClientState) (q : Node) (e k i : ℕ) : Type 0 where
  pub runs : (q ≡ Loc → ⊥) → (act : Going) × (c.running ≡ Some act)
  pub epoch : e ≡ c.epoch
  pub number : k ≡ c.last
  pub third : i ≡ 3 → act_of st.state ≡ None

abbrev pub Times : ℕ → ClientState → Step ClientState → Type 0
Times n c st = (q : Node) (e k i : ℕ) (o : List Line) → HasTimeout (Client n) q e k i (onto o st.lines) → HasTimeout (Client n) q e k i o ⊎ IsTimedOut c st q e k i

-- or none was
abbrev pub IsUntimed : ℕ → Step ClientState → Type 0
IsUntimed n st = (q : Node) (e k i : ℕ) (o : List Line) → HasTimeout (Client n) q e k i (onto o st.lines) → HasTimeout (Client n) q e k i o

untimed : (s : Script) (n : ℕ) (st : Step ClientState) (past : List Entry) → EachLine (IsInPlace s) (actors.Node (Client n)) past [] st.lines → (IsAlone n [] st.lines → ⊥) → IsUntimed n st
untimed s n st past place none q e k i o h = elim (timeout_of (Client n) q st.lines o e k i h) [
  | inl x ↦ absurd (none (timed_alone s n (actors.Node (Client n)) past [] st.lines q e k i place x))
  | inr x ↦ x
]

pub none_times : (n : ℕ) (c : ClientState) (st : Step ClientState) → IsUntimed n st → Times n c st
none_times n c st w q e k i o h = inl (w q e k i o h)

pub given_has : (ls : List Line) (sent : List Message) (m : Message) → given_message ls sent ≡ Some m → has_given ls ≡ true
given_has [] sent m e = absurd cc
given_has (lines.Given p ∷ ls) sent m e = refl
given_has (l ∷ ls) sent m e = given_has ls sent m e

-- a call is timed out
dropped_passes : (n : ℕ) (es : List CacheEntry) (code : Code) (q : Node) (e k i : ℕ) (o : List Line) → HasTimeout (Client n) q e k i (onto o (dropped (Client n) es (lines.Answer (Client n) code ∷ []))) → HasTimeout (Client n) q e k i o
dropped_passes n [] code q e k i o h = h
dropped_passes n (u ∷ es) code q e k i o h = dropped_passes n es code q e k i (lines.Drop (Client n) u.fid ∷ o) h

waits_times : (n : ℕ) (c : ClientState) (act : Going) (t : Bool) → nat_lt c.tries 2 ≡ t → c.running ≡ Some act → Times n c (cond t (tries_again (Client n) c act) (gives_up (Client n) c (call_of c act)))
waits_times n c act true few r q e k i o (inl x) = inr (record {
  runs = λ other. (act, r);
  epoch = sym x.1.1.0;
  number = sym x.1.1.1.0;
  third = λ z. (let l : c.tries < 2 = ltb-true c.tries 2 few in let p : c.tries + 1 ≡ 3 = x.1.1.1.1 ∙ z in absurd (omega (arith, l, p)));
})
waits_times n c act true few r q e k i o (inr x) = inl x
waits_times n c act false few r q e k i o h = elim (dropped_passes n (given_up_in _ c.cache) dead_code q e k i (timeout_line (Client n) c 3 ∷ o) h) [
  | inl x ↦ inr (record { runs = λ other. (act, r); epoch = sym x.1.1.0; number = sym x.1.1.1.0; third = λ z. refl })
  | inr x ↦ inl x
]

pub row_times : (n : ℕ) (c : ClientState) (act : Going) → c.running ≡ Some act → Times n c (timeout_row (Client n) c act)
row_times n c act r = waits_times n c act (nat_lt c.tries 2) refl r

-- what asks the location database is timed out
missed_by : (n : ℕ) (c : ClientState) (k : Seek) (t : Bool) → nat_lt c.tries 2 ≡ t → c.running ≡ None → c.callee ≡ Loc → Times n c (cond t (seeks_on (Client n) c k) (sought_ends (Client n) c (λ ls. timeout_line (Client n) c 3 ∷ ls) dead_code))
missed_by n c k true few none loc q e i t o (inl x) = inr (record {
  runs = λ other. absurd (other (sym x.1.0 ∙ loc));
  epoch = sym x.1.1.0;
  number = sym x.1.1.1.0;
  third = λ z. (let l : c.tries < 2 = ltb-true c.tries 2 few in let p : c.tries + 1 ≡ 3 = x.1.1.1.1 ∙ z in absurd (omega (arith, l, p)));
})
missed_by n c k true few none loc q e i t o (inr x) = inl x
missed_by n c k false few none loc q e i t o (inl x) = inr (record { runs = λ other. absurd (other (sym x.1.0 ∙ loc)); epoch = sym x.1.1.0; number = sym x.1.1.1.0; third = λ z. ap (λ (a : Option Going). act_by a None) none })
missed_by n c k false few none loc q e i t o (inr x) = inl x

pub missed_times : (n : ℕ) (c : ClientState) (k : Seek) → c.running ≡ None → c.callee ≡ Loc → Times n c (seek_timeout_row (Client n) c k)
missed_times n c k none loc = missed_by n c k (nat_lt c.tries 2) refl none loc

-- and its answer times none out
pub sought_times : (s : Script) (c : Cell) (past : List Entry) (n place : ℕ) (m : Message) (k : Seek) → AskedIn s c past → message_at c.sent place ≡ Some m → (c.clients n).seeking ≡ Some k → is_sought (Client n) (c.clients n) k m.head m.carried ≡ true → IsUntimed n (sought_by (Client n) (c.clients n) c.clock place k m.head m.carried)
sought_times s c past n place m k A at z e =
    by_quiet (IsUntimed n) n (c.clients n) place k m.head m.carried (sought_by (Client n) (c.clients n) c.clock place k m.head m.carried) (sought_quiet s n (c.clients n) c.clock place k m.head m.carried (placed_in s c past n k A z) (told_in s c past n place m k A at e))
    (λ code x y q e k i o h. h) (λ q e k i o h. h) (λ q e k i o h. h)

-- ---- what holds after every entry

-- what was timed out has a pair not above the client's last; and the call for which it waits wasn't timed out thrice
pub record Timed (j : ℕ) (x : ClientState) (past : List Entry) : Type 0 where
  pub behind : (q : Node) (e k i : ℕ) → HasTimeout (Client j) q e k i (lines_of past) → UpTo e k x.epoch x.last
  pub alive : (act : Going) → act_of x ≡ Some act → (q : Node) → HasTimeout (Client j) q x.epoch x.last 3 (lines_of past) → ⊥

abbrev pub TimedIn : Cell → List Entry → Type 0
TimedIn c past = (j : ℕ) → Timed j (c.clients j) past

abbrev pub GivenTimed : Script → Cell → List Entry → Type 0
GivenTimed s c past = GivenQueued s c past × TimedIn c past

pub not_next : (e n : ℕ) → UpTo e (n + 1) e n → ⊥
not_next e n (inl x) = absurd (omega arith)
not_next e n (inr x) = absurd (omega (arith, x.1))

-- a client that waits after a step goes on waiting for what it asked before
pub record WaitsOn (n : ℕ) (c : ClientState) (st : Step ClientState) (act : Going) : Type 0 where
  pub epoch : st.state.epoch ≡ c.epoch
  pub last : st.state.last ≡ c.last
  pub old : Going
  pub was : act_of c ≡ Some old
  pub how : (st.state.running ≡ Some act) ⊎ ((k : Seek) × SeeksOn n (who_at c) k st)

-- or asks now, under the next pair
abbrev pub AsksOn : ClientState → Step ClientState → Type 0
AsksOn c st = (st.state.epoch ≡ c.epoch) × (st.state.last ≡ c.last + 1)

waiting_by : (n : ℕ) (c : ClientState) (st : Step ClientState) (act : Going) (o : Option Going) (p : Option Seek) → Acts n (who_at c) c.gifts st → st.state.running ≡ o → st.state.seeking ≡ p → act_by o p ≡ Some act → WaitsOn n c st act ⊎ AsksOn c st
waiting_by n c st act (Some g) p a r z run = elim a.goes [
  | inl rests ↦ elim rests.act [
    | inl none ↦ absurd (none_runs st.state.running g none r)
    | inr same ↦ inl (record { epoch = rests.epoch; last = rests.last; old = g; was = runs_act c g (sym same.0 ∙ r); how = inl (r ∙ run) })
  ]
  | inr y ↦ elim y [
    | inl asks ↦ inr (asks.epoch, asks.last)
    | inr stops ↦ absurd (none_runs st.state.running g stops.act r)
  ]
]
waiting_by n c st act None (Some k) a r z run = elim (a.seeks k z) [
  | inl on ↦ inl (record { epoch = on.epoch; last = on.last; old = k.act; was = seeks_act c k (sym on.running ∙ r) on.before; how = inr (k, on) })
  | inr now ↦ inr now.above
]
waiting_by n c st act None None a r z run = absurd cc

pub waiting : (n : ℕ) (c : ClientState) (st : Step ClientState) (act : Going) → Acts n (who_at c) c.gifts st → act_of st.state ≡ Some act → WaitsOn n c st act ⊎ AsksOn c st
waiting n c st act a run = waiting_by n c st act st.state.running st.state.seeking a refl refl run

step_timed : (n : ℕ) (c : ClientState) (st : Step ClientState) (past : List Entry) → Timed n c past → Acts n (who_at c) c.gifts st → Times n c st → Timed n st.state (of_client n st ∷ past)
step_timed n c st past h a w = record {
  behind = λ q e k i x. later_pair n c st a e k (elim (w q e k i (lines_of past) x) [
    | inl old ↦ h.behind q e k i old
    | inr new ↦ up_to_same e k c.epoch c.last new.epoch new.number
  ]);
  alive = λ act run q x. elim (w q st.state.epoch st.state.last 3 (lines_of past) x) [
    | inr new ↦ none_runs (act_of st.state) act (new.third refl) run
    | inl old ↦ elim (waiting n c st act a run) [
      | inl on ↦ h.alive on.old on.was q (subst (λ (e : ℕ). HasTimeout (Client n) q e c.last 3 (lines_of past)) on.epoch (subst (λ (k : ℕ). HasTimeout (Client n) q st.state.epoch k 3 (lines_of past)) on.last old))
      | inr z ↦ not_next c.epoch c.last (subst (λ (k : ℕ). UpTo c.epoch k c.epoch c.last) z.1 (subst (λ (e : ℕ). UpTo e st.state.last c.epoch c.last) z.0 (h.behind q st.state.epoch st.state.last 3 old)))
    ]
  ];
}

client_timed : (s : Script) (c : Cell) (past : List Entry) (n : ℕ) (st : Step ClientState) → TimedIn c past → Acts n (who_at (c.clients n)) (c.clients n).gifts st → Times n (c.clients n) st → (j : ℕ) → Timed j (put n st.state c.clients j) (of_client n st ∷ past)
client_timed s c past n st h a w j =
    at_put n j (λ (x : ClientState). Timed j x (of_client n st ∷ past)) st.state c.clients
    (λ same. subst (λ (i : ℕ). Timed i st.state (of_client n st ∷ past)) same (step_timed n (c.clients n) st past (h n) a w))
    (λ other. record {
      behind = λ q e k i x. (h j).behind q e k i ((other_leaves s n j st.lines (lines_of past) a.of other).timed q e k i x);
      alive = λ act run q x. (h j).alive act run q ((other_leaves s n j st.lines (lines_of past) a.of other).timed q (c.clients j).epoch (c.clients j).last 3 x);
    })

idle_timed : (s : Script) (c : Cell) (past : List Entry) (x : Entry) → TimedIn c past → all_lines is_idle x.lines ≡ true → (j : ℕ) → Timed j (c.clients j) (x ∷ past)
idle_timed s c past x h idle j = record {
  behind = λ q e k i y. (h j).behind q e k i ((idle_leaves s j x.lines (lines_of past) idle).timed q e k i y);
  alive = λ act run q y. (h j).alive act run q ((idle_leaves s j x.lines (lines_of past) idle).timed q (c.clients j).epoch (c.clients j).last 3 y);
}

not_alone_given : (n : ℕ) (ls : List Line) → has_given ls ≡ true → IsAlone n [] ls → ⊥
not_alone_given n ls has a = let no_ : true ≡ false = sym has ∙ a.given.1 in absurd cc

not_alone_begun : (n : ℕ) (ls : List Line) → has_begun (Client n) ls ≡ true → IsAlone n [] ls → ⊥
not_alone_begun n ls has a = let no_ : true ≡ false = sym has ∙ a.begun.1 in absurd cc

pub begun_times : (s : Script) (c : Cell) (past : List Entry) (n : ℕ) (act : Act) → GivenQueued s c past → (a : Acts n (who_at (c.clients n)) (c.clients n).gifts (begin_row (Client n) (c.clients n) c.clock act)) → IsUntimed n (begin_row (Client n) (c.clients n) c.clock act)
begun_times s c past n act h a = untimed s n (begin_row (Client n) (c.clients n) c.clock act) past (a.each s past (h.0.0.0.0.0.1.table n) (h.0.0.0.0.0.1.acts n)) (not_alone_begun n (begin_row (Client n) (c.clients n) c.clock act).lines (row_begun (c.clients n) n c.clock act))

pub told_times : (s : Script) (c : Cell) (past : List Entry) (n place : ℕ) (m : Message) → GivenQueued s c past → message_at c.sent place ≡ Some m → m.head.to ≡ Client n → (a : Acts n (who_at (c.clients n)) (c.clients n).gifts (client_row (Client n) (c.clients n) c.clock place (Whole m))) → IsUntimed n (client_row (Client n) (c.clients n) c.clock place (Whole m))
told_times s c past n place m h at to a = untimed s n (client_row (Client n) (c.clients n) c.clock place (Whole m)) past (a.each s past (h.0.0.0.0.0.1.table n) (h.0.0.0.0.0.1.acts n))
    (not_alone_given n (client_row (Client n) (c.clients n) c.clock place (Whole m)).lines (given_has (client_row (Client n) (c.clients n) c.clock place (Whole m)).lines c.sent m ((client_given c past n place m h.0.0.0.0.0.0.hears to at).given c.sent ∙ at)))

timed_moves : (s : Script) → EachMove (GivenTimed s) (Behind TimedIn)
timed_moves s = record {
  void = λ c past h. idle_timed s c past (voided c).entry h.1 refl;
  ticked = λ c past n h. idle_timed s c past (ticked c (suc n)).entry h.1 refl;
  begun = λ c past n act h r z. (let a = begins_acts n (c.clients n) c.clock act r z in client_timed s c past n _ h.1 a (none_times n (c.clients n) _ (begun_times s c past n act h.0 a)));
  told = λ c past n place m h at to un. (let a = given_acts (by_key (IsKnown h.0.0.0.0.0.0.0.keys.callees c.clients)) any_told n (c.clients n) c.clock place m (h.0.0.0.0.0.0.0.keys.replies n) (h.0.0.0.0.0.0.1.seats n) in client_timed s c past n _ h.1 a (none_times n (c.clients n) _ (told_times s c past n place m h.0 at to a)));
  sought = λ c past n place m k h at to z e. client_timed s c past n _ h.1 (sought_acts_in s c past n place m k h.0.0.0.0.0.0.1 at z e) (none_times n (c.clients n) _ (sought_times s c past n place m k h.0.0.0.0.0.0.1 at z e));
  missed = λ c past n k h r z. client_timed s c past n _ h.1 (missed_acts n (c.clients n) k r z) (missed_times n (c.clients n) k r (h.0.0.0.0.0.0.1.seeks n k z).callee);
  loc = λ c past l ls ms h st. idle_timed s c past (loc_becomes c l ls ms).entry h.1 (loc_idle ls st.lines);
  waited = λ c past n act h r. client_timed s c past n _ h.1 (waits_acts n (c.clients n) act r) (row_times n (c.clients n) act r);
  fallen = λ c past n h. client_timed s c past n _ h.1 (falls_acts n c.handed (c.clients n) (handed_same s c past (h.0.0.0.0.0.0.1) n)) (λ q e k i o x. inl x);
  risen = λ c past n h. client_timed s c past n _ h.1 (rises_acts n (c.clients n)) (λ q e k i o x. inl x);
  served = λ c past i place m armed h up at to. idle_timed s c past (server_moves c i armed (server_row (Server i) (c.hosts i).state c.clock place (Whole m))).entry h.1 (idle_works any_message i (c.hosts i).state _ _ (serves_works any_message (Server i) (c.hosts i).state c.clock place m (λ rest. tt)));
  cut = λ c past i place m t h up at to. idle_timed s c past (server_falls c i (lines.Given place ∷ blow_line i t.stops ∷ []) (in_step m c.clock t)).entry h.1 (blow_idle i t.stops);
  stopped = λ c past i h up. idle_timed s c past (server_falls c i (lines.Crash (Server i) ∷ []) at_rest).entry h.1 refl;
  stop_set = λ c past i calls pick armed h up. idle_timed s c past (server_set c i (lines.Stop (Server i) calls pick) armed).entry h.1 refl;
  fail_set = λ c past i call armed h up. idle_timed s c past (server_set c i (lines.Fail (Server i) call) armed).entry h.1 refl;
  timed = λ c past i n b armed h up at. idle_timed s c past (server_moves c i armed (back_timeout_row (Server i) (c.hosts i).state c.clock n b)).entry h.1 (idle_works any_message i (c.hosts i).state _ _ (times_works any_message (Server i) (c.hosts i).state c.clock n b));
  woken = λ c past i armed h up. idle_timed s c past (server_moves c i armed (wake_row (Server i) (c.hosts i).state c.clock)).entry h.1 (idle_works any_message i (c.hosts i).state _ _ (wakes_works any_message (Server i) (c.hosts i).state c.clock));
  started = λ c past i after fall h down. idle_timed s c past (server_rises c i (begun_by_disk (Server i) (c.hosts i).state after fall)).entry h.1
      (idle_works any_message i (c.hosts i).state _ _ (starts_works any_message (Server i) (c.hosts i).state c.clock c.count (begun_by_disk (Server i) (c.hosts i).state after fall) (disk_works any_message (Server i) (c.hosts i).state after fall (risen_lines (Server i) c.clock c.count (begun_by_disk (Server i) (c.hosts i).state after fall)) (any_cut fall) (risen_from (Server i) c.clock c.count (begun_by_disk (Server i) (c.hosts i).state after fall)))));
  early = λ c past i fall h down. idle_timed s c past (server_falls c i (lines.Fault (Server i) ∷ []) fall).entry h.1 refl;
  midway = λ c past i after fall h down. idle_timed s c past (server_stays c i (begun_by_disk (Server i) (c.hosts i).state after fall) (lines.Fault (Server i)) in_boot).entry h.1 (idle_works any_message i (c.hosts i).state _ _ (disk_works any_message (Server i) (c.hosts i).state after fall (lines.Fault (Server i) ∷ []) (any_cut fall) (one_from (Server i) true refl)));
  full = λ c past i after fall h down. idle_timed s c past (server_stays c i (begun_by_disk (Server i) (c.hosts i).state after fall) (lines.Full (Server i)) at_rest).entry h.1 (idle_works any_message i (c.hosts i).state _ _ (disk_works any_message (Server i) (c.hosts i).state after fall (lines.Full (Server i) ∷ []) (any_cut fall) (one_from (Server i) true refl)));
}

pub timed_kept : (s : Script) → IsKept (GivenTimed s)
timed_kept s c past x so h = (queued_kept s c past x so h.0, each_moved (GivenTimed s) (Behind TimedIn) (timed_moves s) c past x so h)

no_timeouts : (s : Script) (j : ℕ) (q : Node) (e k i : ℕ) → HasTimeout (Client j) q e k i (lines_of (set_up_entry s ∷ [])) → ⊥
no_timeouts s j q e k i h = first_passed (λ (ls : List Line). HasTimeout (Client j) q e k i ls → ⊥) (λ v o w. w) s.volumes [] (λ x. x) h

pub timed_first : (s : Script) → GivenTimed s (start s) (set_up_entry s ∷ [])
timed_first s = (queued_first s, λ j. record { behind = λ q e k i x. absurd (no_timeouts s j q e k i x); alive = λ act r. absurd cc })
