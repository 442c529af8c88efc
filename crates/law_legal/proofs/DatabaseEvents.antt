-- What the database of a run has is what events make of it as it was set up.
use Rattle.law_legal.proofs.ServerFirstDisk.{nil_behind}
use Rattle.law_legal.proofs.BaseWords.{up_boot}
use Rattle.law_legal.proofs.RunSteps.{loc_becomes}
use Rattle.afs_num.specs.declared.types.Node.TheVariants.{Admin, Server, Loc, Client}
use Rattle.law_legal.proofs.DatabaseLives.{life_kept, loc_life, LifeStep, life_first, LifeFacts}
use Rattle.law_legal.specs.Once.{past_of}
use Rattle.law_legal.specs.Past.{sent_of, given_message, server_boot, lines_of, onto}
use Rattle.afs_num.specs.declared.histories.Actor.{Actor}
use Rattle.law_legal.proofs.BaseLaws.{some_of, at_more}
use Rattle.spec_history.specs.declared.scripts.Script.{Script}
use Rattle.law_legal.proofs.DatabaseKeeps.{IsLocStep, LivesLoc, loc_early, loc_falls, loc_full, loc_goes, loc_midway, loc_rises, CutsSent, StandsAmong, cut_on}
use Rattle.law_legal.proofs.RunWalk.{EachMove, IsKept, each_moved, run_keeps}
use Rattle.law_legal.specs.DatabaseRuns.{IsBehindEvents, LocEvent, LocRunsEvents, begins_again, is_given, HalfIsDone, WereGiven, loc_behind, loc_behind_all, IsStepOf, event_in, with_event, AtLoc}
use Rattle.law_legal.specs.Ideal.{set_up_entry}
use Rattle.afs_num.specs.declared.messages.Message.{Message}
use Rattle.afs_num.specs.declared.messages.Received.TheVariants.{Whole, Unserved, Unreadable, Nothing}
use Rattle.afs_num.specs.declared.histories.Actor.TheVariants as actors
use Rattle.spec_rows.specs.Hosts.{begun_from}
use Rattle.spec_rows.specs.LocRow.{LocDecision, LocLasting, LocState, drops, loc_decides, loc_lasting_started, loc_left, loc_revived, refuses, repeats, saves, shows, tells_boot}
use Rattle.spec_rows.specs.LocSteps.{LocHost, loc_begun_after, loc_kind}
use Rattle.spec_history.specs.declared.lines.Line.{Line}
use Rattle.spec_rows.specs.Runs.{Blow, Cell, Entry, Fall, Moved, at_rest, in_boot, in_step, start, RunsTo}
use Rattle.std.proofs.Common.{◌+◌, ◌≡◌, ◌⊎◌, inl, inr, ℕ, Bool, true, false, List, [], ◌∷◌, ◌++◌, Option, Some, None, refl, sym, ap, subst, ◌∙◌}

-- one more event
behind_more : (s : LocState) (es : List LocEvent) (e : LocEvent) → loc_behind_all s (es ++ (e ∷ [])) ≡ loc_behind (loc_behind_all s es) e
behind_more s [] e = refl
behind_more s (x ∷ es) e = behind_more (loc_behind s x) es e

-- what it was given was sent
abbrev pub WereSent : List Message → List LocEvent → Type 0
WereSent sent [] = Unit {0}
WereSent sent (is_given Nothing ∷ es) = ⊥
WereSent sent (is_given (Unserved head) ∷ es) = ⊥
WereSent sent (is_given (Unreadable head) ∷ es) = ⊥
WereSent sent (is_given (Whole m) ∷ es) = StandsAmong sent m × WereSent sent es
WereSent sent (begins_again ∷ es) = WereSent sent es

-- more is sent
were_more : (sent more : List Message) (es : List LocEvent) → WereSent sent es → WereSent (sent ++ more) es
were_more sent more [] w = tt
were_more sent more (is_given Nothing ∷ es) w = w
were_more sent more (is_given (Unserved head) ∷ es) w = w
were_more sent more (is_given (Unreadable head) ∷ es) w = w
were_more sent more (is_given (Whole m) ∷ es) w = ((w.0.0, at_more sent more w.0.0 m w.0.1), were_more sent more es w.1)
were_more sent more (begins_again ∷ es) w = were_more sent more es w

-- it is given one more of what was sent, or begins again once more
sent_one : (sent : List Message) (es : List LocEvent) (m : Message) → StandsAmong sent m → WereSent sent es → WereSent sent (es ++ (is_given (Whole m) ∷ []))
sent_one sent [] m at w = (at, tt)
sent_one sent (is_given Nothing ∷ es) m at w = w
sent_one sent (is_given (Unserved head) ∷ es) m at w = w
sent_one sent (is_given (Unreadable head) ∷ es) m at w = w
sent_one sent (is_given (Whole x) ∷ es) m at w = (w.0, sent_one sent es m at w.1)
sent_one sent (begins_again ∷ es) m at w = sent_one sent es m at w

sent_again : (sent : List Message) (es : List LocEvent) → WereSent sent es → WereSent sent (es ++ (begins_again ∷ []))
sent_again sent [] w = tt
sent_again sent (is_given Nothing ∷ es) w = w
sent_again sent (is_given (Unserved head) ∷ es) w = w
sent_again sent (is_given (Unreadable head) ∷ es) w = w
sent_again sent (is_given (Whole x) ∷ es) w = (w.0, sent_again sent es w.1)
sent_again sent (begins_again ∷ es) w = sent_again sent es w

-- ---- what a restart finds

after_lasts : (x : LocState) (d : LocDecision) → (loc_begun_after x d).state.lasting ≡ (loc_left x d).lasting
after_lasts x drops = refl
after_lasts x (tells_boot head) = refl
after_lasts x (repeats m) = refl
after_lasts x (refuses head code) = refl
after_lasts x (shows head reply) = refl
after_lasts x (saves head c) = refl

-- what it left half, where it is down
abbrev half_of : Option Fall → Option LocEvent
half_of None = None
half_of (Some at_rest) = None
half_of (Some (in_step m clock hit)) = Some (is_given (Whole m))
half_of (Some in_boot) = Some begins_again

-- where it fell in a step it has still what was in its memory
pub record IsAtFall (sent : List Message) (past : List Entry) (s : LocState) (h : LocHost) : Type 0 where
  pub behind : IsBehindEvents past s h
  pub had : WereSent sent behind.events
  pub halves : behind.half ≡ half_of h.down
  pub cut : (m : Message) (clock : ℕ) (hit : Blow) → h.down ≡ Some (in_step m clock hit) → (h.state ≡ loc_behind_all s behind.events) × StandsAmong sent m

-- what lasts
record Finds (sent : List Message) (s : LocState) (h : LocHost) (after : Bool) (fall : Fall) (before : List LocEvent) (half : Option LocEvent) : Type 0 where
  events : List LocEvent
  had : WereSent sent events
  done : HalfIsDone before half events
  lasting : (begun_from loc_kind h.state after fall).state.lasting ≡ (loc_behind_all s events).lasting

found : (sent : List Message) (past : List Entry) (s : LocState) (h : LocHost) (after : Bool) (fall : Fall) → h.down ≡ Some fall → (k : IsAtFall sent past s h) → Finds sent s h after fall k.behind.events k.behind.half
found sent past s h after at_rest down k = record { events = k.behind.events; had = k.had; done = inl refl; lasting = k.behind.lasting }
found sent past s h false (in_step m clock hit) down k = record { events = k.behind.events; had = k.had; done = inl refl; lasting = k.behind.lasting }
found sent past s h true (in_step m clock hit) down k = record {
  events = k.behind.events ++ (is_given (Whole m) ∷ []);
  had = sent_one sent k.behind.events m (k.cut m clock hit down).1 k.had;
  done = inr (sym (ap (with_event k.behind.events) (k.halves ∙ ap half_of down)));
  lasting = after_lasts h.state (loc_decides h.state (Whole m)) ∙ (ap (λ (x : LocState). (loc_left x (loc_decides x (Whole m))).lasting) (k.cut m clock hit down).0 ∙ sym (ap (λ (x : LocState). x.lasting) (behind_more s k.behind.events (is_given (Whole m)))));
}
found sent past s h false in_boot down k = record { events = k.behind.events; had = k.had; done = inl refl; lasting = k.behind.lasting }
found sent past s h true in_boot down k = record {
  events = k.behind.events ++ (begins_again ∷ []);
  had = sent_again sent k.behind.events k.had;
  done = inr (sym (ap (with_event k.behind.events) (k.halves ∙ ap half_of down)));
  lasting = ap loc_lasting_started k.behind.lasting ∙ sym (ap (λ (x : LocState). x.lasting) (behind_more s k.behind.events begins_again));
}

-- ---- a step of it

-- what it fell in
cut_is : (sent : List Message) (fall : Fall) (m : Message) (clock : ℕ) (hit : Blow) → fall ≡ in_step m clock hit → CutsSent sent fall → StandsAmong sent m
cut_is sent fall m clock hit e w = subst (CutsSent sent) e w

half_is : (fall : Fall) → (fall ≡ in_boot → ⊥) → half_of (Some fall) ≡ event_in (cut_on fall)
half_is at_rest other = refl
half_is (in_step m clock hit) other = refl
half_is in_boot other = absurd (other refl)

-- it begins again from what lasts
abbrev revived_from : LocLasting → LocState
revived_from x = record { lasting = loc_lasting_started x; seats = x.kept }

abbrev boot_of : LocHost → Option ℕ
boot_of h = up_boot h.down h.state.lasting.boot

record Goes (sent : List Message) (s : LocState) (h l : LocHost) (ls : List Line) (before : List LocEvent) (was : Option LocEvent) : Type 0 where
  events : List LocEvent
  half : Option LocEvent
  step : IsStepOf (boot_of h) (boot_of l) (given_message ls sent) before was events half
  had : WereSent sent events
  halves : half ≡ half_of l.down
  lasting : l.state.lasting ≡ (loc_behind_all s events).lasting
  up : l.down ≡ None → l.state ≡ loc_behind_all s events
  cut : (m : Message) (clock : ℕ) (hit : Blow) → l.down ≡ Some (in_step m clock hit) → (l.state ≡ loc_behind_all s events) × StandsAmong sent m

boot_when : (h : LocHost) (d : Option Fall) → h.down ≡ d → boot_of h ≡ up_boot d h.state.lasting.boot
boot_when h d e = ap (λ (x : Option Fall). up_boot x h.state.lasting.boot) e

stands : (a x b y : Option ℕ) (g z : Option Message) (before es : List LocEvent) (was half : Option LocEvent) → a ≡ x → b ≡ y → g ≡ z → IsStepOf x y z before was es half → IsStepOf a b g before was es half
stands a x b y g z before es was half p q r h =
    subst (λ (o : Option ℕ). IsStepOf o b g before was es half) (sym p)
    (subst (λ (o : Option ℕ). IsStepOf x o g before was es half) (sym q) (subst (λ (o : Option Message). IsStepOf x y o before was es half) (sym r) h))

goes_by : (sent : List Message) (past : List Entry) (s : LocState) (h l : LocHost) (ls : List Line) (ms : List Message) → LivesLoc sent h l ls ms → (k : IsAtFall sent past s h) → Goes sent s h l ls k.behind.events k.behind.half
goes_by sent past s h l ls ms (loc_goes up on boot run (inl same)) k = record {
  events = k.behind.events;
  half = None;
  step = stands (boot_of h) (Some h.state.lasting.boot) (boot_of l) (Some l.state.lasting.boot) (given_message ls sent) None k.behind.events k.behind.events k.behind.half None (boot_when h None up) (boot_when l None on) same.1 (refl, refl);
  had = k.had;
  halves = sym (ap half_of on);
  lasting = ap (λ (x : LocState). x.lasting) same.0 ∙ k.behind.lasting;
  up = λ e. same.0 ∙ k.behind.up up;
  cut = λ m clock hit e. (let no_ : None ≡ Some (in_step m clock hit) = sym on ∙ e in absurd cc);
}
goes_by sent past s h l ls ms (loc_goes up on boot run (inr did)) k =
    let es : List LocEvent = k.behind.events ++ (is_given (Whole did.0) ∷ []) in
    let is : l.state ≡ loc_behind_all s es = did.1.1.left ∙ (ap (λ (x : LocState). loc_left x (loc_decides x (Whole did.0))) (k.behind.up up) ∙ sym (behind_more s k.behind.events (is_given (Whole did.0)))) in
    record {
      events = es;
      half = None;
      step = stands (boot_of h) (Some h.state.lasting.boot) (boot_of l) (Some l.state.lasting.boot) (given_message ls sent) (Some did.0) k.behind.events es k.behind.half None (boot_when h None up) (boot_when l None on) did.1.1.on (refl, refl);
      had = sent_one sent k.behind.events did.0 did.1.0 k.had;
      halves = sym (ap half_of on);
      lasting = ap (λ (x : LocState). x.lasting) is;
      up = λ e. is;
      cut = λ m clock hit e. (let no_ : None ≡ Some (in_step m clock hit) = sym on ∙ e in absurd cc);
    }
goes_by sent past s h l ls ms (loc_falls fall up down state other stop none cut on) k = record {
  events = k.behind.events;
  half = half_of (Some fall);
  step = stands (boot_of h) (Some h.state.lasting.boot) (boot_of l) None (given_message ls sent) (cut_on fall) k.behind.events k.behind.events k.behind.half (half_of (Some fall)) (boot_when h None up) (boot_when l (Some fall) down) on (refl, half_is fall other);
  had = k.had;
  halves = sym (ap half_of down);
  lasting = ap (λ (x : LocState). x.lasting) state ∙ k.behind.lasting;
  up = λ e. (let no_ : None ≡ Some fall = sym e ∙ down in absurd cc);
  cut = λ m clock hit e. (state ∙ k.behind.up up, cut_is sent fall m clock hit (some_of fall (in_step m clock hit) (sym down ∙ e)) cut);
}
goes_by sent past s h l ls ms (loc_early fall down down' state are none) k = record {
  events = k.behind.events;
  half = k.behind.half;
  step = stands (boot_of h) None (boot_of l) None (given_message ls sent) (given_message ls sent) k.behind.events k.behind.events k.behind.half k.behind.half (boot_when h (Some fall) down) (boot_when l (Some fall) down') refl (inl (refl, refl));
  had = k.had;
  halves = k.halves ∙ ap half_of (down ∙ sym down');
  lasting = ap (λ (x : LocState). x.lasting) state ∙ k.behind.lasting;
  up = λ e. (let no_ : None ≡ Some fall = sym e ∙ down' in absurd cc);
  cut = λ m clock hit e. (let was = k.cut m clock hit (down ∙ (sym down' ∙ e)) in (state ∙ was.0, was.1));
}
goes_by sent past s h l ls ms (loc_midway after fall down down' state are none) k =
    let F : Finds sent s h after fall k.behind.events k.behind.half = found sent past s h after fall down k in
    record {
      events = F.events;
      half = Some begins_again;
      step = stands (boot_of h) None (boot_of l) None (given_message ls sent) (given_message ls sent) k.behind.events F.events k.behind.half (Some begins_again) (boot_when h (Some fall) down) (boot_when l (Some in_boot) down') refl (inr (F.done, inr refl));
      had = F.had;
      halves = sym (ap half_of down');
      lasting = ap (λ (x : LocState). x.lasting) state ∙ F.lasting;
      up = λ e. (let no_ : None ≡ Some in_boot = sym e ∙ down' in absurd cc);
      cut = λ m clock hit e. (let no_ : Some in_boot ≡ Some (in_step m clock hit) = sym down' ∙ e in absurd cc);
    }
goes_by sent past s h l ls ms (loc_full after fall down down' state are none) k =
    let F : Finds sent s h after fall k.behind.events k.behind.half = found sent past s h after fall down k in
    record {
      events = F.events;
      half = None;
      step = stands (boot_of h) None (boot_of l) None (given_message ls sent) (given_message ls sent) k.behind.events F.events k.behind.half None (boot_when h (Some fall) down) (boot_when l (Some at_rest) down') refl (inr (F.done, inl refl));
      had = F.had;
      halves = sym (ap half_of down');
      lasting = ap (λ (x : LocState). x.lasting) state ∙ F.lasting;
      up = λ e. (let no_ : None ≡ Some at_rest = sym e ∙ down' in absurd cc);
      cut = λ m clock hit e. (let no_ : Some at_rest ≡ Some (in_step m clock hit) = sym down' ∙ e in absurd cc);
    }
goes_by sent past s h l ls ms (loc_rises after fall down on state are none) k =
    let F : Finds sent s h after fall k.behind.events k.behind.half = found sent past s h after fall down k in
    let es : List LocEvent = F.events ++ (begins_again ∷ []) in
    let is : l.state ≡ loc_behind_all s es = state ∙ (ap (λ (x : LocLasting). revived_from x) F.lasting ∙ sym (behind_more s F.events begins_again)) in
    record {
      events = es;
      half = None;
      step = stands (boot_of h) None (boot_of l) (Some l.state.lasting.boot) (given_message ls sent) (given_message ls sent) k.behind.events es k.behind.half None (boot_when h (Some fall) down) (boot_when l None on) refl (F.events, (F.done, (refl, refl)));
      had = sent_again sent F.events F.had;
      halves = sym (ap half_of on);
      lasting = ap (λ (x : LocState). x.lasting) is;
      up = λ e. is;
      cut = λ m clock hit e. (let no_ : None ≡ Some (in_step m clock hit) = sym on ∙ e in absurd cc);
    }

-- ---- every step

-- an entry of another
besides : (sent more : List Message) (past : List Entry) (e : Entry) (s : LocState) (h : LocHost)
    → ((before : List LocEvent) (was : Option LocEvent) → AtLoc e.actor (IsStepOf (server_boot Loc (lines_of past)) (server_boot Loc (lines_of (e ∷ past))) (given_message e.lines (sent_of past)) before was before was) ((before ≡ before) × (was ≡ was)))
    → IsAtFall sent past s h → IsAtFall (sent ++ more) (e ∷ past) s h
besides sent more past e s h w k = record {
  behind = record {
    events = k.behind.events;
    half = k.behind.half;
    given = (k.behind.events, (k.behind.half, (k.behind.given, w k.behind.events k.behind.half)));
    lasting = k.behind.lasting;
    up = k.behind.up;
  };
  had = were_more sent more k.behind.events k.had;
  halves = k.halves;
  cut = λ m clock hit is. (let was = k.cut m clock hit is in (was.0, (was.1.0, at_more sent more was.1.0 m was.1.1)));
}

at_other : (who : Actor) (X Y : Type 0) → (who ≡ actors.Node Loc → ⊥) → Y → AtLoc who X Y
at_other (actors.Node Loc) X Y other y = absurd (other refl)
at_other (actors.Node (Server i)) X Y other y = y
at_other (actors.Node (Client j)) X Y other y = y
at_other (actors.Node (Admin k)) X Y other y = y
at_other actors.Clock X Y other y = y
at_other actors.Nobody X Y other y = y

other_events : (sent more : List Message) (past : List Entry) (e : Entry) (s : LocState) (h : LocHost) → (e.actor ≡ actors.Node Loc → ⊥) → IsAtFall sent past s h → IsAtFall (sent ++ more) (e ∷ past) s h
other_events sent more past e s h other k = besides sent more past e s h (λ before was. at_other e.actor _ _ other (refl, refl)) k

no_more : (sent : List Message) (past : List Entry) (s : LocState) (h : LocHost) → IsAtFall (sent ++ []) past s h → IsAtFall sent past s h
no_more sent past s h k = subst (λ (ms : List Message). IsAtFall ms past s h) (nil_behind sent) k

client_else : (n : ℕ) (a : Actor) → a ≡ actors.Node (Client n) → a ≡ actors.Node Loc → ⊥
client_else n a is e = (let no_ : actors.Node (Client n) ≡ actors.Node Loc = sym is ∙ e in absurd cc)

server_else : (i : ℕ) (a : Actor) → a ≡ actors.Node (Server i) → a ≡ actors.Node Loc → ⊥
server_else i a is e = (let no_ : actors.Node (Server i) ≡ actors.Node Loc = sym is ∙ e in absurd cc)

by_client : (sent more : List Message) (past : List Entry) (e : Entry) (s : LocState) (h : LocHost) (n : ℕ) → e.actor ≡ actors.Node (Client n) → IsAtFall sent past s h → IsAtFall (sent ++ more) (e ∷ past) s h
by_client sent more past e s h n is k = other_events sent more past e s h (client_else n e.actor is) k

by_server : (sent more : List Message) (past : List Entry) (e : Entry) (s : LocState) (h : LocHost) (i : ℕ) → e.actor ≡ actors.Node (Server i) → IsAtFall sent past s h → IsAtFall (sent ++ more) (e ∷ past) s h
by_server sent more past e s h i is k = other_events sent more past e s h (server_else i e.actor is) k

quiet_server : (sent : List Message) (past : List Entry) (e : Entry) (s : LocState) (h : LocHost) (i : ℕ) → e.actor ≡ actors.Node (Server i) → IsAtFall sent past s h → IsAtFall sent (e ∷ past) s h
quiet_server sent past e s h i is k = no_more sent (e ∷ past) s h (by_server sent [] past e s h i is k)

void_else : (a : Actor) → a ≡ actors.Nobody → a ≡ actors.Node Loc → ⊥
void_else a is e = (let no_ : actors.Nobody ≡ actors.Node Loc = sym is ∙ e in absurd cc)

clock_else : (a : Actor) → a ≡ actors.Clock → a ≡ actors.Node Loc → ⊥
clock_else a is e = (let no_ : actors.Clock ≡ actors.Node Loc = sym is ∙ e in absurd cc)

quiet_void : (sent : List Message) (past : List Entry) (e : Entry) (s : LocState) (h : LocHost) → e.actor ≡ actors.Nobody → IsAtFall sent past s h → IsAtFall sent (e ∷ past) s h
quiet_void sent past e s h is k = no_more sent (e ∷ past) s h (other_events sent [] past e s h (void_else e.actor is) k)

quiet_tick : (sent : List Message) (past : List Entry) (e : Entry) (s : LocState) (h : LocHost) → e.actor ≡ actors.Clock → IsAtFall sent past s h → IsAtFall sent (e ∷ past) s h
quiet_tick sent past e s h is k = no_more sent (e ∷ past) s h (other_events sent [] past e s h (clock_else e.actor is) k)

abbrev pub AtFall : Script → Cell → List Entry → Type 0
AtFall s c past = LifeFacts s c past × IsAtFall c.sent past (start s).loc.state c.loc

abbrev FallStep : Script → Cell → List Entry → Moved → Type 0
FallStep s c past m = IsAtFall m.cell.sent (m.entry ∷ past) (start s).loc.state m.cell.loc

loc_events : (s : Script) (c : Cell) (past : List Entry) (l : LocHost) (ls : List Line) (ms : List Message) → AtFall s c past → IsLocStep c l ls ms → FallStep s c past (loc_becomes c l ls ms)
loc_events s c past l ls ms h st =
    let first : LocState = (start s).loc.state in
    let k : IsAtFall c.sent past first c.loc = h.1 in
    let G : Goes c.sent first c.loc l ls k.behind.events k.behind.half = goes_by c.sent past first c.loc l ls ms st.lives k in
    let L : LifeStep c past (loc_becomes c l ls ms) = loc_life s c past l ls ms h.0 st in
    record {
      behind = record {
        events = G.events;
        half = G.half;
        given = (k.behind.events, (k.behind.half, (k.behind.given, stands (server_boot Loc (lines_of past)) (boot_of c.loc) (server_boot Loc (onto (lines_of past) ls)) (boot_of l) (given_message ls (sent_of past)) (given_message ls c.sent) k.behind.events G.events k.behind.half G.half h.0.1.now L.life.now (ap (given_message ls) h.0.0.0.0.hears.told) G.step)));
        lasting = G.lasting;
        up = G.up;
      };
      had = were_more c.sent ms G.events G.had;
      halves = G.halves;
      cut = λ m clock hit is. (let was = G.cut m clock hit is in (was.0, (was.1.0, at_more c.sent ms was.1.0 m was.1.1)));
    }

fall_moves : (s : Script) → EachMove (AtFall s) (FallStep s)
fall_moves s = record {
  void = λ c past h. quiet_void c.sent past _ (start s).loc.state c.loc refl h.1;
  ticked = λ c past n h. quiet_tick c.sent past _ (start s).loc.state c.loc refl h.1;
  begun = λ c past n act h r z. by_client c.sent _ past _ (start s).loc.state c.loc n refl h.1;
  told = λ c past n place m h at to un. by_client c.sent _ past _ (start s).loc.state c.loc n refl h.1;
  sought = λ c past n place m k h at to z e. by_client c.sent _ past _ (start s).loc.state c.loc n refl h.1;
  missed = λ c past n k h r z. by_client c.sent _ past _ (start s).loc.state c.loc n refl h.1;
  loc = λ c past l ls ms h st. loc_events s c past l ls ms h st;
  waited = λ c past n act h r. by_client c.sent _ past _ (start s).loc.state c.loc n refl h.1;
  fallen = λ c past n h. by_client c.sent [] past _ (start s).loc.state c.loc n refl h.1;
  risen = λ c past n h. by_client c.sent [] past _ (start s).loc.state c.loc n refl h.1;
  served = λ c past i place m armed h up at to. by_server c.sent _ past _ (start s).loc.state c.loc i refl h.1;
  cut = λ c past i place m t h up at to. quiet_server c.sent past _ (start s).loc.state c.loc i refl h.1;
  stopped = λ c past i h up. quiet_server c.sent past _ (start s).loc.state c.loc i refl h.1;
  stop_set = λ c past i calls pick armed h up. quiet_server c.sent past _ (start s).loc.state c.loc i refl h.1;
  fail_set = λ c past i call armed h up. quiet_server c.sent past _ (start s).loc.state c.loc i refl h.1;
  timed = λ c past i n b armed h up at. by_server c.sent _ past _ (start s).loc.state c.loc i refl h.1;
  woken = λ c past i armed h up. by_server c.sent _ past _ (start s).loc.state c.loc i refl h.1;
  started = λ c past i after fall h down. by_server c.sent _ past _ (start s).loc.state c.loc i refl h.1;
  early = λ c past i fall h down. quiet_server c.sent past _ (start s).loc.state c.loc i refl h.1;
  midway = λ c past i after fall h down. quiet_server c.sent past _ (start s).loc.state c.loc i refl h.1;
  full = λ c past i after fall h down. quiet_server c.sent past _ (start s).loc.state c.loc i refl h.1;
}

pub fall_kept : (s : Script) → IsKept (AtFall s)
fall_kept s c past x so h = (life_kept s c past x so h.0, each_moved (AtFall s) (FallStep s) (fall_moves s) c past x so h)

pub fall_first : (s : Script) → AtFall s (start s) (set_up_entry s ∷ [])
fall_first s = (
  life_first s,
  record {
    behind = record { events = []; half = None; given = ([], (None, ((refl, refl), (refl, refl)))); lasting = refl; up = λ e. refl };
    had = tt;
    halves = refl;
    cut = λ m clock hit e. absurd cc;
  },
)

pub run_fall : (s : Script) (h : List Entry) (end : Cell) → RunsTo h s end → IsAtFall end.sent (past_of (set_up_entry s ∷ []) h) (start s).loc.state end.loc
run_fall s h end r = (run_keeps (AtFall s) (fall_kept s) r.inputs s (set_up_entry s ∷ []) h end (fall_first s) r.leads).1

pub run_events : LocRunsEvents
run_events s h end r = (run_fall s h end r).behind
