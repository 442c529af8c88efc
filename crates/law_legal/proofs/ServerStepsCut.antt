-- A step of a server that was interrupted, however many servers a cell has: the entry in which the server stopped, and what that would
-- have run; since then it did nothing but begin restarts in which its disk failed at once.
use Rattle.spec_history.specs.declared.lines.Line.{Line}
use Rattle.spec_history.specs.declared.lines.Line.TheVariants as lines
use Rattle.law_legal.proofs.BaseLaws.{Above, above_up, at_put, runs_admitted}
use Rattle.law_legal.proofs.BaseWords.{MayRun, up_boot}
use Rattle.law_legal.proofs.ServerHears.{HearsIn}
use Rattle.law_legal.proofs.CallKeysOnce.{admitted_latest}
use Rattle.law_legal.proofs.RunsKnown.{Known}
use Rattle.law_legal.proofs.RunWalk.{Behind, EachMove}
use Rattle.law_legal.proofs.KeptPasses.{to_come}
use Rattle.law_legal.specs.Breaks.{HasStopped}
use Rattle.law_legal.specs.Legal.{AreFailed}
use Rattle.law_legal.specs.Past.{IsLatest, IsFirstOfItsBoot, called_key, given_message, lines_of, sent_of, server_boot}
use Rattle.spec_model.specs.Calls as pairs
use Rattle.spec_model.specs.Calls.{admitted, call_seat}
use Rattle.afs_num.specs.declared.histories.Actor.TheVariants as actors
use Rattle.afs_num.specs.declared.messages.Message.{Message}
use Rattle.afs_num.specs.declared.types.Node.{Node}
use Rattle.afs_num.specs.declared.types.Node.TheVariants.{Client, Server, Loc}
use Rattle.spec_rows.specs.Callbacks.{put}
use Rattle.law_legal.proofs.RunSteps.{blow_line, server_falls}
use Rattle.spec_rows.specs.Runs.{Blow, Cell, Entry, Fall, in_step, message_at, ServerHost}
use Rattle.spec_rows.specs.States.{ServerState}
use Rattle.std.proofs.Common.{◌≡◌, ℕ, inl, inr, Bool, true, false, List, [], ◌∷◌, ◌++◌, Option, Some, None, refl, sym, ap, subst, ◌∙◌}

pub record CutOf (i : ℕ) (x : ServerState) (m : Message) (past : List Entry) : Type 0 where
  pub newer : List Entry
  pub at : Entry
  pub older : List Entry
  pub split : past ≡ newer ++ (at ∷ older)
  pub actor : at.actor ≡ actors.Node (Server i)
  pub given : given_message at.lines (sent_of older) ≡ Some m
  pub stopped : HasStopped (Server i) at.lines
  pub since : AreFailed (Server i) newer
  pub up : server_boot (Server i) (lines_of older) ≡ Some x.lasting.boot
  pub first : (j : ℕ) → m.head.from ≡ Client j → admitted x.lasting.boot x.seats m.head ≡ pairs.runs → IsFirstOfItsBoot (Server i) (called_key m.head) x.lasting.boot older
  pub latest : admitted x.lasting.boot x.seats m.head ≡ pairs.runs → IsLatest (Server i) (called_key m.head) (lines_of older)

abbrev pub CutsAt : (ℕ → ServerHost) → List Entry → Type 0
CutsAt hosts past = (i : ℕ) (m : Message) (clock : ℕ) (hit : Blow) → (hosts i).down ≡ Some (in_step m clock hit) → CutOf i (hosts i).state m past

abbrev pub CutsIn : Cell → List Entry → Type 0
CutsIn c past = CutsAt c.hosts past

-- the boot of a server that is up
pub now_up : (c : Cell) (past : List Entry) (i : ℕ) → HearsIn c past → (c.hosts i).down ≡ None → server_boot (Server i) (lines_of past) ≡ Some (c.hosts i).state.lasting.boot
now_up c past i H up = H.boots.now i ∙ ap (λ (d : Option Fall). up_boot d (c.hosts i).state.lasting.boot) up

-- a call that it would run comes first there, in this boot
pub comes_first : (c : Cell) (past : List Entry) (i : ℕ) (m : Message) (j : ℕ) → HearsIn c past → (c.hosts i).down ≡ None → m.head.from ≡ Client j → admitted (c.hosts i).state.lasting.boot (c.hosts i).state.seats m.head ≡ pairs.runs → IsFirstOfItsBoot (Server i) (called_key m.head) (c.hosts i).state.lasting.boot past
comes_first c past i m j H up from runs =
    let a = runs_admitted (c.hosts i).state.lasting.boot (c.hosts i).state.seats m.head runs in
    to_come (Server i) (called_key m.head) (c.hosts i).state.lasting.boot past (λ l node later. H.unheard i j l (c.hosts i).state.lasting.boot (node ∙ from) (subst (λ (d : Option Fall). MayRun d (c.hosts i).state.lasting.boot (call_seat l.node (c.hosts i).state.seats) l (c.hosts i).state.lasting.boot) (sym up)
    (inr (refl, subst (λ (q : Node). Above (call_seat q (c.hosts i).state.seats) l.epoch l.number) (sym node) (above_up (call_seat m.head.from (c.hosts i).state.seats) m.head.epoch m.head.number l.epoch l.number a.1 later)))))

-- ---- an entry more

cut_later : (i : ℕ) (x : ServerState) (m : Message) (e : Entry) (past : List Entry) → (e.actor ≡ actors.Node (Server i) → e.lines ≡ lines.Fault (Server i) ∷ []) → CutOf i x m past → CutOf i x m (e ∷ past)
cut_later i x m e past w h = record { newer = e ∷ h.newer; at = h.at; older = h.older; split = ap (λ (es : List Entry). e ∷ es) h.split; actor = h.actor; given = h.given; stopped = h.stopped; since = (w, h.since); up = h.up; first = h.first; latest = h.latest }

-- of no server
other_cuts : (hosts : ℕ → ServerHost) (past : List Entry) (e : Entry) → ((i : ℕ) → e.actor ≡ actors.Node (Server i) → ⊥) → CutsAt hosts past → CutsAt hosts (e ∷ past)
other_cuts hosts past e away C i m clock hit d = cut_later i (hosts i).state m e past (λ a. absurd (away i a)) (C i m clock hit d)

server_same : (i j : ℕ) → actors.Node (Server i) ≡ actors.Node (Server j) → i ≡ j
server_same i j e = cc

-- of one server
host_cuts : (hosts : ℕ → ServerHost) (i : ℕ) (h : ServerHost) (past : List Entry) (e : Entry) → e.actor ≡ actors.Node (Server i) → CutsAt hosts past → ((m : Message) (clock : ℕ) (hit : Blow) → h.down ≡ Some (in_step m clock hit) → CutOf i h.state m (e ∷ past)) → CutsAt (put i h hosts) (e ∷ past)
host_cuts hosts i h past e actor C own j m clock hit =
    at_put i j (λ (x : ServerHost). x.down ≡ Some (in_step m clock hit) → CutOf j x.state m (e ∷ past)) h hosts
    (λ same d. subst (λ (k : ℕ). CutOf k h.state m (e ∷ past)) same (own m clock hit d))
    (λ other d. cut_later j (hosts j).state m e past (λ a. absurd (other (server_same i j (sym actor ∙ a)))) (C j m clock hit d))

no_client : (n i : ℕ) → actors.Node (Client n) ≡ actors.Node (Server i) → ⊥
no_client n i e = absurd cc

no_loc : (i : ℕ) → actors.Node Loc ≡ actors.Node (Server i) → ⊥
no_loc i e = absurd cc

nobody : (i : ℕ) → actors.Nobody ≡ actors.Node (Server i) → ⊥
nobody i e = absurd cc

no_clock : (i : ℕ) → actors.Clock ≡ actors.Node (Server i) → ⊥
no_clock i e = absurd cc

none_some : (d : Option Fall) (f : Fall) → d ≡ None → d ≡ Some f → ⊥
none_some d f a b = let z : None ≡ Some f = sym a ∙ b in absurd cc

pub blow_stopped : (i place : ℕ) (t : Bool) → HasStopped (Server i) (lines.Given place ∷ blow_line i t ∷ [])
blow_stopped i place true = inl refl
blow_stopped i place false = inl refl

pub same_cut : (m k : Message) (a b : ℕ) (x y : Blow) → Some (in_step m a x) ≡ Some (in_step k b y) → m ≡ k
same_cut m k a b x y e = cc

-- where it is cut short
cut_here : (c : Cell) (past : List Entry) (i place : ℕ) (m : Message) (t : Bool) (e : Entry) → Known c past → (c.hosts i).down ≡ None → message_at c.sent place ≡ Some m → e.actor ≡ actors.Node (Server i) → e.lines ≡ lines.Given place ∷ blow_line i t ∷ [] → CutOf i (c.hosts i).state m (e ∷ past)
cut_here c past i place m t e K up at actor ls = record {
  newer = [];
  at = e;
  older = past;
  split = refl;
  actor = actor;
  given = ap (λ (l : List Line). given_message l (sent_of past)) ls ∙ (ap (λ (ms : List Message). message_at ms place) K.hears.told ∙ at);
  stopped = subst (HasStopped (Server i)) (sym ls) (blow_stopped i place t);
  since = tt;
  up = now_up c past i K.hears up;
  first = λ j from runs. comes_first c past i m j K.hears up from runs;
  latest = λ runs. admitted_latest c (lines_of past) i m.head K.keys runs;
}

-- ---- every step

abbrev pub KnownCuts : Cell → List Entry → Type 0
KnownCuts c past = Known c past × CutsIn c past

pub cuts_moves : EachMove KnownCuts (Behind CutsIn)
cuts_moves = record {
  void = λ c past h. other_cuts c.hosts past _ nobody h.1;
  ticked = λ c past n h. other_cuts c.hosts past _ no_clock h.1;
  begun = λ c past n act h r z. other_cuts c.hosts past _ (no_client n) h.1;
  told = λ c past n place m h at to un. other_cuts c.hosts past _ (no_client n) h.1;
  sought = λ c past n place m k h at to z e. other_cuts c.hosts past _ (no_client n) h.1;
  missed = λ c past n k h r z. other_cuts c.hosts past _ (no_client n) h.1;
  waited = λ c past n act h r. other_cuts c.hosts past _ (no_client n) h.1;
  fallen = λ c past n h. other_cuts c.hosts past _ (no_client n) h.1;
  risen = λ c past n h. other_cuts c.hosts past _ (no_client n) h.1;
  loc = λ c past l ls ms h st. other_cuts c.hosts past _ no_loc h.1;
  served = λ c past i place m armed h up at to. host_cuts c.hosts i _ past _ refl h.1 (λ k clock hit e. absurd cc);
  cut = λ c past i place m t h up at to. host_cuts c.hosts i _ past _ refl h.1 (λ k clock hit e. subst (λ (y : Message). CutOf i (c.hosts i).state y ((server_falls c i (lines.Given place ∷ blow_line i t.stops ∷ []) (in_step m c.clock t)).entry ∷ past)) (same_cut m k c.clock clock t hit e) (cut_here c past i place m t.stops (server_falls c i (lines.Given place ∷ blow_line i t.stops ∷ []) (in_step m c.clock t)).entry h.0 up at refl refl));
  stopped = λ c past i h up. host_cuts c.hosts i _ past _ refl h.1 (λ k clock hit e. absurd cc);
  stop_set = λ c past i calls pick armed h up. host_cuts c.hosts i _ past _ refl h.1 (λ k clock hit e. absurd (none_some (c.hosts i).down (in_step k clock hit) up e));
  fail_set = λ c past i call armed h up. host_cuts c.hosts i _ past _ refl h.1 (λ k clock hit e. absurd (none_some (c.hosts i).down (in_step k clock hit) up e));
  timed = λ c past i n b armed h up at. host_cuts c.hosts i _ past _ refl h.1 (λ k clock hit e. absurd cc);
  woken = λ c past i armed h up. host_cuts c.hosts i _ past _ refl h.1 (λ k clock hit e. absurd cc);
  started = λ c past i after fall h down. host_cuts c.hosts i _ past _ refl h.1 (λ k clock hit e. absurd cc);
  early = λ c past i fall h down. host_cuts c.hosts i _ past _ refl h.1 (λ k clock hit e. cut_later i (c.hosts i).state k _ past (λ a. refl) (h.1 i k clock hit (down ∙ e)));
  midway = λ c past i after fall h down. host_cuts c.hosts i _ past _ refl h.1 (λ k clock hit e. absurd cc);
  full = λ c past i after fall h down. host_cuts c.hosts i _ past _ refl h.1 (λ k clock hit e. absurd cc);
}
