-- What the database of a run sends is what its row says.
use Rattle.spec_history.specs.declared.scripts.Script.{Script}
use Rattle.spec_rows.specs.LocSteps.{LocHost}
use Rattle.afs_num.specs.declared.messages.Message.{Message}
use Rattle.law_legal.proofs.ServerHearsInRuns.{Heard, heard_first, heard_kept}
use Rattle.law_legal.proofs.BaseLaws.{some_of}
use Rattle.spec_rows.specs.Hosts.{Fall}
use Rattle.law_legal.proofs.DatabaseKeeps.{loc_full, loc_midway, IsLocStep, loc_rises, loc_early, loc_falls, LivesLoc, loc_goes}
use Rattle.law_legal.proofs.DatabaseEvents.{fall_first, AtFall, IsAtFall, fall_kept}
use Rattle.afs_num.specs.declared.messages.Received.TheVariants.{Whole}
use Rattle.afs_num.specs.declared.types.Node.TheVariants.{Server, Client, Loc}
use Rattle.law_legal.specs.Past.{given_message}
use Rattle.law_legal.proofs.RunWalk.{each_moved, IsKept, EachMove}
use Rattle.law_legal.specs.Ideal.{set_up_entry}
use Rattle.spec_rows.specs.LocRow.{loc_decides, LocState, loc_sent}
use Rattle.law_legal.specs.Lives.{TellsStop}
use Rattle.law_legal.proofs.ClientCalls.{placed}
use Rattle.law_legal.proofs.VolumeChanges.{run_each}
use Rattle.law_legal.specs.DatabaseRuns.{HasAnswered, LocAnswersByItsRow, loc_behind_all, IsByRow, LocEvent, WereGiven}
use Rattle.spec_history.specs.declared.lines.Line.{Line}
use Rattle.std.proofs.Common.{◌≡◌, ◌⊎◌, inl, inr, ℕ, Bool, true, false, List, [], ◌∷◌, ◌++◌, Option, Some, None, refl, sym, ap, subst, ◌∙◌}
use Rattle.afs_num.specs.declared.histories.Actor.TheVariants as actors
use Rattle.spec_rows.specs.Runs.{start, Cell, Entry, Moved}

nothing_given : (X : Type 0) (o : Option Message) (m : Message) → o ≡ None → o ≡ Some m → X
nothing_given X o m none is = (let e : None ≡ Some m = sym none ∙ is in absurd cc)

idle_given : (X : Type 0) (c : Cell) (l : LocHost) (ls : List Line) (ms : List Message) (m : Message) (fall : Fall) → IsLocStep c l ls ms → c.loc.down ≡ Some fall → given_message ls c.sent ≡ Some m → X
idle_given X c l ls ms m fall st down is = nothing_given X (given_message ls c.sent) m (st.given c.sent ∙ ap (λ (o : Option ℕ). placed o c.sent) (st.idle fall down)) is

answered_by : (s x : LocState) (past : List Entry) (ms : List Message) (m : Message) (events : List LocEvent) (half : Option LocEvent) → WereGiven past events half → x ≡ loc_behind_all s events → ms ≡ loc_sent x (loc_decides x (Whole m)) → HasAnswered s past m ms
answered_by s x past ms m events half given is answered = record { events = events; half = half; given = given; answered = answered ∙ ap (λ (y : LocState). loc_sent y (loc_decides y (Whole m))) is }

row_by : (s : LocState) (c : Cell) (past : List Entry) (l : LocHost) (ls : List Line) (ms : List Message) → IsAtFall c.sent past s c.loc → IsLocStep c l ls ms → LivesLoc c.sent c.loc l ls ms → (m : Message) → given_message ls c.sent ≡ Some m → TellsStop ls ⊎ HasAnswered s past m ms
row_by s c past l ls ms k st (loc_goes up on boot run (inl same)) m is = nothing_given (TellsStop ls ⊎ HasAnswered s past m ms) (given_message ls c.sent) m same.1 is
row_by s c past l ls ms k st (loc_goes up on boot run (inr did)) m is =
    inr (subst (λ (y : Message). HasAnswered s past y ms) (some_of did.0 m (sym did.1.1.on ∙ is)) (answered_by s c.loc.state past ms did.0 k.behind.events k.behind.half k.behind.given (k.behind.up up) did.1.1.answered))
row_by s c past l ls ms k st (loc_falls fall up down state other stop none cut on) m is = inl stop
row_by s c past l ls ms k st (loc_early fall down down' state are none) m is = idle_given (TellsStop ls ⊎ HasAnswered s past m ms) c l ls ms m fall st down is
row_by s c past l ls ms k st (loc_midway after fall down down' state are none) m is = idle_given (TellsStop ls ⊎ HasAnswered s past m ms) c l ls ms m fall st down is
row_by s c past l ls ms k st (loc_full after fall down down' state are none) m is = idle_given (TellsStop ls ⊎ HasAnswered s past m ms) c l ls ms m fall st down is
row_by s c past l ls ms k st (loc_rises after fall down on state are none) m is = idle_given (TellsStop ls ⊎ HasAnswered s past m ms) c l ls ms m fall st down is

-- ---- every step

of_nobody : (s : LocState) (past : List Entry) (e : Entry) → e.actor ≡ actors.Nobody → IsByRow s past e
of_nobody s past e is = record { row = λ a m g. (let no_ : actors.Nobody ≡ actors.Node Loc = sym is ∙ a in absurd cc) }

of_clock : (s : LocState) (past : List Entry) (e : Entry) → e.actor ≡ actors.Clock → IsByRow s past e
of_clock s past e is = record { row = λ a m g. (let no_ : actors.Clock ≡ actors.Node Loc = sym is ∙ a in absurd cc) }

of_client : (s : LocState) (past : List Entry) (e : Entry) (n : ℕ) → e.actor ≡ actors.Node (Client n) → IsByRow s past e
of_client s past e n is = record { row = λ a m g. (let no_ : actors.Node (Client n) ≡ actors.Node Loc = sym is ∙ a in absurd cc) }

of_server : (s : LocState) (past : List Entry) (e : Entry) (i : ℕ) → e.actor ≡ actors.Node (Server i) → IsByRow s past e
of_server s past e i is = record { row = λ a m g. (let no_ : actors.Node (Server i) ≡ actors.Node Loc = sym is ∙ a in absurd cc) }

abbrev RowStep : Script → Cell → List Entry → Moved → Type 0
RowStep s c past m = IsByRow (start s).loc.state past m.entry

row_moves : (s : Script) → EachMove (AtFall s) (RowStep s)
row_moves s = record {
  void = λ c past h. of_nobody (start s).loc.state past _ refl;
  ticked = λ c past n h. of_clock (start s).loc.state past _ refl;
  begun = λ c past n act h r z. of_client (start s).loc.state past _ n refl;
  told = λ c past n place m h at to un. of_client (start s).loc.state past _ n refl;
  sought = λ c past n place m k h at to z e. of_client (start s).loc.state past _ n refl;
  missed = λ c past n k h r z. of_client (start s).loc.state past _ n refl;
  loc = λ c past l ls ms h st. record {
    row = λ a m g. row_by (start s).loc.state c past l ls ms h.1 st st.lives m (ap (given_message ls) (sym h.0.0.0.0.hears.told) ∙ g);
  };
  waited = λ c past n act h r. of_client (start s).loc.state past _ n refl;
  fallen = λ c past n h. of_client (start s).loc.state past _ n refl;
  risen = λ c past n h. of_client (start s).loc.state past _ n refl;
  served = λ c past i place m armed h up at to. of_server (start s).loc.state past _ i refl;
  cut = λ c past i place m t h up at to. of_server (start s).loc.state past _ i refl;
  stopped = λ c past i h up. of_server (start s).loc.state past _ i refl;
  stop_set = λ c past i calls pick armed h up. of_server (start s).loc.state past _ i refl;
  fail_set = λ c past i call armed h up. of_server (start s).loc.state past _ i refl;
  timed = λ c past i n b armed h up at. of_server (start s).loc.state past _ i refl;
  woken = λ c past i armed h up. of_server (start s).loc.state past _ i refl;
  started = λ c past i after fall h down. of_server (start s).loc.state past _ i refl;
  early = λ c past i fall h down. of_server (start s).loc.state past _ i refl;
  midway = λ c past i after fall h down. of_server (start s).loc.state past _ i refl;
  full = λ c past i after fall h down. of_server (start s).loc.state past _ i refl;
}

pub run_rows : LocAnswersByItsRow
run_rows s h end r =
    run_each (AtFall s) (IsByRow (start s).loc.state) (fall_kept s) (λ c past x so k. each_moved (AtFall s) (RowStep s) (row_moves s) c past x so k) r.inputs s (set_up_entry s ∷ []) h end (fall_first s) r.leads
