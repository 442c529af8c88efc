-- The walk over the inputs of a cell: whose the stamps are that the database gives.
use Rattle.std.proofs.Common.{◌≡◌, ◌≤◌, ◌<◌, ℕ, zero, suc, Bool, true, false, cond, List, [], ◌∷◌, Option, Some, None, refl, sym, subst, arith, ◌∙◌}
use Rattle.std.proofs.Math.Nat.{le_refl, le_trans}
use Rattle.std.specs.List.{AllByRecursion}
use Rattle.afs_num.specs.declared.messages.Message.{Message}
use Rattle.afs_num.specs.declared.types.Key.{Key}
use Rattle.afs_num.specs.declared.types.Node.{Node}
use Rattle.afs_num.specs.declared.types.Node.TheVariants.{Admin, Client, Loc, Server}
use Rattle.spec_history.specs.declared.acts.Act.{Act}
use Rattle.spec_history.specs.declared.scripts.AdminAct.{AdminAct}
use Rattle.spec_adminrows.specs.declared.turns.Running.{Running}
use Rattle.spec_rows.specs.ClientRow.{act_of}
use Rattle.spec_rows.specs.Going.{Going, Seek}
use Rattle.spec_rows.specs.Hosts.{crashed, restarted, served, set_to_fail, set_to_stop, Fall, HostStep, Luck, Outcome}
use Rattle.spec_rows.specs.LocRow.{LocState}
use Rattle.spec_rows.specs.LocSteps.{loc_kind, LocHost}
use Rattle.spec_rows.specs.Runs.{begins, client_starts, client_stops, gives, message_at, nothing, server_waits, sets_fail, sets_stop, starts_again, stops, ticks, waits, wakes, Entry, Input}
use Rattle.spec_rows.specs.States.{BackCall}
use Rattle.spec_volrows.specs.VolStates.{NodeState, PieceCall}
use Rattle.spec_runs.specs.NodeRuns.{admin_begins, admin_begun, admin_starts, admin_stops, admin_waited, admin_waits, begun_by, call_timed, given_at, given_to, has_host, is_away, is_gone, loc_restarted, loc_up, node_moved, node_start, piece_timed, server_restarted, server_timed, server_up, sought_for, usual, usually_moved, waited_by, CellInput, NodeCell, NodeLeads, NodeMoved}
use Rattle.law_stamps.specs.Given.{AreTheirs, IsTheirs, StampsAreGivenOnce}
use Rattle.law_stamps.specs.Told.{is_database}
use Rattle.law_stamps.proofs.Giving.{none_given, restart_gives, serve_gives, still_theirs, weaker_all, Gave, Give}

-- what an input leaves of it, and what the database sends in it
record Gives (owner : ℕ → Key) (c : NodeCell) (m : NodeMoved) : Type 0 where
  now : ℕ → Key
  stays : (stamp : ℕ) → stamp < c.loc.state.lasting.next_stamp → now stamp ≡ owner stamp
  rises : c.loc.state.lasting.next_stamp ≤ m.cell.loc.state.lasting.next_stamp
  sent : is_database m.entry.actor ≡ true → AllByRecursion (IsTheirs now m.cell.loc.state.lasting.next_stamp) m.entry.sent
  gave : Gave now m.cell.loc.state

either : (owner : ℕ → Key) (b : Bool) (c : NodeCell) (x y : NodeMoved) → Gives owner c x → Gives owner c y → Gives owner c (cond b x y)
either owner true c x y h k = h
either owner false c x y h k = k

module _ (owner : ℕ → Key) (c : NodeCell) (h : Gave owner c.loc.state) where
  -- ---- other nodes

  others : (m : NodeMoved) → m.cell.loc ≡ c.loc → is_database m.entry.actor ≡ false → Gives owner c m
  others m same other = record {
    now = owner;
    stays = λ stamp below. refl;
    rises = subst (λ (l : LocHost). c.loc.state.lasting.next_stamp ≤ l.state.lasting.next_stamp) (sym same) (le_refl c.loc.state.lasting.next_stamp);
    sent = λ its. let no : true ≡ false = sym its ∙ other in absurd cc;
    gave = subst (λ (l : LocHost). Gave owner l.state) (sym same) h;
  }

  piece_on : (i : ℕ) (n : Node) (o : Option PieceCall) → Gives owner c (piece_timed c i n o)
  piece_on i n None = others _ refl refl
  piece_on i n (Some p) = others _ refl refl

  call_on : (i : ℕ) (n : Node) (o : Option BackCall) → Gives owner c (call_timed c i n o)
  call_on i n None = piece_on i n ((c.hosts i).state.vol.calls n)
  call_on i n (Some b) = others _ refl refl

  timed_on : (i : ℕ) (n : Node) (d : Option Fall) → Gives owner c (server_timed c i n d)
  timed_on i n None = call_on i n ((c.hosts i).state.file.backs.calls n)
  timed_on i n (Some fall) = others _ refl refl

  up_on : (i : ℕ) (s : HostStep NodeState) (d : Option Fall) → Gives owner c (server_up c i s d)
  up_on i s None = others _ refl refl
  up_on i s (Some fall) = others _ refl refl

  risen_on : (i : ℕ) (after : Bool) (o : Outcome) (d : Option Fall) → Gives owner c (server_restarted c i after o d)
  risen_on i after o None = others _ refl refl
  risen_on i after o (Some fall) = others _ refl refl

  begun_on : (n : ℕ) (act : Act) (o : Option Going) → Gives owner c (begun_by c n act o)
  begun_on n act None = others _ refl refl
  begun_on n act (Some other) = others _ refl refl

  sought_on : (n : ℕ) (o : Option Seek) → Gives owner c (sought_for c n o)
  sought_on n None = others _ refl refl
  sought_on n (Some k) = others _ refl refl

  waited_on : (n : ℕ) (o : Option Going) → Gives owner c (waited_by c n o)
  waited_on n None = sought_on n (c.clients n).client.seeking
  waited_on n (Some act) = others _ refl refl

  admin_begun_on : (n : ℕ) (act : AdminAct) (o : Option Running) → Gives owner c (admin_begun c n act o)
  admin_begun_on n act None = others _ refl refl
  admin_begun_on n act (Some other) = others _ refl refl

  admin_waited_on : (n : ℕ) (o : Option Running) → Gives owner c (admin_waited c n o)
  admin_waited_on n None = others _ refl refl
  admin_waited_on n (Some r) = others _ refl refl

  -- ---- the database

  loc_on : (s : HostStep LocState) (d : Option Fall) → Give owner c.loc.state s.host.state s.sent → Gives owner c (loc_up c s d)
  loc_on s None g = record { now = g.now; stays = g.stays; rises = g.rises; sent = λ its. g.sent; gave = g.gave }
  loc_on s (Some fall) g = others _ refl refl

  loc_risen : (after : Bool) (o : Outcome) (d : Option Fall) → Gives owner c (loc_restarted c after o d)
  loc_risen after o None = others _ refl refl
  loc_risen after o (Some fall) = loc_on (restarted loc_kind c.loc c.clock c.count after o fall) None (restart_gives owner c.loc c.clock c.count after o fall h)

  -- ---- every input

  to_on : (place : ℕ) (luck : Luck) (m : Message) (n : Node) → Gives owner c (given_to c place luck m n)
  to_on place luck m (Server i) = either owner (has_host c i) c _ _ (up_on i _ (c.hosts i).down) (others _ refl refl)
  to_on place luck m (Client n) = either owner (is_away c n) c _ _ (others _ refl refl) (others _ refl refl)
  to_on place luck m Loc = loc_on (served loc_kind c.loc c.clock place luck m) c.loc.down (serve_gives owner c.loc c.clock place luck m h)
  to_on place luck m (Admin n) = either owner (is_gone c n) c _ _ (others _ refl refl) (others _ refl refl)

  at_on : (place : ℕ) (luck : Luck) (o : Option Message) → Gives owner c (given_at c place luck o)
  at_on place luck None = others _ refl refl
  at_on place luck (Some m) = to_on place luck m m.head.to

  usual_on : (x : Input) → Gives owner c (usually_moved c x)
  unfolding usually_moved
  usual_on (begins n act) = either owner (is_away c n) c _ _ (others _ refl refl) (begun_on n act (act_of (c.clients n).client))
  usual_on (gives place luck) = at_on place luck (message_at c.sent place)
  usual_on (waits n) = either owner (is_away c n) c _ _ (others _ refl refl) (waited_on n (c.clients n).client.running)
  usual_on (ticks zero) = others _ refl refl
  usual_on (ticks (suc n)) = others _ refl refl
  usual_on (client_stops n) = either owner (is_away c n) c _ _ (others _ refl refl) (others _ refl refl)
  usual_on (client_starts n) = either owner (c.away n) c _ _ (others _ refl refl) (others _ refl refl)
  usual_on (stops zero) = loc_on (crashed loc_kind c.loc) c.loc.down (none_given owner c.loc.state h)
  usual_on (stops (suc i)) = either owner (has_host c (suc i)) c _ _ (up_on (suc i) _ (c.hosts (suc i)).down) (others _ refl refl)
  usual_on (starts_again zero after o) = loc_risen after o c.loc.down
  usual_on (starts_again (suc i) after o) = either owner (has_host c (suc i)) c _ _ (risen_on (suc i) after o (c.hosts (suc i)).down) (others _ refl refl)
  usual_on (sets_stop zero calls pick) = loc_on (set_to_stop loc_kind c.loc calls pick) c.loc.down (none_given owner c.loc.state h)
  usual_on (sets_stop (suc i) calls pick) = either owner (has_host c (suc i)) c _ _ (up_on (suc i) _ (c.hosts (suc i)).down) (others _ refl refl)
  usual_on (sets_fail zero call) = loc_on (set_to_fail loc_kind c.loc call) c.loc.down (none_given owner c.loc.state h)
  usual_on (sets_fail (suc i) call) = either owner (has_host c (suc i)) c _ _ (up_on (suc i) _ (c.hosts (suc i)).down) (others _ refl refl)
  usual_on (server_waits i n) = either owner (has_host c i) c _ _ (timed_on i n (c.hosts i).down) (others _ refl refl)
  usual_on (wakes i) = either owner (has_host c i) c _ _ (up_on i _ (c.hosts i).down) (others _ refl refl)
  usual_on nothing = others _ refl refl

  given_on : (x : CellInput) → Gives owner c (node_moved c x)
  given_on (usual x) = usual_on x
  given_on (admin_begins n act) = either owner (is_gone c n) c _ _ (others _ refl refl) (admin_begun_on n act (c.admins n).running)
  given_on (admin_waits n) = either owner (is_gone c n) c _ _ (others _ refl refl) (admin_waited_on n (c.admins n).running)
  given_on (admin_stops n) = either owner (is_gone c n) c _ _ (others _ refl refl) (others _ refl refl)
  given_on (admin_starts n) = either owner (c.gone n) c _ _ (others _ refl refl) (others _ refl refl)

-- ---- a run

-- whose the stamps are at its end: those that were drawn before it stay whose they were
record Led (owner : ℕ → Key) (c : NodeCell) (history : List Entry) (end : NodeCell) : Type 0 where
  now : ℕ → Key
  stays : (stamp : ℕ) → stamp < c.loc.state.lasting.next_stamp → now stamp ≡ owner stamp
  rises : c.loc.state.lasting.next_stamp ≤ end.loc.state.lasting.next_stamp
  theirs : AreTheirs now end.loc.state.lasting.next_stamp history

led : (owner : ℕ → Key) (c : NodeCell) (xs : List CellInput) (es : List Entry) (end : NodeCell) → Gave owner c.loc.state → NodeLeads c xs es end → Led owner c es end
led owner c [] [] end h is = record {
  now = owner;
  stays = λ stamp below. refl;
  rises = subst (λ (d : NodeCell). c.loc.state.lasting.next_stamp ≤ d.loc.state.lasting.next_stamp) (sym is) (le_refl c.loc.state.lasting.next_stamp);
  theirs = tt;
}
led owner c [] (e ∷ es) end h is = absurd is
led owner c (x ∷ xs) [] end h is = absurd is
led owner c (x ∷ xs) (e ∷ es) end h is =
    let one : Gives owner c (node_moved c x) = given_on owner c h x in
    let more : Led one.now (node_moved c x).cell es end = led one.now (node_moved c x).cell xs es end one.gave is.1 in
    record {
      now = more.now;
      stays = λ stamp below. let later : stamp < (node_moved c x).cell.loc.state.lasting.next_stamp = (let up : c.loc.state.lasting.next_stamp ≤ (node_moved c x).cell.loc.state.lasting.next_stamp = one.rises in omega (arith, below, up)) in
          more.stays stamp later ∙ one.stays stamp below;
      rises = le_trans one.rises more.rises;
      theirs = (
        λ its. weaker_all (IsTheirs one.now (node_moved c x).cell.loc.state.lasting.next_stamp) (IsTheirs more.now end.loc.state.lasting.next_stamp) e.sent (still_theirs one.now more.now _ _ more.rises more.stays)
            (subst (λ (y : Entry). is_database y.actor ≡ true → AllByRecursion (IsTheirs one.now (node_moved c x).cell.loc.state.lasting.next_stamp) y.sent) (sym is.0) one.sent its),
        more.theirs,
      );
    }

-- ---- at set-up the database has given none

pub given_once : StampsAreGivenOnce
given_once s inputs history end leads =
    let one = led (λ (stamp : ℕ). record { node = Loc; epoch = 0; number = 0 }) (node_start s) inputs history end (record { seats = tt; kept = tt }) leads in
    record { owner = one.now; theirs = one.theirs }
