-- The walk over a history, where breaks are settled.
use Rattle.std.proofs.Common.{◌≡◌, ℕ, ◌+◌, Bool, true, false, cond, List, [], ◌∷◌, ◌++◌, Option, Some, None, refl, sym, ap, subst, ◌∙◌}
use Rattle.std.specs.List.{AllByRecursion}
use Rattle.std.specs.Prelude.{⊤, map}
use Rattle.afs_num.specs.declared.histories.Actor.{Actor}
use Rattle.afs_num.specs.declared.histories.Actor.TheVariants as actors
use Rattle.afs_num.specs.declared.messages.Message.{Message}
use Rattle.afs_num.specs.declared.messages.Received.TheVariants.{Whole}
use Rattle.afs_num.specs.declared.types.Node.{Node}
use Rattle.afs_num.specs.declared.types.Node.TheVariants.{Admin, Client, Loc, Server}
use Rattle.spec_history.specs.declared.lines.Line.{Line}
use Rattle.spec_history.specs.declared.lines.Line.TheVariants as lines
use Rattle.spec_history.specs.declared.scripts.Script.{Script}
use Rattle.law_legal.specs.Ideal.{set_up_entry}
use Rattle.law_legal.specs.Past.{sent_of}
use Rattle.spec_adminrows.specs.AdminRow.{admin_begin_row, admin_row, admin_timeout_row, AdminState}
use Rattle.spec_copyrows.specs.CopyRow.{copy_begin_row, copy_row, copy_seek_row, copy_timeout_row}
use Rattle.spec_copyrows.specs.Sites.{CopyState}
use Rattle.spec_rows.specs.LocRow.{LocState}
use Rattle.spec_fold.specs.Effects.{vanished_lines}
use Rattle.spec_rows.specs.Callbacks.{expired, owe_line, risen_turn}
use Rattle.spec_rows.specs.Hosts.{begun_from, comes_up, ends, fails_early, fails_midway, fall_line, is_full, restarted, served_by, struck, without_boot_record, Blow, Fall, HostStep, Outcome}
use Rattle.spec_rows.specs.Runs.{message_at, Entry}
use Rattle.spec_rows.specs.ServerSteps.{wake_row}
use Rattle.spec_rows.specs.Steps.{Begun, Step}
use Rattle.spec_volrows.specs.FileRow.{file_start}
use Rattle.spec_volrows.specs.NodeHosts.{node_kind, NodeHost}
use Rattle.spec_volrows.specs.VolStates.{NodeState}
use Rattle.spec_volrows.specs.VolSteps.{node_start_row, node_wake_row}
use Rattle.spec_runs.specs.NodeRuns.{node_moved, node_start, CellInput, NodeCell, NodeLeads, NodeMoved}
use Rattle.law_latest.proofs.AdminLines as admins
use Rattle.law_latest.proofs.AdminLines.{AdminTells}
use Rattle.law_latest.proofs.CopyLines.{copy_begun_tells, copy_missed_tells, copy_tells, copy_waited_tells, CopyTells}
use Rattle.law_latest.proofs.LocLines.{database_tells, loc_crashed, loc_fail_set, loc_restarted, loc_served, loc_stop_set, LocTells}
use Rattle.law_places.proofs.Turning.{all_lines, all_on}
use Rattle.law_walks.proofs.AllMessages.{all_are_first, next_all}
use Rattle.law_walks.proofs.EachKind.{each}
use Rattle.law_walks.proofs.Seats.{found_at}
use Rattle.law_walks.proofs.Senders.{senders_are_told}
use Rattle.law_walks.specs.Kinds.{Each, IsGiven}
use Rattle.law_walks.specs.Messages.{AllAre, HaveSenders, IsOf}
use Rattle.law_owed.proofs.NodeSteps.{NodeOwes}
use Rattle.law_owed.proofs.Walk.{first_owes, steps_each, CellOwes, Goes, Steps}
use Rattle.law_settled.proofs.Following.{admin_breakless, begins_breakless, breakless_no_settle, client_breakless, database_breakless, is_no_settle, late_no_settle, no_settle_follow, owes_no_settle, piece_no_settle, row_follows, BeginsBreakless, NoSettle}
use Rattle.law_settled.proofs.Handled.{answered_first, answered_on, CellAnswers, IsAnswered}
use Rattle.law_settled.proofs.Operations.{operations, IsMadeBy, IsMadeByServer, IsSentFor}
use Rattle.law_settled.proofs.Settling.{Hears}
use Rattle.law_settled.proofs.VolLines.{vanished_told}
use Rattle.law_settled.specs.Settles.{AreSettledBehindDrops, FollowDrop, SettleBehindDrops, SettlesFollowDrops}

-- what holds of the cell behind these entries
record CellSettles (c : NodeCell) (es : List Entry) : Type 0 where
  owes : CellOwes c es
  answers : CellAnswers c es
  made : AllAre IsMadeBy IsSentFor IsMadeByServer c

record Follows (es : List Entry) (m : NodeMoved) : Type 0 where
  right : FollowDrop m.entry.actor es [] m.entry.lines

client_plain : (s : Step CopyState) → CopyTells s → NoSettle s.lines
client_plain s h = breakless_no_settle s.lines (client_breakless s.lines h.told)

admin_plain : (s : Step AdminState) → AdminTells s → NoSettle s.lines
admin_plain s h = breakless_no_settle s.lines (admin_breakless s.lines h.told)

database_plain : (s : HostStep LocState) → LocTells s → NoSettle s.lines
database_plain s h = breakless_no_settle s.lines (database_breakless s.lines h.told)

-- ---- a restart

front_no_settle : (pre ls : List Line) (more : List Line) → more ≡ pre ++ ls → NoSettle pre → NoSettle ls → NoSettle more
front_no_settle pre ls more is h k = subst NoSettle (sym is) (all_on is_no_settle pre ls h k)

risen_no_settle : (me : Node) (h : NodeHost) (clock count : ℕ) (f : Begun NodeState) (fall : Fall) (o : Outcome) → BeginsBreakless f → NoSettle (ends (node_kind me) h clock count f fall o).lines
unfolding node_start_row file_start
risen_no_settle me h clock count f fall comes_up b =
    front_no_settle b.pre (lines.Restart me (f.state.file.lasting.boot + 1) ∷ (vanished_lines me f.state.file.lasting.volumes ++ (risen_turn me clock count).lines)) _ (b.before _) (breakless_no_settle b.pre b.plain)
    (all_on is_no_settle (vanished_lines me f.state.file.lasting.volumes) (risen_turn me clock count).lines (breakless_no_settle (vanished_lines me f.state.file.lasting.volumes) (vanished_told me f.state.file.lasting.volumes)) (owes_no_settle me (risen_turn me clock count).backs.lists.owed))
risen_no_settle me h clock count f fall fails_early b = refl
risen_no_settle me h clock count f fall fails_midway b = front_no_settle b.pre (lines.Fault me ∷ []) _ (b.before _) (breakless_no_settle b.pre b.plain) refl
risen_no_settle me h clock count f fall is_full b = front_no_settle b.pre (lines.Full me ∷ []) _ (b.before _) (breakless_no_settle b.pre b.plain) refl

restarted_no_settle : (me : Node) (h : NodeHost) (clock count : ℕ) (after : Bool) (o : Outcome) (fall : Fall) → NoSettle (restarted (node_kind me) h clock count after o fall).lines
restarted_no_settle me h clock count after o fall =
    risen_no_settle me h clock count (begun_from (node_kind me) h.state after fall) fall (without_boot_record ((node_kind me).can_start (begun_from (node_kind me) h.state after fall).state) o) (begins_breakless me h.state after fall)

woken_no_settle : (me : Node) (s : NodeState) (clock : ℕ) → NoSettle (node_wake_row me s clock).lines
unfolding node_wake_row wake_row
woken_no_settle me s clock = refl

-- ---- a message

module _ (c : NodeCell) (es : List Entry) (h : CellSettles c es) where
  hears : (i place : ℕ) (m : Message) → (c.hosts i).down ≡ None → IsGiven c place m (Server i) → Hears i (c.hosts i).state.file.lasting.boot (c.hosts i).state.file.backs.last_call (expired c.clock (c.hosts i).state.file.backs) es place m
  hears i place m up g =
      let own : NodeOwes (Server i) None (c.hosts i).state es = subst (λ (d : Option Fall). NodeOwes (Server i) d (c.hosts i).state es) up (h.owes i) in
      let owes = own.owes refl in
      let given : message_at (sent_of es) place ≡ Some m = subst (λ (ms : List Message). message_at ms place ≡ Some m) (sym h.answers.sent) g.sent in
      record {
        outs = λ j k at. owes.outs j k at;
        alone = λ j k at. own.alone refl j k at;
        made = subst (AllByRecursion IsMadeByServer) (sym h.answers.sent) h.made.sent;
        given = given;
        handled = λ n from to code. found_at (IsAnswered es) place (sent_of es) m h.answers.answered given i n from to code;
      }

  served_follows : (i place : ℕ) (m : Message) (o : Option Blow) → (c.hosts i).down ≡ None → IsGiven c place m (Server i) → FollowDrop (actors.Node (Server i)) es [] (served_by (node_kind (Server i)) (c.hosts i) c.clock place m o).lines
  served_follows i place m None up g = row_follows i (c.hosts i).state c.clock place m es (hears i place m up g)
  served_follows i place m (Some b) up g = no_settle_follow (actors.Node (Server i)) es [] (lines.Given place ∷ fall_line (Server i) b.stops ∷ []) (struck_by b.stops)
    where
      struck_by : (stops : Bool) → NoSettle (lines.Given place ∷ fall_line (Server i) stops ∷ [])
      struck_by true = refl
      struck_by false = refl

  plain : (m : NodeMoved) → NoSettle m.entry.lines → Follows es m
  plain m none = record { right = no_settle_follow m.entry.actor es [] m.entry.lines none }

  follows_each : Each (Follows es) c
  follows_each = record {
    void = plain _ refl;
    ticks = λ n. plain _ refl;
    servers = record {
      serves = λ i place luck m up g. record { right = served_follows i place m (struck (c.hosts i).armed luck _) up.up g };
      crashes = λ i up. plain _ refl;
      stop_set = λ i calls pick up. plain _ refl;
      fail_set = λ i call up. plain _ refl;
      restarts = λ i after o fall there down. plain _ (restarted_no_settle (Server i) (c.hosts i) c.clock c.count after o fall);
      piece_late = λ i n p up is. plain _ (piece_no_settle (Server i) (c.hosts i).state c.clock n p);
      break_late = λ i n b up is. plain _ (late_no_settle (Server i) (c.hosts i).state c.clock n b);
      wakes = λ i up. plain _ (woken_no_settle (Server i) (c.hosts i).state c.clock);
    };
    database = record {
      serves = λ place luck m up g. plain _ (database_plain _ (loc_served c.loc c.clock place luck m));
      crashes = λ up. plain _ (database_plain _ (loc_crashed c.loc));
      stop_set = λ calls pick up. plain _ (database_plain _ (loc_stop_set c.loc calls pick));
      fail_set = λ call up. plain _ (database_plain _ (loc_fail_set c.loc call));
      restarts = λ after o fall down. plain _ (database_plain _ (loc_restarted c.loc c.clock c.count after o fall));
    };
    clients = record {
      begins = λ n act up idle. plain _ (client_plain _ (copy_begun_tells (Client n) (c.clients n) c.clock act));
      given = λ n place m up g. plain _ (client_plain _ (copy_tells (Client n) (c.clients n) c.clock place m));
      seek_late = λ n k up is. plain _ (client_plain _ (copy_missed_tells (Client n) (c.clients n) k));
      late = λ n act up is. plain _ (client_plain _ (copy_waited_tells (Client n) (c.clients n) act));
      stops = λ n up. plain _ refl;
      starts = λ n away. plain _ refl;
    };
    admins = record {
      begins = λ n act up idle. plain _ (admin_plain _ (admins.begun_tells (Admin n) (c.admins n) act));
      given = λ n place m up g. plain _ (admin_plain _ (admins.given_tells (Admin n) (c.admins n) place m));
      late = λ n r up is. plain _ (admin_plain _ (admins.waited_tells (Admin n) (c.admins n) r));
      stops = λ n up. plain _ refl;
      starts = λ n gone. plain _ refl;
    };
  }

-- ---- a run

goes_on : (c : NodeCell) (xs : List CellInput) (history : List Entry) (end : NodeCell) (older : List Entry) → NodeLeads c xs history end → HaveSenders history → CellSettles c older → SettleBehindDrops older history
goes_on c [] [] end older is senders h = tt
goes_on c [] (e ∷ es) end older is senders h = absurd is
goes_on c (x ∷ xs) [] end older is senders h = absurd is
goes_on c (x ∷ xs) (e ∷ es) end older is senders h =
    let m : NodeMoved = node_moved c x in
    let own : (n : Node) → m.entry.actor ≡ actors.Node n → AllByRecursion (IsOf n) m.entry.sent = subst (λ (y : Entry). (n : Node) → y.actor ≡ actors.Node n → AllByRecursion (IsOf n) y.sent) is.0 senders.0 in
    let g : Goes older m = each (Steps older) c (steps_each c older h.owes) x own in
    let f : Follows older m = each (Follows older) c (follows_each c older h) x in
    subst (λ (y : Entry). SettleBehindDrops older (y ∷ es)) (sym is.0)
    (f.right, goes_on m.cell xs es end (m.entry ∷ older) is.1 senders.1 (record { owes = g.owes; answers = answered_on c older x h.answers own; made = next_all IsMadeBy IsSentFor IsMadeByServer operations c h.made x }))

pub settles_follow : SettlesFollowDrops
settles_follow s inputs history end leads =
    goes_on (node_start s) inputs history end (set_up_entry s ∷ []) leads (senders_are_told s inputs history end leads) (record { owes = first_owes s; answers = answered_first s; made = all_are_first IsMadeBy IsSentFor IsMadeByServer operations s })
