-- The walk over the inputs of a cell: the numbers of acts, of calls and of entries are sound.
use Rattle.std.proofs.Common.{◌≡◌, ◌≤◌, ◌<◌, inl, inr, ℕ, suc, ◌+◌, Bool, true, false, List, [], ◌∷◌, ◌++◌, length, Option, Some, None, refl, sym, subst, arith, append-nil}
use Rattle.std.proofs.Math.Nat.{le_refl}
use Rattle.std.specs.List.{AllByRecursion}
use Rattle.afs_num.specs.declared.location_calls.LocCall.{LocCall}
use Rattle.afs_num.specs.declared.messages.Call.TheVariants as ask
use Rattle.afs_num.specs.declared.messages.Carried.TheVariants as carried
use Rattle.afs_num.specs.declared.messages.Message.{Message}
use Rattle.afs_num.specs.declared.messages.Received.TheVariants.{Whole}
use Rattle.afs_num.specs.declared.types.Head.{Head}
use Rattle.afs_num.specs.declared.types.Node.{Node}
use Rattle.afs_num.specs.declared.types.Node.TheVariants.{Admin, Client, Loc, Server}
use Rattle.spec_history.specs.declared.lines.Line.{Line}
use Rattle.spec_history.specs.declared.lines.Line.TheVariants as lines
use Rattle.spec_history.specs.declared.scripts.Script.{Script}
use Rattle.spec_history.specs.declared.scripts.VolumeLine.{VolumeLine}
use Rattle.spec_ideal.specs.Tables.{Table}
use Rattle.spec_records.specs.LocDurable.{first_id, listed_line}
use Rattle.spec_records.specs.LocRecords.{Listed}
use Rattle.spec_records.specs.Entries.{entry_of_line}
use Rattle.spec_copyrows.specs.CopyRow.{copies_reborn}
use Rattle.spec_copyrows.specs.Sites.{CopyState}
use Rattle.spec_history.specs.declared.scripts.AdminAct.{AdminAct}
use Rattle.afs_num.specs.declared.messages.Call.{Call}
use Rattle.spec_adminrows.specs.AdminRow.{admin_begin_row, admin_reborn, admin_row, admin_timeout_row, ask_head, ask_of, errand_of, AdminState}
use Rattle.spec_adminrows.specs.declared.turns.Running.{Running}
use Rattle.spec_rows.specs.Callbacks.{put}
use Rattle.spec_rows.specs.Hosts.{at_rest, begun_from, crashed, ends, in_boot, in_step, served_by, set_to_fail, set_to_stop, without_boot_record, struck, Blow, Fall, HostStep, Outcome}
use Rattle.spec_rows.specs.LocRow.{loc_can_start, loc_decides, loc_device_calls, LocState}
use Rattle.spec_rows.specs.LocSteps.{loc_kind, LocHost}
use Rattle.spec_rows.specs.Runs.{counts_later, first_entries, listed_by}
use Rattle.spec_rows.specs.Steps.{Begun, Step}
use Rattle.spec_volrows.specs.VolStates.{NodeState}
use Rattle.spec_runs.specs.NodeRuns.{admin_falls, admin_moves, admin_rises, client_falls, client_moves, client_rises, loc_stepped, node_moved, node_start, server_stepped, ticked, CellInput, NodeCell, NodeMoved}
use Rattle.law_legal.proofs.BaseLaws.{at_put}
use Rattle.law_places.specs.Accepting.{cell_behind}
use Rattle.law_walks.specs.Kinds.{IsGiven}
use Rattle.law_walks.specs.Messages.{AllAre, FallIs}
use Rattle.law_walks.specs.Sends.{AnswersAre, AsksIs, LocIs, SeatsAre, SentIs}
use Rattle.law_walks.proofs.AdminSends.{admin_begun, admin_given, admin_late, AdminSends}
use Rattle.law_walks.proofs.AllMessages.{all_are_first, all_put, next_all, next_sent}
use Rattle.law_walks.proofs.EachKind.{any_admin, any_client, any_server, each}
use Rattle.law_walks.proofs.LocSends.{loc_crashed, loc_fail_set, loc_stop_set, LocSends}
use Rattle.law_walks.proofs.Seats.{all_more, found_at, weaker_all, weaker_seats}
use Rattle.law_numbers.specs.Numbers.{next_volume, AreNumberedFrom, IsNumbered, IsSound, NumbersAreApart, PlaceIsSound, WritesSound}
use Rattle.law_numbers.proofs.Acting.{begun_goes, given_goes, late_goes, told_is, ActGoes}
use Rattle.law_numbers.proofs.Databases.{begun_on, ends_fell, ends_on, restart_sends, serve_fell, serve_on, serve_sends}
use Rattle.law_numbers.proofs.Drawing.{get_sound, same_on, set_sound, Drawn, DrawsOn, EntriesAre}
use Rattle.law_numbers.proofs.Knowing.{same_admin, still_known, CallFrom, GoesOn, Grows, IsUpTo, Known, KnownBy}
use Rattle.law_numbers.proofs.Leading.{asked, still_place, AsksSound}
use Rattle.law_numbers.proofs.Making.{client_known, rules, server_known, AnyDump, AnyMessage, MadeBy}

-- ---- a cell

abbrev ActsAre : NodeCell → Type 0
ActsAre c = (n : ℕ) (r : Running) → (c.admins n).running ≡ Some r → PlaceIsSound (next_volume c) r.place

record Numbered (c : NodeCell) : Type 0 where
  sent : AllByRecursion (Known c) c.sent
  loc : LocIs (Known c) c.loc.state
  fell : FallIs (Known c) c.loc.down
  admins : (n : ℕ) → SeatsAre (Known c) (c.admins n).seats
  acts : ActsAre c
  drawn : Drawn c.loc.state

weaker_fall : (c d : NodeCell) (o : Option Fall) → ((m : Message) → Known c m → Known d m) → FallIs (Known c) o → FallIs (Known d) o
weaker_fall c d None more h = tt
weaker_fall c d (Some at_rest) more h = tt
weaker_fall c d (Some (in_step m clock b)) more h = more m h
weaker_fall c d (Some in_boot) more h = tt

module _ (c : NodeCell) (h : Numbered c) where
  had_loc : (d : NodeCell) → Grows c d → LocIs (Known d) c.loc.state
  had_loc d up = record { seats = weaker_seats (Known c) (Known d) c.loc.state.seats (still_known c d up) h.loc.seats; kept = weaker_seats (Known c) (Known d) c.loc.state.lasting.kept (still_known c d up) h.loc.kept }

  had_seats : (d : NodeCell) → Grows c d → (n : ℕ) → SeatsAre (Known d) (c.admins n).seats
  had_seats d up n = weaker_seats (Known c) (Known d) (c.admins n).seats (still_known c d up) (h.admins n)

  had_fell : (d : NodeCell) → Grows c d → FallIs (Known d) c.loc.down
  had_fell d up = weaker_fall c d c.loc.down (still_known c d up) h.fell

  had_acts : (d : NodeCell) → Grows c d → (n : ℕ) (r : Running) → (c.admins n).running ≡ Some r → PlaceIsSound (next_volume d) r.place
  had_acts d up n r is = still_place (next_volume c) (next_volume d) up.next r.place (h.acts n r is)

  sent_on : (d : NodeCell) (ms : List Message) → Grows c d → AllByRecursion (Known d) ms → AllByRecursion (Known d) (c.sent ++ ms)
  sent_on d ms up new = all_more (Known d) c.sent ms (weaker_all (Known c) (Known d) c.sent (still_known c d up) h.sent) new

  -- where the administrators are as they were
  others_on : (d : NodeCell) → next_volume c ≤ next_volume d → d.admins ≡ c.admins → Grows c d
  others_on d next same = record { next = next; admins = λ n. subst (λ (f : ℕ → AdminState). GoesOn (c.admins n) (f n)) (sym same) (same_admin (c.admins n)) }

  -- where all that is looked at is as it was, but for messages of which something is known
  still_on : (d : NodeCell) (ms : List Message) → d.loc ≡ c.loc → d.admins ≡ c.admins → d.sent ≡ c.sent ++ ms → (Grows c d → AllByRecursion (Known d) ms) → Numbered d
  still_on d ms loc same sent new =
      let up : Grows c d = others_on d (subst (λ (l : LocHost). next_volume c ≤ l.state.lasting.next_id) (sym loc) (le_refl (next_volume c))) same in record {
        sent = subst (AllByRecursion (Known d)) (sym sent) (sent_on d ms up (new up));
        loc = subst (λ (l : LocHost). LocIs (Known d) l.state) (sym loc) (had_loc d up);
        fell = subst (λ (l : LocHost). FallIs (Known d) l.down) (sym loc) (had_fell d up);
        admins = subst (λ (f : ℕ → AdminState). (n : ℕ) → SeatsAre (Known d) (f n).seats) (sym same) (had_seats d up);
        acts = subst (λ (f : ℕ → AdminState). (n : ℕ) (r : Running) → (f n).running ≡ Some r → PlaceIsSound (next_volume d) r.place) (sym same) (had_acts d up);
        drawn = subst (λ (l : LocHost). Drawn l.state) (sym loc) h.drawn;
      }

  -- what its entry sent is of its node
  abbrev R : NodeMoved → Type 0
  R m = SentIs MadeBy m.entry → Numbered m.cell

  server_on : (i : ℕ) (s : HostStep NodeState) → R (server_stepped c i s)
  server_on i s made = let d : NodeCell = (server_stepped c i s).cell in still_on d s.sent refl refl refl (λ up. weaker_all (MadeBy (Server i)) (Known d) s.sent (server_known d i) made)

  client_on : (n : ℕ) (s : Step CopyState) → R (client_moves c n s)
  client_on n s made = let d : NodeCell = (client_moves c n s).cell in still_on d s.sent refl refl refl (λ up. weaker_all (MadeBy (Client n)) (Known d) s.sent (client_known d n) made)

  -- ---- the database

  loc_on : (s : HostStep LocState) → DrawsOn c.loc.state s.host.state → (Grows c (loc_stepped c s).cell → LocSends (Known (loc_stepped c s).cell) s) → (Grows c (loc_stepped c s).cell → FallIs (Known (loc_stepped c s).cell) s.host.down) → R (loc_stepped c s)
  loc_on s on sends fell made =
      let d : NodeCell = (loc_stepped c s).cell in
      let up : Grows c d = others_on d on.rises refl in
      let z : LocSends (Known d) s = sends up in record { sent = sent_on d s.sent up z.sent; loc = z.has; fell = fell up; admins = had_seats d up; acts = had_acts d up; drawn = on.drawn }

  heard : (place : ℕ) (m : Message) (n : Node) → IsGiven c place m n → Known c m
  heard place m n g = found_at (Known c) place c.sent m h.sent g.sent

  serves_on : (place : ℕ) (m : Message) (o : Option Blow) → Known c m → R (loc_stepped c (served_by loc_kind c.loc c.clock place m o))
  serves_on place m o known =
      let d : NodeCell = (loc_stepped c (served_by loc_kind c.loc c.clock place m o)).cell in
      loc_on (served_by loc_kind c.loc c.clock place m o) (serve_on c h.drawn h.acts c.clock place m known o)
      (λ up. serve_sends c h.drawn h.acts c.clock place m known o up.next (had_loc d up) (still_known c d up m known)) (λ up. serve_fell c h.drawn h.acts c.clock place m known o (still_known c d up m known))

  down_known : (fall : Fall) → c.loc.down ≡ Some fall → FallIs (Known c) (Some fall)
  down_known fall down = subst (FallIs (Known c)) down h.fell

  restarts_on : (after : Bool) (fall : Fall) (o : Outcome) → c.loc.down ≡ Some fall → R (loc_stepped c (ends loc_kind c.loc c.clock c.count (begun_from loc_kind c.loc.state after fall) fall o))
  restarts_on after fall o down =
      let f : Begun LocState = begun_from loc_kind c.loc.state after fall in
      let s : HostStep LocState = ends loc_kind c.loc c.clock c.count f fall o in
      let d : NodeCell = (loc_stepped c s).cell in
      let known : FallIs (Known c) (Some fall) = down_known fall down in
      loc_on s (ends_on c h.drawn h.acts c.clock c.count f fall o (begun_on c h.drawn h.acts after fall known))
      (λ up. restart_sends c h.drawn h.acts c.clock c.count after fall o known up.next (had_loc d up) (weaker_fall c d (Some fall) (still_known c d up) known))
      (λ up. ends_fell c h.drawn h.acts c.clock c.count d f fall o (weaker_fall c d (Some fall) (still_known c d up) known))

  -- ---- administrators

  module _ (n : ℕ) (s : Step AdminState) (goes : ActGoes (next_volume c) (c.admins n) s) where
    abbrev d : NodeCell
    d = (admin_moves c n s).cell

    up : Grows c d
    up = record { next = le_refl (next_volume c); admins = all_put n (λ (j : ℕ) (x : AdminState). GoesOn (c.admins j) x) s.state c.admins goes.on (λ j. same_admin (c.admins j)) }

    -- what it asks then
    its_pair : (x : AdminState) → s.state ≡ x → IsUpTo s.state.epoch s.state.last x
    its_pair x same = subst (λ (y : AdminState). IsUpTo s.state.epoch s.state.last y) same (inr (refl, le_refl s.state.last))

    call_known : (head : Head) (q : Call) → CallFrom d head head.from → AsksSound (next_volume d) q → KnownBy d head (carried.Call [] q)
    call_known head (ask.Location call) from sound = (sound, from)
    call_known head (ask.File call) from sound = tt
    call_known head (ask.Volume call) from sound = tt

    asks : AsksIs (Known d) (Admin n) s.state
    asks r is =
        let at : s.state ≡ d.admins n = at_put n n (λ (x : AdminState). s.state ≡ x) s.state c.admins (λ one. refl) (λ other. absurd (other refl)) in
        call_known (ask_head (Admin n) s.state (ask_of s.state r)) (ask_of s.state r).call (its_pair (d.admins n) at) (asked (next_volume d) (errand_of s.state r.act) r.place (goes.sound r is))

    admin_on : (AsksIs (Known d) (Admin n) s.state → SeatsAre (Known d) (c.admins n).seats → AdminSends (Known d) s) → R (admin_moves c n s)
    admin_on k made =
        let z : AdminSends (Known d) s = k asks (had_seats d up n) in record {
          sent = sent_on d s.sent up z.sent;
          loc = had_loc d up;
          fell = had_fell d up;
          admins = all_put n (λ (j : ℕ) (x : AdminState). SeatsAre (Known d) x.seats) s.state c.admins z.seats (had_seats d up);
          acts = all_put n (λ (j : ℕ) (x : AdminState). (r : Running) → x.running ≡ Some r → PlaceIsSound (next_volume d) r.place) s.state c.admins goes.sound (had_acts d up);
          drawn = h.drawn;
        }

  -- one that begins again, and one that goes on
  next_epoch : (n : ℕ) → n < n + 1
  next_epoch n = omega (arith)

  reborn_goes : (n : ℕ) (ls : List Line) (ms : List Message) → ActGoes (next_volume c) (c.admins n) (record { state = admin_reborn (c.admins n); lines = ls; sent = ms })
  reborn_goes n ls ms = record { on = inl (inl (next_epoch (c.admins n).epoch)); sound = λ r is. absurd cc }

  same_goes : (n : ℕ) (ls : List Line) (ms : List Message) → ActGoes (next_volume c) (c.admins n) (record { state = c.admins n; lines = ls; sent = ms })
  same_goes n ls ms = record { on = same_admin (c.admins n); sound = h.acts n }

admin_answers : (d : NodeCell) (n boot : ℕ) → AnswersAre (Known d) (Admin n) boot
admin_answers d n boot = record { notice = λ head to. tt; refusal = λ head code to. tt }

-- who is down, and the clock, matter to none of it
gone_on : (d : NodeCell) (gone : ℕ → Bool) → Numbered d → Numbered (record d { gone = gone })
gone_on d gone k = still_on d k (record d { gone = gone }) [] refl refl (sym (append-nil d.sent)) (λ up. tt)

away_on : (d : NodeCell) (away : ℕ → Bool) → Numbered d → Numbered (record d { away = away })
away_on d away k = still_on d k (record d { away = away }) [] refl refl (sym (append-nil d.sent)) (λ up. tt)

module _ (c : NodeCell) (h : Numbered c) where
  begins_on : (n : ℕ) (act : AdminAct) → R c h (admin_moves c n (admin_begin_row (Admin n) (c.admins n) act))
  begins_on n act =
      let s : Step AdminState = admin_begin_row (Admin n) (c.admins n) act in
      admin_on c h n s (begun_goes (next_volume c) (Admin n) (c.admins n) (h.acts n) act) (λ asks seats. admin_begun (Known (admin_moves c n s).cell) (Admin n) (c.admins n) seats act asks)

  given_on : (n place : ℕ) (m : Message) → IsGiven c place m (Admin n) → R c h (admin_moves c n (admin_row (Admin n) (c.admins n) place (Whole m)))
  given_on n place m g =
      let s : Step AdminState = admin_row (Admin n) (c.admins n) place (Whole m) in
      let d : NodeCell = (admin_moves c n s).cell in
      admin_on c h n s (given_goes (next_volume c) (Admin n) (c.admins n) (h.acts n) place m (told_is c n m (heard c h place m (Admin n) g) g.to))
      (λ asks seats. admin_given (Known d) (Admin n) (c.admins n) seats place m (admin_answers d n _) asks)

  late_on : (n : ℕ) (r : Running) → (c.admins n).running ≡ Some r → R c h (admin_moves c n (admin_timeout_row (Admin n) (c.admins n) r))
  late_on n r is =
      let s : Step AdminState = admin_timeout_row (Admin n) (c.admins n) r in
      admin_on c h n s (late_goes (next_volume c) (Admin n) (c.admins n) (h.acts n) r is) (λ asks seats. admin_late (Known (admin_moves c n s).cell) (Admin n) (c.admins n) seats r is asks)

  falls_on : (n : ℕ) → R c h (admin_falls c n)
  falls_on n made =
      let s : Step AdminState = record { state = admin_reborn (c.admins n); lines = lines.Crash (Admin n) ∷ []; sent = [] } in
      gone_on (admin_moves c n s).cell _ (admin_on c h n s (reborn_goes c h n (lines.Crash (Admin n) ∷ []) []) (λ asks seats. record { seats = tt; sent = tt }) tt)

  rises_on : (n : ℕ) → R c h (admin_rises c n)
  rises_on n made =
      let s : Step AdminState = record { state = c.admins n; lines = lines.Restart (Admin n) (c.admins n).epoch ∷ []; sent = [] } in
      gone_on (admin_moves c n s).cell _ (admin_on c h n s (same_goes c h n (lines.Restart (Admin n) (c.admins n).epoch ∷ []) []) (λ asks seats. record { seats = seats; sent = tt }) tt)

  client_falls_on : (n : ℕ) → R c h (client_falls c n)
  client_falls_on n made =
      let s : Step CopyState = record { state = copies_reborn c.handed (c.clients n); lines = lines.Crash (Client n) ∷ []; sent = [] } in away_on (client_moves c n s).cell _ (client_on c h n s tt)

  client_rises_on : (n : ℕ) → R c h (client_rises c n)
  client_rises_on n made =
      let s : Step CopyState = record { state = c.clients n; lines = lines.Restart (Client n) (c.clients n).client.epoch ∷ []; sent = [] } in away_on (client_moves c n s).cell _ (client_on c h n s tt)

  next : (x : CellInput) → R c h (node_moved c x)
  next x = each (R c h) c (record {
    void = λ made. h;
    ticks = λ n made. still_on c h (ticked c (suc n)).cell [] refl refl (sym (append-nil c.sent)) (λ up. tt);
    servers = any_server (R c h) c (server_on c h);
    database = record {
      serves = λ place luck m up g. serves_on c h place m (struck c.loc.armed luck (loc_device_calls c.loc.state (loc_decides c.loc.state (Whole m)))) (heard c h place m Loc g);
      crashes = λ up. loc_on c h (crashed loc_kind c.loc) (same_on c.loc.state h.drawn) (λ grown. loc_crashed _ c.loc (had_loc c h _ grown)) (λ grown. tt);
      stop_set = λ calls pick up. loc_on c h (set_to_stop loc_kind c.loc calls pick) (same_on c.loc.state h.drawn) (λ grown. loc_stop_set _ c.loc (had_loc c h _ grown) calls pick) (λ grown. had_fell c h _ grown);
      fail_set = λ call up. loc_on c h (set_to_fail loc_kind c.loc call) (same_on c.loc.state h.drawn) (λ grown. loc_fail_set _ c.loc (had_loc c h _ grown) call) (λ grown. had_fell c h _ grown);
      restarts = λ after o fall down. restarts_on c h after fall (without_boot_record (loc_can_start (begun_from loc_kind c.loc.state after fall).state) o) down;
    };
    clients = any_client (R c h) c (client_on c h) client_falls_on client_rises_on;
    admins = record {
      begins = λ n act up idle. begins_on n act;
      given = λ n place m up g. given_on n place m g;
      late = λ n r up is. late_on n r is;
      stops = λ n up. falls_on n;
      starts = λ n gone. rises_on n;
    };
  }) x

  -- no number is drawn twice
  abbrev Rises : NodeMoved → Type 0
  Rises m = next_volume c ≤ next_volume m.cell

  rises : (x : CellInput) → Rises (node_moved c x)
  rises x = each Rises c (record {
    void = le_refl (next_volume c);
    ticks = λ n. le_refl (next_volume c);
    servers = any_server Rises c (λ i s. le_refl (next_volume c));
    database = record {
      serves = λ place luck m up g. (serve_on c h.drawn h.acts c.clock place m (heard c h place m Loc g) (struck c.loc.armed luck (loc_device_calls c.loc.state (loc_decides c.loc.state (Whole m))))).rises;
      crashes = λ up. le_refl (next_volume c);
      stop_set = λ calls pick up. le_refl (next_volume c);
      fail_set = λ call up. le_refl (next_volume c);
      restarts = λ after o fall down.
          let f : Begun LocState = begun_from loc_kind c.loc.state after fall in
          (ends_on c h.drawn h.acts c.clock c.count f fall (without_boot_record (loc_can_start f.state) o) (begun_on c h.drawn h.acts after fall (down_known c h fall down))).rises;
    };
    clients = any_client Rises c (λ n s. le_refl (next_volume c)) (λ n. le_refl (next_volume c)) (λ n. le_refl (next_volume c));
    admins = any_admin Rises c (λ n s. le_refl (next_volume c)) (λ n. le_refl (next_volume c)) (λ n. le_refl (next_volume c));
  }) x

-- ---- set-up

listed_sound : (next : ℕ) (b : Bool) (v : VolumeLine) (t : Table Listed) → IsSound next (entry_of_line v) → EntriesAre next t → EntriesAre next (listed_by b v t)
listed_sound next true v t h all = all
listed_sound next false v t h all = set_sound next v.id (listed_line v) t h all

line_sound : (next n : ℕ) (v : VolumeLine) → v.id ≡ n → 1 ≤ n → n < next → IsSound next (entry_of_line v)
line_sound next n v is low high = ((omega (arith, is, low), omega (arith, is, high)), λ e. omega (arith, is, low, e))

entries_sound : (n : ℕ) (vs : List VolumeLine) (next : ℕ) → 1 ≤ n → n + length vs ≤ next → AreNumberedFrom n vs → EntriesAre next (first_entries vs)
entries_sound n [] next low high numbered = tt
entries_sound n (v ∷ vs) next low high numbered =
    listed_sound next (counts_later v.id vs) v (first_entries vs) (line_sound next n v numbered.0 low (omega (arith, high))) (entries_sound (n + 1) vs next (omega (arith, low)) (omega (arith, high)) numbered.1)

first_numbered : (s : Script) → IsNumbered s → Numbered (node_start s)
first_numbered s is = record {
  sent = tt;
  loc = record { seats = tt; kept = tt };
  fell = tt;
  admins = λ n. tt;
  acts = λ n r run. absurd cc;
  drawn = record { first = omega (arith); entries = entries_sound first_id s.volumes (first_id + length s.volumes) (omega (arith)) (le_refl (first_id + length s.volumes)) is };
}

-- ---- a run

record Led (c : NodeCell) : Type 0 where
  messages : AllAre MadeBy AnyDump AnyMessage c
  numbered : Numbered c

led : (c : NodeCell) (xs : List CellInput) → Led c → Led (cell_behind c xs)
led c [] h = h
led c (x ∷ xs) h = led (node_moved c x).cell xs (record { messages = next_all MadeBy AnyDump AnyMessage rules c h.messages x; numbered = next c h.numbered x (next_sent MadeBy AnyDump AnyMessage rules c h.messages x) })

call_of : (c : NodeCell) (m : Message) (user : List ℕ) (call : LocCall) → Known c m → m.carried ≡ carried.Call user (ask.Location call) → WritesSound (next_volume c) call
call_of c m user call known is = (subst (KnownBy c m.head) is known).0

numbered : (s : Script) (inputs : List CellInput) → IsNumbered s → Numbered (cell_behind (node_start s) inputs)
numbered s inputs is = (led (node_start s) inputs (record { messages = all_are_first MadeBy AnyDump AnyMessage rules s; numbered = first_numbered s is })).numbered

pub drawn_on : (s : Script) (inputs : List CellInput) (x : CellInput) → IsNumbered s → next_volume (cell_behind (node_start s) inputs) ≤ next_volume (node_moved (cell_behind (node_start s) inputs) x).cell
drawn_on s inputs x is = rises (cell_behind (node_start s) inputs) (numbered s inputs is) x

pub are_apart : NumbersAreApart
are_apart s inputs is =
    let c : NodeCell = cell_behind (node_start s) inputs in
    let h : Numbered c = numbered s inputs is in
    record {
      acts = h.acts;
      calls = λ place m user call at carries. call_of c m user call (found_at (Known c) place c.sent m h.sent at) carries;
      entries = λ k l at. get_sound (next_volume c) k c.loc.state.lasting.entries l h.drawn.entries at;
    }
