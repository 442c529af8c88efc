-- The walk over the inputs of a cell: what is so of a volume at a server, and wasn't, was made so by a record that a call wrote there.
use Rattle.std.proofs.Common.{◌≡◌, ◌⊎◌, inl, inr, ℕ, suc, Bool, true, false, cond, List, [], ◌∷◌, ◌++◌, ◌+◌, ◌<◌, Option, Some, None, refl, sym, ap, subst, ◌∙◌, arith, eqb-true, eq-eqb, append-nil}
use Rattle.std.specs.Prelude.{⊤, ◌&&◌, filter, nat_eq, if◌then◌else◌}
use Rattle.afs_num.specs.declared.messages.Call.TheVariants as ask
use Rattle.afs_num.specs.declared.messages.Carried.TheVariants as carried
use Rattle.afs_num.specs.declared.messages.Message.{Message}
use Rattle.afs_num.specs.declared.messages.Received.TheVariants.{Whole}
use Rattle.afs_num.specs.declared.records.RecordBody.{RecordBody}
use Rattle.afs_num.specs.declared.records.RecordBody.TheVariants as bodies
use Rattle.afs_num.specs.declared.types.Head.{Head}
use Rattle.afs_num.specs.declared.types.Node.{Node}
use Rattle.afs_num.specs.declared.types.Node.TheVariants.{Server}
use Rattle.spec_ideal.specs.Tables.{get, set, AscendsFrom, Table}
use Rattle.spec_ideal.proofs.Tables.{get_set}
use Rattle.spec_history.specs.declared.scripts.Script.{Script}
use Rattle.law_legal.proofs.BaseLaws.{at_more, at_put}
use Rattle.spec_records.specs.Durable.{Durable, Stored}
use Rattle.spec_fold.specs.Deeds.{can_take, done_by}
use Rattle.spec_rows.specs.Hosts.{at_rest, begun_from, comes_up, crashed, ends, fails_early, fails_midway, in_boot, in_step, is_full, restarted, served_by, set_to_fail, set_to_stop, without_boot_record, struck, Blow, Fall, HostStep, Outcome}
use Rattle.spec_rows.specs.Runs.{message_at}
use Rattle.spec_rows.specs.ServerHosts.{can_start}
use Rattle.spec_rows.specs.ServerRow as files
use Rattle.spec_rows.specs.ServerRow.{begun_after, does, is_unflagged, stored_by, Change, Decision}
use Rattle.spec_rows.specs.ServerSteps.{back_timeout_row, wake_row}
use Rattle.spec_rows.specs.States.{durable_of, BackCall, Lasting, ServerState}
use Rattle.spec_rows.specs.Steps.{Begun}
use Rattle.spec_volrows.specs.FileRow.{file_decides, file_row, file_start}
use Rattle.spec_volrows.specs.NodeHosts.{node_kind, node_timed_out, node_woken, piece_timed_out, NodeHost}
use Rattle.spec_volrows.specs.VolLaws.{is_saved, IsWritable, OfSaved, ShowsDeed}
use Rattle.spec_volrows.specs.VolRow.{holds_of}
use Rattle.spec_volrows.specs.VolStates.{NodeState, PieceCall}
use Rattle.spec_volrows.specs.VolSteps.{dispatches, drops, is_of_client, node_back_timeout_row, node_begun_after, node_device_calls, node_file_decides, node_row, node_start_row, node_wake_row, repeats, replies_to, saves, tells_boot, vol_begun_after, vol_decides, Deed, VolDecision}
use Rattle.spec_volrows.proofs.VolKeeping.{deeds_are_writable}
use Rattle.spec_volrows.proofs.VolTurns.{deeds_are_shown, others_leave_files}
use Rattle.spec_runs.specs.NodeRuns.{has_host, admin_falls, admin_moves, admin_rises, client_falls, client_moves, client_rises, loc_stepped, node_moved, node_start, server_stepped, ticked, CellInput, NodeCell, NodeMoved}
use Rattle.law_walks.specs.Kinds.{IsGiven}
use Rattle.law_walks.specs.Messages.{FallIs}
use Rattle.law_walks.proofs.EachKind.{any_admin, any_client, any_database, each}
use Rattle.law_walks.proofs.Seats.{found_at}
use Rattle.law_places.specs.Accepting.{cell_behind}
use Rattle.law_places.proofs.Choices.{decided_open, Chooses}
use Rattle.law_places.proofs.FirstVolumes.{first_ascends}
use Rattle.law_places.proofs.ServerLines.{back_moves, piece_moves, restart_moves, row_moves, volumes_of, woken_moves, CutCopies, SavesCopies}
use Rattle.law_places.proofs.Shifting.{IsCopy}
use Rattle.law_fences.specs.Fences.{disk_at}
use Rattle.law_families.specs.Enables.{IsCutIn}
use Rattle.law_families.proofs.Making.{Fits}
use Rattle.law_families.proofs.Turns.{deed_volumes, IsWell}
use Rattle.law_families.proofs.Verdicts.{decided_keeps, Keeps}
use Rattle.law_families.proofs.Volumes.{IsFit}
use Rattle.law_families.proofs.Walk.{first_stands, next, up_well, AllStand, WellBy}

-- T is asked of what stands under a volume's number. The changes of file servers leave it, and so does a start where it isn't so. A record that
-- makes it so, where this is on the disk, is one of these.
pub record Turning (T : ℕ → Option Stored → Bool) (Turns : Durable → RecordBody → ℕ → Type 0) : Type 0 where
  pub changes : (clock volume : ℕ) (c : Change) → T volume (Some (stored_by clock c)) ≡ T volume (Some c.before)
  pub starts : (t : Table Stored) (volume : ℕ) → AscendsFrom 0 t → T volume (get volume t) ≡ false → T volume (get volume (filter is_unflagged t)) ≡ true → ⊥
  pub bodies : (body : RecordBody) (d : Durable) (volume : ℕ) → can_take body d ≡ true → IsFit d body → T volume (get volume d.volumes) ≡ false → T volume (get volume (done_by body d).volumes) ≡ true → Turns d body volume

-- The message was sent to the server, which is up, or begins again behind this very message. It decides to write a record that makes it so.
pub record IsTurned (Turns : Durable → RecordBody → ℕ → Type 0) (c : NodeCell) (server volume : ℕ) : Type 0 where
  pub host : has_host c server ≡ true
  pub place : ℕ
  pub m : Message
  pub sent : message_at c.sent place ≡ Some m
  pub to : m.head.to ≡ Server server
  pub live : ((c.hosts server).down ≡ None) ⊎ IsCutIn c server m
  pub head : Head
  pub x : Deed
  pub decides : vol_decides (Server server) (disk_at c server) (c.hosts server).state.vol (Whole m) ≡ saves head x
  pub fits : IsFit (disk_at c server) x.body
  pub well : IsWell (c.hosts server).state
  pub turns : Turns (disk_at c server) x.body volume

not_both : (b : Bool) → b ≡ false → b ≡ true → ⊥
not_both b e f = let no : true ≡ false = sym f ∙ e in absurd cc

fit_copy : (d : Durable) (body : RecordBody) → IsFit d body → IsCopy d body
fit_copy d (bodies.Clone source id name kind release) fit = fit.0
fit_copy d body fit = tt

keeps_copies : (s : NodeState) (d : VolDecision) → Keeps (durable_of s.file.lasting) d → SavesCopies s d
keeps_copies s (saves head x) k = fit_copy (durable_of s.file.lasting) x.body k.0
keeps_copies s drops k = tt
keeps_copies s (tells_boot head) k = tt
keeps_copies s (repeats reply) k = tt
keeps_copies s (replies_to head reply ts last) k = tt
keeps_copies s (dispatches head x) k = tt

decides : (me : Node) (s : NodeState) (m : Message) → Fits m → IsWell s → Keeps (durable_of s.file.lasting) (vol_decides me (durable_of s.file.lasting) s.vol (Whole m))
decides me s m fits h = decided_keeps (durable_of s.file.lasting) s.vol h.apart h.all me m fits

copies : (me : Node) (s : NodeState) (m : Message) → Fits m → IsWell s → SavesCopies s (vol_decides me (durable_of s.file.lasting) s.vol (Whole m))
copies me s m fits h = keeps_copies s (vol_decides me (durable_of s.file.lasting) s.vol (Whole m)) (decides me s m fits h)

module _ (T : ℕ → Option Stored → Bool) (Turns : Durable → RecordBody → ℕ → Type 0) (w : Turning T Turns) where
  abbrev pub so : Table Stored → ℕ → Bool
  so t volume = T volume (get volume t)

  abbrev pub so_at : NodeCell → ℕ → ℕ → Bool
  so_at c volume server = so (c.hosts server).state.file.lasting.volumes volume

  -- of no volume it becomes so
  abbrev NoneTurns : Table Stored → Table Stored → Type 0
  NoneTurns a b = (volume : ℕ) → so a volume ≡ false → so b volume ≡ true → ⊥

  none_turns : (t : Table Stored) → NoneTurns t t
  none_turns t volume rests e = not_both (so t volume) rests e

  put_by : (b : Bool) (k volume : ℕ) (x was : Stored) (o : Option Stored) → nat_eq k volume ≡ b → (k ≡ volume → o ≡ Some was) → T volume (Some x) ≡ T volume (Some was) → T volume (cond b (Some x) o) ≡ T volume o
  put_by true k volume x was o is there same = same ∙ ap (T volume) (sym (there (eqb-true k volume is)))
  put_by false k volume x was o is there same = refl

  -- a file server's change
  change_turns : (clock : ℕ) (c : Change) (t : Table Stored) → get c.id t ≡ Some c.before → NoneTurns t (set c.id (stored_by clock c) t)
  change_turns clock c t there volume rests e =
      not_both (so t volume) rests
      (sym (put_by (nat_eq c.id volume) c.id volume (stored_by clock c) c.before (get volume t) refl (λ same. ap (λ (k : ℕ). get k t) (sym same) ∙ there) (w.changes clock volume c)) ∙ (ap (T volume) (sym (get_set volume c.id (stored_by clock c) t)) ∙ e))

  does_turns : (me : Node) (s : ServerState) (clock place : ℕ) (d : Decision) → Chooses s d → NoneTurns s.lasting.volumes (does me s clock place d []).state.lasting.volumes
  does_turns me s clock place files.drops h = none_turns s.lasting.volumes
  does_turns me s clock place (files.tells_boot head) h = none_turns s.lasting.volumes
  does_turns me s clock place (files.repeats reply) h = none_turns s.lasting.volumes
  does_turns me s clock place (files.refuses head code) h = none_turns s.lasting.volumes
  does_turns me s clock place (files.shows head r) h = none_turns s.lasting.volumes
  does_turns me s clock place (files.saves head c) h = change_turns clock c s.lasting.volumes h.found

  file_turns : (me : Node) (holds : Table ℕ) (s : ServerState) (clock place : ℕ) (m : Message) → NoneTurns s.lasting.volumes (file_row me holds s clock place (Whole m)).state.lasting.volumes
  unfolding file_row
  file_turns me holds s clock place m volume rests e = does_turns me s clock place (file_decides me holds s clock (Whole m)) (decided_open me holds s clock (Whole m)) volume rests e

  begun_turns : (me : Node) (s : ServerState) (clock : ℕ) (d : Decision) → Chooses s d → NoneTurns s.lasting.volumes (begun_after me s clock d).state.lasting.volumes
  begun_turns me s clock files.drops h = none_turns s.lasting.volumes
  begun_turns me s clock (files.tells_boot head) h = none_turns s.lasting.volumes
  begun_turns me s clock (files.repeats reply) h = none_turns s.lasting.volumes
  begun_turns me s clock (files.refuses head code) h = none_turns s.lasting.volumes
  begun_turns me s clock (files.shows head r) h = none_turns s.lasting.volumes
  begun_turns me s clock (files.saves head c) h = change_turns clock c s.lasting.volumes h.found

  module _ (c : NodeCell) (i : ℕ) (well : IsWell (c.hosts i).state) where
    abbrev s : NodeState
    s = (c.hosts i).state

    abbrev d : Durable
    d = durable_of s.file.lasting

    -- the message stands among those that were sent, and would run now
    module _ (place : ℕ) (m : Message) (sent : message_at c.sent place ≡ Some m) (to : m.head.to ≡ Server i) (host : has_host c i ≡ true) (live : ((c.hosts i).down ≡ None) ⊎ IsCutIn c i m) where
      deed_turns : (head : Head) (x : Deed) (volume : ℕ) → Fits m → vol_decides (Server i) d s.vol (Whole m) ≡ saves head x → so d.volumes volume ≡ false → so (done_by x.body d).volumes volume ≡ true → IsTurned Turns c i volume
      deed_turns head x volume fits is rests e =
          let writable : IsWritable d head x = subst (OfSaved (IsWritable d)) is (deeds_are_writable (Server i) d s.vol (Whole m)) in
          let fit : IsFit d x.body = (subst (Keeps d) is (decides (Server i) s m fits well)).0 in
          record { host = host; place = place; m = m; sent = sent; to = to; live = live; head = head; x = x; decides = is; fits = fit; well = well; turns = w.bodies x.body d volume writable.taken fit rests e }

      -- given now
      file_part : (clock volume : ℕ) → is_of_client (Some m.head.from) ≡ true → so (volumes_of s) volume ≡ false → so (volumes_of (node_row (Server i) s clock place (Whole m)).state) volume ≡ true → ⊥
      unfolding node_row
      file_part clock volume client rests e =
          let left : so (volumes_of (node_row (Server i) s clock place (Whole m)).state) volume ≡ so (file_row (Server i) (holds_of s.vol.transactions) s.file clock place (Whole m)).state.lasting.volumes volume = rw client refl in
          file_turns (Server i) (holds_of s.vol.transactions) s.file clock place m volume rests (sym left ∙ e)

      vol_part : (clock volume : ℕ) (dec : VolDecision) → is_of_client (Some m.head.from) ≡ false → vol_decides (Server i) d s.vol (Whole m) ≡ dec → Fits m → so (volumes_of s) volume ≡ false → so (volumes_of (node_row (Server i) s clock place (Whole m)).state) volume ≡ true → IsTurned Turns c i volume
      vol_part clock volume (saves head x) other is fits rests e =
          let shown : ShowsDeed (Server i) s clock place head x (node_row (Server i) s clock place (Whole m)) = deeds_are_shown (Server i) s clock place (Whole m) head x other is in
          let left : volumes_of (node_row (Server i) s clock place (Whole m)).state ≡ (done_by x.body d).volumes = ap (λ (l : Lasting). l.volumes) shown.lasting ∙ deed_volumes head x s.file.lasting in
          deed_turns head x volume fits is rests (ap (λ (t : Table Stored). so t volume) (sym left) ∙ e)
      vol_part clock volume dec other is fits rests e =
          absurd (not_both (so (volumes_of s) volume) rests (ap (λ (l : Lasting). so l.volumes volume) (sym (others_leave_files.given (Server i) s clock place (Whole m) other (ap is_saved is)).lasting) ∙ e))

      row_turns : (clock volume : ℕ) (b : Bool) → is_of_client (Some m.head.from) ≡ b → Fits m → so (volumes_of s) volume ≡ false → so (volumes_of (node_row (Server i) s clock place (Whole m)).state) volume ≡ true → IsTurned Turns c i volume
      row_turns clock volume true is fits rests e = absurd (file_part clock volume is rests e)
      row_turns clock volume false is fits rests e = vol_part clock volume (vol_decides (Server i) d s.vol (Whole m)) is refl fits rests e

      -- or behind a step that was interrupted
      cut_vol : (volume : ℕ) (dec : VolDecision) → vol_decides (Server i) d s.vol (Whole m) ≡ dec → Fits m → so (volumes_of s) volume ≡ false → so (vol_begun_after (Server i) s.file dec).state.lasting.volumes volume ≡ true → IsTurned Turns c i volume
      cut_vol volume (saves head x) is fits rests e = deed_turns head x volume fits is rests (ap (λ (t : Table Stored). so t volume) (sym (deed_volumes head x s.file.lasting)) ∙ e)
      cut_vol volume drops is fits rests e = absurd (not_both (so (volumes_of s) volume) rests e)
      cut_vol volume (tells_boot head) is fits rests e = absurd (not_both (so (volumes_of s) volume) rests e)
      cut_vol volume (repeats reply) is fits rests e = absurd (not_both (so (volumes_of s) volume) rests e)
      cut_vol volume (replies_to head reply ts last) is fits rests e = absurd (not_both (so (volumes_of s) volume) rests e)
      cut_vol volume (dispatches head x) is fits rests e = absurd (not_both (so (volumes_of s) volume) rests e)

      cut_by : (clock volume : ℕ) (b : Bool) → Fits m → so (volumes_of s) volume ≡ false →
          so (cond b (begun_after (Server i) s.file clock (node_file_decides (Server i) s clock (Whole m))) (vol_begun_after (Server i) s.file (vol_decides (Server i) d s.vol (Whole m)))).state.lasting.volumes volume ≡ true → IsTurned Turns c i volume
      cut_by clock volume true fits rests e = absurd (begun_turns (Server i) s.file clock (node_file_decides (Server i) s clock (Whole m)) (decided_open (Server i) (holds_of s.vol.transactions) s.file clock (Whole m)) volume rests e)
      cut_by clock volume false fits rests e = cut_vol volume (vol_decides (Server i) d s.vol (Whole m)) refl fits rests e

      cut_turns : (clock volume : ℕ) → Fits m → so (volumes_of s) volume ≡ false → so (node_begun_after (Server i) s clock (Whole m)).state.lasting.volumes volume ≡ true → IsTurned Turns c i volume
      cut_turns clock volume fits rests e = cut_by clock volume (is_of_client (Some m.head.from)) fits rests e

  -- ---- a cell

  -- the message of an interrupted step was sent to the server
  abbrev FallAt : NodeCell → ℕ → Option Fall → Type 0
  FallAt c i None = ⊤
  FallAt c i (Some at_rest) = ⊤
  FallAt c i (Some in_boot) = ⊤
  FallAt c i (Some (in_step m clock b)) = (place : ℕ) × ((message_at c.sent place ≡ Some m) × (m.head.to ≡ Server i))

  later_fall : (c d : NodeCell) (i : ℕ) (more : List Message) (o : Option Fall) → d.sent ≡ c.sent ++ more → FallAt c i o → FallAt d i o
  later_fall c d i more None sent h = tt
  later_fall c d i more (Some at_rest) sent h = tt
  later_fall c d i more (Some in_boot) sent h = tt
  later_fall c d i more (Some (in_step m clock b)) sent h = (h.0, (ap (λ (ms : List Message). message_at ms h.0) sent ∙ at_more c.sent more h.0 m h.1.0, h.1.1))

  record Ready (c : NodeCell) : Type 0 where
    stand : AllStand c
    ascends : (i : ℕ) → AscendsFrom 0 (volumes_of (c.hosts i).state)
    fell : (i : ℕ) → FallAt c i (c.hosts i).down

  -- what comes of an input
  record Comes (c : NodeCell) (m : NodeMoved) : Type 0 where
    ascends : (i : ℕ) → AscendsFrom 0 (volumes_of (m.cell.hosts i).state)
    fell : (i : ℕ) → FallAt m.cell i (m.cell.hosts i).down
    opens : (i volume : ℕ) → so_at c volume i ≡ false → so_at m.cell volume i ≡ true → IsTurned Turns c i volume

  module _ (c : NodeCell) (h : Ready c) where
    -- no server did anything
    still : (m : NodeMoved) (more : List Message) → m.cell.sent ≡ c.sent ++ more → m.cell.hosts ≡ c.hosts → Comes c m
    still m more sent hosts = record {
      ascends = λ i. subst (λ (f : ℕ → NodeHost). AscendsFrom 0 (volumes_of (f i).state)) (sym hosts) (h.ascends i);
      fell = λ i. later_fall c m.cell i more (m.cell.hosts i).down sent (subst (λ (f : ℕ → NodeHost). FallAt c i (f i).down) (sym hosts) (h.fell i));
      opens = λ i volume rests e. absurd (not_both (so_at c volume i) rests (subst (λ (f : ℕ → NodeHost). so (f i).state.file.lasting.volumes volume ≡ true) hosts e));
    }

    -- one did
    one : (i : ℕ) (s : HostStep NodeState) → AscendsFrom 0 (volumes_of s.host.state) → FallAt c i s.host.down → ((volume : ℕ) → so_at c volume i ≡ false → so (volumes_of s.host.state) volume ≡ true → IsTurned Turns c i volume) → Comes c (server_stepped c i s)
    one i s up fell opens = record {
      ascends = λ j. at_put i j (λ (x : NodeHost). AscendsFrom 0 (volumes_of x.state)) s.host c.hosts (λ same. up) (λ other. h.ascends j);
      fell = λ j. later_fall c (server_stepped c i s).cell j s.sent ((server_stepped c i s).cell.hosts j).down refl (at_put i j (λ (x : NodeHost). FallAt c j x.down) s.host c.hosts (λ same. subst (λ (k : ℕ). FallAt c k s.host.down) same fell) (λ other. h.fell j));
      opens = λ j volume. at_put i j (λ (x : NodeHost). so_at c volume j ≡ false → so (volumes_of x.state) volume ≡ true → IsTurned Turns c j volume) s.host c.hosts
          (λ same. subst (λ (k : ℕ). so_at c volume k ≡ false → so (volumes_of s.host.state) volume ≡ true → IsTurned Turns c k volume) same (opens volume)) (λ other rests e. absurd (not_both (so_at c volume j) rests e));
    }

    none : (i volume : ℕ) → so_at c volume i ≡ false → so (volumes_of (c.hosts i).state) volume ≡ true → IsTurned Turns c i volume
    none i volume rests e = absurd (not_both (so_at c volume i) rests e)

    -- its disk is as it was
    same_on : (i : ℕ) (s : HostStep NodeState) → s.host.state ≡ (c.hosts i).state → FallAt c i s.host.down → Comes c (server_stepped c i s)
    same_on i s same fell = one i s (subst (λ (x : NodeState). AscendsFrom 0 (volumes_of x)) (sym same) (h.ascends i)) fell (λ volume rests e. none i volume rests (subst (λ (x : NodeState). so (volumes_of x) volume ≡ true) same e))

    heard : (place : ℕ) (m : Message) (n : Node) → IsGiven c place m n → Fits m
    heard place m n g = found_at Fits place c.sent m h.stand.sent.sent g.sent

    serves_on : (i place : ℕ) (m : Message) (o : Option Blow) → has_host c i ≡ true → (c.hosts i).down ≡ None → IsGiven c place m (Server i) → Comes c (server_stepped c i (served_by (node_kind (Server i)) (c.hosts i) c.clock place m o))
    serves_on i place m None there up g =
        let well : IsWell (c.hosts i).state = up_well (c.hosts i) up (h.stand.hosts i) in
        let fits : Fits m = heard place m (Server i) g in
        one i (served_by (node_kind (Server i)) (c.hosts i) c.clock place m None) ((row_moves (Server i) (c.hosts i).state c.clock place m (copies (Server i) (c.hosts i).state m fits well)).up (h.ascends i)) tt
        (λ volume rests e. row_turns c i well place m g.sent g.to there (inl up) c.clock volume (is_of_client (Some m.head.from)) refl fits rests e)
    serves_on i place m (Some b) there up g = one i (served_by (node_kind (Server i)) (c.hosts i) c.clock place m (Some b)) (h.ascends i) (place, (g.sent, g.to)) (none i)

    -- ---- a restart

    module _ (i : ℕ) (fall : Fall) (down : (c.hosts i).down ≡ Some fall) where
      abbrev k : NodeHost
      k = c.hosts i

      well_by : WellBy (Some fall) k.state
      well_by = subst (λ (o : Option Fall). WellBy o k.state) down (h.stand.hosts i).well

      fits_by : FallIs Fits (Some fall)
      fits_by = subst (FallIs Fits) down (h.stand.sent.falls i)

      at_by : FallAt c i (Some fall)
      at_by = subst (FallAt c i) down (h.fell i)

      cut : (f : Fall) → WellBy (Some f) k.state → FallIs Fits (Some f) → CutCopies (Server i) k.state f
      cut at_rest well fits = tt
      cut (in_step m clock b) well fits = copies (Server i) k.state m fits well
      cut in_boot well fits = tt

      -- what it begins with
      abbrev begun : Bool → Begun NodeState
      begun after = begun_from (node_kind (Server i)) k.state after fall

      stay_state : (b : Bool) (f : Begun NodeState) → (ends (node_kind (Server i)) k c.clock c.count f fall (if b then fails_midway else is_full)).host.state ≡ f.state
      stay_state true f = refl
      stay_state false f = refl

      begun_up : (after : Bool) → AscendsFrom 0 (volumes_of (begun after).state)
      begun_up after = subst (λ (x : NodeState). AscendsFrom 0 (volumes_of x)) (stay_state (can_start (begun after).state.file) (begun after)) ((restart_moves (Server i) k c.clock c.count after fails_midway fall (h.ascends i) (cut fall well_by fits_by)).up (h.ascends i))

    begun_turned : (i : ℕ) (fall : Fall) → has_host c i ≡ true → (c.hosts i).down ≡ Some fall → WellBy (Some fall) (c.hosts i).state → FallIs Fits (Some fall) → FallAt c i (Some fall) → (after : Bool) (volume : ℕ) → so_at c volume i ≡ false → so (volumes_of (begun_from (node_kind (Server i)) (c.hosts i).state after fall).state) volume ≡ true → IsTurned Turns c i volume
    begun_turned i at_rest there down well fits at after volume rests e = none i volume rests e
    begun_turned i (in_step m clock b) there down well fits at false volume rests e = none i volume rests e
    begun_turned i (in_step m clock b) there down well fits at true volume rests e =
        cut_turns c i well at.0 m at.1.0 at.1.1 there (inr (record { clock = clock; blow = b; down = down })) clock volume fits rests e
    begun_turned i in_boot there down well fits at false volume rests e = none i volume rests e
    begun_turned i in_boot there down well fits at true volume rests e = absurd (w.starts (volumes_of (c.hosts i).state) volume (h.ascends i) rests e)

    ends_on : (i : ℕ) (fall : Fall) (down : (c.hosts i).down ≡ Some fall) (f : Begun NodeState) (o : Outcome) → AscendsFrom 0 (volumes_of f.state) → ((volume : ℕ) → so_at c volume i ≡ false → so (volumes_of f.state) volume ≡ true → IsTurned Turns c i volume) → FallAt c i (Some fall) →
        AscendsFrom 0 (volumes_of (ends (node_kind (Server i)) (c.hosts i) c.clock c.count f fall o).host.state) → Comes c (server_stepped c i (ends (node_kind (Server i)) (c.hosts i) c.clock c.count f fall o))
    unfolding node_start_row file_start
    ends_on i fall down f comes_up up opens at ends_up = one i (ends (node_kind (Server i)) (c.hosts i) c.clock c.count f fall comes_up) ends_up tt (λ volume rests e. by volume rests e (so (volumes_of f.state) volume) refl)
      where
        by : (volume : ℕ) → so_at c volume i ≡ false → so (filter is_unflagged (volumes_of f.state)) volume ≡ true → (b : Bool) → so (volumes_of f.state) volume ≡ b → IsTurned Turns c i volume
        by volume rests e true is = opens volume rests is
        by volume rests e false is = absurd (w.starts (volumes_of f.state) volume up is e)
    ends_on i fall down f fails_early up opens at ends_up = one i (ends (node_kind (Server i)) (c.hosts i) c.clock c.count f fall fails_early) (h.ascends i) at (none i)
    ends_on i fall down f fails_midway up opens at ends_up = one i (ends (node_kind (Server i)) (c.hosts i) c.clock c.count f fall fails_midway) up tt opens
    ends_on i fall down f is_full up opens at ends_up = one i (ends (node_kind (Server i)) (c.hosts i) c.clock c.count f fall is_full) up tt opens

    restarts_on : (i : ℕ) (after : Bool) (o : Outcome) (fall : Fall) → has_host c i ≡ true → (c.hosts i).down ≡ Some fall → Comes c (server_stepped c i (restarted (node_kind (Server i)) (c.hosts i) c.clock c.count after o fall))
    restarts_on i after o fall there down =
        let f : Begun NodeState = begun_from (node_kind (Server i)) (c.hosts i).state after fall in
        ends_on i fall down f (without_boot_record (can_start f.state.file) o) (begun_up i fall down after) (begun_turned i fall there down (well_by i fall down) (fits_by i fall down) (at_by i fall down) after) (at_by i fall down)
        ((restart_moves (Server i) (c.hosts i) c.clock c.count after o fall (h.ascends i) (cut i fall down fall (well_by i fall down) (fits_by i fall down))).up (h.ascends i))

    -- ---- its timeouts, and as time passes

    late_on : (i : ℕ) (n : Node) (p : PieceCall) → Comes c (server_stepped c i (piece_timed_out (Server i) (c.hosts i) c.clock n p))
    late_on i n p = one i (piece_timed_out (Server i) (c.hosts i) c.clock n p) ((piece_moves (Server i) (c.hosts i).state c.clock n p).up (h.ascends i)) tt
        (λ volume rests e. none i volume rests (ap (λ (l : Lasting). so l.volumes volume) (sym (others_leave_files.late (Server i) (c.hosts i).state c.clock n p).lasting) ∙ e))

    back_on : (i : ℕ) (n : Node) (b : BackCall) → Comes c (server_stepped c i (node_timed_out (Server i) (c.hosts i) c.clock n b))
    unfolding node_back_timeout_row back_timeout_row
    back_on i n b = one i (node_timed_out (Server i) (c.hosts i) c.clock n b) ((back_moves (Server i) (c.hosts i).state c.clock n b).up (h.ascends i)) tt (none i)

    wake_on : (i : ℕ) → Comes c (server_stepped c i (node_woken (Server i) (c.hosts i) c.clock))
    unfolding node_wake_row wake_row
    wake_on i = one i (node_woken (Server i) (c.hosts i) c.clock) ((woken_moves (Server i) (c.hosts i).state c.clock).up (h.ascends i)) tt (none i)

    comes : (x : CellInput) → Comes c (node_moved c x)
    comes x = each (Comes c) c (record {
      void = still _ [] (sym (append-nil c.sent)) refl;
      ticks = λ n. still (ticked c (suc n)) [] (sym (append-nil c.sent)) refl;
      servers = record {
        serves = λ i place luck m up g. serves_on i place m (struck (c.hosts i).armed luck (node_device_calls (Server i) (c.hosts i).state c.clock (Whole m))) up.there up.up g;
        crashes = λ i up. same_on i (crashed (node_kind (Server i)) (c.hosts i)) refl tt;
        stop_set = λ i calls pick up. same_on i (set_to_stop (node_kind (Server i)) (c.hosts i) calls pick) refl (h.fell i);
        fail_set = λ i call up. same_on i (set_to_fail (node_kind (Server i)) (c.hosts i) call) refl (h.fell i);
        restarts = λ i after o fall there down. restarts_on i after o fall there down;
        piece_late = λ i n p up is. late_on i n p;
        break_late = λ i n b up is. back_on i n b;
        wakes = λ i up. wake_on i;
      };
      database = any_database (Comes c) c (λ s. still (loc_stepped c s) s.sent refl refl);
      clients = any_client (Comes c) c (λ n s. still (client_moves c n s) s.sent refl refl) (λ n. still (client_falls c n) [] refl refl) (λ n. still (client_rises c n) [] refl refl);
      admins = any_admin (Comes c) c (λ n s. still (admin_moves c n s) s.sent refl refl) (λ n. still (admin_falls c n) [] refl refl) (λ n. still (admin_rises c n) [] refl refl);
    }) x

  -- ---- a run

  led : (c : NodeCell) (xs : List CellInput) → Ready c → Ready (cell_behind c xs)
  led c [] h = h
  led c (x ∷ xs) h = let z = comes c h x in led (node_moved c x).cell xs (record { stand = next c h.stand x; ascends = z.ascends; fell = z.fell })

  -- In every run: where an input makes it so of a volume at a server, that is such a message.
  pub are_turned : (s : Script) (inputs : List CellInput) (x : CellInput) (server volume : ℕ) → so_at (cell_behind (node_start s) inputs) volume server ≡ false → so_at (node_moved (cell_behind (node_start s) inputs) x).cell volume server ≡ true → IsTurned Turns (cell_behind (node_start s) inputs) server volume
  are_turned s inputs x server volume rests e =
      let c : NodeCell = cell_behind (node_start s) inputs in
      (comes c (led (node_start s) inputs (record { stand = first_stands s; ascends = λ i. first_ascends i s.volumes; fell = λ i. tt })) x).opens server volume rests e

  -- by ascending numbers
  pub ascending : (s : Script) (inputs : List CellInput) (i : ℕ) → AscendsFrom 0 (volumes_of ((cell_behind (node_start s) inputs).hosts i).state)
  ascending s inputs i = (led (node_start s) inputs (record { stand = first_stands s; ascends = λ j. first_ascends j s.volumes; fell = λ j. tt })).ascends i
