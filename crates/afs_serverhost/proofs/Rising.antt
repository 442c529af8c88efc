-- A server node as a kind of node: how its disk and its state fit together, and how it is up again.
use Rattle.std.specs.Prelude.{◌≡◌, ◌<◌, ◌+◌, List, [], ◌∷◌, ◌++◌, Bool, true, false, ℕ, Some, None, map, nat_eq, nat_lt, if◌then◌else◌}
use Rattle.std.proofs.Common.{refl, ap, sym, ◌∙◌, arith}
use Rattle.std.proofs.lemmas.Bool.{ltb-true}
use Rattle.afs_num.specs.declared.messages.Received.TheVariants.{Whole}
use Rattle.afs_num.specs.declared.types.Node.{Node}
use Rattle.spec_history.specs.declared.lines.Line.{Line}
use Rattle.spec_history.specs.declared.lines.Line.TheVariants as lines
use Rattle.spec_history.specs.declared.lines.Outs.{Outs}
use Rattle.afs_disk.specs.Fuses.{Fused}
use Rattle.afs_disk.specs.declared.disk.Disk.{Ghosts}
use Rattle.spec_ideal.specs.Operations.{last_count}
use Rattle.spec_ideal.specs.Tables.{Table}
use Rattle.spec_model.specs.Messages.{messages_spelled}
use Rattle.spec_records.specs.Changes.{boot_record, can_boot}
use Rattle.spec_records.specs.Durable.{has_room, is_flagged, Durable, Stored}
use Rattle.spec_fold.specs.Laws.{started}
use Rattle.spec_records.specs.Records.{FitsRecord}
use Rattle.spec_records.proofs.Forms.{some_is}
use Rattle.spec_rows.specs.Callbacks.{pumped, risen_turn}
use Rattle.spec_rows.specs.Hosts.{at_rest, begun_from, goes, in_boot, in_step, unarmed, Fall}
use Rattle.spec_rows.specs.ServerHosts.{can_start}
use Rattle.spec_rows.specs.ServerRow.{begun_after, drops, lasting_started, refuses, repeats, saves, shows, tells_boot, Decision}
use Rattle.spec_rows.specs.States.{durable_of, Lasting, ServerState}
use Rattle.spec_rows.specs.Steps.{Begun}
use Rattle.spec_fold.specs.Effects.{effect_of, vanished_lines}
use Rattle.spec_fold.specs.Fold.{folded}
use Rattle.afs_memory.specs.Telling.{in_words}
use Rattle.spec_volrows.specs.FileRow.{file_start}
use Rattle.spec_volrows.specs.NodeHosts.{node_kind}
use Rattle.spec_volrows.specs.VolStates.{fresh_vol, NodeState}
use Rattle.spec_volrows.specs.VolSteps.{from_of, is_of_client, node_file_decides, node_start_row, vol_begun_after, vol_decides, VolDecision}
use Rattle.spec_volrows.specs.VolSteps as volumes
use Rattle.afs_volstore.specs.Stores.{recorded, Store}
use Rattle.afs_volstore.specs.VolumeLaws.{volume_sound}
use Rattle.afs_node.specs.Handling.{node_begun_step}
use Rattle.afs_host.specs.Seats.{Resting}
use Rattle.afs_serverhost.specs.Seats.{IsStepUp, ServerRunning}
use Rattle.afs_serverhost.specs.Standing.{begun_node, server_keeping}
use Rattle.afs_serverhost.specs.Starting.{node_start, BootsFrom, BootsOver, HasRisen, Rises}
use Rattle.afs_host.specs.Starting.{IsFound}
use Rattle.afs_host.specs.declared.starting.Start.{Start}
use Rattle.afs_host.specs.declared.starting.Start.TheVariants as starts
use Rattle.afs_host.proofs.Booting.{not_full, same_start, up_by}
use Rattle.afs_host.proofs.Lying.{IsSoundKeeping}
use Rattle.afs_sharing.specs.Lasting.{lasting_of}
use Rattle.afs_host.proofs.Rising.{left_true, no_head_fits}

decided_capacity : (me : Node) (s : ServerState) (clock : ℕ) (d : Decision) → (begun_after me s clock d).state.lasting.capacity ≡ s.lasting.capacity
decided_capacity me s clock drops = refl
decided_capacity me s clock (tells_boot head) = refl
decided_capacity me s clock (repeats reply) = refl
decided_capacity me s clock (refuses head code) = refl
decided_capacity me s clock (shows head r) = refl
decided_capacity me s clock (saves head c) = refl

volume_capacity : (me : Node) (s : ServerState) (d : VolDecision) → (vol_begun_after me s d).state.lasting.capacity ≡ s.lasting.capacity
volume_capacity me s volumes.drops = refl
volume_capacity me s (volumes.tells_boot head) = refl
volume_capacity me s (volumes.repeats reply) = refl
volume_capacity me s (volumes.replies_to head reply ts last) = refl
volume_capacity me s (volumes.dispatches head x) = refl
volume_capacity me s (volumes.saves head x) = refl

either_capacity : (me : Node) (s : ServerState) (clock : ℕ) (d : Decision) (v : VolDecision) (b : Bool) → (if b then begun_after me s clock d else vol_begun_after me s v).state.lasting.capacity ≡ s.lasting.capacity
either_capacity me s clock d v true = decided_capacity me s clock d
either_capacity me s clock d v false = volume_capacity me s v

capacity_after : (me : Node) (s : NodeState) (fall : Fall) → (begun_from (node_kind me) s true fall).state.file.lasting.capacity ≡ s.file.lasting.capacity
capacity_after me s at_rest = refl
capacity_after me s (in_step m clock b) = either_capacity me s.file clock (node_file_decides me s clock (Whole m)) (vol_decides me (durable_of s.file.lasting) s.vol (Whole m)) (is_of_client (from_of (Whole m)))
capacity_after me s in_boot = refl

-- what a start leaves on the disk, as the state reads it
started_read : (d : Durable) (l : Lasting) → lasting_of d ≡ l → lasting_of (started d) ≡ lasting_started l
started_read d l read = ap lasting_started read

boot_folded : (d : Durable) → folded (boot_record (d.boot + 1)) d ≡ Some (started d)
unfolding folded
boot_folded d = refl

revives : (s : ServerState) (d e : Durable) → lasting_of d ≡ s.lasting → folded (boot_record (d.boot + 1)) d ≡ Some e → lasting_of e ≡ lasting_started s.lasting
revives s d e read takes = ap lasting_of (sym (some_is (started d) e (sym (boot_folded d) ∙ takes))) ∙ started_read d s.lasting read

-- a line of a volume that vanishes has words
vanished_so : (me : Node) (id : ℕ) (a b : Bool) (ls : List Line) → map in_words ls ≡ ls → map in_words ((if a then (if b then lines.Vanish id me ∷ [] else []) else []) ++ ls) ≡ (if a then (if b then lines.Vanish id me ∷ [] else []) else []) ++ ls
vanished_so me id true true ls h = ap (λ (x : List Line). lines.Vanish id me ∷ x) h
vanished_so me id true false ls h = h
vanished_so me id false b ls h = h

vanished_words : (me : Node) (t : Table Stored) → map in_words (vanished_lines me t) ≡ vanished_lines me t
vanished_words me [] = refl
vanished_words me (p ∷ ps) = vanished_so me p.0 (is_flagged p.1) (nat_eq p.1.volume.kind 0) (vanished_lines me ps) (vanished_words me ps)

-- what the record of a boot tells is what a restart tells behind it
tells_vanished : (me : Node) (s : ServerState) (d : Durable) → lasting_of d ≡ s.lasting → (ls : List Line) → vanished_lines me s.lasting.volumes ++ ls ≡ map in_words (effect_of me (boot_record (d.boot + 1)) d) ++ ls
tells_vanished me s d read ls = ap (λ (l : Lasting). vanished_lines me l.volumes ++ ls) (sym read) ∙ ap (λ (x : List Line). x ++ ls) (sym (vanished_words me d.volumes))

pub server_fits : (me : Node) → IsSoundKeeping (server_keeping me)
server_fits me = record {
  fold = volume_sound;
  sized = λ d. refl;
  booted = λ d. refl;
  same_capacity = λ s fall. capacity_after me s fall;
  revives = λ s d e read takes. revives s.file d e read takes;
  tells = λ s d read. tells_vanished me s.file d read;
  begins = λ d. refl;
  same_can = λ s t same. ap (λ (l : Lasting). can_boot (durable_of l)) same;
}

can_fits : (d : Durable) → can_boot d ≡ true → d.boot < last_count
can_fits d can = ltb-true d.boot last_count (left_true (nat_lt d.boot last_count) (has_room d (boot_record (d.boot + 1))) can)

-- the record of a boot whose number is a word has a spelling
pub fits_boot : (d : Durable) → can_boot d ≡ true → FitsRecord (boot_record (d.boot + 1))
fits_boot d can = record { head = no_head_fits; body = (omega (arith, can_fits d can), tt); caller = refl }

-- what its file server begins with, as the disk keeps it, and the callers of both
node_risen : (me : Node) (clock count : ℕ) (begun : Begun NodeState) (d : Durable) → lasting_of d ≡ lasting_started begun.state.file.lasting → (node_begun_step me d clock count).state ≡ (node_start me clock count begun).state
unfolding file_start node_start_row
node_risen me clock count begun d read =
    ap (λ (l : Lasting). record { file = record { lasting = l; seats = l.kept; backs = (pumped me l.boot (risen_turn me clock count)).backs }; vol = fresh_vol l.kept }) read

risen_sent : (me : Node) (clock count : ℕ) (begun : Begun NodeState) (d : Durable) → lasting_of d ≡ lasting_started begun.state.file.lasting → (node_begun_step me d clock count).sent ≡ (node_start me clock count begun).sent
unfolding file_start node_start_row
risen_sent me clock count begun d read = ap (λ (l : Lasting). (pumped me l.boot (risen_turn me clock count)).sent) read

risen_lines : (me : Node) (clock count : ℕ) (begun : Begun NodeState) (front vanished : List Line) (d : Durable) → lasting_of d ≡ lasting_started begun.state.file.lasting → ((ls : List Line) → begun.before ls ≡ front ++ ls) → vanished ≡ vanished_lines me begun.state.file.lasting.volumes →
    front ++ lines.Restart me d.boot ∷ (vanished ++ (node_begun_step me d clock count).lines) ≡ (node_start me clock count begun).lines
unfolding file_start node_start_row
risen_lines me clock count begun front vanished d read before gone =
    ap (λ (l : Lasting). front ++ lines.Restart me l.boot ∷ (vanished ++ (risen_turn me clock count).lines)) read
    ∙ (ap (λ (vs : List Line). front ++ lines.Restart me (begun.state.file.lasting.boot + 1) ∷ (vs ++ (risen_turn me clock count).lines)) gone
    ∙ sym (before (lines.Restart me (begun.state.file.lasting.boot + 1) ∷ (vanished_lines me begun.state.file.lasting.volumes ++ (risen_turn me clock count).lines))))

module _ {D : Type 0} (w : Ghosts D) (front vanished : List Line) (s t : Store (Fused D)) (clock count : ℕ) (can : can_boot s.durable ≡ true) (store : t ≡ record s { durable = started s.durable; disk = t.disk; prepared = None; count = s.count + 1 }) (gone : vanished ≡ effect_of s.node (boot_record (s.durable.boot + 1)) s.durable) where
  risen_up : (begun : Begun NodeState) (r : ServerRunning D) (outs : Outs) → lasting_of s.durable ≡ begun.state.file.lasting → ((ls : List Line) → begun.before ls ≡ front ++ ls) → HasRisen t front vanished count clock r outs → IsStepUp r [] outs (goes unarmed (node_start s.node clock count begun))
  risen_up begun r outs read before risen =
      let node : t.node ≡ s.node = ap (λ (x : Store (Fused D)). x.node) store in
      let durable : t.durable ≡ started s.durable = ap (λ (x : Store (Fused D)). x.durable) store in
      let lasting : lasting_of t.durable ≡ lasting_started begun.state.file.lasting = ap lasting_of durable ∙ started_read s.durable begun.state.file.lasting read in
      let told : vanished ≡ vanished_lines s.node begun.state.file.lasting.volumes = gone ∙ ap (λ (l : Lasting). vanished_lines s.node l.volumes) read in
      record {
        host = record {
          state = sym (risen.state ∙ (ap (λ (n : Node). (node_begun_step n t.durable clock count).state) node ∙ node_risen s.node clock count begun t.durable lasting));
          down = refl;
          armed = sym risen.armed;
        };
        lines = risen.lines_are ∙ (ap (λ (n : Node). front ++ lines.Restart n t.durable.boot ∷ (vanished ++ (node_begun_step n t.durable clock count).lines)) node ∙ risen_lines s.node clock count begun front vanished t.durable lasting before told);
        sent = risen.sent ∙ (ap (λ (n : Node). messages_spelled (node_begun_step n t.durable clock count).sent) node ∙ ap messages_spelled (risen_sent s.node clock count begun t.durable lasting));
      }

  pub risen_boots : (begun : Begun NodeState) (records : List (List ℕ)) → IsFound (server_keeping s.node) w begun records front (recorded s) → (result : Start (ServerRunning D) (Resting D)) → Rises t front vanished count clock result → BootsFrom w begun records s.node clock count s.disk.disk result
  risen_boots begun records found (starts.Up r outs) risen = (up_by (can_start begun.state.file) (same_start (server_keeping s.node) (server_fits s.node) begun.state s.durable found.read ∙ can), risen_up begun r outs found.read found.before risen)
  risen_boots begun records found (starts.Down d ls) risen = absurd risen
  risen_boots begun records found (starts.Unchanged d) risen = absurd risen
  risen_boots begun records found (starts.Lost d) risen = not_full (can_start begun.state.file) (same_start (server_keeping s.node) (server_fits s.node) begun.state s.durable found.read ∙ can)

  -- whatever the disk tells
  pub risen_over : w.faults t.disk.disk ≡ w.faults s.disk.disk → (result : Start (ServerRunning D) (Resting D)) → Rises t front vanished count clock result → BootsOver w s.durable front s.node clock count (w.faults s.disk.disk) result
  risen_over quiet (starts.Up r outs) risen = (
    up_by (can_boot s.durable) can,
    (risen_up (record { state = begun_node s.durable; before = λ ls. front ++ ls }) r outs refl (λ ls. refl) risen, ap (λ (x : Store (Fused D)). w.faults x.disk.disk) risen.store ∙ quiet),
  )
  risen_over quiet (starts.Down d ls) risen = absurd risen
  risen_over quiet (starts.Unchanged d) risen = absurd risen
  risen_over quiet (starts.Lost d) risen = (not_full (can_boot s.durable) can, ap w.faults risen ∙ quiet)
