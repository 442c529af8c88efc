-- A step of a server node before which room was made, and behind which replies went out.
use Rattle.std.specs.Prelude.{◌≡◌, ◌≤◌, ◌+◌, ◌++◌, ℕ, List, length, map, true, Option, None, Some, Ok, Err}
use Rattle.std.proofs.Common.{⊎_elim, inl, inr, refl, ap, sym, subst, ◌∙◌}
use Rattle.afs_num.specs.declared.records.StoreRecord.{StoreRecord}
use Rattle.afs_num.specs.declared.types.Parcel.{Parcel}
use Rattle.afs_disk.specs.declared.disk.Disk.{Ghosts}
use Rattle.spec_history.specs.declared.lines.Line.{Line}
use Rattle.spec_history.specs.declared.lines.Outs.{Outs}
use Rattle.spec_fold.specs.Effects.{effect_of}
use Rattle.spec_fold.specs.Fold.{folded}
use Rattle.afs_memory.specs.Telling.{in_words}
use Rattle.spec_rows.specs.States.{ServerState}
use Rattle.spec_rows.specs.Steps.{Begun, Step}
use Rattle.spec_volrows.specs.VolStates.{NodeState}
use Rattle.afs_volstore.specs.Stores.{Store}
use Rattle.afs_server_parts.specs.declared.faults.NodeFault.{NodeFault}
use Rattle.afs_server_parts.specs.declared.faults.NodeFault.TheVariants as faults
use Rattle.afs_saving.proofs.Still.{is_same, prepared_still}
use Rattle.afs_node.specs.Handling.{let_out, HandlesNode, LeavesNode, StepsBy, TookNode}
use Rattle.afs_node.specs.Seen.{node_seen, ClosesStored, SameNode, SameStored, ServesNode}
use Rattle.afs_node.specs.declared.node.ServerNode.{ServerNode}
use Rattle.afs_node.proofs.Serving.{vol_held}
use Rattle.afs_node.proofs.Taken.{made_out, IsLetOut}
use Rattle.afs_volstore.specs.VolumeFold.{volume_fold}
use Rattle.afs_sharing.specs.Stores.{IsKeptBehind, OnDisk, LeavesPrepared}
use Rattle.afs_saving.specs.Saving.{IsQuiet}

-- the node and its store with room for a step
pub record HasReadied {D : Type 0} (m n : ServerNode) (s t : Store D) : Type 0 where
  pub node : SameNode m n
  pub store : t ≡ record s { holds = t.holds }
  pub holds : t.holds.table ≡ s.holds.table

module _ {D : Type 0} (m n : ServerNode) (s t : Store D) (ready : HasReadied m n s t) where
  -- ---- it is seen as before

  pub ready_seen : node_seen n t ≡ node_seen m s
  ready_seen = ap (λ (x : ServerNode). node_seen x t) ready.node ∙ ap (λ (u : Store D). node_seen m u) ready.store

  ready_same : (o : ServerNode) → SameNode n o → SameNode m o
  ready_same o same = same ∙ ap (λ (x : ServerNode). record x { vol = record x.vol { room = o.vol.room } }) ready.node

  ready_stored : (u : Store D) → SameStored t u → SameStored s u
  ready_stored u same = record { is = same.is ∙ ap (λ (x : Store D). record x { disk = u.disk; prepared = u.prepared; holds = u.holds }) ready.store; holds = same.holds ∙ ready.holds }

  ready_closes : (u : Store D) → ClosesStored t u → ClosesStored s u
  ready_closes u closes = record { is = closes.is ∙ ap (λ (x : Store D). record x { disk = u.disk; prepared = None; closed = true; holds = u.holds }) ready.store; holds = closes.holds ∙ ready.holds }

  -- ---- what came of the step

  ready_wants : SameNode m n × SameStored s t
  ready_wants = (ready.node, record { is = ready.store ∙ ap (λ (u : Store D). record s { disk = u.disk; prepared = u.prepared; holds = t.holds }) (sym ready.store); holds = ready.holds })

  pub out_took : (step : Step NodeState) (before : List Line) (o p : ServerNode) (u : Store D) (outs : Outs) (behind : List Parcel) → TookNode step before n o t u (Ok outs) → IsLetOut o p behind → HandlesNode (let_out step) before m p s u (Ok (outs, behind))
  out_took step before o p u outs behind took out = made_out step before o p u outs behind took out

  pub err_took : (step late : Step NodeState) (before : List Line) (o : ServerNode) (u : Store D) (fault : NodeFault) → TookNode step before n o t u (Err fault) → HandlesNode late before m o s u (Err fault)
  err_took step late before o u faults.OutOfMemory same = (ready_same o same.0, ready_stored u same.1)
  err_took step late before o u faults.Down closes = ready_closes u closes

  pub wants_took : (late : Step NodeState) (before : List Line) → HandlesNode late before m n s t (Err faults.OutOfMemory)
  wants_took late before = ready_wants

  -- ---- what it leaves

  done_from : (decided : Option StoreRecord) (u : Store D) → IsKeptBehind decided t u → IsKeptBehind decided s u
  done_from None u done = (done.0 ∙ ap (λ (x : Store D). x.durable) ready.store, done.1 ∙ ap (λ (x : Store D). x.count) ready.store)
  done_from (Some r) u done = (sym (ap (λ (x : Store D). folded r x.durable) ready.store) ∙ done.0, done.1 ∙ ap (λ (x : Store D). x.count + 1) ready.store)

  leaves_from : (decided : Option StoreRecord) (o p : ServerNode) (u : Store D) (behind : List Parcel) → LeavesNode decided n o t u → IsLetOut o p behind → LeavesNode decided m p s u
  leaves_from decided o p u behind leaves out = record {
    serves = subst (λ (x : ServerNode). ServesNode x u) (sym out.is) (record { file = leaves.serves.file; volumes = vol_held o.vol _ p.vol.room u leaves.serves.volumes });
    store = leaves.store ∙ ap (λ (x : Store D). record x { durable = u.durable; disk = u.disk; prepared = u.prepared; count = u.count; drawn = u.drawn; holds = u.holds }) ready.store;
    done = done_from decided u leaves.done;
    draws = record {
      calls = subst (λ (x : Store D). u.drawn ≤ x.drawn + 204) ready.store leaves.draws.calls;
      owed = subst (λ (x : ServerNode). x.file.lists.last_owed + length x.file.lists.promises ≤ m.file.lists.last_owed + length m.file.lists.promises + 50) (sym out.is)
          (subst (λ (x : ServerNode). o.file.lists.last_owed + length o.file.lists.promises ≤ x.file.lists.last_owed + length x.file.lists.promises + 50) ready.node leaves.draws.owed);
    };
  }

  -- ---- what it leaves prepared, whatever else its result tells

  prepared_same : t.prepared ≡ s.prepared
  prepared_same = ap (λ (x : Store D). x.prepared) ready.store

  prepared_from : (decided : Option StoreRecord) (u : Store D) (outs : Outs) (behind : List Parcel) → LeavesPrepared {T = Outs} decided t u (Ok outs) → LeavesPrepared {T = Outs × List Parcel} decided s u (Ok (outs, behind))
  prepared_from None u outs behind left = left ∙ prepared_same
  prepared_from (Some r) u outs behind left = left

  prepared_then : (decided : Option StoreRecord) (u : Store D) (fault : NodeFault) → LeavesPrepared {T = Outs} decided t u (Err fault) → LeavesPrepared {T = Outs × List Parcel} decided s u (Err fault)
  prepared_then None u fault left = left ∙ prepared_same
  prepared_then (Some r) u faults.OutOfMemory left = ⊎_elim (λ same. inl (same ∙ prepared_same)) (λ own. inr own) left
  prepared_then (Some r) u faults.Down left = left

  -- ---- what it did to the disk, whatever else its result tells

  quiet_from : (decided : Option StoreRecord) (outs : Outs) (behind : List Parcel) → IsQuiet {T = Outs × List Parcel} decided (Ok (outs, behind)) → IsQuiet {T = Outs} decided (Ok outs)
  quiet_from None outs behind quiet = tt
  quiet_from (Some r) outs behind quiet = absurd quiet

  quiet_then : (decided : Option StoreRecord) (fault : NodeFault) → IsQuiet {T = Outs × List Parcel} decided (Err fault) → IsQuiet {T = Outs} decided (Err fault)
  quiet_then None fault quiet = tt
  quiet_then (Some r) faults.OutOfMemory quiet = tt
  quiet_then (Some r) faults.Down quiet = absurd quiet

  module _ (w : Ghosts D) (decided : Option StoreRecord) (u : Store D) where
    disk_from : (outs : Outs) (behind : List Parcel) → OnDisk {T = Outs} w decided t.durable t.disk u.disk (Ok outs) → OnDisk {T = Outs × List Parcel} w decided s.durable s.disk u.disk (Ok (outs, behind))
    disk_from outs behind disk = subst (λ (x : Store D). OnDisk {T = Outs × List Parcel} w decided x.durable x.disk u.disk (Ok (outs, behind))) ready.store (record {
      told = disk.told;
      quiet = λ quiet. disk.quiet (quiet_from decided outs behind quiet);
      any_moment = disk.any_moment;
      reached = λ e. absurd cc;
      left = λ e. absurd cc;
      fits = disk.fits;
      most = disk.most;
      limited = disk.limited;
      called = disk.called;
      ran = record { never_falls = disk.ran.never_falls; own_never_falls = disk.ran.own_never_falls; down = λ e. absurd cc; passed = disk.ran.passed };
      set = disk.set;
    })

    disk_wants : OnDisk {T = Outs} w decided t.durable t.disk u.disk (Err faults.OutOfMemory) → OnDisk {T = Outs × List Parcel} w decided s.durable s.disk u.disk (Err faults.OutOfMemory)
    disk_wants disk = subst (λ (x : Store D). OnDisk {T = Outs × List Parcel} w decided x.durable x.disk u.disk (Err faults.OutOfMemory)) ready.store (record {
      told = disk.told;
      quiet = λ quiet. disk.quiet (quiet_then decided faults.OutOfMemory quiet);
      any_moment = disk.any_moment;
      reached = λ e. absurd cc;
      left = λ e. absurd cc;
      fits = disk.fits;
      most = disk.most;
      limited = disk.limited;
      called = tt;
      ran = record { never_falls = disk.ran.never_falls; own_never_falls = disk.ran.own_never_falls; down = λ e. absurd cc; passed = tt };
      set = disk.set;
    })

    disk_down : OnDisk {T = Outs} w decided t.durable t.disk u.disk (Err faults.Down) → OnDisk {T = Outs × List Parcel} w decided s.durable s.disk u.disk (Err faults.Down)
    disk_down disk = subst (λ (x : Store D). OnDisk {T = Outs × List Parcel} w decided x.durable x.disk u.disk (Err faults.Down)) ready.store (record {
      told = disk.told;
      quiet = λ quiet. disk.quiet (quiet_then decided faults.Down quiet);
      any_moment = disk.any_moment;
      reached = λ e. disk.reached refl;
      left = λ e. disk.left refl;
      fits = disk.fits;
      most = disk.most;
      limited = disk.limited;
      called = tt;
      ran = record { never_falls = disk.ran.never_falls; own_never_falls = disk.ran.own_never_falls; down = λ e. disk.ran.down refl; passed = tt };
      set = disk.set;
    })

    -- ---- all of it

    module _ (next : Begun ServerState) (calls : ℕ) (o : ServerNode) where
      effects_from : (r : StoreRecord) (ls : List Line) → next.before ls ≡ map in_words (effect_of t.node r t.durable) ++ ls → next.before ls ≡ map in_words (effect_of s.node r s.durable) ++ ls
      effects_from r ls effects = subst (λ (x : Store D). next.before ls ≡ map in_words (effect_of x.node r x.durable) ++ ls) ready.store effects

      pub out_steps : (p : ServerNode) (outs : Outs) (behind : List Parcel) → StepsBy {T = Outs} w decided next calls n o t u (Ok outs) → IsLetOut o p behind → StepsBy {T = Outs × List Parcel} w decided next calls m p s u (Ok (outs, behind))
      out_steps p outs behind steps out = record {
        leaves = leaves_from decided o p u behind steps.leaves out;
        down = λ e. absurd cc;
        interrupted = λ e. absurd cc;
        effects = λ r written ls. effects_from r ls (steps.effects r written ls);
        prepared = prepared_from decided u outs behind steps.prepared;
        called = subst (λ (x : Store D). w.calls u.disk ≡ w.calls x.disk + calls) ready.store steps.called;
        disk = disk_from outs behind steps.disk;
      }

      pub err_steps : (fault : NodeFault) → StepsBy {T = Outs} w decided next calls n o t u (Err fault) → StepsBy {T = Outs × List Parcel} w decided next calls m o s u (Err fault)
      err_steps faults.OutOfMemory steps = record {
        leaves = tt;
        down = λ e. absurd cc;
        interrupted = λ e. absurd cc;
        effects = λ r written. absurd written;
        prepared = prepared_then decided u faults.OutOfMemory steps.prepared;
        called = tt;
        disk = disk_wants steps.disk;
      }
      err_steps faults.Down steps = record {
        leaves = tt;
        down = λ e. steps.down refl;
        interrupted = λ e r is x takes. steps.interrupted refl r is x (ap (λ (y : Store D). folded r y.durable) ready.store ∙ takes);
        effects = λ r written ls. effects_from r ls (steps.effects r written ls);
        prepared = prepared_then decided u faults.Down steps.prepared;
        called = tt;
        disk = disk_down steps.disk;
      }

  -- no room could be made
  pub wants_steps : (w : Ghosts D) (decided : Option StoreRecord) (next : Begun ServerState) (calls : ℕ) → StepsBy {T = Outs × List Parcel} w decided next calls m n s t (Err faults.OutOfMemory)
  wants_steps w decided next calls = record {
    leaves = tt;
    down = λ e. absurd cc;
    interrupted = λ e. absurd cc;
    effects = λ r written. absurd written;
    prepared = prepared_still {T = Outs × List Parcel} decided s.prepared t.prepared (Err faults.OutOfMemory) tt prepared_same;
    called = tt;
    disk = is_same volume_fold w decided s.durable s.disk t.disk (Err faults.OutOfMemory) tt (ap (λ (u : Store D). u.disk) ready.store);
  }
