-- A step of a server node, by the steps of its parts: room is made, one of its servers makes its step, and replies go out.
use Rattle.std.specs.Prelude.{◌≡◌, ◌≤◌, ◌+◌, ℕ, List, [], ◌∷◌, length, Option, None, Some, Ok, Err, IsErrOf, IsSome}
use Rattle.std.proofs.Common.{refl, ap, ap₂, sym, subst, ◌∙◌, arith}
use Rattle.afs_num.specs.declared.messages.Received.{Received}
use Rattle.afs_num.specs.declared.types.Node.{Node}
use Rattle.afs_num.specs.declared.types.Parcel.{Parcel}
use Rattle.afs_disk.specs.declared.disk.Disk.{Ghosts}
use Rattle.spec_history.specs.declared.lines.Line.{Line}
use Rattle.spec_history.specs.declared.lines.Line.TheVariants as lines
use Rattle.spec_history.specs.declared.lines.Outs.{Outs}
use Rattle.spec_rows.specs.ServerSteps.{back_timeout_row, wake_row}
use Rattle.spec_rows.specs.States.{BackCall}
use Rattle.spec_rows.specs.Steps.{Step}
use Rattle.spec_volrows.specs.VolLaws.{resting}
use Rattle.spec_volrows.specs.VolStates.{NodeState}
use Rattle.spec_volrows.specs.VolSteps.{node_back_timeout_row, node_begun_after, node_device_calls, node_row, node_wake_row, piece_timeout_row, VolTurn}
use Rattle.afs_callbacks.specs.States.{CallbackState}
use Rattle.afs_sendings.specs.Pieces.{call_seen, dumps_of, Piece}
use Rattle.afs_volstore.specs.Stores.{Store}
use Rattle.afs_callees.specs.Called.{call_to}
use Rattle.afs_server_parts.specs.declared.faults.NodeFault.{NodeFault}
use Rattle.afs_server_parts.specs.declared.faults.NodeFault.TheVariants as faults
use Rattle.afs_server.specs.Handling.{server_seen, Handles, ServesOver}
use Rattle.afs_server.specs.Seen.{callbacks_of, Memory}
use Rattle.afs_volserv.specs.Handling.{vol_timed_then, HandlesVolumes, StaysInOrder}
use Rattle.afs_volserv.specs.Seen.{vol_seen, VolMemory}
use Rattle.afs_node.specs.Handling.{let_out, node_record, node_taken, vol_resting, DrawsFew, HandlesNode, StepsNode, TookNode}
use Rattle.afs_node.specs.Seen.{node_seen, SameNode, SameStored, ServesNode}
use Rattle.afs_node.specs.declared.node.ServerNode.{ServerNode}
use Rattle.afs_node.proofs.Out.{err_steps, err_took, out_steps, out_took, ready_seen, wants_steps, wants_took, HasReadied}
use Rattle.afs_node.proofs.Serving.{late_serves, same_serves, vol_held, volume_serves, with_callbacks}
use Rattle.afs_node.proofs.Stepped.{file_took, steps_as, volume_took}
use Rattle.afs_node.proofs.Taken.{late_let_out, piece_let_out, row_let_out, woken_let_out, IsLetOut}

-- ---- room

pub readied : {D : Type 0} (m : ServerNode) (v : VolMemory) (s t : Store D) → v ≡ record m.vol { room = v.room } → t ≡ record s { holds = t.holds } → t.holds.table ≡ s.holds.table → HasReadied m (record m { vol = v }) s t
readied {D} m v s t same store holds = record { node = ap (λ (x : VolMemory). record m { vol = x }) same; store = store; holds = holds }

-- a call that is there
pub some_call : {A : Type 0} (o : Option A) → IsSome o → (x : A) × (o ≡ Some x)
some_call {A} None some = absurd cc
some_call {A} (Some x) some = (x, refl)

-- what is told of a fault, whatever else its result would tell
pub up_as : {T U : Type 0} (fault : NodeFault) → (IsErrOf {T = T} {E = NodeFault} (Err fault) faults.Down → ⊥) → IsErrOf {T = U} {E = NodeFault} (Err fault) faults.Down → ⊥
up_as {T} {U} faults.OutOfMemory up e = absurd cc
up_as {T} {U} faults.Down up e = up refl

abbrev Place : ℕ → List Line
Place place = lines.Given place ∷ []

module _ {D : Type 0} (m n : ServerNode) (s t : Store D) (ready : HasReadied m n s t) where
  node_as : t.node ≡ s.node
  node_as = ap (λ (x : Store D). x.node) ready.store

  seen_as : node_seen n t ≡ node_seen m s
  seen_as = ready_seen m n s t ready

  pub ready_serves : ServesNode m s → ServesNode n t
  ready_serves serves = same_serves m n s t serves ready.node (wants_took m n s t ready (record { state = node_seen m s; lines = []; sent = [] }) []).1

  -- ---- a message

  pub handles_out : (clock place : ℕ) (r : Received) (o p : ServerNode) (u : Store D) (outs : Outs) (behind : List Parcel) → TookNode (node_taken t.node (node_seen n t) clock place r) (Place place) n o t u (Ok outs) → IsLetOut o p behind →
      HandlesNode (node_row s.node (node_seen m s) clock place r) (Place place) m p s u (Ok (outs, behind))
  handles_out clock place r o p u outs behind took out =
      subst (λ (x : Step NodeState). HandlesNode x (Place place) m p s u (Ok (outs, behind)))
      (ap₂ (λ (me : Node) (x : NodeState). let_out (node_taken me x clock place r)) node_as seen_as ∙ sym (row_let_out s.node (node_seen m s) clock place r))
      (out_took m n s t ready (node_taken t.node (node_seen n t) clock place r) (Place place) o p u outs behind took out)

  pub handles_err : (clock place : ℕ) (r : Received) (o : ServerNode) (u : Store D) (fault : NodeFault) → TookNode (node_taken t.node (node_seen n t) clock place r) (Place place) n o t u (Err fault) →
      HandlesNode (node_row s.node (node_seen m s) clock place r) (Place place) m o s u (Err fault)
  handles_err clock place r o u fault took = err_took m n s t ready (node_taken t.node (node_seen n t) clock place r) (node_row s.node (node_seen m s) clock place r) (Place place) o u fault took

  pub handles_wants : (clock place : ℕ) (r : Received) → HandlesNode (node_row s.node (node_seen m s) clock place r) (Place place) m n s t (Err faults.OutOfMemory)
  handles_wants clock place r = wants_took m n s t ready (node_row s.node (node_seen m s) clock place r) (Place place)

  module _ (w : Ghosts D) (clock : ℕ) (r : Received) where
    pub steps_out : (o p : ServerNode) (u : Store D) (outs : Outs) (behind : List Parcel) → StepsNode {T = Outs} w clock r n o t u (Ok outs) → IsLetOut o p behind → StepsNode {T = Outs × List Parcel} w clock r m p s u (Ok (outs, behind))
    steps_out o p u outs behind steps out =
        steps_as w _ _ _ _ _ _ m p s u (Ok (outs, behind))
        (ap₂ (λ (me : Node) (x : NodeState). node_record me x clock r) node_as seen_as)
        (ap₂ (λ (me : Node) (x : NodeState). node_begun_after me x clock r) node_as seen_as)
        (ap₂ (λ (me : Node) (x : NodeState). node_device_calls me x clock r) node_as seen_as)
        (out_steps m n s t ready w (node_record t.node (node_seen n t) clock r) u (node_begun_after t.node (node_seen n t) clock r) (node_device_calls t.node (node_seen n t) clock r) o p outs behind steps out)

    pub steps_err : (o : ServerNode) (u : Store D) (fault : NodeFault) → StepsNode {T = Outs} w clock r n o t u (Err fault) → StepsNode {T = Outs × List Parcel} w clock r m o s u (Err fault)
    steps_err o u fault steps =
        steps_as w _ _ _ _ _ _ m o s u (Err fault)
        (ap₂ (λ (me : Node) (x : NodeState). node_record me x clock r) node_as seen_as)
        (ap₂ (λ (me : Node) (x : NodeState). node_begun_after me x clock r) node_as seen_as)
        (ap₂ (λ (me : Node) (x : NodeState). node_device_calls me x clock r) node_as seen_as)
        (err_steps m n s t ready w (node_record t.node (node_seen n t) clock r) u (node_begun_after t.node (node_seen n t) clock r) (node_device_calls t.node (node_seen n t) clock r) o fault steps)

    pub steps_want : StepsNode {T = Outs × List Parcel} w clock r m n s t (Err faults.OutOfMemory)
    steps_want = wants_steps m n s t ready w (node_record s.node (node_seen m s) clock r) (node_begun_after s.node (node_seen m s) clock r) (node_device_calls s.node (node_seen m s) clock r)

  -- ---- a step of its own

  module _ (step : Step NodeState) (late : Step NodeState) (is : let_out step ≡ late) where
    pub own_out : (o p : ServerNode) (u : Store D) (outs : Outs) (behind : List Parcel) → TookNode step [] n o t u (Ok outs) → IsLetOut o p behind → HandlesNode late [] m p s u (Ok (outs, behind))
    own_out o p u outs behind took out = subst (λ (x : Step NodeState). HandlesNode x [] m p s u (Ok (outs, behind))) is (out_took m n s t ready step [] o p u outs behind took out)

  pub own_err : (step late : Step NodeState) (o : ServerNode) (u : Store D) (fault : NodeFault) → TookNode step [] n o t u (Err fault) → HandlesNode late [] m o s u (Err fault)
  own_err step late o u fault took = err_took m n s t ready step late [] o u fault took

  pub late_out : (clock : ℕ) (callee : Node) (c : BackCall) (f : Memory) (p : ServerNode) (u : Store D) (outs : Outs) (behind : List Parcel) → Handles (back_timeout_row t.node (server_seen n.file t) clock callee c) [] n.file f t u (Ok outs) → IsLetOut (record n { file = f }) p behind →
      HandlesNode (node_back_timeout_row s.node (node_seen m s) clock callee c) [] m p s u (Ok (outs, behind))
  late_out clock callee c f p u outs behind made out =
      own_out (resting (vol_seen n.vol) (back_timeout_row t.node (server_seen n.file t) clock callee c)) (node_back_timeout_row s.node (node_seen m s) clock callee c)
      (sym (late_let_out t.node (node_seen n t) clock callee c) ∙ ap₂ (λ (me : Node) (x : NodeState). node_back_timeout_row me x clock callee c) node_as seen_as)
      (record n { file = f }) p u outs behind (file_took (back_timeout_row t.node (server_seen n.file t) clock callee c) [] n f t u (Ok outs) made) out

  pub late_err : (clock : ℕ) (callee : Node) (c : BackCall) (f : Memory) (u : Store D) (fault : NodeFault) → Handles (back_timeout_row t.node (server_seen n.file t) clock callee c) [] n.file f t u (Err fault) →
      HandlesNode (node_back_timeout_row s.node (node_seen m s) clock callee c) [] m (record n { file = f }) s u (Err fault)
  late_err clock callee c f u fault made =
      own_err (resting (vol_seen n.vol) (back_timeout_row t.node (server_seen n.file t) clock callee c)) (node_back_timeout_row s.node (node_seen m s) clock callee c) (record n { file = f }) u fault
      (file_took (back_timeout_row t.node (server_seen n.file t) clock callee c) [] n f t u (Err fault) made)

  pub woken_out : (clock : ℕ) (f : Memory) (p : ServerNode) (u : Store D) (outs : Outs) (behind : List Parcel) → Handles (wake_row t.node (server_seen n.file t) clock) [] n.file f t u (Ok outs) → IsLetOut (record n { file = f }) p behind →
      HandlesNode (node_wake_row s.node (node_seen m s) clock) [] m p s u (Ok (outs, behind))
  woken_out clock f p u outs behind made out =
      own_out (resting (vol_seen n.vol) (wake_row t.node (server_seen n.file t) clock)) (node_wake_row s.node (node_seen m s) clock)
      (sym (woken_let_out t.node (node_seen n t) clock) ∙ ap₂ (λ (me : Node) (x : NodeState). node_wake_row me x clock) node_as seen_as)
      (record n { file = f }) p u outs behind (file_took (wake_row t.node (server_seen n.file t) clock) [] n f t u (Ok outs) made) out

  pub woken_err : (clock : ℕ) (f : Memory) (u : Store D) (fault : NodeFault) → Handles (wake_row t.node (server_seen n.file t) clock) [] n.file f t u (Err fault) →
      HandlesNode (node_wake_row s.node (node_seen m s) clock) [] m (record n { file = f }) s u (Err fault)
  woken_err clock f u fault made =
      own_err (resting (vol_seen n.vol) (wake_row t.node (server_seen n.file t) clock)) (node_wake_row s.node (node_seen m s) clock) (record n { file = f }) u fault
      (file_took (wake_row t.node (server_seen n.file t) clock) [] n f t u (Err fault) made)

  -- the dumps of the call are those that the row finds
  abbrev timed_by : (clock : ℕ) (callee : Node) (c : Piece) → VolTurn
  timed_by clock callee c = vol_timed_then n.vol (callbacks_of n.file) t clock callee (call_seen c) c.content

  piece_is : (clock : ℕ) (callee : Node) (c : Piece) → call_to n.vol.callees callee ≡ Some c → let_out (vol_resting t.node (server_seen n.file t) [] (timed_by clock callee c)) ≡ piece_timeout_row t.node (node_seen n t) clock callee (call_seen c)
  piece_is clock callee c is =
      ap (λ o. let_out (vol_resting t.node (server_seen n.file t) [] (vol_timed_then n.vol (callbacks_of n.file) t clock callee (call_seen c) (dumps_of o)))) (sym is)
      ∙ sym (piece_let_out t.node (node_seen n t) clock callee (call_seen c))

  pub piece_out : (clock : ℕ) (callee : Node) (c : Piece) (v : VolMemory) (k : CallbackState) (p : ServerNode) (u : Store D) (outs : Outs) (behind : List Parcel) → call_to m.vol.callees callee ≡ Some c →
      HandlesVolumes (timed_by clock callee c) n.vol v (callbacks_of n.file) k t u (Ok outs) → IsLetOut (record { file = with_callbacks n.file k; vol = v }) p behind →
      HandlesNode (piece_timeout_row s.node (node_seen m s) clock callee (call_seen c)) [] m p s u (Ok (outs, behind))
  piece_out clock callee c v k p u outs behind is made out =
      own_out (vol_resting t.node (server_seen n.file t) [] (timed_by clock callee c)) (piece_timeout_row s.node (node_seen m s) clock callee (call_seen c))
      (piece_is clock callee c (ap (λ (x : ServerNode). call_to x.vol.callees callee) ready.node ∙ is) ∙ ap₂ (λ (me : Node) (x : NodeState). piece_timeout_row me x clock callee (call_seen c)) node_as seen_as)
      (record { file = with_callbacks n.file k; vol = v }) p u outs behind (volume_took (timed_by clock callee c) [] n v k t u (Ok outs) made) out

  pub piece_err : (clock : ℕ) (callee : Node) (c : Piece) (v : VolMemory) (k : CallbackState) (u : Store D) (fault : NodeFault) → HandlesVolumes (timed_by clock callee c) n.vol v (callbacks_of n.file) k t u (Err fault) →
      HandlesNode (piece_timeout_row s.node (node_seen m s) clock callee (call_seen c)) [] m (record { file = with_callbacks n.file k; vol = v }) s u (Err fault)
  piece_err clock callee c v k u fault made =
      own_err (vol_resting t.node (server_seen n.file t) [] (timed_by clock callee c)) (piece_timeout_row s.node (node_seen m s) clock callee (call_seen c)) (record { file = with_callbacks n.file k; vol = v }) u fault
      (volume_took (timed_by clock callee c) [] n v k t u (Err fault) made)

  pub own_wants : (late : Step NodeState) → HandlesNode late [] m n s t (Err faults.OutOfMemory)
  own_wants late = wants_took m n s t ready late []

  pub own_wanted : SameNode m n × SameStored s t
  own_wanted = wants_took m n s t ready (record { state = node_seen m s; lines = []; sent = [] }) []

  -- ---- what it leaves

  let_serves : (o p : ServerNode) (u : Store D) (behind : List Parcel) → ServesNode o u → IsLetOut o p behind → ServesNode p u
  let_serves o p u behind serves out = subst (λ (x : ServerNode). ServesNode x u) (sym out.is) (record { file = serves.file; volumes = vol_held o.vol _ p.vol.room u serves.volumes })

  pub late_kept : (f : Memory) (p : ServerNode) (u : Store D) (behind : List Parcel) → ServesNode m s → ServesOver f u → u ≡ record t { drawn = u.drawn } → IsLetOut (record n { file = f }) p behind → ServesNode p u
  late_kept f p u behind serves file store out =
      let kept : u ≡ record t { disk = u.disk; prepared = u.prepared; drawn = u.drawn; holds = u.holds } = subst (λ (x : Store D). x ≡ record t { disk = x.disk; prepared = x.prepared; drawn = x.drawn; holds = x.holds }) (sym store) refl in
      let_serves (record n { file = f }) p u behind (late_serves n f t u (ready_serves serves) file kept (ap (λ (x : Store D). x.holds.table) store)) out

  pub piece_kept : (v : VolMemory) (k : CallbackState) (p : ServerNode) (u : Store D) (behind : List Parcel) → ServesNode m s → StaysInOrder n.vol v k u → IsLetOut (record { file = with_callbacks n.file k; vol = v }) p behind → ServesNode p u
  piece_kept v k p u behind serves order out = let_serves (record { file = with_callbacks n.file k; vol = v }) p u behind (volume_serves n v k t u (ready_serves serves) order) out

  pub late_drawn : (o p : ServerNode) (u : Store D) (behind : List Parcel) → u.drawn ≤ t.drawn + 204 → o.file.lists.last_owed + length o.file.lists.promises ≤ n.file.lists.last_owed + length n.file.lists.promises → IsLetOut o p behind → DrawsFew 0 m p s u
  late_drawn o p u behind calls owed out = record {
    calls = subst (λ (x : Store D). u.drawn ≤ x.drawn + 204) ready.store calls;
    owed = subst (λ (x : ServerNode). x.file.lists.last_owed + length x.file.lists.promises ≤ m.file.lists.last_owed + length m.file.lists.promises + 0) (sym out.is)
        (subst (λ (x : ServerNode). o.file.lists.last_owed + length o.file.lists.promises ≤ x.file.lists.last_owed + length x.file.lists.promises + 0) ready.node (omega (arith, owed)));
  }

  pub stored_since : (u : Store D) → u ≡ record t { drawn = u.drawn; holds = u.holds } → u ≡ record s { drawn = u.drawn; holds = u.holds }
  stored_since u store = store ∙ ap (λ (x : Store D). record x { drawn = u.drawn; holds = u.holds }) ready.store

  pub room_stored : t ≡ record s { drawn = t.drawn; holds = t.holds }
  room_stored = subst (λ (x : Store D). x ≡ record s { drawn = x.drawn; holds = x.holds }) (sym ready.store) refl

  pub drawn_since : (u : Store D) → u ≡ record t { drawn = u.drawn } → u ≡ record s { drawn = u.drawn; holds = u.holds }
  drawn_since u store = stored_since u (subst (λ (x : Store D). x ≡ record t { drawn = x.drawn; holds = x.holds }) (sym store) refl)

  pub err_wants : (step : Step NodeState) (o : ServerNode) (u : Store D) (fault : NodeFault) → HandlesNode step [] m o s u (Err fault) → (fault ≡ faults.Down → ⊥) → SameNode m o × SameStored s u
  err_wants step o u faults.OutOfMemory same up = same
  err_wants step o u faults.Down closes up = absurd (up refl)
