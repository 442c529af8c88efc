-- A node with its disk, up or down, and the host of the cell that it stands for.
use Rattle.std.specs.Prelude.{◌≡◌, ◌+◌, ℕ, List, [], ◌++◌, Option, Some, None, IsSome}
use Rattle.afs_num.specs.declared.records.Mark.{Mark}
use Rattle.spec_history.specs.declared.lines.Line.{Line}
use Rattle.spec_history.specs.declared.lines.Outs.{Outs}
use Rattle.afs_journal.specs.Records.{whole_records}
use Rattle.spec_model.specs.Messages.{messages_spelled, parcels_read}
use Rattle.spec_rows.specs.Hosts.{unarmed, Armed, Fall, Host, HostStep}
use Rattle.afs_host.specs.Standing.{IsKeptFound, IsKeptIn, Keeping}

-- a node that is up: what it has in memory, its store, and how its disk is set
pub record Running (N T : Type 0) : Type 0 where
  pub memory : N
  pub store : T
  pub armed : Armed

-- A node that is down: its disk, and the mark of the store after the last step whose lines were told.
pub record Resting (D : Type 0) : Type 0 where
  pub disk : D
  pub mark : Mark

-- ---- the host that a node stands for

-- A node that is up is the host's state, as this is seen in its memory and its store, and its disk is set as the host's.
pub record IsHostUp {N T S : Type 0} (seen : N → T → S) (r : Running N T) (h : Host S) : Type 0 where
  pub state : h.state ≡ seen r.memory r.store
  pub down : h.down ≡ None
  pub armed : h.armed ≡ r.armed

-- One that is down fell so, and nothing is set at it. Where its disk tells, whatever a crash may leave of that stands for the
-- host's durable part, or for that with the interrupted step; and what a read gives stands for the one that a restart may find.
pub record IsHostDown {D R T M P L S : Type 0} (seen : D → Option (List ℕ)) (may_leave : D → List ℕ → Type 0) (limit : D → ℕ) (keeping : Keeping R T M P L S) (s : Resting D) (h : Host S) : Type 0 where
  pub fall : Fall
  pub down : h.down ≡ Some fall
  pub armed : h.armed ≡ unarmed
  pub capacity : keeping.capacity (keeping.lasting h.state) ≡ limit s.disk
  pub lies : IsSome (seen s.disk) → (bytes : List ℕ) → may_leave s.disk bytes → IsKeptIn keeping h.state fall s.mark (whole_records bytes)
  pub found : (bytes : List ℕ) → seen s.disk ≡ Some bytes → IsKeptFound keeping h.state fall s.mark (whole_records bytes)

-- The node is up after this step, and gave this out. Its lines are these and then the node's.
pub record IsHostStepUp {N T S : Type 0} (seen : N → T → S) (r : Running N T) (before : List Line) (outs : Outs) (s : HostStep S) : Type 0 where
  pub host : IsHostUp seen r s.host
  pub lines : before ++ outs.lines ≡ s.lines
  pub sent : parcels_read outs.parcels ≡ messages_spelled s.sent

-- The node is down after this step, whose lines are these.
pub record IsHostStepDown {D R T M P L S : Type 0} (seen : D → Option (List ℕ)) (may_leave : D → List ℕ → Type 0) (limit : D → ℕ) (keeping : Keeping R T M P L S) (r : Resting D) (told : List Line) (s : HostStep S) : Type 0 where
  pub host : IsHostDown seen may_leave limit keeping r s.host
  pub lines : told ≡ s.lines
  pub sent : s.sent ≡ []
