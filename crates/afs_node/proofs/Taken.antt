-- The step of a server node in two parts: what the server does whose message it is, and the replies of the volume server that go out behind it.
use Rattle.std.specs.Prelude.{◌≡◌, ◌++◌, ℕ, List, [], ◌∷◌, Bool, true, false, filter, if◌then◌else◌}
use Rattle.std.proofs.Common.{refl, ap, ap₂, sym, ◌∙◌}
use Rattle.afs_num.specs.declared.messages.Message.{Message}
use Rattle.afs_num.specs.declared.messages.Received.{Received}
use Rattle.afs_num.specs.declared.types.Head.{Head}
use Rattle.afs_num.specs.declared.types.Node.{Node}
use Rattle.afs_num.specs.declared.types.Parcel.{Parcel}
use Rattle.spec_history.specs.declared.lines.Line.{Line}
use Rattle.spec_history.specs.declared.lines.Line.TheVariants as lines
use Rattle.spec_history.specs.declared.lines.Outs.{Outs}
use Rattle.spec_model.specs.Messages.{messages_spelled, parcels_read, spelled}
use Rattle.afs_num.specs.declared.messages.Received.TheVariants.{Whole}
use Rattle.spec_rows.specs.Callbacks.{expired, is_ready, replies_of}
use Rattle.spec_rows.specs.ServerSteps.{back_timeout_row, wake_row}
use Rattle.spec_rows.specs.States.{durable_of, BackCall}
use Rattle.spec_rows.specs.Steps.{Step}
use Rattle.spec_volrows.specs.FileRow.{file_row}
use Rattle.spec_volrows.specs.VolLaws.{resting}
use Rattle.spec_volrows.specs.VolRow.{holds_of}
use Rattle.spec_volrows.specs.VolStates.{NodeState, PieceCall}
use Rattle.spec_volrows.specs.VolSteps.{from_of, is_of_client, waits_for_breaks, node_back_timeout_row, node_row, node_wake_row, piece_timeout_row, vol_decides, vol_timed, vol_turned}
use Rattle.afs_volstore.specs.Stores.{Store}
use Rattle.afs_node.specs.Handling.{let_out, node_taken, vol_resting, MakesNode, TakesNode}
use Rattle.afs_node.specs.Seen.{node_seen}
use Rattle.afs_node.specs.declared.node.ServerNode.{ServerNode}

-- ---- the row

let_out_if : (b : Bool) (x y : Step NodeState) → (if b then let_out x else let_out y) ≡ let_out (if b then x else y)
let_out_if true x y = refl
let_out_if false x y = refl

pub row_let_out : (me : Node) (s : NodeState) (clock place : ℕ) (m : Received) → node_row me s clock place m ≡ let_out (node_taken me s clock place m)
unfolding node_row
row_let_out me s clock place m =
    let_out_if (is_of_client (from_of m)) (resting s.vol (file_row me (holds_of s.vol.transactions) s.file clock place m))
    (vol_resting me s.file (lines.Given place ∷ []) (vol_turned me s.file.lasting s.vol (expired clock s.file.backs) (vol_decides me (durable_of s.file.lasting) s.vol m) m))

pub late_let_out : (me : Node) (s : NodeState) (clock : ℕ) (n : Node) (c : BackCall) → node_back_timeout_row me s clock n c ≡ let_out (resting s.vol (back_timeout_row me s.file clock n c))
unfolding node_back_timeout_row
late_let_out me s clock n c = refl

pub piece_let_out : (me : Node) (s : NodeState) (clock : ℕ) (n : Node) (c : PieceCall) →
    piece_timeout_row me s clock n c ≡ let_out (vol_resting me s.file [] (vol_timed me s.file.lasting s.vol (expired clock s.file.backs) n c (s.vol.sendings n)))
unfolding piece_timeout_row
piece_let_out me s clock n c = refl

pub woken_let_out : (me : Node) (s : NodeState) (clock : ℕ) → node_wake_row me s clock ≡ let_out (resting s.vol (wake_row me s.file clock))
unfolding node_wake_row
woken_let_out me s clock = refl

-- ---- what goes out

messages_spelled-append : (ms ns : List Message) → messages_spelled (ms ++ ns) ≡ messages_spelled ms ++ messages_spelled ns
messages_spelled-append [] ns = refl
messages_spelled-append (m ∷ ms) ns = ap (λ (t : List (Head × List ℕ × Received)). (m.head, spelled m, Whole m) ∷ t) (messages_spelled-append ms ns)

abbrev pub state_let_out : NodeState → NodeState
state_let_out s = record { file = s.file; vol = record s.vol { held = filter (waits_for_breaks s.file.backs.lists.owed) s.vol.held } }

abbrev pub ready_in : NodeState → List Message
ready_in s = replies_of (filter (is_ready s.file.backs.lists.owed) s.vol.held)

-- what the node is once these replies are out, with whatever room is left
pub record IsLetOut (m n : ServerNode) (behind : List Parcel) : Type 0 where
  pub sent : parcels_read behind ≡ messages_spelled (replies_of (filter (is_ready m.file.lists.owed) m.vol.held))
  pub is : n ≡ record m { vol = record m.vol { held = filter (waits_for_breaks m.file.lists.owed) m.vol.held; room = n.vol.room } }

pub made_out : {D : Type 0} (step : Step NodeState) (before : List Line) (m n : ServerNode) (s : Store D) (outs : Outs) (behind : List Parcel) → TakesNode step before m s outs → IsLetOut m n behind → MakesNode (let_out step) before n s outs behind
made_out {D} step before m n s outs behind taken out = record {
  state = ap (λ (x : ServerNode). node_seen x s) out.is ∙ ap state_let_out taken.state;
  lines = taken.lines;
  sent =
      ap₂ (λ (a b : List (Head × List ℕ × Received)). a ++ b) taken.sent (out.sent ∙ ap (λ (x : NodeState). messages_spelled (ready_in x)) taken.state)
      ∙ sym (messages_spelled-append step.sent (ready_in step.state));
}
