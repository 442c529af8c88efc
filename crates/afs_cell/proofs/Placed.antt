-- What becomes of a cell with an input to one of its servers is that server's step, put into the cell.
use Rattle.std.specs.Prelude.{◌≡◌, ℕ, zero, suc, Bool, true, Some, None, cond}
use Rattle.std.proofs.Common.{ap, ◌∙◌}
use Rattle.afs_num.specs.declared.messages.Message.{Message}
use Rattle.afs_num.specs.declared.types.Node.{Node}
use Rattle.afs_num.specs.declared.types.Node.TheVariants.{Server}
use Rattle.spec_rows.specs.Hosts.{crashed, restarted, served, set_to_fail, set_to_stop, Fall, HostStep, Luck, Outcome}
use Rattle.spec_rows.specs.Runs.{gives, message_at, server_waits, sets_fail, sets_stop, starts_again, stops, wakes}
use Rattle.spec_rows.specs.States.{BackCall}
use Rattle.spec_runs.specs.NodeRuns.{call_timed, given_at, given_to, has_host, if_host, node_moved, piece_timed, server_stepped, server_restarted, server_timed, server_up, usual, usually_moved, voided, NodeCell, NodeMoved}
use Rattle.spec_volrows.specs.NodeHosts.{node_kind, node_timed_out, node_woken, piece_timed_out}
use Rattle.spec_volrows.specs.VolStates.{NodeState, PieceCall}

-- the cell has the server of this number
there : (c : NodeCell) (i : ℕ) (m : NodeMoved) → has_host c i ≡ true → if_host c i m ≡ m
there c i m has = ap (λ (b : Bool). cond b m (voided c)) has

-- and it is up
up_there : (c : NodeCell) (i : ℕ) (s : HostStep NodeState) → has_host c i ≡ true → (c.hosts i).down ≡ None → if_host c i (server_up c i s (c.hosts i).down) ≡ server_stepped c i s
up_there c i s has up = there c i _ has ∙ ap (server_up c i s) up

-- a message is given
pub moved_served : (c : NodeCell) (i place : ℕ) (luck : Luck) (m : Message) → message_at c.sent place ≡ Some m → m.head.to ≡ Server i → has_host c i ≡ true → (c.hosts i).down ≡ None →
    node_moved c (usual (gives place luck)) ≡ server_stepped c i (served (node_kind (Server i)) (c.hosts i) c.clock place luck m)
unfolding usually_moved
moved_served c i place luck m at to has up =
    ap (given_at c place luck) at ∙ (ap (given_to c place luck m) to ∙ up_there c i _ has up)

-- its file server's call to a client is timed out
pub moved_timed_out : (c : NodeCell) (i : ℕ) (n : Node) (b : BackCall) → (c.hosts i).state.file.backs.calls n ≡ Some b → has_host c i ≡ true → (c.hosts i).down ≡ None →
    node_moved c (usual (server_waits i n)) ≡ server_stepped c i (node_timed_out (Server i) (c.hosts i) c.clock n b)
unfolding usually_moved
moved_timed_out c i n b called has up = there c i _ has ∙ (ap (server_timed c i n) up ∙ ap (call_timed c i n) called)

-- or its volume server's to a server
pub moved_piece_timed_out : (c : NodeCell) (i : ℕ) (n : Node) (p : PieceCall) → (c.hosts i).state.file.backs.calls n ≡ None → (c.hosts i).state.vol.calls n ≡ Some p → has_host c i ≡ true → (c.hosts i).down ≡ None →
    node_moved c (usual (server_waits i n)) ≡ server_stepped c i (piece_timed_out (Server i) (c.hosts i) c.clock n p)
unfolding usually_moved
moved_piece_timed_out c i n p none called has up = there c i _ has ∙ (ap (server_timed c i n) up ∙ (ap (call_timed c i n) none ∙ ap (piece_timed c i n) called))

-- time has passed
pub moved_woken : (c : NodeCell) (i : ℕ) → has_host c i ≡ true → (c.hosts i).down ≡ None → node_moved c (usual (wakes i)) ≡ server_stepped c i (node_woken (Server i) (c.hosts i) c.clock)
unfolding usually_moved
moved_woken c i has up = up_there c i _ has up

-- it crashes
pub moved_crashed : (c : NodeCell) (i : ℕ) → has_host c i ≡ true → (c.hosts i).down ≡ None → node_moved c (usual (stops i)) ≡ server_stepped c i (crashed (node_kind (Server i)) (c.hosts i))
unfolding usually_moved
moved_crashed c zero has up = absurd cc
moved_crashed c (suc i) has up = up_there c (suc i) _ has up

-- its disk is set
pub moved_set_to_stop : (c : NodeCell) (i calls pick : ℕ) → has_host c i ≡ true → (c.hosts i).down ≡ None →
    node_moved c (usual (sets_stop i calls pick)) ≡ server_stepped c i (set_to_stop (node_kind (Server i)) (c.hosts i) calls pick)
unfolding usually_moved
moved_set_to_stop c zero calls pick has up = absurd cc
moved_set_to_stop c (suc i) calls pick has up = up_there c (suc i) _ has up

pub moved_set_to_fail : (c : NodeCell) (i call : ℕ) → has_host c i ≡ true → (c.hosts i).down ≡ None →
    node_moved c (usual (sets_fail i call)) ≡ server_stepped c i (set_to_fail (node_kind (Server i)) (c.hosts i) call)
unfolding usually_moved
moved_set_to_fail c zero call has up = absurd cc
moved_set_to_fail c (suc i) call has up = up_there c (suc i) _ has up

-- it begins again
pub moved_restarted : (c : NodeCell) (i : ℕ) (after : Bool) (outcome : Outcome) (fall : Fall) → has_host c i ≡ true → (c.hosts i).down ≡ Some fall →
    node_moved c (usual (starts_again i after outcome)) ≡ server_stepped c i (restarted (node_kind (Server i)) (c.hosts i) c.clock c.count after outcome fall)
unfolding usually_moved
moved_restarted c zero after outcome fall has down = absurd cc
moved_restarted c (suc i) after outcome fall has down = there c (suc i) _ has ∙ ap (server_restarted c (suc i) after outcome) down
