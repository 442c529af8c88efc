-- The kinds of steps of a cell: what is to be shown of each, so that it holds of whatever the cell is given.
use Rattle.std.specs.Prelude.{◌≡◌, ℕ, suc, Bool, true, false, Some, None}
use Rattle.afs_num.specs.declared.messages.Message.{Message}
use Rattle.afs_num.specs.declared.messages.Received.TheVariants.{Whole}
use Rattle.afs_num.specs.declared.types.Node.{Node}
use Rattle.afs_num.specs.declared.types.Node.TheVariants.{Admin, Client, Loc, Server}
use Rattle.spec_history.specs.declared.acts.Act.{Act}
use Rattle.spec_history.specs.declared.scripts.AdminAct.{AdminAct}
use Rattle.spec_adminrows.specs.AdminRow.{admin_begin_row, admin_row, admin_timeout_row}
use Rattle.spec_adminrows.specs.declared.turns.Running.{Running}
use Rattle.spec_copyrows.specs.CopyRow.{copy_begin_row, copy_row, copy_seek_row, copy_timeout_row}
use Rattle.spec_rows.specs.ClientRow.{act_of}
use Rattle.spec_rows.specs.Going.{Going, Seek}
use Rattle.spec_rows.specs.Hosts.{crashed, restarted, served, set_to_fail, set_to_stop, Fall, Luck, Outcome}
use Rattle.spec_rows.specs.LocSteps.{loc_kind}
use Rattle.spec_rows.specs.Runs.{message_at}
use Rattle.spec_rows.specs.States.{BackCall}
use Rattle.spec_volrows.specs.NodeHosts.{node_kind, node_timed_out, node_woken, piece_timed_out}
use Rattle.spec_volrows.specs.VolStates.{PieceCall}
use Rattle.spec_runs.specs.NodeRuns.{admin_falls, admin_moves, admin_rises, client_falls, client_moves, client_rises, has_host, is_away, is_gone, loc_stepped, server_stepped, ticked, voided, NodeCell, NodeMoved}

-- the cell has a server of this number, and it is up
pub record IsUp (c : NodeCell) (i : ℕ) : Type 0 where
  pub there : has_host c i ≡ true
  pub up : (c.hosts i).down ≡ None

-- the message stands at this place among those that were sent, and is to this node
pub record IsGiven (c : NodeCell) (place : ℕ) (m : Message) (n : Node) : Type 0 where
  pub sent : message_at c.sent place ≡ Some m
  pub to : m.head.to ≡ n

-- A server: it is given a message; it crashes; its disk is set; it begins again; its unanswered call to another server, or to a client, is
-- timed out; time has passed.
pub record OfServers (R : NodeMoved → Type 0) (c : NodeCell) : Type 0 where
  pub serves : (i place : ℕ) (luck : Luck) (m : Message) → IsUp c i → IsGiven c place m (Server i) → R (server_stepped c i (served (node_kind (Server i)) (c.hosts i) c.clock place luck m))
  pub crashes : (i : ℕ) → IsUp c i → R (server_stepped c i (crashed (node_kind (Server i)) (c.hosts i)))
  pub stop_set : (i calls pick : ℕ) → IsUp c i → R (server_stepped c i (set_to_stop (node_kind (Server i)) (c.hosts i) calls pick))
  pub fail_set : (i call : ℕ) → IsUp c i → R (server_stepped c i (set_to_fail (node_kind (Server i)) (c.hosts i) call))
  pub restarts : (i : ℕ) (after : Bool) (o : Outcome) (fall : Fall) → has_host c i ≡ true → (c.hosts i).down ≡ Some fall → R (server_stepped c i (restarted (node_kind (Server i)) (c.hosts i) c.clock c.count after o fall))
  pub piece_late : (i : ℕ) (n : Node) (p : PieceCall) → IsUp c i → (c.hosts i).state.vol.calls n ≡ Some p → R (server_stepped c i (piece_timed_out (Server i) (c.hosts i) c.clock n p))
  pub break_late : (i : ℕ) (n : Node) (b : BackCall) → IsUp c i → (c.hosts i).state.file.backs.calls n ≡ Some b → R (server_stepped c i (node_timed_out (Server i) (c.hosts i) c.clock n b))
  pub wakes : (i : ℕ) → IsUp c i → R (server_stepped c i (node_woken (Server i) (c.hosts i) c.clock))

-- the location database, in the same way
pub record OfDatabase (R : NodeMoved → Type 0) (c : NodeCell) : Type 0 where
  pub serves : (place : ℕ) (luck : Luck) (m : Message) → c.loc.down ≡ None → IsGiven c place m Loc → R (loc_stepped c (served loc_kind c.loc c.clock place luck m))
  pub crashes : c.loc.down ≡ None → R (loc_stepped c (crashed loc_kind c.loc))
  pub stop_set : (calls pick : ℕ) → c.loc.down ≡ None → R (loc_stepped c (set_to_stop loc_kind c.loc calls pick))
  pub fail_set : (call : ℕ) → c.loc.down ≡ None → R (loc_stepped c (set_to_fail loc_kind c.loc call))
  pub restarts : (after : Bool) (o : Outcome) (fall : Fall) → c.loc.down ≡ Some fall → R (loc_stepped c (restarted loc_kind c.loc c.clock c.count after o fall))

-- A client: it begins an act; it is given a message; its unanswered call of the location database, or of a server, is timed out; it stops;
-- it begins again.
pub record OfClients (R : NodeMoved → Type 0) (c : NodeCell) : Type 0 where
  pub begins : (n : ℕ) (act : Act) → is_away c n ≡ false → act_of (c.clients n).client ≡ None → R (client_moves c n (copy_begin_row (Client n) (c.clients n) c.clock act))
  pub given : (n place : ℕ) (m : Message) → is_away c n ≡ false → IsGiven c place m (Client n) → R (client_moves c n (copy_row (Client n) (c.clients n) c.clock place (Whole m)))
  pub seek_late : (n : ℕ) (k : Seek) → is_away c n ≡ false → (c.clients n).client.seeking ≡ Some k → R (client_moves c n (copy_seek_row (Client n) (c.clients n) k))
  pub late : (n : ℕ) (act : Going) → is_away c n ≡ false → (c.clients n).client.running ≡ Some act → R (client_moves c n (copy_timeout_row (Client n) (c.clients n) act))
  pub stops : (n : ℕ) → is_away c n ≡ false → R (client_falls c n)
  pub starts : (n : ℕ) → c.away n ≡ true → R (client_rises c n)

-- an administrator, in the same way
pub record OfAdmins (R : NodeMoved → Type 0) (c : NodeCell) : Type 0 where
  pub begins : (n : ℕ) (act : AdminAct) → is_gone c n ≡ false → (c.admins n).running ≡ None → R (admin_moves c n (admin_begin_row (Admin n) (c.admins n) act))
  pub given : (n place : ℕ) (m : Message) → is_gone c n ≡ false → IsGiven c place m (Admin n) → R (admin_moves c n (admin_row (Admin n) (c.admins n) place (Whole m)))
  pub late : (n : ℕ) (r : Running) → is_gone c n ≡ false → (c.admins n).running ≡ Some r → R (admin_moves c n (admin_timeout_row (Admin n) (c.admins n) r))
  pub stops : (n : ℕ) → is_gone c n ≡ false → R (admin_falls c n)
  pub starts : (n : ℕ) → c.gone n ≡ true → R (admin_rises c n)

-- and nothing comes of what it is given, or time passes
pub record Each (R : NodeMoved → Type 0) (c : NodeCell) : Type 0 where
  pub void : R (voided c)
  pub ticks : (n : ℕ) → R (ticked c (suc n))
  pub servers : OfServers R c
  pub database : OfDatabase R c
  pub clients : OfClients R c
  pub admins : OfAdmins R c
