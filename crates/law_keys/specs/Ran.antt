-- Which calls run in a cell, at its servers and at its location database, and which of them change what their callee keeps on its disk.
use Rattle.std.specs.Prelude.{ℕ, zero, suc, List, [], ◌∷◌, ◌++◌, Bool, true, false, filter, Option, Some, None, if◌then◌else◌}
use Rattle.afs_num.specs.declared.messages.Message.{Message}
use Rattle.afs_num.specs.declared.messages.Received.TheVariants.{Whole}
use Rattle.afs_num.specs.declared.types.Head.{Head}
use Rattle.afs_num.specs.declared.types.Node.{Node}
use Rattle.afs_num.specs.declared.types.Node.TheVariants.{Admin, Client, Loc, Server}
use Rattle.spec_rows.specs.Hosts.{at_rest, begun_from, comes_up, fails_early, fails_midway, in_boot, in_step, is_full, without_boot_record, struck, Blow, Fall, Host, NodeKind, Luck, Outcome}
use Rattle.spec_rows.specs.LocRow as loc
use Rattle.spec_rows.specs.LocRow.{loc_decides, LocDecision, LocState}
use Rattle.spec_rows.specs.LocSteps.{loc_kind}
use Rattle.spec_rows.specs.Runs.{gives, message_at, starts_again, Input}
use Rattle.spec_rows.specs.ServerRow as file
use Rattle.spec_rows.specs.ServerRow.{Decision}
use Rattle.spec_rows.specs.States.{durable_of}
use Rattle.spec_volrows.specs.NodeHosts.{node_kind}
use Rattle.spec_volrows.specs.VolStates.{NodeState}
use Rattle.spec_volrows.specs.VolSteps as vol
use Rattle.spec_volrows.specs.VolSteps.{from_of, is_of_client, node_file_decides, vol_decides, VolDecision}
use Rattle.spec_runs.specs.NodeRuns.{has_host, node_moved, usual, CellInput, NodeCell}

-- A call that ran: at this callee, in this boot of it, by this header; and whether it changed what its callee keeps on its disk. A call that
-- is refused ran, too. One that is told another boot number, that is older than its caller's last, or that is answered by the kept reply, didn't.
pub record RanCall : Type 0 where
  pub callee : Node
  pub boot : ℕ
  pub head : Head
  pub changed : Bool

abbrev pub one_ran : Node → ℕ → Bool → Head → List RanCall
one_ran me boot changed head = record { callee = me; boot = boot; head = head; changed = changed } ∷ []

-- ---- by what is decided on a message

-- at a file server
abbrev pub ran_of_file : Node → ℕ → Decision → List RanCall
ran_of_file me boot (file.refuses head code) = one_ran me boot false head
ran_of_file me boot (file.shows head r) = one_ran me boot false head
ran_of_file me boot (file.saves head c) = one_ran me boot true head
ran_of_file me boot file.drops = []
ran_of_file me boot (file.tells_boot head) = []
ran_of_file me boot (file.repeats reply) = []

-- at a volume server; a dump that is sent on changes nothing here
abbrev pub ran_of_vol : Node → ℕ → VolDecision → List RanCall
ran_of_vol me boot (vol.replies_to head reply ts last) = one_ran me boot false head
ran_of_vol me boot (vol.dispatches head x) = one_ran me boot false head
ran_of_vol me boot (vol.saves head x) = one_ran me boot true head
ran_of_vol me boot vol.drops = []
ran_of_vol me boot (vol.tells_boot head) = []
ran_of_vol me boot (vol.repeats reply) = []

-- at the location database
abbrev pub ran_of_loc : ℕ → LocDecision → List RanCall
ran_of_loc boot (loc.refuses head code) = one_ran Loc boot false head
ran_of_loc boot (loc.shows head reply) = one_ran Loc boot false head
ran_of_loc boot (loc.saves head c) = one_ran Loc boot true head
ran_of_loc boot loc.drops = []
ran_of_loc boot (loc.tells_boot head) = []
ran_of_loc boot (loc.repeats reply) = []

-- ---- what a message runs, by the state of its node and the clock

abbrev pub server_ran : Node → NodeState → ℕ → Message → List RanCall
server_ran me s clock m =
    if is_of_client (from_of (Whole m)) then ran_of_file me s.file.lasting.boot (node_file_decides me s clock (Whole m))
    else ran_of_vol me s.file.lasting.boot (vol_decides me (durable_of s.file.lasting) s.vol (Whole m))

abbrev pub database_ran : LocState → ℕ → Message → List RanCall
database_ran s clock m = ran_of_loc s.lasting.boot (loc_decides s (Whole m))

-- ---- and at its host

-- a step that its disk ends runs nothing yet
abbrev pub unless_hit : Option Blow → List RanCall → List RanCall
unless_hit None rs = rs
unless_hit (Some b) rs = []

abbrev pub ran_served : {S : Type 0} → NodeKind S → (S → ℕ → Message → List RanCall) → Host S → ℕ → Luck → Message → List RanCall
ran_served {S} kind ran h clock luck m = unless_hit (struck h.armed luck (kind.device_calls h.state clock (Whole m))) (ran h.state clock m)

abbrev pub that_changed : RanCall → Bool
that_changed r = r.changed

-- Where a restart finds the record of the interrupted step whole, its call has run. It changed something, as it has a record.
abbrev pub ran_found : {S : Type 0} → (S → ℕ → Message → List RanCall) → S → Bool → Fall → List RanCall
ran_found {S} ran s after at_rest = []
ran_found {S} ran s false (in_step m clock b) = []
ran_found {S} ran s true (in_step m clock b) = filter that_changed (ran s clock m)
ran_found {S} ran s after in_boot = []

-- a restart that fails before it has begun finds nothing
abbrev pub unless_early : Outcome → List RanCall → List RanCall
unless_early fails_early rs = []
unless_early comes_up rs = rs
unless_early fails_midway rs = rs
unless_early is_full rs = rs

abbrev pub ran_restarted : {S : Type 0} → NodeKind S → (S → ℕ → Message → List RanCall) → Host S → Bool → Outcome → Fall → List RanCall
ran_restarted {S} kind ran h after outcome fall =
    unless_early (without_boot_record (kind.can_start (begun_from kind h.state after fall).state) outcome) (ran_found ran h.state after fall)

-- while it is up; and while it is down
abbrev pub if_up : Option Fall → List RanCall → List RanCall
if_up None rs = rs
if_up (Some fall) rs = []

abbrev pub if_down : Option Fall → (Fall → List RanCall) → List RanCall
if_down None rs = []
if_down (Some fall) rs = rs fall

-- ---- what an input runs

abbrev pub ran_to : NodeCell → Luck → Message → Node → List RanCall
ran_to c luck m (Server i) = if has_host c i then if_up (c.hosts i).down (ran_served (node_kind (Server i)) (server_ran (Server i)) (c.hosts i) c.clock luck m) else []
ran_to c luck m Loc = if_up c.loc.down (ran_served loc_kind database_ran c.loc c.clock luck m)
ran_to c luck m (Client n) = []
ran_to c luck m (Admin n) = []

abbrev pub ran_at : NodeCell → Luck → Option Message → List RanCall
ran_at c luck None = []
ran_at c luck (Some m) = ran_to c luck m m.head.to

abbrev pub ran_usually : NodeCell → Input → List RanCall
ran_usually c (gives place luck) = ran_at c luck (message_at c.sent place)
ran_usually c (starts_again zero after o) = if_down c.loc.down (ran_restarted loc_kind database_ran c.loc after o)
ran_usually c (starts_again (suc i) after o) =
    if has_host c (suc i) then if_down (c.hosts (suc i)).down (ran_restarted (node_kind (Server (suc i))) (server_ran (Server (suc i))) (c.hosts (suc i)) after o) else []
ran_usually c x = []

abbrev pub ran_by : NodeCell → CellInput → List RanCall
ran_by c (usual x) = ran_usually c x
ran_by c x = []

-- and all that these inputs run, in their order
abbrev pub ran_in : NodeCell → List CellInput → List RanCall
ran_in c [] = []
ran_in c (x ∷ xs) = ran_by c x ++ ran_in (node_moved c x).cell xs
