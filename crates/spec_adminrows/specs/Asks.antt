-- What an act asks: of whom, with which stamp; and what it reads of the act itself.
use Rattle.std.specs.Prelude.{ℕ, zero, suc, ◌+◌, List, [], ◌∷◌}
use Rattle.spec_history.specs.declared.scripts.AdminAct.{AdminAct}
use Rattle.spec_history.specs.declared.scripts.AdminAct.TheVariants as acts
use Rattle.afs_num.specs.declared.location_calls.LocCall.{LocCall}
use Rattle.afs_num.specs.declared.messages.Call.TheVariants as ask
use Rattle.afs_num.specs.declared.types.Node.TheVariants as nodes
use Rattle.afs_num.specs.declared.volume_calls.VolCall.{VolCall}
use Rattle.spec_adminrows.specs.Entries.{home_in}
use Rattle.spec_adminrows.specs.declared.places.Cause.{Cause}
use Rattle.spec_adminrows.specs.declared.places.Cause.TheVariants as causes
use Rattle.spec_adminrows.specs.declared.places.Hold.{Hold}
use Rattle.spec_adminrows.specs.declared.turns.Ask.{Ask}
use Rattle.spec_adminrows.specs.declared.turns.Errand.{Errand}

-- ---- flags

-- of a volume that isn't in service: closed, and closed and not filled yet
abbrev pub closed : ℕ
closed = 2

abbrev pub unfilled : ℕ
unfilled = 3

-- of a transaction: its volume is offline, or busy
abbrev pub offline : ℕ
offline = 1

abbrev pub busy_flag : ℕ
busy_flag = 2

-- kinds of volumes
abbrev pub read_write : ℕ
read_write = 0

abbrev pub read_only : ℕ
read_only = 1

abbrev pub backup : ℕ
backup = 2

-- ---- the act

-- the volume's name
abbrev pub name_in_act : AdminAct → List ℕ
name_in_act (acts.Create name server quota) = name
name_in_act (acts.Restore name server label) = name
name_in_act (acts.AddSite name server) = name
name_in_act (acts.Backup name) = name
name_in_act (acts.Release name) = name
name_in_act (acts.Move name server) = name
name_in_act (acts.Dump name label from) = name
name_in_act (acts.Remove name) = name
name_in_act (acts.Recover name) = name

-- the operation that the entry is locked for: 16 for a move, 32 for a release, 64 for a dump or a clone, 128 for a deletion
abbrev pub operation_of : AdminAct → ℕ
operation_of (acts.AddSite name server) = 32
operation_of (acts.Release name) = 32
operation_of (acts.Backup name) = 64
operation_of (acts.Dump name label from) = 64
operation_of (acts.Remove name) = 128
operation_of act = 16

abbrev pub force_of : AdminAct → ℕ
force_of (acts.Recover name) = 1
force_of act = 0

-- a recovery takes the lock from whoever has it
abbrev pub operation_by : Cause → AdminAct → ℕ
operation_by causes.Asked act = operation_of act
operation_by (causes.After code) act = 16

abbrev pub force_by : Cause → AdminAct → ℕ
force_by causes.Asked act = force_of act
force_by (causes.After code) act = 1

-- ---- the servers of the cell, by their numbers

abbrev pub from_to : ℕ → ℕ → List ℕ
from_to n zero = []
from_to n (suc k) = n ∷ from_to (n + 1) k

abbrev pub all_servers : Errand → List ℕ
all_servers e = from_to 1 e.servers

-- ---- of whom

-- the number of the entry's volume
abbrev pub family : Hold → ℕ
family h = h.entry.read_write

-- its server
abbrev pub home : Hold → ℕ
home h = home_in h.entry

abbrev pub at_loc : ℕ → LocCall → Ask
at_loc stamp call = record { callee = nodes.Loc; stamp = stamp; call = ask.Location call }

abbrev pub at_server : ℕ → ℕ → VolCall → Ask
at_server stamp server call = record { callee = nodes.Server server; stamp = stamp; call = ask.Volume call }

-- under the stamp of the hold: of the database, of a server, and of the server of the entry's volume
abbrev pub held_at_loc : Hold → LocCall → Ask
held_at_loc h call = at_loc h.stamp call

abbrev pub held_at : Hold → ℕ → VolCall → Ask
held_at h server call = at_server h.stamp server call

abbrev pub at_home : Hold → VolCall → Ask
at_home h call = held_at h (home h) call
