-- The script that is made for a number N: a cell of three servers, six clients and an administrator, with 40 files in three volumes. The
-- clients do 10 N acts, drawn by lot from N, and the administrator does four between them.
use Rattle.std.specs.Prelude.{ℕ, ◌+◌, ◌*◌, ◌/◌, ◌%◌, ◌==◌, List, [], ◌∷◌, ◌++◌, Option, Some, None, codes, flat_map, zero, suc, if◌then◌else◌}
use Rattle.std.specs.Fmt.{decimal}
use Rattle.afs_num.specs.declared.types.Node.{Node}
use Rattle.afs_num.specs.declared.types.Node.TheVariants as nodes
use Rattle.spec_history.specs.declared.acts.Act.TheVariants as acts
use Rattle.spec_history.specs.declared.acts.Operand.{Operand}
use Rattle.spec_history.specs.declared.acts.Operand.TheVariants as operands
use Rattle.spec_history.specs.declared.acts.Written.TheVariants.{Fill}
use Rattle.spec_history.specs.declared.scripts.AdminAct.{AdminAct}
use Rattle.spec_history.specs.declared.scripts.AdminAct.TheVariants as admin_acts
use Rattle.spec_history.specs.declared.scripts.Event.{Event}
use Rattle.spec_history.specs.declared.scripts.Event.TheVariants as events
use Rattle.spec_history.specs.declared.scripts.Script.{Script}
use Rattle.spec_history.specs.declared.scripts.SetupLine.{SetupLine}
use Rattle.spec_history.specs.declared.scripts.SetupLine.TheVariants as setup
use Rattle.spec_history.specs.declared.scripts.Task.{Task}
use Rattle.spec_history.specs.declared.scripts.Task.TheVariants as tasks
use Rattle.spec_history.specs.declared.scripts.VolumeLine.{VolumeLine}
use Rattle.afs_generate.specs.declared.generate.Picked.{Picked}

-- ---- draws

-- the state of the lot behind this one
unfoldable pub lot_behind : ℕ → ℕ
lot_behind x = (1103515245 * x + 12345) % 2147483648

-- a number below another one, drawn in this state
unfoldable pub drawn : ℕ → ℕ → ℕ
drawn below x = (x / 65536) % below

-- ---- what acts are on

-- the volumes are v0, v1 and v2, and the files f0 to f39: file J lies in the root of volume J mod 3
abbrev pub volume_name : ℕ → List ℕ
volume_name volume = codes "v" ++ decimal volume

abbrev pub file_name : ℕ → List ℕ
file_name file = codes "f" ++ decimal file

abbrev pub file_at : ℕ → Operand
file_at file = operands.Path (record { volume = volume_name (file % 3); names = file_name file ∷ [] })

-- ---- one act

-- A file is opened or stored, as was drawn, and then comes this state. Act k stores the byte k mod 256, so often as is drawn next.
abbrev pub act_drawn : ℕ → ℕ → ℕ → ℕ → Picked
act_drawn k file zero x = record { act = acts.Open (file_at file); state = x }
act_drawn k file (suc other) x = record { act = acts.Close (file_at file) (Fill (drawn 4096 (lot_behind x)) (k % 256)); state = lot_behind x }

abbrev pub task_drawn : ℕ → Picked → Task × ℕ
task_drawn client d = (tasks.Client client d.act, d.state)

-- Act k, and the state behind it: which client, which file, and whether it is stored, are drawn one after the other.
abbrev pub act_drawn_at : ℕ → ℕ → Task × ℕ
act_drawn_at k x =
    let client = lot_behind x in
    let file = lot_behind client in
    let stored = lot_behind file in
    task_drawn (1 + drawn 6 client) (act_drawn k (drawn 40 file) (drawn 2 stored) stored)

-- ---- all acts

-- what the administrator does behind act k
abbrev pub admin_act_behind : ℕ → ℕ → Option AdminAct
admin_act_behind n k =
    if k == 2 * n then Some (admin_acts.AddSite (volume_name 1) 3)
    else (if k == 3 * n then Some (admin_acts.Release (volume_name 1))
    else (if k == 5 * n then Some (admin_acts.Move (volume_name 0) 2)
    else (if k == 8 * n then Some (admin_acts.Move (volume_name 2) 1) else None)))

-- a client's act, and what the administrator does behind it
abbrev pub tasks_at : Task → Option AdminAct → List Task
tasks_at task None = task ∷ []
tasks_at task (Some act) = task ∷ tasks.Admin 1 act ∷ []

-- so many acts more, from act k and this state on
unfoldable pub acts_from : ℕ → ℕ → ℕ → ℕ → List Task
acts_from n zero k x = []
acts_from n (suc more) k x =
    let act = act_drawn_at k x in
    tasks_at act.0 (admin_act_behind n k) ++ acts_from n more (k + 1) act.1

abbrev pub acts_of : ℕ → List Task
acts_of n = acts_from n (10 * n) 1 n

-- ---- the schedule

abbrev pub doer_of : Task → Node
doer_of (tasks.Client client act) = nodes.Client client
doer_of (tasks.Admin admin act) = nodes.Admin admin

-- each act is begun, and then all messages are given
abbrev pub played : Task → List Event
played task = events.Act (doer_of task) ∷ events.Drain ∷ []

-- ---- the volumes

-- file J has J bytes
abbrev pub made_file_line : ℕ → SetupLine
made_file_line file = setup.File (file_name file ∷ []) (Fill file 97)

-- so many files, every third one from this one on
unfoldable pub lines_from : ℕ → ℕ → List SetupLine
lines_from zero file = []
lines_from (suc more) file = made_file_line file ∷ lines_from more (file + 3)

abbrev pub volume : ℕ → ℕ → VolumeLine
volume number files = record { id = 536870912 + number; name = volume_name number; server = number + 1; quota = 10000; lines = lines_from files number }

abbrev pub made_volumes : List VolumeLine
made_volumes = volume 0 14 ∷ volume 1 13 ∷ volume 2 13 ∷ []

-- ---- the script

abbrev pub generated : ℕ → Script
generated n = record {
  servers = 3;
  clients = 6;
  admins = 1;
  cache = 64;
  capacity = 268435456;
  users = [];
  volumes = made_volumes;
  tasks = acts_of n;
  plans = [];
  schedule = Some (flat_map played (acts_of n));
}
