-- What every script is: what the cell that plays it may rely on.
use Rattle.std.specs.Prelude.{◌≡◌, ◌≤◌, ℕ, ◌+◌, List, [], ◌∷◌, true, false, Ok, length}
use Rattle.std.specs.List.{All}
use Rattle.afs_num.specs.Names.{volume_name_ok}
use Rattle.afs_num.specs.declared.types.Node.{Node}
use Rattle.afs_num.specs.declared.types.Node.TheVariants as nodes
use Rattle.spec_ideal.specs.SetUp.{empty_volume, laid, laid_or}
use Rattle.spec_ideal.specs.Volumes.{Volume}
use Rattle.spec_history.specs.Written.{bytes_in}
use Rattle.spec_history.specs.declared.acts.Act.{Act}
use Rattle.spec_history.specs.declared.acts.Act.TheVariants as acts
use Rattle.spec_history.specs.declared.acts.Operand.{Operand}
use Rattle.spec_history.specs.declared.acts.Operand.TheVariants as operands
use Rattle.spec_history.specs.declared.acts.Path.{Path}
use Rattle.spec_history.specs.declared.acts.Written.{Written}
use Rattle.spec_history.specs.declared.scripts.AdminAct.{AdminAct}
use Rattle.spec_history.specs.declared.scripts.AdminAct.TheVariants as admin_acts
use Rattle.spec_history.specs.declared.scripts.Event.{Event}
use Rattle.spec_history.specs.declared.scripts.Event.TheVariants as events
use Rattle.spec_history.specs.declared.scripts.Plan.{Plan}
use Rattle.spec_history.specs.declared.scripts.Plan.TheVariants as plans
use Rattle.spec_history.specs.declared.scripts.Script.{Script}
use Rattle.spec_history.specs.declared.scripts.SetupLine.{SetupLine}
use Rattle.spec_history.specs.declared.scripts.Task.{Task}
use Rattle.spec_history.specs.declared.scripts.Task.TheVariants as tasks
use Rattle.spec_history.specs.declared.scripts.UserLine.{UserLine}
use Rattle.spec_history.specs.declared.scripts.VolumeLine.{VolumeLine}
use Rattle.afs_words.specs.declared.nodes.Counts.{Counts}
use Rattle.afs_grammar.specs.Lines.{fits_loc, fits_server, has_name, schedule_so_far, script_of, setup_accepts, ticks_in, lines_of_server}

-- from the first number to the last
abbrev pub IsFrom : ℕ → ℕ → ℕ → Type 0
IsFrom low high n = (low ≤ n) × (n ≤ high)

-- a node of the cell
abbrev pub IsInCell : Counts → Node → Type 0
IsInCell c nodes.Loc = Unit {0}
IsInCell c (nodes.Server n) = IsFrom 1 c.servers n
IsInCell c (nodes.Client n) = IsFrom 1 c.clients n
IsInCell c (nodes.Admin n) = IsFrom 1 c.admins n

-- ---- acts

abbrev pub IsName : ℕ → List ℕ → Type 0
IsName most name = IsFrom 1 most (length name)

pub record IsPath (p : Path) : Type 0 where
  pub volume : IsName 32 p.volume
  pub names : All (IsName 256) p.names

abbrev pub IsOperand : Operand → Type 0
IsOperand (operands.Path p) = IsPath p
IsOperand (operands.Fid f) = Unit {0}

abbrev pub IsWithin : ℕ → Written → Type 0
IsWithin most bytes = length (bytes_in bytes) ≤ most

-- the names and the bytes of an act are within their limits
abbrev pub IsShortAct : Act → Type 0
IsShortAct (acts.Open o) = IsOperand o
IsShortAct (acts.ListNames o) = IsOperand o
IsShortAct (acts.ReadLink o) = IsOperand o
IsShortAct (acts.Stat o) = IsOperand o
IsShortAct (acts.StatAll o) = IsOperand o
IsShortAct (acts.Close o contents) = IsOperand o × IsWithin 2097152 contents
IsShortAct (acts.Make p) = IsPath p
IsShortAct (acts.MakeDirectory p) = IsPath p
IsShortAct (acts.Remove p) = IsPath p
IsShortAct (acts.RemoveDirectory p) = IsPath p
IsShortAct (acts.Move p q) = IsPath p × IsPath q
IsShortAct (acts.Link p q) = IsPath p × IsPath q
IsShortAct (acts.Symlink p target) = IsPath p × IsWithin 1024 target
IsShortAct (acts.SetMode o mode) = IsOperand o
IsShortAct (acts.SetAccessList o text) = IsOperand o × IsWithin 1024 text
IsShortAct (acts.GetAccessList o) = IsOperand o
IsShortAct acts.GiveUp = Unit {0}

abbrev pub FitsAdminAct : Counts → AdminAct → Type 0
FitsAdminAct c (admin_acts.Create name server quota) = IsName 32 name × (IsFrom 1 c.servers server × IsFrom 1 16384 quota)
FitsAdminAct c (admin_acts.Restore name server label) = IsName 32 name × (IsFrom 1 c.servers server × (volume_name_ok label ≡ true))
FitsAdminAct c (admin_acts.AddSite name server) = IsName 32 name × IsFrom 1 c.servers server
FitsAdminAct c (admin_acts.Backup name) = IsName 32 name
FitsAdminAct c (admin_acts.Release name) = IsName 32 name
FitsAdminAct c (admin_acts.Move name server) = IsName 32 name × IsFrom 1 c.servers server
FitsAdminAct c (admin_acts.Dump name label from) = IsName 32 name × (volume_name_ok label ≡ true)
FitsAdminAct c (admin_acts.Remove name) = IsName 32 name
FitsAdminAct c (admin_acts.Recover name) = IsName 32 name

abbrev pub FitsTask : Counts → Task → Type 0
FitsTask c (tasks.Client n act) = IsFrom 1 c.clients n × IsShortAct act
FitsTask c (tasks.Admin n act) = IsFrom 1 c.admins n × FitsAdminAct c act

-- ---- plans and events

abbrev pub FitsPlan : Counts → Plan → Type 0
FitsPlan c (plans.Lose from to nth) = IsInCell c from × (IsInCell c to × (1 ≤ nth))
FitsPlan c (plans.Repeat from to nth) = IsInCell c from × (IsInCell c to × (1 ≤ nth))
FitsPlan c (plans.Crash server nth) = IsFrom 1 c.servers server × (1 ≤ nth)

abbrev pub FitsEvent : Counts → Event → Type 0
FitsEvent c (events.Act n) = IsInCell c n
FitsEvent c (events.Deliver place) = 1 ≤ place
FitsEvent c events.Drain = Unit {0}
FitsEvent c (events.Timeout n callee) = IsInCell c n × IsInCell c callee
FitsEvent c (events.Wake server) = IsFrom 1 c.servers server
FitsEvent c (events.Tick ticks) = 1 ≤ ticks
FitsEvent c (events.Crash n) = IsInCell c n
FitsEvent c (events.CrashDisk n pick) = IsInCell c n × (pick ≤ 3)
FitsEvent c (events.Restart n) = IsInCell c n
FitsEvent c (events.Stop n calls pick) = IsInCell c n × (pick ≤ 3)
FitsEvent c (events.Fail n call) = IsInCell c n × (1 ≤ call)

-- ---- users and volumes

abbrev pub FitsUser : Counts → UserLine → Type 0
FitsUser c u = IsFrom 1 c.clients u.client × IsName 64 u.name

-- set-up accepts the lines, one after the other
abbrev pub AreAccepted : ℕ → List SetupLine → Volume → Type 0
AreAccepted id [] v = Unit {0}
AreAccepted id (l ∷ ls) v = (setup_accepts (laid id l v) ≡ Ok tt) × AreAccepted id ls (laid_or v (laid id l v))

-- the volume of this number
pub record IsVolume (c : Counts) (n : ℕ) (l : VolumeLine) : Type 0 where
  pub id : l.id ≡ n
  pub name : volume_name_ok l.name ≡ true
  pub server : IsFrom 1 c.servers l.server
  pub quota : IsFrom 1 16384 l.quota
  pub lines : AreAccepted l.id l.lines (empty_volume l)

-- their numbers follow each other from this one on
abbrev pub AreVolumes : Counts → ℕ → List VolumeLine → Type 0
AreVolumes c n [] = Unit {0}
AreVolumes c n (l ∷ ls) = IsVolume c n l × AreVolumes c (n + 1) ls

-- no later one has the name of an earlier one
abbrev pub IsApart : VolumeLine → List VolumeLine → Type 0
IsApart l [] = Unit {0}
IsApart l (x ∷ xs) = (has_name x.name l ≡ false) × IsApart l xs

abbrev pub AreApart : List VolumeLine → Type 0
AreApart [] = Unit {0}
AreApart (l ∷ ls) = IsApart l ls × AreApart ls

-- ---- scripts

abbrev pub counts_of : Script → Counts
counts_of s = record { servers = s.servers; clients = s.clients; admins = s.admins }

pub record IsCellScript (s : Script) : Type 0 where
  pub servers : IsFrom 1 8 s.servers
  pub clients : s.clients ≤ 16
  pub admins : s.admins ≤ 4
  pub cache : IsFrom 1 256 s.cache
  pub capacity : IsFrom 65536 268435456 s.capacity
  pub users : All (FitsUser (counts_of s)) s.users
  pub volumes : AreVolumes (counts_of s) 536870912 s.volumes
  pub few : (server : ℕ) → length (lines_of_server server s.volumes) ≤ 64
  pub apart : AreApart s.volumes
  pub fits : (server : ℕ) → fits_server s.capacity (lines_of_server server s.volumes) ≡ true
  pub loc : fits_loc s.capacity s.volumes ≡ true
  pub tasks : All (FitsTask (counts_of s)) s.tasks
  pub plans : All (FitsPlan (counts_of s)) s.plans
  pub events : All (FitsEvent (counts_of s)) (schedule_so_far s.schedule)
  pub ticks : ticks_in (schedule_so_far s.schedule) ≤ 1000000000

abbrev pub ScriptsAreOfCells : Type 0
ScriptsAreOfCells = (level : ℕ) (bytes : List ℕ) (s : Script) → script_of level bytes ≡ Ok s → IsCellScript s
