-- Which bytes are a script, and which; or the first bad line, counted from 1, and why it is bad.
use Rattle.spec_ideal.specs.VnodeImage.{most_contents}
use Rattle.std.specs.Prelude.{ℕ, Bool, true, false, List, [], ◌∷◌, ◌++◌, ◌+◌, ◌-◌, ◌%◌, ◌&&◌, ◌||◌, not, nat_eq, nat_le, nat_lt, length, filter, Option, Some, None, Result, Ok, Err, slice_get, slice_set, if◌then◌else◌}
use Rattle.std.specs.List.{list_all, list_any, position_or_len}
use Rattle.std.specs.Option.{ok_or}
use Rattle.std.specs.Str.{bytes_eq}
use Rattle.afs_num.specs.declared.types.Fid.{Fid}
use Rattle.afs_num.specs.declared.scripts.Reason.{Reason}
use Rattle.afs_num.specs.declared.scripts.Reason.TheVariants as reasons
use Rattle.spec_model.specs.ScriptWords.{◌>>=◌, must, parts, word_at, no_word_left, number_at}
use Rattle.spec_model.specs.Script.{at_line, is_silent}
use Rattle.spec_ideal.specs.Tables.{Table, set}
use Rattle.spec_ideal.specs.Volumes.{Volume}
use Rattle.spec_ideal.specs.SetUp.{first_volume, laid}
use Rattle.spec_records.specs.Changes.{at_set_up, record_of_volumes}
use Rattle.spec_records.specs.Durable.{Stored, place_length}
use Rattle.spec_history.specs.Written.{bytes_in}
use Rattle.spec_history.specs.declared.acts.Operand.{Operand}
use Rattle.spec_history.specs.declared.acts.Operand.TheVariants as operands
use Rattle.spec_history.specs.declared.acts.Act.TheVariants as acts
use Rattle.spec_history.specs.declared.scripts.Task.{Task}
use Rattle.spec_history.specs.declared.scripts.Task.TheVariants as tasks
use Rattle.spec_history.specs.declared.scripts.Plan.{Plan}
use Rattle.spec_history.specs.declared.scripts.Event.{Event}
use Rattle.spec_history.specs.declared.scripts.Event.TheVariants as events
use Rattle.spec_history.specs.declared.scripts.SetupLine.{SetupLine}
use Rattle.spec_history.specs.declared.scripts.SetupLine.TheVariants as setups
use Rattle.spec_history.specs.declared.scripts.VolumeLine.{VolumeLine}
use Rattle.spec_history.specs.declared.scripts.UserLine.{UserLine}
use Rattle.spec_history.specs.declared.scripts.Script.{Script}
use Rattle.afs_words.specs.declared.nodes.Counts.{Counts}
use Rattle.afs_grammar.specs.declared.spellings.FirstWord.{FirstWord}
use Rattle.afs_grammar.specs.declared.spellings.FirstWord.TheVariants as words
use Rattle.afs_grammar.specs.Spellings.{first_spelled}
use Rattle.afs_words.specs.Words.{server_at, name_at, label_at, path_at, written_at, node_number_at}
use Rattle.afs_grammar.specs.Acts.{Words, most_text, task_at, plan_at, event_at}
use Rattle.afs_grammar.specs.Turns.{next_turn, is_due, has_ended}
use Rattle.afs_grammar.specs.Forms.{level_of, is_unbuilt}

-- What the lines so far told. The turn says how far the script has come. The volumes stand in the order of their lines.
pub record LinesRead : Type 0 where
  pub turn : ℕ
  pub counts : Counts
  pub cache : ℕ
  pub capacity : ℕ
  pub users : List UserLine
  pub volumes : List VolumeLine
  pub tasks : List Task
  pub plans : List Plan
  pub schedule : Option (List Event)

abbrev pub nothing_read : LinesRead
nothing_read = record {
  turn = 0;
  counts = record { servers = 0; clients = 0; admins = 0 };
  cache = 64;
  capacity = 268435456;
  users = [];
  volumes = [];
  tasks = [];
  plans = [];
  schedule = None;
}

-- ---- numbers of the cell

unfoldable pub cell_line : LinesRead → Words → Result LinesRead Reason
cell_line r ws = do
  version ← number_at 1 1 ws
  done ← no_word_left version.1
  Ok r

-- narrower forms have one server
unfoldable pub servers_line : ℕ → LinesRead → Words → Result LinesRead Reason
servers_line level r ws = do
  count ← number_at 1 8 ws
  done ← no_word_left count.1
  built ← must (nat_le 7 level || nat_eq count.0 1) reasons.Limit
  Ok (record r { counts = record r.counts { servers = count.0 } })

-- and one client at most
unfoldable pub clients_line : ℕ → LinesRead → Words → Result LinesRead Reason
clients_line level r ws = do
  count ← number_at 0 16 ws
  done ← no_word_left count.1
  built ← must (nat_le 6 level || nat_le count.0 1) reasons.Limit
  Ok (record r { counts = record r.counts { clients = count.0 } })

unfoldable pub admins_line : LinesRead → Words → Result LinesRead Reason
admins_line r ws = do
  count ← number_at 0 4 ws
  done ← no_word_left count.1
  Ok (record r { counts = record r.counts { admins = count.0 } })

unfoldable pub cache_line : LinesRead → Words → Result LinesRead Reason
cache_line r ws = do
  most ← number_at 1 256 ws
  done ← no_word_left most.1
  Ok (record r { cache = most.0 })

unfoldable pub capacity_line : LinesRead → Words → Result LinesRead Reason
capacity_line r ws = do
  bytes ← number_at 65536 268435456 ws
  done ← no_word_left bytes.1
  Ok (record r { capacity = bytes.0 })

unfoldable pub user_line : LinesRead → Words → Result LinesRead Reason
user_line r ws = do
  client ← node_number_at 99 r.counts.clients ws
  name ← name_at 64 client.1
  done ← no_word_left name.1
  Ok (record r { users = r.users ++ (record { client = client.0; name = name.0 }) ∷ [] })

-- ---- volumes, and what is laid in them: by the operations of set-up

-- what is too large or too many is over a limit
abbrev pub setup_reason : ℕ → Reason
setup_reason code = if nat_eq code 27 || (nat_eq code 109 || nat_eq code 108) then reasons.Limit else reasons.Path

abbrev pub setup_accepts : Result Volume ℕ → Result (Unit {0}) Reason
setup_accepts (Ok v) = Ok tt
setup_accepts (Err code) = Err (setup_reason code)

abbrev pub stands_at_server : ℕ → VolumeLine → Bool
stands_at_server server l = nat_eq l.server server

abbrev pub lines_of_server : ℕ → List VolumeLine → List VolumeLine
lines_of_server server ls = filter (stands_at_server server) ls

abbrev pub stored_all : List VolumeLine → Table Stored
stored_all [] = []
stored_all (l ∷ ls) = set l.id (at_set_up (first_volume l)) (stored_all ls)

-- a disk's journal begins with one byte, and the first record
abbrev pub fits_server : ℕ → List VolumeLine → Bool
fits_server capacity ls = nat_le (1 + place_length (record_of_volumes (stored_all ls))) capacity

-- Of the location database the first record has 40 bytes and 44 for each volume beside its name, which is filled up to
-- words of four bytes
abbrev pub filled_up : ℕ → ℕ
filled_up n = n + (4 - n % 4) % 4

abbrev pub loc_length : List VolumeLine → ℕ
loc_length [] = 40
loc_length (l ∷ ls) = loc_length ls + (4 + filled_up (length l.name) + 40)

abbrev pub fits_loc : ℕ → List VolumeLine → Bool
fits_loc capacity ls = nat_le (1 + loc_length ls + 9) capacity

abbrev pub has_name : List ℕ → VolumeLine → Bool
has_name name l = bytes_eq l.name name

abbrev pub new_line : ℕ → List ℕ → ℕ → ℕ → VolumeLine
new_line count name server quota = record { id = 536870912 + count; name = name; server = server; quota = quota; lines = [] }

-- the first records of the server and of the location database fit
abbrev pub fits_all : ℕ → ℕ → List VolumeLine → Bool
fits_all capacity server ls = fits_server capacity (lines_of_server server ls) && fits_loc capacity ls

-- with one more volume
abbrev pub volume_fits : ℕ → VolumeLine → List VolumeLine → Result (Unit {0}) Reason
volume_fits capacity line ls = must (fits_all capacity line.server (ls ++ line ∷ [])) reasons.Limit

unfoldable pub volume_accepted : ℕ → LinesRead → VolumeLine → Result (Unit {0}) Reason
volume_accepted level r line = do
  few ← must (nat_lt (length (lines_of_server line.server r.volumes)) 64) reasons.Limit
  fits ← volume_fits r.capacity line r.volumes
  only ← must (nat_le 7 level || nat_eq (length r.volumes) 0) reasons.Limit
  must (nat_le 5 level || nat_le 1000 line.quota) reasons.Number

unfoldable pub volume_added : ℕ → LinesRead → VolumeLine → Result LinesRead Reason
volume_added level r line = do
  accepted ← volume_accepted level r line
  Ok (record r { volumes = r.volumes ++ line ∷ [] })

unfoldable pub volume_line : ℕ → LinesRead → Words → Result LinesRead Reason
volume_line level r ws = do
  name ← label_at ws
  fresh ← must (not (list_any (has_name name.0) r.volumes)) reasons.Name
  server ← server_at r.counts name.1
  quota ← number_at 1 16384 server.1
  done ← no_word_left quota.1
  volume_added level r (new_line (length r.volumes) name.0 server.0 quota.0)

-- a line at the end of the volume's own
abbrev pub with_line : SetupLine → VolumeLine → VolumeLine
with_line x l = record l { lines = l.lines ++ x ∷ [] }

-- where the volume of this name stands; how many there are, if it is none of them
abbrev pub place_of : List ℕ → List VolumeLine → ℕ
place_of name ls = position_or_len (has_name name) ls

-- the volumes, where that of this place has one more line
abbrev pub line_laid_in : ℕ → SetupLine → List VolumeLine → Option VolumeLine → List VolumeLine
line_laid_in place x ls None = ls
line_laid_in place x ls (Some l) = slice_set ls place (with_line x l)

abbrev pub line_laid : ℕ → SetupLine → List VolumeLine → List VolumeLine
line_laid place x ls = line_laid_in place x ls (slice_get ls place)

-- set-up accepts a line in the volume of this place, on disks of this capacity
abbrev pub line_fits_in : ℕ → ℕ → SetupLine → List VolumeLine → Option VolumeLine → Result (Unit {0}) Reason
line_fits_in capacity place x ls None = Err reasons.Path
line_fits_in capacity place x ls (Some volume) = do
  stands ← setup_accepts (laid volume.id x (first_volume volume))
  must (fits_server capacity (lines_of_server volume.server (slice_set ls place (with_line x volume)))) reasons.Limit

unfoldable pub line_fits : ℕ → ℕ → SetupLine → List VolumeLine → Result (Unit {0}) Reason
line_fits capacity place x ls = line_fits_in capacity place x ls (slice_get ls place)

abbrev pub has_no_lines : VolumeLine → Bool
has_no_lines l = nat_eq (length l.lines) 0

abbrev pub written_length : SetupLine → ℕ
written_length (setups.Directory path) = 0
written_length (setups.File path contents) = length (bytes_in contents)
written_length (setups.Link path target) = length (bytes_in target)
written_length (setups.AccessList path text) = length (bytes_in text)

-- narrower forms have one file, and a small one
unfoldable pub setup_accepted : ℕ → LinesRead → ℕ → SetupLine → Result (Unit {0}) Reason
setup_accepted level r place x = do
  fits ← line_fits r.capacity place x r.volumes
  must (nat_le 5 level || (list_all has_no_lines r.volumes && nat_le (written_length x) 1024)) reasons.Limit

unfoldable pub setup_laid : ℕ → LinesRead → List ℕ → SetupLine → Result LinesRead Reason
setup_laid level r name x = do
  accepted ← setup_accepted level r (place_of name r.volumes) x
  Ok (record r { volumes = line_laid (place_of name r.volumes) x r.volumes })

unfoldable pub dir_line : ℕ → LinesRead → Words → Result LinesRead Reason
dir_line level r ws = do
  path ← path_at ws
  done ← no_word_left path.1
  setup_laid level r path.0.volume (setups.Directory path.0.names)

unfoldable pub file_line : ℕ → LinesRead → Words → Result LinesRead Reason
file_line level r ws = do
  path ← path_at ws
  contents ← written_at most_contents path.1
  done ← no_word_left contents.1
  setup_laid level r path.0.volume (setups.File path.0.names contents.0)

unfoldable pub link_line : ℕ → LinesRead → Words → Result LinesRead Reason
link_line level r ws = do
  path ← path_at ws
  target ← written_at most_text path.1
  done ← no_word_left target.1
  setup_laid level r path.0.volume (setups.Link path.0.names target.0)

unfoldable pub acl_line : ℕ → LinesRead → Words → Result LinesRead Reason
acl_line level r ws = do
  path ← path_at ws
  text ← written_at most_text path.1
  done ← no_word_left text.1
  setup_laid level r path.0.volume (setups.AccessList path.0.names text.0)

-- ---- acts and plans

-- the fid of a file of the first volume
abbrev pub is_file_here : Fid → Bool
is_file_here fid = nat_eq fid.volume 536870912 && nat_eq (fid.vnode % 2) 0

abbrev pub is_operand_here : Operand → Bool
is_operand_here (operands.Fid fid) = is_file_here fid
is_operand_here (operands.Path path) = false

-- the bounds that narrower forms have
abbrev pub task_bounded : Task → Result (Unit {0}) Reason
task_bounded (tasks.Client n (acts.Open operand)) = must (is_operand_here operand) reasons.Path
task_bounded (tasks.Client n (acts.Close operand contents)) = must (is_operand_here operand) reasons.Path >>= λ here. must (nat_le (length (bytes_in contents)) 1024) reasons.Limit
task_bounded task = Ok tt

abbrev pub bounded_for : Bool → Task → Result (Unit {0}) Reason
bounded_for true task = Ok tt
bounded_for false task = task_bounded task

unfoldable pub do_line : ℕ → LinesRead → Words → Result LinesRead Reason
do_line level r ws = do
  task ← task_at r.counts ws
  bounded ← bounded_for (nat_le 5 level) task
  Ok (record r { tasks = r.tasks ++ task ∷ [] })

unfoldable pub plan_line : LinesRead → Words → Result LinesRead Reason
plan_line r ws = do
  plan ← plan_at r.counts ws
  Ok (record r { plans = r.plans ++ plan ∷ [] })

-- ---- the schedule

unfoldable pub schedule_line : LinesRead → Words → Result LinesRead Reason
schedule_line r ws = do
  done ← no_word_left ws
  Ok (record r { schedule = Some [] })

abbrev pub ticks_of : Event → ℕ
ticks_of (events.Tick n) = n
ticks_of event = 0

abbrev pub ticks_in : List Event → ℕ
ticks_in [] = 0
ticks_in (e ∷ es) = ticks_of e + ticks_in es

abbrev pub schedule_so_far : Option (List Event) → List Event
schedule_so_far None = []
schedule_so_far (Some es) = es

-- all ticks of a script are 1,000,000,000 at most
unfoldable pub event_told : LinesRead → Event → Words → Result LinesRead Reason
event_told r event ws = do
  done ← no_word_left ws
  few ← must (nat_le (ticks_in (schedule_so_far r.schedule ++ event ∷ [])) 1000000000) reasons.Limit
  Ok (record r { schedule = Some (schedule_so_far r.schedule ++ event ∷ []) })

unfoldable pub event_line : FirstWord → LinesRead → Words → Result LinesRead Reason
event_line first r ws = do
  event ← event_at first r.counts ws
  event_told r event.0 event.1

unfoldable pub end_line : LinesRead → Words → Result LinesRead Reason
end_line r ws = do
  done ← no_word_left ws
  Ok r

-- ---- a line by its first word

-- lines that lay nothing; what begins with none of the words that stand here is an event
abbrev pub line_told : ℕ → FirstWord → LinesRead → Words → Result LinesRead Reason
line_told level words.Cell r ws = cell_line r ws
line_told level words.Servers r ws = servers_line level r ws
line_told level words.Clients r ws = clients_line level r ws
line_told level words.Admins r ws = admins_line r ws
line_told level words.Cache r ws = cache_line r ws
line_told level words.Capacity r ws = capacity_line r ws
line_told level words.User r ws = user_line r ws
line_told level words.Do r ws = do_line level r ws
line_told level words.Plan r ws = plan_line r ws
line_told level words.Schedule r ws = schedule_line r ws
line_told level words.End r ws = end_line r ws
line_told level first r ws = event_line first r ws

abbrev pub line_by_word : ℕ → FirstWord → LinesRead → Words → Result LinesRead Reason
line_by_word level words.Volume r ws = volume_line level r ws
line_by_word level words.Dir r ws = dir_line level r ws
line_by_word level words.File r ws = file_line level r ws
line_by_word level words.Link r ws = link_line level r ws
line_by_word level words.Acl r ws = acl_line level r ws
line_by_word level first r ws = line_told level first r ws

unfoldable pub first_word : ℕ → List ℕ → Result FirstWord Reason
first_word level word = do
  first ← ok_or (first_spelled word) reasons.Word
  built ← must (nat_le (level_of first) level) reasons.Word
  Ok first

unfoldable pub line_of : ℕ → LinesRead → Words → Result LinesRead Reason
line_of level r line = do
  word ← word_at line
  first ← first_word level word.0
  due ← must (is_due r.turn first) reasons.Order
  built ← must (not (is_unbuilt level first word.1)) reasons.Word
  line_by_word level first (record r { turn = next_turn first }) word.1

-- A line's number, and the bytes that the script may still have when it begins. No line may follow `end`.
unfoldable pub line_at : ℕ → LinesRead → ℕ → ℕ → List ℕ → Result LinesRead Reason
line_at level r number room line = do
  within ← must (nat_lt (length line) room) reasons.Limit
  few ← must (nat_le number 200000) reasons.Limit
  short ← must (nat_le (length line) 4200000) reasons.Limit
  more ← must (not (has_ended r.turn)) reasons.Order
  if is_silent line then Ok r else line_of level r (parts 32 line)

abbrev pub script_in : LinesRead → Script
script_in r = record {
  servers = r.counts.servers;
  clients = r.counts.clients;
  admins = r.counts.admins;
  cache = r.cache;
  capacity = r.capacity;
  users = r.users;
  volumes = r.volumes;
  tasks = r.tasks;
  plans = r.plans;
  schedule = r.schedule;
}

-- what stands behind the last newline: nothing, where the script is whole
unfoldable pub last_at : LinesRead → ℕ → ℕ → List ℕ → Result Script Reason
last_at r number room last = do
  within ← must (nat_le (length last) room) reasons.Limit
  whole ← must (has_ended r.turn) reasons.Missing
  few ← must (nat_eq (length last) 0 || nat_le number 200000) reasons.Limit
  short ← must (nat_le (length last) 4200000) reasons.Limit
  none ← must (nat_eq (length last) 0) reasons.Order
  Ok (script_in r)

-- the lines from here on, of which `number` were read
abbrev pub lines_read_from : ℕ → LinesRead → ℕ → ℕ → List (List ℕ) → Result Script (ℕ × Reason)
lines_read_from level r number room [] = Err (number + 1, reasons.Missing)
lines_read_from level r number room (last ∷ []) = at_line (number + 1) (last_at r (number + 1) room last)
lines_read_from level r number room (line ∷ next ∷ more) = do
  read ← at_line (number + 1) (line_at level r (number + 1) room line)
  lines_read_from level read (number + 1) (room - (length line + 1)) (next ∷ more)

-- a script of the form of this level; it has at most 16,777,216 bytes
unfoldable pub script_of : ℕ → List ℕ → Result Script (ℕ × Reason)
script_of level bytes = lines_read_from level nothing_read 0 16777216 (parts 10 bytes)
