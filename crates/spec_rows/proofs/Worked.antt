-- Worked runs: what acts tell, breaks that overtake a reply, that are never answered, that wait behind a restart, and those of a
-- change of two versions.
use Rattle.spec_history.specs.declared.acts.Path.{Path}
use Rattle.afs_num.specs.declared.histories.ReadBody.{ReadBody}
use Rattle.afs_num.specs.declared.histories.ReadBody.TheVariants as seen
use Rattle.spec_history.specs.declared.acts.Act.TheVariants as acts
use Rattle.spec_history.specs.declared.acts.Operand.TheVariants as operands
use Rattle.spec_history.specs.declared.acts.Written.TheVariants.{Hex, Fill}
use Rattle.std.specs.Option.{option_map}
use Rattle.std.proofs.Common.{Option, negsuc, ◌≡◌, ℕ, List, [], ◌∷◌, ◌++◌, Some, None, pos, refl}
use Rattle.std.specs.Prelude.{codes, true, false, Bool, filter, map}
use Rattle.afs_num.specs.declared.types.Fid.{Fid}
use Rattle.afs_num.specs.declared.calls.FsCall.TheVariants as calls
use Rattle.afs_num.specs.declared.messages.Call.TheVariants as ask
use Rattle.afs_num.specs.declared.messages.Carried.TheVariants as carried
use Rattle.afs_num.specs.declared.messages.Message.{Message}
use Rattle.afs_num.specs.declared.types.Node.TheVariants.{Server, Client}
use Rattle.spec_ideal.specs.AccessLists as acls
use Rattle.spec_ideal.specs.AccessLists.{rights_of, acl_at, line_number_at, acl_entry_at, named_at, acl_text, acl_entry_text}
use Rattle.spec_ideal.specs.Directories.{directory_bytes, name_bytes, directory_of, names_at, whole_at, count_at, name_at, spelled_at, bytes_below}
use Rattle.spec_ideal.specs.SetUp.{laid_at, acl_laid, led}
use Rattle.spec_ideal.specs.VnodeImage.{image}
use Rattle.spec_rows.specs.ClientRow.{begin_row, client_row}
use Rattle.spec_rows.specs.LocSteps.{loc_row}
use Rattle.spec_history.specs.declared.lines.Line.{Line}
use Rattle.spec_records.specs.Records.{record_bytes, head_form, volume_form}
use Rattle.spec_rows.specs.ServerSteps.{server_row, back_timeout_row, wake_row, start_row}
use Rattle.spec_rows.specs.Runs.{user_at, comes_up, steady, stops, waits, starts_again, sets_stop, ticks, server_waits, Entry, Cell, Input, begins, gives, moved, start}
use Rattle.spec_model.specs.Messages.{spelled}
use Rattle.afs_num.specs.Names.{name_ok}
use Rattle.std.specs.Fmt.{digits}
use Rattle.spec_history.specs.declared.scripts.Script.{Script}
use Rattle.spec_history.specs.declared.scripts.SetupLine.TheVariants as setup
use Rattle.afs_num.specs.declared.histories.Body.TheVariants as bodies
use Rattle.spec_history.specs.declared.lines.Line.TheVariants as lines
use Rattle.afs_num.specs.declared.histories.ReadSource.TheVariants.{Cached, Fetched}
use Rattle.afs_xdr.specs.Words.{opaque, pad, word, opaque_at, word_at, counted_at}

abbrev pub home : ℕ
home = 536870912

abbrev pub file : Fid
file = record { volume = home; vnode = 2; unique = 2 }

abbrev pub root : Fid
root = record { volume = home; vnode = 1; unique = 1 }

abbrev pub script : ℕ → Script
script n = record {
  servers = 1;
  clients = n;
  admins = 0;
  cache = 64;
  capacity = 268435456;
  users = [];
  volumes = record { id = home; name = codes "proj"; server = 1; quota = 1000; lines = setup.File (codes "a" ∷ []) (Hex (codes "abc")) ∷ [] } ∷ [];
  tasks = [];
  plans = [];
  schedule = None;
}

abbrev pub told : Cell → List Input → List Line
told c [] = []
told c (x ∷ xs) = (moved c x).entry.lines ++ told (moved c x).cell xs

abbrev pub answer : ℕ → Line
answer n = lines.Answer (Client n) (record { 0 = pos 0 })

abbrev pub begun : ℕ → Line
begun n = lines.Begin (Client n) (acts.Open (operands.Fid file))

abbrev pub stores : ℕ → Line
stores n = lines.Begin (Client n) (acts.Close (operands.Fid file) (Hex (codes "def")))

abbrev pub change : ℕ → List Line
change n = lines.Change (Server 1) (record { node = Client n; epoch = 1; number = 1 }) 1 ∷ lines.Version (record { fid = file; index = 2; data_version = 2; body = bodies.File (codes "def") }) ∷ []

-- a break before the fetch reply
abbrev pub six : List Input
six = begins 1 (acts.Open (operands.Fid file)) ∷ gives 1 steady ∷ begins 2 (acts.Close (operands.Fid file) (Hex (codes "def"))) ∷ gives 3 steady ∷ gives 4 steady ∷ gives 5 steady ∷ gives 2 steady ∷ gives 6 steady ∷ gives 7 steady ∷ gives 8 steady ∷ []

row_six : told (start (script 2)) six ≡
    begun 1 ∷ lines.Given 1 ∷ lines.Grant (Server 1) (Client 1) file 1 7200 ∷ stores 2 ∷ lines.Given 3 ∷ (change 2 ++ lines.Owe (Server 1) (Client 1) (Some file) 1 ∷ lines.Given 4 ∷ lines.Drop (Client 1) file ∷ lines.Given 5 ∷ lines.Settle (Server 1) (Client 1) 1
    ∷ lines.Given 2 ∷ lines.Given 6 ∷ answer 2 ∷ lines.Given 7 ∷ lines.Grant (Server 1) (Client 1) file 2 7200 ∷ lines.Given 8 ∷ lines.Read (Client 1) file 2 Fetched (seen.Contents (bodies.File (codes "def"))) ∷ answer 1 ∷ [])
unfolding moved begin_row client_row server_row back_timeout_row wake_row start_row record_bytes head_form volume_form spelled opaque pad word laid_at led name_ok directory_bytes name_bytes rights_of image acl_text digits acl_entry_text
row_six = refl

-- a holder that never answers
abbrev pub seven : List Input
seven = begins 1 (acts.Open (operands.Fid file)) ∷ gives 1 steady ∷ gives 2 steady ∷ begins 2 (acts.Close (operands.Fid file) (Hex (codes "def"))) ∷ gives 3 steady ∷ server_waits 1 (Client 1) ∷ server_waits 1 (Client 1) ∷ server_waits 1 (Client 1) ∷ gives 7 steady ∷ ticks 7199 ∷ begins 1 (acts.Open (operands.Fid file)) ∷ ticks 1 ∷ begins 1 (acts.Open (operands.Fid file)) ∷ gives 8 steady ∷ gives 9 steady ∷ []

row_seven : told (start (script 2)) seven ≡
    begun 1 ∷ lines.Given 1 ∷ lines.Grant (Server 1) (Client 1) file 1 7200 ∷ lines.Given 2 ∷ lines.Read (Client 1) file 1 Fetched (seen.Contents (bodies.File (codes "abc"))) ∷ answer 1 ∷ stores 2 ∷ lines.Given 3 ∷ (change 2 ++ lines.Owe (Server 1) (Client 1) (Some file) 1
    ∷ lines.Timeout (Server 1) (Client 1) 1 1 1 ∷ lines.Timeout (Server 1) (Client 1) 1 1 2 ∷ lines.Timeout (Server 1) (Client 1) 1 1 3 ∷ lines.Quit (Server 1) (Client 1) 1 ∷ lines.Given 7 ∷ answer 2
    ∷ lines.Tick 7199 ∷ begun 1 ∷ lines.Read (Client 1) file 1 Cached (seen.Contents (bodies.File (codes "abc"))) ∷ answer 1 ∷ lines.Tick 1 ∷ begun 1 ∷ lines.Given 8 ∷ lines.Grant (Server 1) (Client 1) file 2 14400 ∷ lines.Given 9 ∷ lines.Read (Client 1) file 2 Fetched (seen.Contents (bodies.File (codes "def"))) ∷ answer 1 ∷ [])
unfolding moved begin_row client_row server_row back_timeout_row wake_row start_row record_bytes head_form volume_form spelled opaque pad word laid_at led name_ok directory_bytes name_bytes rights_of image acl_text digits acl_entry_text
row_seven = refl

-- a stop after the gate was written: the kept reply waits for the break on all
abbrev pub eight : List Input
eight = begins 1 (acts.Close (operands.Fid file) (Hex (codes "def"))) ∷ sets_stop 1 3 1 ∷ gives 1 steady ∷ starts_again 1 true comes_up ∷ waits 1 ∷ gives 3 steady ∷ gives 4 steady ∷ gives 5 steady ∷ gives 2 steady ∷ gives 6 steady ∷ gives 7 steady ∷ []

row_eight : told (start (script 1)) eight ≡
    stores 1 ∷ lines.Stop (Server 1) 3 1 ∷ lines.Given 1 ∷ lines.Crash (Server 1) ∷ (change 1 ++ lines.Restart (Server 1) 2 ∷ lines.Owe (Server 1) (Client 1) None 1 ∷ lines.Timeout (Client 1) (Server 1) 1 1 1 ∷ lines.Given 3 ∷ lines.Given 4 ∷ lines.Given 5
    ∷ lines.Given 2 ∷ lines.DropAll (Client 1) (Server 1) ∷ lines.Given 6 ∷ lines.Settle (Server 1) (Client 1) 1 ∷ lines.Given 7 ∷ answer 1 ∷ [])
unfolding moved begin_row client_row server_row back_timeout_row wake_row start_row record_bytes head_form volume_form spelled opaque pad word laid_at led name_ok directory_bytes name_bytes rights_of image acl_text digits acl_entry_text
row_eight = refl

-- a file that two hold is removed from a directory that one of them holds too: breaks by ascending vnode, then in the order of
-- granting; the caller's answer waits for all three
abbrev pub is_told : Line → Bool
is_told (lines.Owe s c w n) = true
is_told (lines.Settle s c n) = true
is_told (lines.Drop c f) = true
is_told (lines.Answer c code) = true
is_told l = false

abbrev pub code : ℕ → ℕ → Line
code n k = lines.Answer (Client n) (record { 0 = pos k })

abbrev pub nine : List Input
nine = begins 1 (acts.Open (operands.Fid root)) ∷ gives 1 steady ∷ begins 2 (acts.Open (operands.Fid file)) ∷ gives 3 steady ∷ gives 2 steady ∷ begins 1 (acts.Open (operands.Fid file)) ∷ gives 5 steady ∷ begins 3 (acts.Remove (record { volume = codes "proj"; names = codes "a" ∷ [] })) ∷ gives 7 steady ∷ gives 8 steady ∷ gives 9 steady
    ∷ gives 10 steady ∷ gives 11 steady ∷ gives 12 steady ∷ gives 13 steady ∷ gives 14 steady ∷ gives 6 steady ∷ gives 15 steady ∷ gives 16 steady ∷ []

row_nine : filter is_told (told (start (script 3)) nine) ≡
    code 1 21 ∷ lines.Owe (Server 1) (Client 1) (Some root) 1 ∷ lines.Owe (Server 1) (Client 2) (Some file) 2 ∷ lines.Owe (Server 1) (Client 1) (Some file) 3
    ∷ lines.Drop (Client 1) root ∷ lines.Drop (Client 1) file ∷ lines.Drop (Client 2) file ∷ lines.Settle (Server 1) (Client 1) 1 ∷ lines.Settle (Server 1) (Client 1) 3 ∷ lines.Settle (Server 1) (Client 2) 2 ∷ lines.Drop (Client 3) root ∷ code 3 0 ∷ code 1 102 ∷ []
unfolding moved begin_row client_row server_row back_timeout_row wake_row start_row record_bytes head_form volume_form spelled opaque pad word laid_at led name_ok directory_bytes name_bytes rights_of image acl_text digits acl_entry_text
row_nine = refl

-- ---- a walk, the last read of which a break overtakes: it is fetched again, and the act ends in one answer

abbrev pub walked : List Input
walked = begins 1 (acts.Open (operands.Path (record { volume = codes "proj"; names = codes "a" ∷ [] }))) ∷ gives 1 steady ∷ gives 2 steady ∷ gives 3 steady ∷ begins 2 (acts.Close (operands.Fid file) (Hex (codes "def"))) ∷ gives 5 steady ∷ gives 6 steady ∷ gives 4 steady ∷ gives 7 steady ∷ gives 8 steady ∷ gives 10 steady ∷ []

abbrev pub is_walked : Line → Bool
is_walked (lines.Given p) = false
is_walked (lines.Version v) = false
is_walked l = true

row_walked : filter is_walked (told (start (script 2)) walked) ≡
    lines.Begin (Client 1) (acts.Open (operands.Path (record { volume = codes "proj"; names = codes "a" ∷ [] }))) ∷ lines.Grant (Server 1) (Client 1) root 1 7200 ∷ lines.Read (Client 1) root 1 Fetched (seen.Contents (bodies.Dir (record { name = codes "a"; vnode = 2; unique = 2 } ∷ [])))
    ∷ lines.Grant (Server 1) (Client 1) file 1 7200 ∷ stores 2 ∷ lines.Change (Server 1) (record { node = Client 2; epoch = 1; number = 1 }) 1 ∷ lines.Owe (Server 1) (Client 1) (Some file) 1 ∷ lines.Drop (Client 1) file
    ∷ lines.Settle (Server 1) (Client 1) 1 ∷ lines.Grant (Server 1) (Client 1) file 2 7200 ∷ lines.Read (Client 1) file 2 Fetched (seen.Contents (bodies.File (codes "def"))) ∷ code 1 0 ∷ []
unfolding moved begin_row client_row server_row back_timeout_row wake_row start_row record_bytes head_form volume_form spelled opaque pad word laid_at led name_ok directory_bytes name_bytes rights_of image acl_text digits acl_entry_text directory_of names_at opaque_at word_at counted_at whole_at count_at name_at spelled_at bytes_below
row_walked = refl

-- the lines of acts, grants, reads and drops alone
abbrev pub is_kept : Line → Bool
is_kept (lines.Begin c a) = true
is_kept (lines.Grant s c f i x) = true
is_kept (lines.Read c f i source b) = true
is_kept (lines.Drop c f) = true
is_kept (lines.Answer c code) = true
is_kept l = false

abbrev pub last_entry : Cell → List Input → Option Entry
last_entry c [] = None
last_entry c (x ∷ []) = Some (moved c x).entry
last_entry c (x ∷ y ∷ xs) = last_entry (moved c x).cell (y ∷ xs)

-- ---- a stop before the gate was written, and a call that was given up

-- the disk stops before the change is on it: the restart has none, and the call runs then, once
abbrev pub nine_before : List Input
nine_before = begins 1 (acts.Close (operands.Fid file) (Hex (codes "def"))) ∷ sets_stop 1 3 0 ∷ gives 1 steady ∷ starts_again 1 false comes_up ∷ waits 1 ∷ gives 3 steady ∷ gives 4 steady ∷ gives 5 steady ∷ gives 2 steady ∷ gives 6 steady ∷ gives 7 steady ∷ []

row_nine_before : told (start (script 1)) nine_before ≡
    stores 1 ∷ lines.Stop (Server 1) 3 0 ∷ lines.Given 1 ∷ lines.Crash (Server 1) ∷ lines.Restart (Server 1) 2 ∷ lines.Owe (Server 1) (Client 1) None 1 ∷ lines.Timeout (Client 1) (Server 1) 1 1 1 ∷ lines.Given 3 ∷ lines.Given 4 ∷ lines.Given 5 ∷ (change 1 ++ lines.Given 2 ∷ lines.DropAll (Client 1) (Server 1)
    ∷ lines.Given 6 ∷ lines.Settle (Server 1) (Client 1) 1 ∷ lines.Given 7 ∷ answer 1 ∷ [])
unfolding moved begin_row client_row server_row back_timeout_row wake_row start_row record_bytes head_form volume_form spelled opaque pad word laid_at led name_ok directory_bytes name_bytes rights_of image acl_text digits acl_entry_text
row_nine_before = refl

-- a store whose reply is lost is given up; an open behind it reads what it left
abbrev pub ten : List Input
ten = begins 1 (acts.Close (operands.Fid file) (Hex (codes "def"))) ∷ gives 1 steady ∷ waits 1 ∷ waits 1 ∷ waits 1 ∷ begins 1 (acts.Open (operands.Fid file)) ∷ gives 5 steady ∷ gives 6 steady ∷ []

row_ten : told (start (script 1)) ten ≡
    stores 1 ∷ lines.Given 1 ∷ (change 1 ++ lines.Timeout (Client 1) (Server 1) 1 1 1 ∷ lines.Timeout (Client 1) (Server 1) 1 1 2 ∷ lines.Timeout (Client 1) (Server 1) 1 1 3 ∷ lines.Answer (Client 1) (record { 0 = negsuc 0 })
    ∷ begun 1 ∷ lines.Given 5 ∷ lines.Grant (Server 1) (Client 1) file 2 7200 ∷ lines.Given 6 ∷ lines.Read (Client 1) file 2 Fetched (seen.Contents (bodies.File (codes "def"))) ∷ answer 1 ∷ [])
unfolding moved begin_row client_row server_row back_timeout_row wake_row start_row record_bytes head_form volume_form spelled opaque pad word laid_at led name_ok directory_bytes name_bytes rights_of image acl_text digits acl_entry_text
row_ten = refl

-- a store of the mode over an older body: the entry isn't just below the new index, so it is given up
abbrev pub twenty_two : List Input
twenty_two = begins 1 (acts.Open (operands.Fid file)) ∷ gives 1 steady ∷ gives 2 steady ∷ begins 2 (acts.Close (operands.Fid file) (Hex (codes "def"))) ∷ gives 3 steady ∷ server_waits 1 (Client 1) ∷ server_waits 1 (Client 1) ∷ server_waits 1 (Client 1) ∷ gives 7 steady
    ∷ begins 1 (acts.SetMode (operands.Fid file) 384) ∷ gives 8 steady ∷ gives 9 steady ∷ begins 1 (acts.Open (operands.Fid file)) ∷ gives 10 steady ∷ gives 11 steady ∷ []

row_twenty_two : filter is_kept (told (start (script 2)) twenty_two) ≡
    begun 1 ∷ lines.Grant (Server 1) (Client 1) file 1 7200 ∷ lines.Read (Client 1) file 1 Fetched (seen.Contents (bodies.File (codes "abc"))) ∷ answer 1 ∷ stores 2 ∷ answer 2
    ∷ lines.Begin (Client 1) (acts.SetMode (operands.Fid file) 384) ∷ lines.Drop (Client 1) file ∷ answer 1 ∷ begun 1 ∷ lines.Grant (Server 1) (Client 1) file 3 7200 ∷ lines.Read (Client 1) file 3 Fetched (seen.Contents (bodies.File (codes "def"))) ∷ answer 1 ∷ []
unfolding moved begin_row client_row server_row back_timeout_row wake_row start_row record_bytes head_form volume_form spelled opaque pad word laid_at led name_ok directory_bytes name_bytes rights_of image acl_text digits acl_entry_text
row_twenty_two = refl

-- an entry just below it is raised, and shown without a message
abbrev pub raised : List Input
raised = begins 1 (acts.Open (operands.Fid file)) ∷ gives 1 steady ∷ gives 2 steady ∷ begins 1 (acts.SetMode (operands.Fid file) 384) ∷ gives 3 steady ∷ gives 4 steady ∷ begins 1 (acts.Open (operands.Fid file)) ∷ []

row_raised : filter is_kept (told (start (script 1)) raised) ≡
    begun 1 ∷ lines.Grant (Server 1) (Client 1) file 1 7200 ∷ lines.Read (Client 1) file 1 Fetched (seen.Contents (bodies.File (codes "abc"))) ∷ answer 1 ∷ lines.Begin (Client 1) (acts.SetMode (operands.Fid file) 384) ∷ answer 1
    ∷ begun 1 ∷ lines.Read (Client 1) file 2 Cached (seen.Contents (bodies.File (codes "abc"))) ∷ answer 1 ∷ []
unfolding moved begin_row client_row server_row back_timeout_row wake_row start_row record_bytes head_form volume_form spelled opaque pad word laid_at led name_ok directory_bytes name_bytes rights_of image acl_text digits acl_entry_text
row_raised = refl

-- a walk that the cache knows whole is one step
abbrev pub at_once : List Input
at_once = begins 1 (acts.Open (operands.Path (record { volume = codes "proj"; names = codes "a" ∷ [] }))) ∷ gives 1 steady ∷ gives 2 steady ∷ gives 3 steady ∷ gives 4 steady ∷ begins 1 (acts.Open (operands.Path (record { volume = codes "proj"; names = codes "a" ∷ [] }))) ∷ []

row_at_once : option_map (λ (e : Entry). e.lines) (last_entry (start (script 1)) at_once) ≡
    Some (lines.Begin (Client 1) (acts.Open (operands.Path (record { volume = codes "proj"; names = codes "a" ∷ [] }))) ∷ lines.Read (Client 1) root 1 Cached (seen.Contents (bodies.Dir (record { name = codes "a"; vnode = 2; unique = 2 } ∷ []))) ∷ lines.Read (Client 1) file 1 Cached (seen.Contents (bodies.File (codes "abc"))) ∷ answer 1 ∷ [])
unfolding moved begin_row client_row server_row back_timeout_row wake_row start_row record_bytes head_form volume_form spelled opaque pad word laid_at led name_ok directory_bytes name_bytes rights_of image acl_text digits acl_entry_text directory_of names_at opaque_at word_at counted_at whole_at count_at name_at spelled_at bytes_below
row_at_once = refl

-- ---- acts one by one

-- a file is fetched, and then shown from the cache
abbrev pub one : List Input
one = begins 1 (acts.Open (operands.Fid file)) ∷ gives 1 steady ∷ gives 2 steady ∷ begins 1 (acts.Open (operands.Fid file)) ∷ []

row_one : told (start (script 1)) one ≡
    begun 1 ∷ lines.Given 1 ∷ lines.Grant (Server 1) (Client 1) file 1 7200 ∷ lines.Given 2 ∷ lines.Read (Client 1) file 1 Fetched (seen.Contents (bodies.File (codes "abc"))) ∷ answer 1
    ∷ begun 1 ∷ lines.Read (Client 1) file 1 Cached (seen.Contents (bodies.File (codes "abc"))) ∷ answer 1 ∷ []
unfolding moved begin_row client_row server_row back_timeout_row wake_row start_row record_bytes head_form volume_form spelled opaque pad word laid_at led name_ok directory_bytes name_bytes rights_of image acl_text digits acl_entry_text
row_one = refl

-- a file is emptied, and then fetched
abbrev pub two : List Input
two = begins 1 (acts.Close (operands.Fid file) (Hex [])) ∷ gives 1 steady ∷ gives 2 steady ∷ begins 1 (acts.Open (operands.Fid file)) ∷ gives 3 steady ∷ gives 4 steady ∷ []

row_two : told (start (script 1)) two ≡
    lines.Begin (Client 1) (acts.Close (operands.Fid file) (Hex [])) ∷ lines.Given 1 ∷ lines.Change (Server 1) (record { node = Client 1; epoch = 1; number = 1 }) 1 ∷ lines.Version (record { fid = file; index = 2; data_version = 2; body = bodies.File [] }) ∷ lines.Given 2 ∷ answer 1
    ∷ begun 1 ∷ lines.Given 3 ∷ lines.Grant (Server 1) (Client 1) file 2 7200 ∷ lines.Given 4 ∷ lines.Read (Client 1) file 2 Fetched (seen.Contents (bodies.File [])) ∷ answer 1 ∷ []
unfolding moved begin_row client_row server_row back_timeout_row wake_row start_row record_bytes head_form volume_form spelled opaque pad word laid_at led name_ok directory_bytes name_bytes rights_of image acl_text digits acl_entry_text
row_two = refl

-- a call that comes twice runs once, and its second reply ends nothing
abbrev pub five : List Input
five = begins 1 (acts.Close (operands.Fid file) (Hex (codes "def"))) ∷ gives 1 steady ∷ gives 1 steady ∷ gives 2 steady ∷ gives 3 steady ∷ []

row_five : told (start (script 1)) five ≡ stores 1 ∷ lines.Given 1 ∷ (change 1 ++ lines.Given 1 ∷ lines.Given 2 ∷ answer 1 ∷ lines.Given 3 ∷ [])
unfolding moved begin_row client_row server_row back_timeout_row wake_row start_row record_bytes head_form volume_form spelled opaque pad word laid_at led name_ok directory_bytes name_bytes rights_of image acl_text digits acl_entry_text
row_five = refl

abbrev pub in_proj : List ℕ → Path
in_proj name = record { volume = codes "proj"; names = name ∷ [] }

-- a new directory takes the lowest number of its kind; it can't be moved below itself, nor removed as a file
abbrev pub makes_directory : List Input
makes_directory = begins 1 (acts.MakeDirectory (in_proj (codes "d"))) ∷ gives 1 steady ∷ gives 2 steady ∷ gives 3 steady ∷ gives 4 steady
    ∷ begins 1 (acts.Move (in_proj (codes "d")) (record { volume = codes "proj"; names = codes "d" ∷ codes "e" ∷ [] })) ∷ gives 5 steady ∷ gives 6 steady ∷ gives 7 steady ∷ gives 8 steady ∷ gives 9 steady ∷ gives 10 steady
    ∷ begins 1 (acts.Remove (in_proj (codes "d"))) ∷ gives 11 steady ∷ gives 12 steady ∷ []

abbrev pub is_said : Line → Bool
is_said (lines.Change s k n) = true
is_said (lines.Version v) = true
is_said (lines.Drop c f) = true
is_said (lines.Answer c code) = true
is_said l = false

abbrev pub directory : Fid
directory = record { volume = home; vnode = 3; unique = 3 }

row_makes_directory : filter is_said (told (start (script 1)) makes_directory) ≡
    lines.Change (Server 1) (record { node = Client 1; epoch = 1; number = 2 }) 2
    ∷ lines.Version (record { fid = root; index = 2; data_version = 2; body = bodies.Dir (record { name = codes "a"; vnode = 2; unique = 2 } ∷ record { name = codes "d"; vnode = 3; unique = 3 } ∷ []) })
    ∷ lines.Version (record { fid = directory; index = 1; data_version = 1; body = bodies.Dir [] })
    ∷ lines.Drop (Client 1) root ∷ code 1 0 ∷ code 1 22 ∷ code 1 21 ∷ []
unfolding moved begin_row client_row server_row back_timeout_row wake_row start_row record_bytes head_form volume_form spelled opaque pad word laid_at led name_ok directory_bytes name_bytes rights_of image acl_text digits acl_entry_text directory_of names_at opaque_at word_at counted_at whole_at count_at name_at spelled_at bytes_below
row_makes_directory = refl

-- rights of a newer index than that of the entry: the entry goes behind the read
abbrev pub twenty_three : List Input
twenty_three = begins 1 (acts.ListNames (operands.Path (record { volume = codes "proj"; names = [] }))) ∷ gives 1 steady ∷ gives 2 steady ∷ begins 2 (acts.Make (in_proj (codes "b"))) ∷ gives 3 steady ∷ gives 4 steady ∷ gives 5 steady
    ∷ server_waits 1 (Client 1) ∷ server_waits 1 (Client 1) ∷ server_waits 1 (Client 1) ∷ gives 9 steady ∷ begins 1 (acts.GetAccessList (operands.Path (record { volume = codes "proj"; names = [] }))) ∷ gives 10 steady ∷ gives 11 steady
    ∷ begins 1 (acts.ListNames (operands.Path (record { volume = codes "proj"; names = [] }))) ∷ gives 12 steady ∷ gives 13 steady ∷ []

row_twenty_three : filter is_kept (told (start (script 2)) twenty_three) ≡
    lines.Begin (Client 1) (acts.ListNames (operands.Path (record { volume = codes "proj"; names = [] }))) ∷ lines.Grant (Server 1) (Client 1) root 1 7200 ∷ lines.Read (Client 1) root 1 Fetched (seen.Contents (bodies.Dir (record { name = codes "a"; vnode = 2; unique = 2 } ∷ []))) ∷ answer 1
    ∷ lines.Begin (Client 2) (acts.Make (in_proj (codes "b"))) ∷ lines.Grant (Server 1) (Client 2) root 1 7200 ∷ lines.Read (Client 2) root 1 Fetched (seen.Contents (bodies.Dir (record { name = codes "a"; vnode = 2; unique = 2 } ∷ []))) ∷ lines.Grant (Server 1) (Client 2) (record { volume = home; vnode = 4; unique = 3 }) 1 7200 ∷ lines.Drop (Client 2) root ∷ answer 2
    ∷ lines.Begin (Client 1) (acts.GetAccessList (operands.Path (record { volume = codes "proj"; names = [] }))) ∷ lines.Read (Client 1) root 2 Fetched (seen.AccessList (codes "1\n0\nsystem:anyuser\t127\n")) ∷ lines.Drop (Client 1) root ∷ answer 1
    ∷ lines.Begin (Client 1) (acts.ListNames (operands.Path (record { volume = codes "proj"; names = [] }))) ∷ lines.Grant (Server 1) (Client 1) root 2 7200 ∷ lines.Read (Client 1) root 2 Fetched (seen.Contents (bodies.Dir (record { name = codes "a"; vnode = 2; unique = 2 } ∷ record { name = codes "b"; vnode = 4; unique = 3 } ∷ []))) ∷ answer 1 ∷ []
unfolding moved begin_row client_row server_row back_timeout_row wake_row start_row record_bytes head_form volume_form spelled opaque pad word laid_at led name_ok directory_bytes name_bytes rights_of image acl_text digits acl_entry_text directory_of names_at opaque_at word_at counted_at whole_at count_at name_at spelled_at bytes_below
row_twenty_three = refl

-- a status is fetched, and shown from the cache; it holds no body, so an open fetches that; and then the status is that entry's
abbrev pub stats : List Input
stats = begins 1 (acts.Stat (operands.Fid file)) ∷ gives 1 steady ∷ gives 2 steady ∷ begins 1 (acts.Stat (operands.Fid file)) ∷ begins 1 (acts.Open (operands.Fid file)) ∷ gives 3 steady ∷ gives 4 steady ∷ begins 1 (acts.Stat (operands.Fid file)) ∷ []

abbrev pub is_read : Line → Bool
is_read (lines.Grant s c f i x) = true
is_read (lines.Read c f i source b) = true
is_read (lines.Answer c code) = true
is_read l = false

abbrev pub three_bytes : ReadBody
three_bytes = seen.Status (record { kind = 1; link_count = 1; length = 3; mode = 420 })

row_stats : filter is_read (told (start (script 1)) stats) ≡
    lines.Grant (Server 1) (Client 1) file 1 7200 ∷ lines.Read (Client 1) file 1 Fetched three_bytes ∷ answer 1 ∷ lines.Read (Client 1) file 1 Cached three_bytes ∷ answer 1
    ∷ lines.Grant (Server 1) (Client 1) file 1 7200 ∷ lines.Read (Client 1) file 1 Fetched (seen.Contents (bodies.File (codes "abc"))) ∷ answer 1 ∷ lines.Read (Client 1) file 1 Cached three_bytes ∷ answer 1 ∷ []
unfolding moved begin_row client_row server_row back_timeout_row wake_row start_row record_bytes head_form volume_form spelled opaque pad word laid_at led name_ok directory_bytes name_bytes rights_of image acl_text digits acl_entry_text
row_stats = refl

-- the status of each of a directory's names: the directory is read, then all of them by one call; what it brought is in the cache
abbrev pub statuses : List Input
statuses = begins 1 (acts.StatAll (operands.Fid root)) ∷ gives 1 steady ∷ gives 2 steady ∷ gives 3 steady ∷ gives 4 steady ∷ begins 1 (acts.Stat (operands.Fid file)) ∷ []

row_statuses : filter is_read (told (start (script 1)) statuses) ≡
    lines.Grant (Server 1) (Client 1) root 1 7200 ∷ lines.Read (Client 1) root 1 Fetched (seen.Contents (bodies.Dir (record { name = codes "a"; vnode = 2; unique = 2 } ∷ [])))
    ∷ lines.Grant (Server 1) (Client 1) file 1 7200 ∷ lines.Read (Client 1) file 1 Fetched three_bytes ∷ answer 1 ∷ lines.Read (Client 1) file 1 Cached three_bytes ∷ answer 1 ∷ []
unfolding moved begin_row client_row server_row back_timeout_row wake_row start_row record_bytes head_form volume_form spelled opaque pad word laid_at led name_ok directory_bytes name_bytes rights_of image acl_text digits acl_entry_text directory_of names_at opaque_at word_at counted_at whole_at count_at name_at spelled_at bytes_below
row_statuses = refl

-- a volume that no one knows
row_unknown : told (start (script 1)) (begins 1 (acts.Open (operands.Path (record { volume = codes "nope"; names = codes "a" ∷ [] }))) ∷ gives 1 steady ∷ gives 2 steady ∷ begins 1 (acts.Stat (operands.Fid (record { volume = 7; vnode = 1; unique = 1 }))) ∷ gives 3 steady ∷ gives 4 steady ∷ []) ≡
    lines.Begin (Client 1) (acts.Open (operands.Path (record { volume = codes "nope"; names = codes "a" ∷ [] }))) ∷ lines.Given 1 ∷ lines.Given 2 ∷ code 1 363524
    ∷ lines.Begin (Client 1) (acts.Stat (operands.Fid (record { volume = 7; vnode = 1; unique = 1 }))) ∷ lines.Given 3 ∷ lines.Given 4 ∷ code 1 363524 ∷ []
unfolding moved begin_row loc_row
row_unknown = refl

-- a cache of one entry, and two files: each is fetched anew
abbrev pub two_files : Script
two_files = record {
  servers = 1;
  clients = 1;
  admins = 0;
  cache = 64;
  capacity = 268435456;
  users = [];
  volumes = record { id = home; name = codes "proj"; server = 1; quota = 1000; lines = setup.File (codes "a" ∷ []) (Hex (codes "abc")) ∷ setup.File (codes "b" ∷ []) (Hex (codes "b")) ∷ [] } ∷ [];
  tasks = [];
  plans = [];
  schedule = None;
}

abbrev pub second : Fid
second = record { volume = home; vnode = 4; unique = 3 }

row_small_cache : filter is_read (told (start (record two_files { cache = 1 }))
    (begins 1 (acts.Open (operands.Fid file)) ∷ gives 1 steady ∷ gives 2 steady ∷ begins 1 (acts.Open (operands.Fid second)) ∷ gives 3 steady ∷ gives 4 steady ∷ begins 1 (acts.Open (operands.Fid file)) ∷ gives 5 steady ∷ gives 6 steady ∷ [])) ≡
    lines.Grant (Server 1) (Client 1) file 1 7200 ∷ lines.Read (Client 1) file 1 Fetched (seen.Contents (bodies.File (codes "abc"))) ∷ answer 1
    ∷ lines.Grant (Server 1) (Client 1) second 1 7200 ∷ lines.Read (Client 1) second 1 Fetched (seen.Contents (bodies.File (codes "b"))) ∷ answer 1
    ∷ lines.Grant (Server 1) (Client 1) file 1 7200 ∷ lines.Read (Client 1) file 1 Fetched (seen.Contents (bodies.File (codes "abc"))) ∷ answer 1 ∷ []
unfolding moved begin_row client_row server_row back_timeout_row wake_row start_row record_bytes head_form volume_form spelled opaque pad word laid_at led name_ok directory_bytes name_bytes rights_of image acl_text digits acl_entry_text bytes_below
row_small_cache = refl

-- two servers: a client's calls have one count for both, each keeps its own, and what one owes by its start is no break of the
-- other's promises
abbrev pub away : Fid
away = record { volume = 536870913; vnode = 2; unique = 2 }

abbrev pub two_servers : Script
two_servers = record {
  servers = 2;
  clients = 1;
  admins = 0;
  cache = 64;
  capacity = 268435456;
  users = [];
  volumes = record { id = home; name = codes "proj"; server = 1; quota = 1000; lines = setup.File (codes "a" ∷ []) (Hex (codes "abc")) ∷ [] }
      ∷ record { id = 536870913; name = codes "more"; server = 2; quota = 1000; lines = setup.File (codes "b" ∷ []) (Hex (codes "b")) ∷ [] } ∷ [];
  tasks = [];
  plans = [];
  schedule = None;
}

abbrev pub version_two : Fid → Line
version_two f = lines.Version (record { fid = f; index = 2; data_version = 2; body = bodies.File (codes "def") })

abbrev pub at_two : List Input
at_two = begins 1 (acts.Close (operands.Fid file) (Hex (codes "def"))) ∷ gives 1 steady ∷ gives 2 steady ∷ begins 1 (acts.Close (operands.Fid away) (Hex (codes "def"))) ∷ gives 3 steady ∷ gives 4 steady ∷ gives 1 steady ∷ gives 3 steady
    ∷ begins 1 (acts.Open (operands.Fid file)) ∷ gives 7 steady ∷ gives 8 steady ∷ stops 2 ∷ starts_again 2 false comes_up ∷ gives 9 steady ∷ gives 10 steady ∷ begins 1 (acts.Open (operands.Fid file)) ∷ []

row_two_servers : told (start two_servers) at_two ≡
    stores 1 ∷ lines.Given 1 ∷ lines.Change (Server 1) (record { node = Client 1; epoch = 1; number = 1 }) 1 ∷ version_two file ∷ lines.Given 2 ∷ answer 1
    ∷ lines.Begin (Client 1) (acts.Close (operands.Fid away) (Hex (codes "def"))) ∷ lines.Given 3 ∷ lines.Change (Server 2) (record { node = Client 1; epoch = 1; number = 2 }) 1 ∷ version_two away ∷ lines.Given 4 ∷ answer 1
    ∷ lines.Given 1 ∷ lines.Given 3 ∷ begun 1 ∷ lines.Given 7 ∷ lines.Grant (Server 1) (Client 1) file 2 7200 ∷ lines.Given 8 ∷ lines.Read (Client 1) file 2 Fetched (seen.Contents (bodies.File (codes "def"))) ∷ answer 1
    ∷ lines.Crash (Server 2) ∷ lines.Restart (Server 2) 2 ∷ lines.Owe (Server 2) (Client 1) None 1 ∷ lines.Given 9 ∷ lines.DropAll (Client 1) (Server 2) ∷ lines.Given 10 ∷ lines.Settle (Server 2) (Client 1) 1
    ∷ begun 1 ∷ lines.Read (Client 1) file 2 Cached (seen.Contents (bodies.File (codes "def"))) ∷ answer 1 ∷ []
unfolding moved begin_row client_row server_row back_timeout_row wake_row start_row record_bytes head_form volume_form spelled opaque pad word laid_at led name_ok directory_bytes name_bytes rights_of image acl_text digits acl_entry_text bytes_below
row_two_servers = refl

-- ---- what a script says of disks and users

-- behind the first record a store of three bytes fits on a disk of 571 bytes, and on none that is smaller
abbrev pub stores_once : List Input
stores_once = begins 1 (acts.Close (operands.Fid file) (Hex (codes "def"))) ∷ gives 1 steady ∷ gives 2 steady ∷ []

row_no_room : told (start (record (script 1) { capacity = 570 })) stores_once ≡ stores 1 ∷ lines.Given 1 ∷ lines.Given 2 ∷ code 1 108 ∷ []
unfolding moved begin_row client_row server_row back_timeout_row wake_row start_row record_bytes head_form volume_form spelled opaque pad word laid_at led name_ok directory_bytes name_bytes rights_of image acl_text digits acl_entry_text bytes_below
row_no_room = refl

row_just_room : told (start (record (script 1) { capacity = 571 })) stores_once ≡ stores 1 ∷ lines.Given 1 ∷ (change 1 ++ lines.Given 2 ∷ answer 1 ∷ [])
unfolding moved begin_row client_row server_row back_timeout_row wake_row start_row record_bytes head_form volume_form spelled opaque pad word laid_at led name_ok directory_bytes name_bytes rights_of image acl_text digits acl_entry_text bytes_below
row_just_room = refl

-- of a client's lines the last names its user
abbrev pub three_users : Script
three_users = record (script 3) {
  users = record { client = 1; name = codes "amy" } ∷ record { client = 2; name = codes "bob" } ∷ record { client = 1; name = codes "eve" } ∷ [];
}

user_of_two_lines : user_at three_users 1 ≡ codes "eve"
user_of_two_lines = refl

user_of_one_line : user_at three_users 2 ≡ codes "bob"
user_of_one_line = refl

user_of_no_line : user_at three_users 3 ≡ codes "guest"
user_of_no_line = refl

-- which it states in its calls
row_user : map (λ (m : Message). m.carried) (moved (start three_users) (begins 1 (acts.Open (operands.Fid file)))).entry.sent ≡ carried.Call (codes "eve") (ask.File (calls.FetchData file (pos 0) (pos 2147483647))) ∷ []
unfolding moved begin_row client_row server_row back_timeout_row wake_row start_row record_bytes head_form volume_form spelled opaque pad word laid_at led name_ok directory_bytes name_bytes rights_of image acl_text digits acl_entry_text bytes_below
row_user = refl

-- ---- what a script lays: a directory with a file, a link beside it, and an access list of the directory

abbrev pub of_each : Script
of_each = record (script 1) {
  volumes = record {
    id = home;
    name = codes "proj";
    server = 1;
    quota = 1000;
    lines = setup.Directory (codes "d" ∷ []) ∷ setup.File (codes "d" ∷ codes "f" ∷ []) (Fill 3 97) ∷ setup.Link (codes "l" ∷ []) (Hex (codes "d/f")) ∷ setup.AccessList (codes "d" ∷ []) (Hex (codes "1\n0\nsystem:anyuser\t9\n")) ∷ [];
  } ∷ [];
}

abbrev pub deep : Path
deep = record { volume = codes "proj"; names = codes "d" ∷ codes "f" ∷ [] }

abbrev pub below : Fid
below = record { volume = home; vnode = 3; unique = 2 }

abbrev pub deep_file : Fid
deep_file = record { volume = home; vnode = 2; unique = 3 }

row_of_each : filter is_kept (told (start of_each) (begins 1 (acts.Open (operands.Path deep)) ∷ gives 1 steady ∷ gives 2 steady ∷ gives 3 steady ∷ gives 4 steady ∷ gives 5 steady ∷ gives 6 steady ∷ [])) ≡
    lines.Begin (Client 1) (acts.Open (operands.Path deep))
    ∷ lines.Grant (Server 1) (Client 1) root 1 7200
    ∷ lines.Read (Client 1) root 1 Fetched (seen.Contents (bodies.Dir (record { name = codes "d"; vnode = 3; unique = 2 } ∷ record { name = codes "l"; vnode = 4; unique = 4 } ∷ [])))
    ∷ lines.Grant (Server 1) (Client 1) below 1 7200
    ∷ lines.Read (Client 1) below 1 Fetched (seen.Contents (bodies.Dir (record { name = codes "f"; vnode = 2; unique = 3 } ∷ [])))
    ∷ lines.Grant (Server 1) (Client 1) deep_file 1 7200
    ∷ lines.Read (Client 1) deep_file 1 Fetched (seen.Contents (bodies.File (97 ∷ 97 ∷ 97 ∷ [])))
    ∷ code 1 0 ∷ []
unfolding moved begin_row client_row server_row back_timeout_row wake_row start_row record_bytes head_form volume_form spelled opaque pad word laid_at acl_laid led name_ok directory_bytes name_bytes rights_of acl_at acls.count_at line_number_at acl_entry_at named_at acls.name_at image acl_text digits acl_entry_text directory_of names_at opaque_at word_at counted_at whole_at count_at name_at spelled_at bytes_below
row_of_each = refl
