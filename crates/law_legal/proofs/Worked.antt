use Rattle.law_legal.proofs.ActIsMade.{not_sought}
use Rattle.spec_rows.specs.Going.{answers, gives_back, next}
use Rattle.std.proofs.Common.{◌≤◌, ◌∙◌}
use Rattle.spec_records.specs.Records.{record_bytes, head_form, volume_form}
use Rattle.spec_rows.specs.ServerSteps.{server_row, back_timeout_row, wake_row, start_row}
-- Worked runs: breaks that overtake a reply, that are never answered, that wait behind a restart, and those of a change of two versions.
use Rattle.afs_num.specs.declared.histories.ReadBody.TheVariants as seen
use Rattle.spec_history.specs.declared.acts.Act.TheVariants as acts
use Rattle.spec_history.specs.declared.acts.Operand.TheVariants as operands
use Rattle.spec_history.specs.declared.acts.Written.TheVariants.{Hex}
use Rattle.afs_num.specs.declared.histories.Actor.TheVariants as actors
use Rattle.spec_ideal.specs.Volumes.{Volume}
use Rattle.spec_ideal.specs.Tables.{Table}
use Rattle.afs_num.specs.declared.histories.Body.{Body}
use Rattle.afs_num.specs.declared.histories.ReadBody.{ReadBody}
use Rattle.afs_num.specs.declared.histories.ReadStatus.{ReadStatus}
use Rattle.afs_num.specs.declared.histories.Actor.{Actor}
use Rattle.law_legal.proofs.BaseLaws.{yes_no, some_of}
use Rattle.std.specs.Option.{option_map}
use Rattle.std.proofs.Common.{Option, negsuc, suc, zero, eq-eqb, ap, nat_eq, ◌<◌, inl, inr, arith, ◌≡◌, ℕ, List, [], ◌∷◌, ◌++◌, Some, None, pos, refl}
use Rattle.std.specs.Prelude.{codes, true, false, Bool, filter, map, not}
use Rattle.afs_num.specs.declared.types.Fid.{Fid}
use Rattle.afs_num.specs.declared.types.Node.TheVariants.{Server, Client}
use Rattle.spec_ideal.specs.AccessLists.{rights_of, acl_text, acl_entry_text}
use Rattle.spec_ideal.specs.Directories.{directory_bytes, name_bytes, directory_of, names_at, whole_at, count_at, name_at, spelled_at, bytes_below}
use Rattle.spec_ideal.specs.SetUp.{laid_at, led}
use Rattle.spec_ideal.specs.VnodeImage.{image}
use Rattle.law_legal.proofs.RunsAreLegal.{run_legal}
use Rattle.law_legal.specs.Cells.{IsOfCell}
use Rattle.spec_rows.specs.ClientRow.{begin_row, client_row}
use Rattle.law_legal.specs.Legal.{Legal}
use Rattle.spec_history.specs.declared.lines.Line.{Line}
use Rattle.spec_ideal.specs.SetUp.{first_volume}
use Rattle.spec_rows.specs.Runs.{Cell, Entry, Input, Leads, begins, comes_up, gives, moved, server_waits, sets_stop, start, starts_again, steady, ticks, waits}
use Rattle.spec_model.specs.Messages.{spelled}
use Rattle.afs_num.specs.Names.{name_ok}
use Rattle.std.specs.Fmt.{digits}
use Rattle.spec_history.specs.declared.scripts.Script.{Script}
use Rattle.spec_history.specs.declared.scripts.SetupLine.TheVariants as setup
use Rattle.afs_num.specs.declared.histories.Body.TheVariants as bodies
use Rattle.spec_history.specs.declared.lines.Line.TheVariants as lines
use Rattle.afs_num.specs.declared.histories.ReadSource.TheVariants.{Cached, Fetched}
use Rattle.afs_xdr.specs.Words.{opaque, pad, word, opaque_at, word_at, counted_at}

abbrev pub home : ℕ
home = 536870912

abbrev pub file : Fid
file = record { volume = home; vnode = 2; unique = 2 }

abbrev pub root : Fid
root = record { volume = home; vnode = 1; unique = 1 }

abbrev pub script : ℕ → Script
script n = record {
  servers = 1;
  clients = n;
  admins = 0;
  cache = 64;
  capacity = 268435456;
  users = [];
  volumes = record { id = home; name = codes "proj"; server = 1; quota = 1000; lines = setup.File (codes "a" ∷ []) (Hex (codes "abc")) ∷ [] } ∷ [];
  tasks = [];
  plans = [];
  schedule = None;
}

pub of_cell : (n : ℕ) → IsOfCell (script n)
of_cell n = record { servers = omega arith; volumes = ((omega arith, omega arith), tt) }

abbrev told : Cell → List Input → List Line
told c [] = []
told c (x ∷ xs) = (moved c x).entry.lines ++ told (moved c x).cell xs

abbrev pub answer : ℕ → Line
answer n = lines.Answer (Client n) (record { 0 = pos 0 })

abbrev pub begun : ℕ → Line
begun n = lines.Begin (Client n) (acts.Open (operands.Fid file))

abbrev pub stores : ℕ → Line
stores n = lines.Begin (Client n) (acts.Close (operands.Fid file) (Hex (codes "def")))

abbrev change : ℕ → List Line
change n = lines.Change (Server 1) (record { node = Client n; epoch = 1; number = 1 }) 1 ∷ lines.Version (record { fid = file; index = 2; data_version = 2; body = bodies.File (codes "def") }) ∷ []

-- a break before the fetch reply
abbrev six : List Input
six = begins 1 (acts.Open (operands.Fid file)) ∷ gives 1 steady ∷ begins 2 (acts.Close (operands.Fid file) (Hex (codes "def"))) ∷ gives 3 steady ∷ gives 4 steady ∷ gives 5 steady ∷ gives 2 steady ∷ gives 6 steady ∷ gives 7 steady ∷ gives 8 steady ∷ []

row_six : told (start (script 2)) six ≡
    begun 1 ∷ lines.Given 1 ∷ lines.Grant (Server 1) (Client 1) file 1 7200 ∷ stores 2 ∷ lines.Given 3 ∷ (change 2 ++ lines.Owe (Server 1) (Client 1) (Some file) 1 ∷ lines.Given 4 ∷ lines.Drop (Client 1) file ∷ lines.Given 5 ∷ lines.Settle (Server 1) (Client 1) 1
    ∷ lines.Given 2 ∷ lines.Given 6 ∷ answer 2 ∷ lines.Given 7 ∷ lines.Grant (Server 1) (Client 1) file 2 7200 ∷ lines.Given 8 ∷ lines.Read (Client 1) file 2 Fetched (seen.Contents (bodies.File (codes "def"))) ∷ answer 1 ∷ [])
unfolding moved begin_row client_row server_row back_timeout_row wake_row start_row record_bytes head_form volume_form spelled opaque pad word laid_at led name_ok directory_bytes name_bytes rights_of image acl_text digits acl_entry_text
row_six = refl

-- a holder that never answers
abbrev seven : List Input
seven = begins 1 (acts.Open (operands.Fid file)) ∷ gives 1 steady ∷ gives 2 steady ∷ begins 2 (acts.Close (operands.Fid file) (Hex (codes "def"))) ∷ gives 3 steady ∷ server_waits 1 (Client 1) ∷ server_waits 1 (Client 1) ∷ server_waits 1 (Client 1) ∷ gives 7 steady ∷ ticks 7199 ∷ begins 1 (acts.Open (operands.Fid file)) ∷ ticks 1 ∷ begins 1 (acts.Open (operands.Fid file)) ∷ gives 8 steady ∷ gives 9 steady ∷ []

row_seven : told (start (script 2)) seven ≡
    begun 1 ∷ lines.Given 1 ∷ lines.Grant (Server 1) (Client 1) file 1 7200 ∷ lines.Given 2 ∷ lines.Read (Client 1) file 1 Fetched (seen.Contents (bodies.File (codes "abc"))) ∷ answer 1 ∷ stores 2 ∷ lines.Given 3 ∷ (change 2 ++ lines.Owe (Server 1) (Client 1) (Some file) 1
    ∷ lines.Timeout (Server 1) (Client 1) 1 1 1 ∷ lines.Timeout (Server 1) (Client 1) 1 1 2 ∷ lines.Timeout (Server 1) (Client 1) 1 1 3 ∷ lines.Quit (Server 1) (Client 1) 1 ∷ lines.Given 7 ∷ answer 2
    ∷ lines.Tick 7199 ∷ begun 1 ∷ lines.Read (Client 1) file 1 Cached (seen.Contents (bodies.File (codes "abc"))) ∷ answer 1 ∷ lines.Tick 1 ∷ begun 1 ∷ lines.Given 8 ∷ lines.Grant (Server 1) (Client 1) file 2 14400 ∷ lines.Given 9 ∷ lines.Read (Client 1) file 2 Fetched (seen.Contents (bodies.File (codes "def"))) ∷ answer 1 ∷ [])
unfolding moved begin_row client_row server_row back_timeout_row wake_row start_row record_bytes head_form volume_form spelled opaque pad word laid_at led name_ok directory_bytes name_bytes rights_of image acl_text digits acl_entry_text
row_seven = refl

-- a stop after the gate was written: the kept reply waits for the break on all
abbrev eight : List Input
eight = begins 1 (acts.Close (operands.Fid file) (Hex (codes "def"))) ∷ sets_stop 1 3 1 ∷ gives 1 steady ∷ starts_again 1 true comes_up ∷ waits 1 ∷ gives 3 steady ∷ gives 4 steady ∷ gives 5 steady ∷ gives 2 steady ∷ gives 6 steady ∷ gives 7 steady ∷ []

row_eight : told (start (script 1)) eight ≡
    stores 1 ∷ lines.Stop (Server 1) 3 1 ∷ lines.Given 1 ∷ lines.Crash (Server 1) ∷ (change 1 ++ lines.Restart (Server 1) 2 ∷ lines.Owe (Server 1) (Client 1) None 1 ∷ lines.Timeout (Client 1) (Server 1) 1 1 1 ∷ lines.Given 3 ∷ lines.Given 4 ∷ lines.Given 5
    ∷ lines.Given 2 ∷ lines.DropAll (Client 1) (Server 1) ∷ lines.Given 6 ∷ lines.Settle (Server 1) (Client 1) 1 ∷ lines.Given 7 ∷ answer 1 ∷ [])
unfolding moved begin_row client_row server_row back_timeout_row wake_row start_row record_bytes head_form volume_form spelled opaque pad word laid_at led name_ok directory_bytes name_bytes rights_of image acl_text digits acl_entry_text
row_eight = refl

-- a file that two hold is removed from a directory that one of them holds too: breaks by ascending vnode, then in the order of
-- granting; the caller's answer waits for all three
abbrev is_told : Line → Bool
is_told (lines.Owe s c w n) = true
is_told (lines.Settle s c n) = true
is_told (lines.Drop c f) = true
is_told (lines.Answer c code) = true
is_told l = false

abbrev pub code : ℕ → ℕ → Line
code n k = lines.Answer (Client n) (record { 0 = pos k })

abbrev nine : List Input
nine = begins 1 (acts.Open (operands.Fid root)) ∷ gives 1 steady ∷ begins 2 (acts.Open (operands.Fid file)) ∷ gives 3 steady ∷ gives 2 steady ∷ begins 1 (acts.Open (operands.Fid file)) ∷ gives 5 steady ∷ begins 3 (acts.Remove (record { volume = codes "proj"; names = codes "a" ∷ [] })) ∷ gives 7 steady ∷ gives 8 steady ∷ gives 9 steady
    ∷ gives 10 steady ∷ gives 11 steady ∷ gives 12 steady ∷ gives 13 steady ∷ gives 14 steady ∷ gives 6 steady ∷ gives 15 steady ∷ gives 16 steady ∷ []

row_nine : filter is_told (told (start (script 3)) nine) ≡
    code 1 21 ∷ lines.Owe (Server 1) (Client 1) (Some root) 1 ∷ lines.Owe (Server 1) (Client 2) (Some file) 2 ∷ lines.Owe (Server 1) (Client 1) (Some file) 3
    ∷ lines.Drop (Client 1) root ∷ lines.Drop (Client 1) file ∷ lines.Drop (Client 2) file ∷ lines.Settle (Server 1) (Client 1) 1 ∷ lines.Settle (Server 1) (Client 1) 3 ∷ lines.Settle (Server 1) (Client 2) 2 ∷ lines.Drop (Client 3) root ∷ code 3 0 ∷ code 1 102 ∷ []
unfolding moved begin_row client_row server_row back_timeout_row wake_row start_row record_bytes head_form volume_form spelled opaque pad word laid_at led name_ok directory_bytes name_bytes rights_of image acl_text digits acl_entry_text
row_nine = refl

-- ---- without their breaks these runs aren't legal

abbrev pub entries : Cell → List Input → List Entry
entries c [] = []
entries c (x ∷ xs) = (moved c x).entry ∷ entries (moved c x).cell xs

abbrev is_owe : Line → Bool
is_owe (lines.Owe s c w n) = true
is_owe l = false

abbrev without : Entry → Entry
without e = record e { lines = filter (λ l. not (is_owe l)) e.lines }

abbrev pub six_front : List Input
six_front = begins 1 (acts.Open (operands.Fid file)) ∷ gives 1 steady ∷ begins 2 (acts.Close (operands.Fid file) (Hex (codes "def"))) ∷ gives 3 steady ∷ []

-- with them it is: so far they are told
owed_is_legal : (c : Cell) → Leads (start (script 2)) six_front (entries (start (script 2)) six_front) c → Legal (entries (start (script 2)) six_front) (script 2)
unfolding moved begin_row client_row server_row back_timeout_row wake_row start_row record_bytes head_form volume_form spelled opaque pad word laid_at led name_ok directory_bytes name_bytes rights_of image acl_text digits acl_entry_text
owed_is_legal c r = run_legal (script 2) (entries (start (script 2)) six_front) c (of_cell 2) (record { inputs = six_front; leads = r })

not_owed : Legal (map without (entries (start (script 2)) six_front)) (script 2) → ⊥
unfolding moved begin_row client_row server_row back_timeout_row wake_row start_row record_bytes head_form volume_form spelled opaque pad word laid_at led name_ok directory_bytes name_bytes rights_of image acl_text digits acl_entry_text
not_owed h = h.1.1.1.0.0.0.1.0.1.owed 1 file 7200 (λ e. absurd cc) (inl refl) refl (omega arith)

abbrev eight_front : List Input
eight_front = begins 1 (acts.Close (operands.Fid file) (Hex (codes "def"))) ∷ sets_stop 1 3 1 ∷ gives 1 steady ∷ starts_again 1 true comes_up ∷ []

not_all_owed : Legal (map without (entries (start (script 1)) eight_front)) (script 1) → ⊥
unfolding moved begin_row client_row server_row back_timeout_row wake_row start_row record_bytes head_form volume_form spelled opaque pad word laid_at led name_ok directory_bytes name_bytes rights_of image acl_text digits acl_entry_text
not_all_owed h = h.1.1.1.0.0.0.1.1.0.1 1 (omega arith) (omega arith)

-- ---- a walk, the last read of which a break overtakes: it is fetched again, and the act ends in one answer

abbrev walked : List Input
walked = begins 1 (acts.Open (operands.Path (record { volume = codes "proj"; names = codes "a" ∷ [] }))) ∷ gives 1 steady ∷ gives 2 steady ∷ gives 3 steady ∷ begins 2 (acts.Close (operands.Fid file) (Hex (codes "def"))) ∷ gives 5 steady ∷ gives 6 steady ∷ gives 4 steady ∷ gives 7 steady ∷ gives 8 steady ∷ gives 10 steady ∷ []

abbrev is_walked : Line → Bool
is_walked (lines.Given p) = false
is_walked (lines.Version v) = false
is_walked l = true

row_walked : filter is_walked (told (start (script 2)) walked) ≡
    lines.Begin (Client 1) (acts.Open (operands.Path (record { volume = codes "proj"; names = codes "a" ∷ [] }))) ∷ lines.Grant (Server 1) (Client 1) root 1 7200 ∷ lines.Read (Client 1) root 1 Fetched (seen.Contents (bodies.Dir (record { name = codes "a"; vnode = 2; unique = 2 } ∷ [])))
    ∷ lines.Grant (Server 1) (Client 1) file 1 7200 ∷ stores 2 ∷ lines.Change (Server 1) (record { node = Client 2; epoch = 1; number = 1 }) 1 ∷ lines.Owe (Server 1) (Client 1) (Some file) 1 ∷ lines.Drop (Client 1) file
    ∷ lines.Settle (Server 1) (Client 1) 1 ∷ lines.Grant (Server 1) (Client 1) file 2 7200 ∷ lines.Read (Client 1) file 2 Fetched (seen.Contents (bodies.File (codes "def"))) ∷ code 1 0 ∷ []
unfolding moved begin_row client_row server_row back_timeout_row wake_row start_row record_bytes head_form volume_form spelled opaque pad word laid_at led name_ok directory_bytes name_bytes rights_of image acl_text digits acl_entry_text directory_of names_at opaque_at word_at counted_at whole_at count_at name_at spelled_at bytes_below
row_walked = refl

-- the lines of acts, grants, reads and drops alone
abbrev is_kept : Line → Bool
is_kept (lines.Begin c a) = true
is_kept (lines.Grant s c f i x) = true
is_kept (lines.Read c f i source b) = true
is_kept (lines.Drop c f) = true
is_kept (lines.Answer c code) = true
is_kept l = false

abbrev last_entry : Cell → List Input → Option Entry
last_entry c [] = None
last_entry c (x ∷ []) = Some (moved c x).entry
last_entry c (x ∷ y ∷ xs) = last_entry (moved c x).cell (y ∷ xs)

-- ---- a stop before the gate was written, and a call that was given up

-- the disk stops before the change is on it: the restart has none, and the call runs then, once
abbrev nine_before : List Input
nine_before = begins 1 (acts.Close (operands.Fid file) (Hex (codes "def"))) ∷ sets_stop 1 3 0 ∷ gives 1 steady ∷ starts_again 1 false comes_up ∷ waits 1 ∷ gives 3 steady ∷ gives 4 steady ∷ gives 5 steady ∷ gives 2 steady ∷ gives 6 steady ∷ gives 7 steady ∷ []

row_nine_before : told (start (script 1)) nine_before ≡
    stores 1 ∷ lines.Stop (Server 1) 3 0 ∷ lines.Given 1 ∷ lines.Crash (Server 1) ∷ lines.Restart (Server 1) 2 ∷ lines.Owe (Server 1) (Client 1) None 1 ∷ lines.Timeout (Client 1) (Server 1) 1 1 1 ∷ lines.Given 3 ∷ lines.Given 4 ∷ lines.Given 5 ∷ (change 1 ++ lines.Given 2 ∷ lines.DropAll (Client 1) (Server 1)
    ∷ lines.Given 6 ∷ lines.Settle (Server 1) (Client 1) 1 ∷ lines.Given 7 ∷ answer 1 ∷ [])
unfolding moved begin_row client_row server_row back_timeout_row wake_row start_row record_bytes head_form volume_form spelled opaque pad word laid_at led name_ok directory_bytes name_bytes rights_of image acl_text digits acl_entry_text
row_nine_before = refl

-- a store whose reply is lost is given up; an open behind it reads what it left
abbrev ten : List Input
ten = begins 1 (acts.Close (operands.Fid file) (Hex (codes "def"))) ∷ gives 1 steady ∷ waits 1 ∷ waits 1 ∷ waits 1 ∷ begins 1 (acts.Open (operands.Fid file)) ∷ gives 5 steady ∷ gives 6 steady ∷ []

row_ten : told (start (script 1)) ten ≡
    stores 1 ∷ lines.Given 1 ∷ (change 1 ++ lines.Timeout (Client 1) (Server 1) 1 1 1 ∷ lines.Timeout (Client 1) (Server 1) 1 1 2 ∷ lines.Timeout (Client 1) (Server 1) 1 1 3 ∷ lines.Answer (Client 1) (record { 0 = negsuc 0 })
    ∷ begun 1 ∷ lines.Given 5 ∷ lines.Grant (Server 1) (Client 1) file 2 7200 ∷ lines.Given 6 ∷ lines.Read (Client 1) file 2 Fetched (seen.Contents (bodies.File (codes "def"))) ∷ answer 1 ∷ [])
unfolding moved begin_row client_row server_row back_timeout_row wake_row start_row record_bytes head_form volume_form spelled opaque pad word laid_at led name_ok directory_bytes name_bytes rights_of image acl_text digits acl_entry_text
row_ten = refl

-- a store of the mode over an older body: the entry isn't just below the new index, so it is given up
abbrev twenty_two : List Input
twenty_two = begins 1 (acts.Open (operands.Fid file)) ∷ gives 1 steady ∷ gives 2 steady ∷ begins 2 (acts.Close (operands.Fid file) (Hex (codes "def"))) ∷ gives 3 steady ∷ server_waits 1 (Client 1) ∷ server_waits 1 (Client 1) ∷ server_waits 1 (Client 1) ∷ gives 7 steady
    ∷ begins 1 (acts.SetMode (operands.Fid file) 384) ∷ gives 8 steady ∷ gives 9 steady ∷ begins 1 (acts.Open (operands.Fid file)) ∷ gives 10 steady ∷ gives 11 steady ∷ []

row_twenty_two : filter is_kept (told (start (script 2)) twenty_two) ≡
    begun 1 ∷ lines.Grant (Server 1) (Client 1) file 1 7200 ∷ lines.Read (Client 1) file 1 Fetched (seen.Contents (bodies.File (codes "abc"))) ∷ answer 1 ∷ stores 2 ∷ answer 2
    ∷ lines.Begin (Client 1) (acts.SetMode (operands.Fid file) 384) ∷ lines.Drop (Client 1) file ∷ answer 1 ∷ begun 1 ∷ lines.Grant (Server 1) (Client 1) file 3 7200 ∷ lines.Read (Client 1) file 3 Fetched (seen.Contents (bodies.File (codes "def"))) ∷ answer 1 ∷ []
unfolding moved begin_row client_row server_row back_timeout_row wake_row start_row record_bytes head_form volume_form spelled opaque pad word laid_at led name_ok directory_bytes name_bytes rights_of image acl_text digits acl_entry_text
row_twenty_two = refl

-- an entry just below it is raised, and shown without a message
abbrev raised : List Input
raised = begins 1 (acts.Open (operands.Fid file)) ∷ gives 1 steady ∷ gives 2 steady ∷ begins 1 (acts.SetMode (operands.Fid file) 384) ∷ gives 3 steady ∷ gives 4 steady ∷ begins 1 (acts.Open (operands.Fid file)) ∷ []

row_raised : filter is_kept (told (start (script 1)) raised) ≡
    begun 1 ∷ lines.Grant (Server 1) (Client 1) file 1 7200 ∷ lines.Read (Client 1) file 1 Fetched (seen.Contents (bodies.File (codes "abc"))) ∷ answer 1 ∷ lines.Begin (Client 1) (acts.SetMode (operands.Fid file) 384) ∷ answer 1
    ∷ begun 1 ∷ lines.Read (Client 1) file 2 Cached (seen.Contents (bodies.File (codes "abc"))) ∷ answer 1 ∷ []
unfolding moved begin_row client_row server_row back_timeout_row wake_row start_row record_bytes head_form volume_form spelled opaque pad word laid_at led name_ok directory_bytes name_bytes rights_of image acl_text digits acl_entry_text
row_raised = refl

-- a walk that the cache knows whole is one step
abbrev at_once : List Input
at_once = begins 1 (acts.Open (operands.Path (record { volume = codes "proj"; names = codes "a" ∷ [] }))) ∷ gives 1 steady ∷ gives 2 steady ∷ gives 3 steady ∷ gives 4 steady ∷ begins 1 (acts.Open (operands.Path (record { volume = codes "proj"; names = codes "a" ∷ [] }))) ∷ []

row_at_once : option_map (λ (e : Entry). e.lines) (last_entry (start (script 1)) at_once) ≡
    Some (lines.Begin (Client 1) (acts.Open (operands.Path (record { volume = codes "proj"; names = codes "a" ∷ [] }))) ∷ lines.Read (Client 1) root 1 Cached (seen.Contents (bodies.Dir (record { name = codes "a"; vnode = 2; unique = 2 } ∷ []))) ∷ lines.Read (Client 1) file 1 Cached (seen.Contents (bodies.File (codes "abc"))) ∷ answer 1 ∷ [])
unfolding moved begin_row client_row server_row back_timeout_row wake_row start_row record_bytes head_form volume_form spelled opaque pad word laid_at led name_ok directory_bytes name_bytes rights_of image acl_text digits acl_entry_text directory_of names_at opaque_at word_at counted_at whole_at count_at name_at spelled_at bytes_below
row_at_once = refl

-- ---- wrong histories. Each differs from that of a run in one line, or in whose entry it is

-- the first entries of row six with one of them altered
abbrev pub alters : ℕ → (Entry → Entry) → List Entry → List Entry
alters n f [] = []
alters zero f (e ∷ es) = f e ∷ es
alters (suc n) f (e ∷ es) = e ∷ alters n f es

abbrev pub by_lines : (Line → Line) → Entry → Entry
by_lines f e = record e { lines = map f e.lines }

abbrev six_by : ℕ → (Entry → Entry) → List Entry
six_by n f = alters n f (entries (start (script 2)) six_front)

pub apart_numbers : (m n : ℕ) → nat_eq m n ≡ false → m ≡ n → ⊥
apart_numbers m n e q = yes_no (nat_eq m n) (eq-eqb m n q) e

-- an act begins, or a grant or a change is made, in another's entry
abbrev moved_to : Actor → Entry → Entry
moved_to o e = record e { actor = o }

begun_elsewhere : Legal (six_by 0 (moved_to (actors.Node (Client 2)))) (script 2) → ⊥
unfolding moved begin_row client_row server_row back_timeout_row wake_row start_row record_bytes head_form volume_form spelled opaque pad word laid_at led name_ok directory_bytes name_bytes rights_of image acl_text digits acl_entry_text
begun_elsewhere h = let e : actors.Node (Client 2) ≡ actors.Node (Client 1) = h.0.0.0.0.0 in absurd cc

granted_elsewhere : Legal (six_by 1 (moved_to (actors.Node (Client 1)))) (script 2) → ⊥
unfolding moved begin_row client_row server_row back_timeout_row wake_row start_row record_bytes head_form volume_form spelled opaque pad word laid_at led name_ok directory_bytes name_bytes rights_of image acl_text digits acl_entry_text
granted_elsewhere h = let e : actors.Node (Client 1) ≡ actors.Node (Server 1) = h.1.0.0.0.1.0.0 in absurd cc

changed_by_nobody : Legal (six_by 3 (moved_to actors.Nobody)) (script 2) → ⊥
unfolding moved begin_row client_row server_row back_timeout_row wake_row start_row record_bytes head_form volume_form spelled opaque pad word laid_at led name_ok directory_bytes name_bytes rights_of image acl_text digits acl_entry_text
changed_by_nobody h = let e : actors.Nobody ≡ actors.Node (Server 1) = h.1.1.1.0.0.0.1.0.0 in absurd cc

-- a change that says more versions than follow
abbrev counts_two : Line → Line
counts_two (lines.Change s k n) = lines.Change s k 2
counts_two l = l

counted_wrong : Legal (six_by 3 (by_lines counts_two)) (script 2) → ⊥
unfolding moved begin_row client_row server_row back_timeout_row wake_row start_row record_bytes head_form volume_form spelled opaque pad word laid_at led name_ok directory_bytes name_bytes rights_of image acl_text digits acl_entry_text
counted_wrong h = apart_numbers 2 1 refl h.1.1.1.0.0.0.1.0.1.ideal.number

-- a version under no change
abbrev no_change : Line → Line
no_change (lines.Change s k n) = lines.Fail s 1
no_change l = l

unchanged : Legal (six_by 3 (by_lines no_change)) (script 2) → ⊥
unfolding moved begin_row client_row server_row back_timeout_row wake_row start_row record_bytes head_form volume_form spelled opaque pad word laid_at led name_ok directory_bytes name_bytes rights_of image acl_text digits acl_entry_text
unchanged h = h.1.1.1.0.0.0.1.1.0

-- a break whose number doesn't rise; and below, one that leaves a number out
abbrev nought : Line → Line
nought (lines.Owe s c w n) = lines.Owe s c w 0
nought l = l

owed_nought : Legal (six_by 3 (by_lines nought)) (script 2) → ⊥
unfolding moved begin_row client_row server_row back_timeout_row wake_row start_row record_bytes head_form volume_form spelled opaque pad word laid_at led name_ok directory_bytes name_bytes rights_of image acl_text digits acl_entry_text
owed_nought h = let e : 0 ≡ 1 = h.1.1.1.0.0.0.1.1.1.0.1.number in absurd (omega (arith, e))

abbrev second : Line → Line
second (lines.Owe s c w n) = lines.Owe s c w 2
second l = l

owed_with_a_gap : Legal (six_by 3 (by_lines second)) (script 2) → ⊥
unfolding moved begin_row client_row server_row back_timeout_row wake_row start_row record_bytes head_form volume_form spelled opaque pad word laid_at led name_ok directory_bytes name_bytes rights_of image acl_text digits acl_entry_text
owed_with_a_gap h = let e : 2 ≡ 1 = h.1.1.1.0.0.0.1.1.1.0.1.number in absurd (omega (arith, e))

-- an entry that brings a volume
abbrev brings : Entry → Entry
brings e = record e { volumes = (7, first_volume (record { id = 7; name = codes "x"; server = 1; quota = 1; lines = [] })) ∷ [] }

no_table : (p : ℕ × Volume) (ps : Table Volume) → p ∷ ps ≡ [] → ⊥
no_table p ps e = absurd cc

brought_one : Legal (six_by 2 brings) (script 2) → ⊥
unfolding moved begin_row client_row server_row back_timeout_row wake_row start_row record_bytes head_form volume_form spelled opaque pad word laid_at led name_ok directory_bytes name_bytes rights_of image acl_text digits acl_entry_text
brought_one h = no_table _ _ h.1.1.0.1.0.0.0

-- what is read isn't what its version holds; or it has another index
abbrev open_front : List Input
open_front = begins 1 (acts.Open (operands.Fid file)) ∷ gives 1 steady ∷ gives 2 steady ∷ []

abbrev shows_other : Line → Line
shows_other (lines.Read c f i source b) = lines.Read c f i source (seen.Contents (bodies.File (codes "xyz")))
shows_other l = l

abbrev later_index : Line → Line
later_index (lines.Read c f i source b) = lines.Read c f 2 source b
later_index l = l

first_byte : Body → ℕ
first_byte (bodies.File []) = 0
first_byte (bodies.File (b ∷ rest)) = b
first_byte b = 0

other_bytes : bodies.File (codes "abc") ≡ bodies.File (codes "xyz") → ⊥
unfolding first_byte
other_bytes e = apart_numbers 97 120 refl (ap first_byte e)

other_fid : root ≡ file → ⊥
other_fid e = apart_numbers 1 2 refl (ap (λ (f : Fid). f.vnode) e)

shown_wrong : Legal (alters 2 (by_lines shows_other) (entries (start (script 1)) open_front)) (script 1) → ⊥
unfolding moved begin_row client_row server_row back_timeout_row wake_row start_row record_bytes head_form volume_form spelled opaque pad word laid_at led name_ok directory_bytes name_bytes rights_of image acl_text digits acl_entry_text
shown_wrong h = elim h.1.1.0.0.0.1.0.1.0.whole.1 [ inl x ↦ other_fid x.0 | inr y ↦ elim y [ inl x ↦ other_bytes x.1.1 | inr z ↦ z ] ]

shown_later : Legal (alters 2 (by_lines later_index) (entries (start (script 1)) open_front)) (script 1) → ⊥
unfolding moved begin_row client_row server_row back_timeout_row wake_row start_row record_bytes head_form volume_form spelled opaque pad word laid_at led name_ok directory_bytes name_bytes rights_of image acl_text digits acl_entry_text
shown_later h = elim h.1.1.0.0.0.1.0.1.0.whole.1 [ inl x ↦ other_fid x.0 | inr y ↦ elim y [ inl x ↦ apart_numbers 1 2 refl x.1.0 | inr z ↦ z ] ]

-- a status that the object never had, and a text of rights that it never had
abbrev stat_front : List Input
stat_front = begins 1 (acts.Stat (operands.Fid file)) ∷ gives 1 steady ∷ gives 2 steady ∷ []

abbrev rights_front : List Input
rights_front = begins 1 (acts.GetAccessList (operands.Fid root)) ∷ gives 1 steady ∷ gives 2 steady ∷ []

abbrev linked_twice : ReadBody → ReadBody
linked_twice (seen.Status t) = seen.Status (record t { link_count = 7 })
linked_twice b = b

abbrev tells_linked : Line → Line
tells_linked (lines.Read c f i source b) = lines.Read c f i source (linked_twice b)
tells_linked l = l

abbrev tells_rights : Line → Line
tells_rights (lines.Read c f i source b) = lines.Read c f i source (seen.AccessList (codes "x"))
tells_rights l = l

first_code : List ℕ → ℕ
first_code [] = 0
first_code (b ∷ rest) = b

status_wrong : Legal (alters 2 (by_lines tells_linked) (entries (start (script 1)) stat_front)) (script 1) → ⊥
unfolding moved begin_row client_row server_row back_timeout_row wake_row start_row record_bytes head_form volume_form spelled opaque pad word laid_at led name_ok directory_bytes name_bytes rights_of image acl_text digits acl_entry_text
status_wrong h = elim h.1.1.0.0.0.1.0.1.0.whole.1 [ inl x ↦ apart_numbers 1 7 refl (ap (λ (t : ReadStatus). t.link_count) x.1) | inr y ↦ elim y [ inl x ↦ apart_numbers 1 7 refl (ap (λ (t : ReadStatus). t.link_count) x.1) | inr z ↦ elim z [ inl x ↦ apart_numbers 1 7 refl (ap (λ (t : ReadStatus). t.link_count) x.1) | inr w ↦ w ] ] ]

rights_wrong : Legal (alters 2 (by_lines tells_rights) (entries (start (script 1)) rights_front)) (script 1) → ⊥
unfolding moved begin_row client_row server_row back_timeout_row wake_row start_row record_bytes head_form volume_form spelled opaque pad word laid_at led name_ok directory_bytes name_bytes rights_of image acl_text digits acl_entry_text first_code
rights_wrong h = elim h.1.1.0.0.0.1.0.1.whole.1 [ inl x ↦ apart_numbers 49 120 refl (ap first_code x.1.0) | inr y ↦ elim y [ inl x ↦ apart_numbers 49 120 refl (ap first_code x.1.0) | inr z ↦ elim z [ inl x ↦ apart_numbers 49 120 refl (ap first_code x.1.0) | inr w ↦ w ] ] ]

-- ---- wrong statuses and rights, each for one reason

-- one line more in an entry, behind what is read there
abbrev reads_too : Line → List Line → List Line
reads_too l [] = []
reads_too l (lines.Read c f i source b ∷ ls) = lines.Read c f i source b ∷ l ∷ ls
reads_too l (k ∷ ls) = k ∷ reads_too l ls

abbrev too : Line → Entry → Entry
too l e = record e { lines = reads_too l e.lines }

abbrev mode_of_root : Input
mode_of_root = begins 2 (acts.SetMode (operands.Fid root) 384)

abbrev index_one : Line → Line
index_one (lines.Read c f i source b) = lines.Read c f 1 source b
index_one l = l

abbrev number : ℕ → Option ℕ
number n = Some n

two_one : number 2 ≡ number 1 → ⊥
two_one e = absurd cc

-- rights of a version that was followed before the act began
abbrev late_rights : List Input
late_rights = mode_of_root ∷ gives 1 steady ∷ gives 2 steady ∷ begins 1 (acts.GetAccessList (operands.Fid root)) ∷ gives 3 steady ∷ gives 4 steady ∷ []

rights_too_old : Legal (alters 5 (by_lines index_one) (entries (start (script 2)) late_rights)) (script 2) → ⊥
unfolding moved begin_row client_row server_row back_timeout_row wake_row start_row record_bytes head_form volume_form spelled opaque pad word laid_at led name_ok directory_bytes name_bytes rights_of image acl_text digits acl_entry_text
rights_too_old h = elim h.1.1.1.1.1.0.0.0.1.0.1.was [ inl x ↦ two_one x | inr y ↦ elim y [ inl x ↦ two_one x | inr z ↦ elim z [ inl x ↦ two_one x | inr w ↦ w ] ] ]

-- rights that were the last when the act began, behind those of the next version
abbrev rights_again : List Input
rights_again = begins 1 (acts.GetAccessList (operands.Fid root)) ∷ mode_of_root ∷ gives 2 steady ∷ gives 1 steady ∷ gives 4 steady ∷ []

rights_go_back : Legal (alters 4 (too (lines.Read (Client 1) root 1 Fetched (seen.AccessList (codes "1\n0\nsystem:anyuser\t127\n")))) (entries (start (script 2)) rights_again)) (script 2) → ⊥
unfolding moved begin_row client_row server_row back_timeout_row wake_row start_row record_bytes head_form volume_form spelled opaque pad word laid_at led name_ok directory_bytes name_bytes rights_of image acl_text digits acl_entry_text
rights_go_back h = let e : 2 ≤ 1 = h.1.1.1.1.0.0.0.1.1.0.1.not_older in absurd (omega arith)

-- the status of an older version, behind that of the next; the promise was withdrawn meanwhile
abbrev stat_again : List Input
stat_again = begins 1 (acts.Stat (operands.Fid file)) ∷ begins 2 (acts.Close (operands.Fid file) (Hex (codes "def"))) ∷ gives 2 steady ∷ gives 1 steady ∷ gives 3 steady ∷ begins 2 (acts.Close (operands.Fid file) (Hex (codes "xyz"))) ∷ gives 5 steady ∷ gives 4 steady ∷ []

status_goes_back : Legal (alters 7 (too (lines.Read (Client 1) file 1 Cached (seen.Status (record { kind = 1; link_count = 1; length = 3; mode = 420 })))) (entries (start (script 2)) stat_again)) (script 2) → ⊥
unfolding moved begin_row client_row server_row back_timeout_row wake_row start_row record_bytes head_form volume_form spelled opaque pad word laid_at led name_ok directory_bytes name_bytes rights_of image acl_text digits acl_entry_text
status_goes_back h = let e : 2 ≤ 1 = h.1.1.1.1.1.1.1.0.0.0.1.1.0.1.0.not_older in absurd (omega arith)

-- a status among those of a directory's names that the object never had
abbrev statuses_front : List Input
statuses_front = begins 1 (acts.StatAll (operands.Fid root)) ∷ gives 1 steady ∷ gives 2 steady ∷ gives 3 steady ∷ gives 4 steady ∷ []

statuses_wrong : Legal (alters 4 (by_lines tells_linked) (entries (start (script 1)) statuses_front)) (script 1) → ⊥
unfolding moved begin_row client_row server_row back_timeout_row wake_row start_row record_bytes head_form volume_form spelled opaque pad word laid_at led name_ok directory_bytes name_bytes rights_of image acl_text digits acl_entry_text directory_of names_at opaque_at word_at counted_at whole_at count_at name_at spelled_at bytes_below
statuses_wrong h = elim h.1.1.1.1.0.0.0.1.0.1.0.whole.1 [ inl x ↦ apart_numbers 1 7 refl (ap (λ (t : ReadStatus). t.link_count) x.1) | inr y ↦ elim y [ inl x ↦ apart_numbers 1 7 refl (ap (λ (t : ReadStatus). t.link_count) x.1) | inr z ↦ elim z [ inl x ↦ apart_numbers 1 7 refl (ap (λ (t : ReadStatus). t.link_count) x.1) | inr w ↦ elim w [ inl x ↦ apart_numbers 1 7 refl (ap (λ (t : ReadStatus). t.link_count) x.1) | inr v ↦ elim v [ inl x ↦ apart_numbers 1 7 refl (ap (λ (t : ReadStatus). t.link_count) x.1) | inr u ↦ u ] ] ] ] ]

-- ---- what a client gives back

-- the server is told by a call, and no break is owed by the store after it
abbrev gave_back : List Input
gave_back = begins 1 (acts.Open (operands.Fid file)) ∷ gives 1 steady ∷ gives 2 steady ∷ begins 1 acts.GiveUp ∷ gives 3 steady ∷ gives 4 steady ∷ begins 2 (acts.Close (operands.Fid file) (Hex (codes "def"))) ∷ gives 5 steady ∷ gives 6 steady ∷ []

row_gave : told (start (script 2)) gave_back ≡
    begun 1 ∷ lines.Given 1 ∷ lines.Grant (Server 1) (Client 1) file 1 7200 ∷ lines.Given 2 ∷ lines.Read (Client 1) file 1 Fetched (seen.Contents (bodies.File (codes "abc"))) ∷ answer 1 ∷ lines.Begin (Client 1) acts.GiveUp ∷ lines.Drop (Client 1) file ∷ lines.Given 3 ∷ lines.Given 4 ∷ answer 1
    ∷ stores 2 ∷ lines.Given 5 ∷ (change 2 ++ lines.Given 6 ∷ answer 2 ∷ [])
unfolding moved begin_row client_row server_row back_timeout_row wake_row start_row record_bytes head_form volume_form spelled opaque pad word laid_at led name_ok directory_bytes name_bytes rights_of image acl_text digits acl_entry_text
row_gave = refl

-- one that has nothing is answered at once
row_nothing : told (start (script 1)) (begins 1 acts.GiveUp ∷ []) ≡ lines.Begin (Client 1) acts.GiveUp ∷ answer 1 ∷ []
unfolding moved begin_row client_row server_row back_timeout_row wake_row start_row record_bytes head_form volume_form spelled opaque pad word laid_at led name_ok directory_bytes name_bytes rights_of image acl_text digits acl_entry_text
row_nothing = refl

-- one that gave something up is not: its server has to be told
abbrev untold : Entry → Entry
untold e = record e { lines = e.lines ++ answer 1 ∷ []; sent = [] }

not_answers : (n : ℕ) → gives_back ≡ answers n → ⊥
not_answers n e = absurd cc

gave_untold : Legal (alters 3 untold (entries (start (script 1)) (begins 1 (acts.Open (operands.Fid file)) ∷ gives 1 steady ∷ gives 2 steady ∷ begins 1 acts.GiveUp ∷ []))) (script 1) → ⊥
unfolding moved begin_row client_row server_row back_timeout_row wake_row start_row record_bytes head_form volume_form spelled opaque pad word laid_at led name_ok directory_bytes name_bytes rights_of image acl_text digits acl_entry_text
gave_untold h =
    let g = h.1.1.1.0.0.0.1.1.0.1 in
    elim g.cause [
      | inl x ↦ let e : None ≡ Some x.reply = x.by in absurd cc
      | inr y ↦ elim y [
        | inl x ↦ not_answers x.number (ap next (some_of _ _ g.runs) ∙ x.by)
        | inr z ↦ elim z [
          | inl x ↦ let e : pos 0 ≡ negsuc 0 = x.is in absurd cc
          | inr u ↦ elim u [ inl x ↦ let e : true ≡ false = x.none in absurd cc | inr t ↦ not_sought _ _ _ _ _ _ 0 refl refl refl refl t ]
        ]
      ]
    ]

-- a run of the rows may have any pick of a stop, where a script's are 0 to 3
row_picked : told (start (script 1)) (sets_stop 1 0 9 ∷ []) ≡ lines.Stop (Server 1) 0 9 ∷ []
unfolding moved begin_row client_row server_row back_timeout_row wake_row start_row record_bytes head_form volume_form spelled opaque pad word laid_at led name_ok directory_bytes name_bytes rights_of image acl_text digits acl_entry_text
row_picked = refl
