-- Worked runs of a cell that has an administrator.
use Rattle.std.proofs.Common.{◌≡◌, ℕ, ◌+◌, zero, suc, List, [], ◌∷◌, ◌++◌, pos, refl}
use Rattle.std.specs.Prelude.{codes, Bool, true, false, filter, map}
use Rattle.afs_num.specs.declared.types.Code.{Code}
use Rattle.afs_num.specs.declared.types.Node.TheVariants.{Admin, Loc, Server}
use Rattle.afs_num.specs.declared.histories.Body.TheVariants as bodies
use Rattle.spec_history.specs.declared.lines.Line.{Line}
use Rattle.spec_history.specs.declared.lines.Line.TheVariants as lines
use Rattle.spec_history.specs.declared.scripts.AdminAct.{AdminAct}
use Rattle.spec_history.specs.declared.scripts.AdminAct.TheVariants as acts
use Rattle.spec_history.specs.declared.scripts.Script.{Script}
use Rattle.std.specs.Fmt.{digits}
use Rattle.afs_num.specs.Names.{is_name_of, name_ok, volume_name_ok}
use Rattle.afs_xdr.specs.Words.{counted_at, opaque, opaque_at, pad, word, word_at}
use Rattle.spec_ideal.specs.AccessLists as acls
use Rattle.spec_ideal.specs.AccessLists.{rights_of}
use Rattle.spec_ideal.specs.Directories as directories
use Rattle.spec_ideal.specs.Images.{value_of}
use Rattle.spec_ideal.specs.SetUp.{laid_at, led}
use Rattle.spec_ideal.specs.VnodeImage.{image, kind_fits}
use Rattle.spec_ideal.specs.VnodeMaps.{changed_since}
use Rattle.spec_model.specs.Messages.{spelled}
use Rattle.spec_records.specs.LocRecords.{entry_form, loc_record_bytes}
use Rattle.spec_records.specs.Records.{head_form, record_bytes, volume_form}
use Rattle.spec_records.specs.Sound.{is_sound}
use Rattle.spec_dumps.specs.Restores.{fed, restored_from}
use Rattle.spec_dumps.specs.Streams.{dump_at, dump_field, dump_header_field, image_field, live_field, next_at, volume_header_field}
use Rattle.spec_rows.specs.LocSteps.{loc_row}
use Rattle.spec_volrows.specs.FileRow.{file_row, file_start}
use Rattle.spec_volrows.specs.VolSteps.{node_row}
use Rattle.spec_ideal.specs.Volumes.{Volume}
use Rattle.spec_rows.specs.Runs.{gives, steady}
use Rattle.spec_rows.proofs.Worked.{script}
use Rattle.spec_adminrows.specs.AdminRow.{admin_begin_row, admin_row, admin_timeout_row}
use Rattle.spec_runs.specs.NodeRuns.{admin_begins, admin_starts, admin_stops, admin_waits, node_moved, node_start, usual, usually_moved, CellInput, NodeCell}

-- a cell of one server with one administrator
abbrev one : Script
one = record (script 1) { admins = 1 }

abbrev told : NodeCell → List CellInput → List Line
told c [] = []
told c (x ∷ xs) = (node_moved c x).entry.lines ++ told (node_moved c x).cell xs

-- the numbers of the volumes that its entries bring
abbrev number_of : ℕ × Volume → ℕ
number_of p = p.0

abbrev brought : NodeCell → List CellInput → List ℕ
brought c [] = []
brought c (x ∷ xs) = map number_of (node_moved c x).entry.volumes ++ brought (node_moved c x).cell xs

abbrev is_shown : Line → Bool
is_shown (lines.Given place) = false
is_shown l = true

-- so many messages from this place on are given, one after the other
abbrev given_from : ℕ → ℕ → List CellInput
given_from place zero = []
given_from place (suc n) = usual (gives place steady) ∷ given_from (place + 1) n

abbrev code : ℕ → Code
code n = record { 0 = pos n }

abbrev fresh : ℕ
fresh = 536870913

-- ---- a new volume, which the entry brings that tells it to be made

abbrev create : AdminAct
create = acts.Create (codes "more") 1 10

abbrev creating : List CellInput
creating = admin_begins 1 create ∷ given_from 1 18

run_create : filter is_shown (told (node_start one) creating) ≡
    lines.BeginAdmin (Admin 1) create ∷ lines.Locked fresh 1 16 ∷ lines.Located fresh (Server 1) ∷ lines.Made (Server 1) fresh 1
    ∷ lines.Version (record { fid = record { volume = fresh; vnode = 1; unique = 1 }; index = 1; data_version = 1; body = bodies.Dir [] })
    ∷ lines.Enable fresh (Server 1) ∷ lines.Unlocked fresh ∷ lines.Answer (Admin 1) (code 0) ∷ []
unfolding usually_moved admin_row admin_begin_row admin_timeout_row loc_row loc_record_bytes entry_form volume_name_ok is_name_of laid_at led node_row file_row file_start spelled record_bytes head_form volume_form restored_from fed dump_at dump_field dump_header_field volume_header_field live_field image_field next_at changed_since word opaque pad word_at opaque_at counted_at kind_fits image value_of is_sound directories.directory_bytes directories.name_bytes directories.directory_of directories.whole_at directories.count_at directories.names_at directories.name_at directories.spelled_at directories.bytes_below acls.acl_text acls.acl_entry_text acls.acl_at acls.count_at acls.line_number_at acls.acl_entry_at acls.name_at acls.named_at rights_of name_ok digits
run_create = refl

run_brings : brought (node_start one) creating ≡ fresh ∷ []
unfolding usually_moved admin_row admin_begin_row admin_timeout_row loc_row loc_record_bytes entry_form volume_name_ok is_name_of laid_at led node_row file_row file_start spelled record_bytes head_form volume_form restored_from fed dump_at dump_field dump_header_field volume_header_field live_field image_field next_at changed_since word opaque pad word_at opaque_at counted_at kind_fits image value_of is_sound directories.directory_bytes directories.name_bytes directories.directory_of directories.whole_at directories.count_at directories.names_at directories.name_at directories.spelled_at directories.bytes_below acls.acl_text acls.acl_entry_text acls.acl_at acls.count_at acls.line_number_at acls.acl_entry_at acls.name_at acls.named_at rights_of name_ok digits
run_brings = refl

-- ---- an administrator that stops: it is given nothing until it begins again, with the next epoch and no act

abbrev recover : AdminAct
recover = acts.Recover (codes "proj")

run_fallen : told (node_start one) (admin_waits 1 ∷ admin_begins 1 recover ∷ admin_begins 1 recover ∷ admin_stops 1 ∷ usual (gives 1 steady) ∷ usual (gives 2 steady) ∷ admin_begins 1 recover ∷ admin_waits 1
    ∷ admin_stops 1 ∷ admin_starts 1 ∷ admin_starts 1 ∷ usual (gives 2 steady) ∷ admin_begins 1 recover ∷ admin_waits 1 ∷ admin_begins 2 recover ∷ []) ≡
    lines.Void ∷ lines.BeginAdmin (Admin 1) recover ∷ lines.Void ∷ lines.Crash (Admin 1) ∷ lines.Given 1 ∷ lines.Void ∷ lines.Void ∷ lines.Void
    ∷ lines.Void ∷ lines.Restart (Admin 1) 2 ∷ lines.Void ∷ lines.Given 2 ∷ lines.BeginAdmin (Admin 1) recover ∷ lines.Timeout (Admin 1) Loc 2 1 1 ∷ lines.Void ∷ []
unfolding usually_moved admin_row admin_begin_row admin_timeout_row loc_row loc_record_bytes entry_form volume_name_ok is_name_of laid_at led node_row file_row file_start spelled record_bytes head_form volume_form restored_from fed dump_at dump_field dump_header_field volume_header_field live_field image_field next_at changed_since word opaque pad word_at opaque_at counted_at kind_fits image value_of is_sound directories.directory_bytes directories.name_bytes directories.directory_of directories.whole_at directories.count_at directories.names_at directories.name_at directories.spelled_at directories.bytes_below acls.acl_text acls.acl_entry_text acls.acl_at acls.count_at acls.line_number_at acls.acl_entry_at acls.name_at acls.named_at rights_of name_ok digits
run_fallen = refl
