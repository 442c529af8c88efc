-- A worked run: an administrator is about to fence a volume that it removes. Meanwhile another puts the volume in order.
use Rattle.std.proofs.Common.{◌≡◌, ℕ, ◌+◌, zero, suc, List, [], ◌∷◌, ◌++◌, refl}
use Rattle.std.specs.Prelude.{codes}
use Rattle.afs_num.specs.declared.types.Node.TheVariants.{Server}
use Rattle.spec_rows.proofs.Worked.{home, script}
use Rattle.spec_rows.specs.Hosts.{steady}
use Rattle.spec_rows.specs.Runs.{gives}
use Rattle.spec_adminrows.specs.AdminRow.{admin_begin_row, admin_row, admin_timeout_row}
use Rattle.spec_runs.specs.NodeRuns.{admin_begins, node_moved, node_start, usual, usually_moved, CellInput, NodeCell}
use Rattle.spec_history.specs.declared.lines.Line.{Line}
use Rattle.spec_history.specs.declared.lines.Line.TheVariants as lines
use Rattle.spec_history.specs.declared.scripts.AdminAct.TheVariants as acts
use Rattle.spec_history.specs.declared.scripts.Script.{Script}
use Rattle.std.specs.Fmt.{digits}
use Rattle.afs_num.specs.Names.{is_name_of, name_ok, volume_name_ok}
use Rattle.afs_xdr.specs.Words.{counted_at, opaque, opaque_at, pad, word, word_at}
use Rattle.spec_ideal.specs.AccessLists as acls
use Rattle.spec_ideal.specs.AccessLists.{rights_of}
use Rattle.spec_ideal.specs.Directories as directories
use Rattle.spec_ideal.specs.Images.{value_of}
use Rattle.spec_ideal.specs.SetUp.{laid_at, led}
use Rattle.spec_ideal.specs.VnodeImage.{image, kind_fits}
use Rattle.spec_ideal.specs.VnodeMaps.{changed_since}
use Rattle.spec_model.specs.Messages.{spelled}
use Rattle.spec_records.specs.LocRecords.{entry_form, loc_record_bytes}
use Rattle.spec_records.specs.Records.{head_form, record_bytes, volume_form}
use Rattle.spec_records.specs.Sound.{is_sound}
use Rattle.spec_dumps.specs.Restores.{fed, restored_from}
use Rattle.spec_dumps.specs.Streams.{dump_at, dump_field, dump_header_field, image_field, live_field, next_at, volume_header_field}
use Rattle.spec_rows.specs.LocSteps.{loc_row}
use Rattle.spec_volrows.specs.FileRow.{file_row, file_start}
use Rattle.spec_volrows.specs.VolSteps.{node_row}
use Rattle.law_places.specs.Accepting.{cell_behind}
use Rattle.law_stamps.specs.Stamps.{stored_stamp}

abbrev two : Script
two = record (script 1) { admins = 2 }

-- so many messages from this place on are given, one after the other
abbrev given_from : ℕ → ℕ → List CellInput
given_from place zero = []
given_from place (suc n) = usual (gives place steady) ∷ given_from (place + 1) n

-- the entry is found and locked, the server lists its volumes, and begins a transaction; the fence is sent, at place 9
abbrev removing : List CellInput
removing = admin_begins 1 (acts.Remove (codes "proj")) ∷ given_from 1 8

-- the other takes the lock, and asks the server for its list
abbrev mending : List CellInput
mending = admin_begins 2 (acts.Recover (codes "proj")) ∷ given_from 10 6

abbrev told : List CellInput → List Line
told inputs = (node_moved (cell_behind (node_start two) inputs) (usual (gives 9 steady))).entry.lines

-- the first has stamp 1, and its fence is told where it comes in time
first_stored : stored_stamp (cell_behind (node_start two) removing) 1 home ≡ 1
unfolding usually_moved admin_row admin_begin_row admin_timeout_row loc_row loc_record_bytes entry_form volume_name_ok is_name_of laid_at led node_row file_row file_start spelled record_bytes head_form volume_form restored_from fed dump_at dump_field dump_header_field volume_header_field live_field image_field next_at changed_since word opaque pad word_at opaque_at counted_at kind_fits image value_of is_sound directories.directory_bytes directories.name_bytes directories.directory_of directories.whole_at directories.count_at directories.names_at directories.name_at directories.spelled_at directories.bytes_below acls.acl_text acls.acl_entry_text acls.acl_at acls.count_at acls.line_number_at acls.acl_entry_at acls.name_at acls.named_at rights_of name_ok digits
first_stored = refl

fenced : told removing ≡ lines.Given 9 ∷ lines.Fence home (Server 1) ∷ []
unfolding usually_moved admin_row admin_begin_row admin_timeout_row loc_row loc_record_bytes entry_form volume_name_ok is_name_of laid_at led node_row file_row file_start spelled record_bytes head_form volume_form restored_from fed dump_at dump_field dump_header_field volume_header_field live_field image_field next_at changed_since word opaque pad word_at opaque_at counted_at kind_fits image value_of is_sound directories.directory_bytes directories.name_bytes directories.directory_of directories.whole_at directories.count_at directories.names_at directories.name_at directories.spelled_at directories.bytes_below acls.acl_text acls.acl_entry_text acls.acl_at acls.count_at acls.line_number_at acls.acl_entry_at acls.name_at acls.named_at rights_of name_ok digits
fenced = refl

-- the other has stamp 2, and then the fence is in vain
second_stored : stored_stamp (cell_behind (node_start two) (removing ++ mending)) 1 home ≡ 2
unfolding usually_moved admin_row admin_begin_row admin_timeout_row loc_row loc_record_bytes entry_form volume_name_ok is_name_of laid_at led node_row file_row file_start spelled record_bytes head_form volume_form restored_from fed dump_at dump_field dump_header_field volume_header_field live_field image_field next_at changed_since word opaque pad word_at opaque_at counted_at kind_fits image value_of is_sound directories.directory_bytes directories.name_bytes directories.directory_of directories.whole_at directories.count_at directories.names_at directories.name_at directories.spelled_at directories.bytes_below acls.acl_text acls.acl_entry_text acls.acl_at acls.count_at acls.line_number_at acls.acl_entry_at acls.name_at acls.named_at rights_of name_ok digits
second_stored = refl

fenced_not : told (removing ++ mending) ≡ lines.Given 9 ∷ []
unfolding usually_moved admin_row admin_begin_row admin_timeout_row loc_row loc_record_bytes entry_form volume_name_ok is_name_of laid_at led node_row file_row file_start spelled record_bytes head_form volume_form restored_from fed dump_at dump_field dump_header_field volume_header_field live_field image_field next_at changed_since word opaque pad word_at opaque_at counted_at kind_fits image value_of is_sound directories.directory_bytes directories.name_bytes directories.directory_of directories.whole_at directories.count_at directories.names_at directories.name_at directories.spelled_at directories.bytes_below acls.acl_text acls.acl_entry_text acls.acl_at acls.count_at acls.line_number_at acls.acl_entry_at acls.name_at acls.named_at rights_of name_ok digits
fenced_not = refl
