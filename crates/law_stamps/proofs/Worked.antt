-- A worked run: an administrator makes a volume, and the database's lines tell of its entry.
use Rattle.std.proofs.Common.{◌≡◌, ℕ, ◌+◌, zero, suc, List, [], ◌∷◌, Some, None, refl}
use Rattle.std.specs.Prelude.{codes, take}
use Rattle.afs_num.specs.declared.types.Node.TheVariants.{Server}
use Rattle.spec_rows.proofs.Worked.{script}
use Rattle.spec_rows.specs.Runs.{gives, steady, Entry}
use Rattle.spec_adminrows.specs.AdminRow.{admin_begin_row, admin_row, admin_timeout_row}
use Rattle.spec_runs.specs.NodeRuns.{admin_begins, node_moved, node_start, usual, usually_moved, CellInput, NodeCell}
use Rattle.spec_history.specs.declared.scripts.AdminAct.{AdminAct}
use Rattle.spec_history.specs.declared.scripts.AdminAct.TheVariants as acts
use Rattle.spec_history.specs.declared.scripts.Script.{Script}
use Rattle.std.specs.Fmt.{digits}
use Rattle.afs_num.specs.Names.{is_name_of, name_ok, volume_name_ok}
use Rattle.afs_xdr.specs.Words.{counted_at, opaque, opaque_at, pad, word, word_at}
use Rattle.spec_ideal.specs.AccessLists as acls
use Rattle.spec_ideal.specs.AccessLists.{rights_of}
use Rattle.spec_ideal.specs.Directories as directories
use Rattle.spec_ideal.specs.Images.{value_of}
use Rattle.spec_ideal.specs.SetUp.{laid_at, led}
use Rattle.spec_ideal.specs.VnodeImage.{image, kind_fits}
use Rattle.spec_ideal.specs.VnodeMaps.{changed_since}
use Rattle.spec_model.specs.Messages.{spelled}
use Rattle.spec_records.specs.LocRecords.{entry_form, loc_record_bytes}
use Rattle.spec_records.specs.Records.{head_form, record_bytes, volume_form}
use Rattle.spec_records.specs.Sound.{is_sound}
use Rattle.spec_dumps.specs.Restores.{fed, restored_from}
use Rattle.spec_dumps.specs.Streams.{dump_at, dump_field, dump_header_field, image_field, live_field, next_at, volume_header_field}
use Rattle.spec_rows.specs.LocSteps.{loc_row}
use Rattle.spec_volrows.specs.FileRow.{file_row, file_start}
use Rattle.spec_volrows.specs.VolSteps.{node_row}
use Rattle.law_stamps.specs.Told.{place_by_lines, lock_by_lines}

-- ---- a volume that an administrator makes

abbrev one : Script
one = record (script 1) { admins = 1 }

abbrev entries : NodeCell → List CellInput → List Entry
entries c [] = []
entries c (x ∷ xs) = (node_moved c x).entry ∷ entries (node_moved c x).cell xs

-- so many messages from this place on are given, one after the other
abbrev given_from : ℕ → ℕ → List CellInput
given_from place zero = []
given_from place (suc n) = usual (gives place steady) ∷ given_from (place + 1) n

abbrev create : AdminAct
create = acts.Create (codes "more") 1 10

abbrev made : List CellInput
made = admin_begins 1 create ∷ given_from 1 18

abbrev fresh : ℕ
fresh = 536870913

-- its entry is locked as it is made, and unlocked in the end
not_yet : lock_by_lines (take 9 (entries (node_start one) made)) fresh ≡ None
unfolding usually_moved admin_row admin_begin_row admin_timeout_row loc_row loc_record_bytes entry_form volume_name_ok is_name_of laid_at led node_row file_row file_start spelled record_bytes head_form volume_form restored_from fed dump_at dump_field dump_header_field volume_header_field live_field image_field next_at changed_since word opaque pad word_at opaque_at counted_at kind_fits image value_of is_sound directories.directory_bytes directories.name_bytes directories.directory_of directories.whole_at directories.count_at directories.names_at directories.name_at directories.spelled_at directories.bytes_below acls.acl_text acls.acl_entry_text acls.acl_at acls.count_at acls.line_number_at acls.acl_entry_at acls.name_at acls.named_at rights_of name_ok digits
not_yet = refl

locked_then : lock_by_lines (take 10 (entries (node_start one) made)) fresh ≡ Some 1
unfolding usually_moved admin_row admin_begin_row admin_timeout_row loc_row loc_record_bytes entry_form volume_name_ok is_name_of laid_at led node_row file_row file_start spelled record_bytes head_form volume_form restored_from fed dump_at dump_field dump_header_field volume_header_field live_field image_field next_at changed_since word opaque pad word_at opaque_at counted_at kind_fits image value_of is_sound directories.directory_bytes directories.name_bytes directories.directory_of directories.whole_at directories.count_at directories.names_at directories.name_at directories.spelled_at directories.bytes_below acls.acl_text acls.acl_entry_text acls.acl_at acls.count_at acls.line_number_at acls.acl_entry_at acls.name_at acls.named_at rights_of name_ok digits
locked_then = refl

unlocked_at_last : lock_by_lines (entries (node_start one) made) fresh ≡ None
unfolding usually_moved admin_row admin_begin_row admin_timeout_row loc_row loc_record_bytes entry_form volume_name_ok is_name_of laid_at led node_row file_row file_start spelled record_bytes head_form volume_form restored_from fed dump_at dump_field dump_header_field volume_header_field live_field image_field next_at changed_since word opaque pad word_at opaque_at counted_at kind_fits image value_of is_sound directories.directory_bytes directories.name_bytes directories.directory_of directories.whole_at directories.count_at directories.names_at directories.name_at directories.spelled_at directories.bytes_below acls.acl_text acls.acl_entry_text acls.acl_at acls.count_at acls.line_number_at acls.acl_entry_at acls.name_at acls.named_at rights_of name_ok digits
unlocked_at_last = refl

-- and names the server
located_there : place_by_lines one (entries (node_start one) made) fresh ≡ Some (Server 1)
unfolding usually_moved admin_row admin_begin_row admin_timeout_row loc_row loc_record_bytes entry_form volume_name_ok is_name_of laid_at led node_row file_row file_start spelled record_bytes head_form volume_form restored_from fed dump_at dump_field dump_header_field volume_header_field live_field image_field next_at changed_since word opaque pad word_at opaque_at counted_at kind_fits image value_of is_sound directories.directory_bytes directories.name_bytes directories.directory_of directories.whole_at directories.count_at directories.names_at directories.name_at directories.spelled_at directories.bytes_below acls.acl_text acls.acl_entry_text acls.acl_at acls.count_at acls.line_number_at acls.acl_entry_at acls.name_at acls.named_at rights_of name_ok digits
located_there = refl
