-- Worked runs: the calls of an act that makes a volume, each of which runs once, whatever is given twice and whatever stops. And calls that are
-- out of order are refused.
use Rattle.std.proofs.Common.{◌≡◌, ◌<◌, inl, inr, ℕ, ◌+◌, zero, suc, Bool, true, false, List, [], ◌∷◌, ◌++◌, Some, refl, ap, arith}
use Rattle.std.specs.Prelude.{codes, map}
use Rattle.std.specs.Option.{option_map}
use Rattle.spec_rows.specs.States.{Seat}
use Rattle.afs_num.specs.declared.types.Half.TheVariants as halves
use Rattle.afs_num.specs.declared.messages.Carried.TheVariants as carried
use Rattle.afs_num.specs.declared.messages.Message.{Message}
use Rattle.afs_num.specs.declared.messages.Reply.TheVariants as tell
use Rattle.afs_num.specs.declared.volume_calls.VolReply.TheVariants as replies
use Rattle.afs_num.specs.declared.types.Head.{Head}
use Rattle.afs_num.specs.declared.types.Key.{Key}
use Rattle.afs_num.specs.declared.types.Node.{Node}
use Rattle.afs_num.specs.declared.types.Node.TheVariants.{Admin, Loc, Server}
use Rattle.spec_rows.proofs.Worked.{script}
use Rattle.spec_rows.specs.Hosts.{comes_up}
use Rattle.spec_rows.specs.Runs.{gives, sets_stop, starts_again, steady, stops}
use Rattle.spec_adminrows.specs.AdminRow.{admin_begin_row, admin_row, admin_timeout_row}
use Rattle.spec_runs.specs.NodeRuns.{admin_begins, node_start, usual, usually_moved, CellInput, NodeCell}
use Rattle.spec_history.specs.declared.scripts.AdminAct.TheVariants as acts
use Rattle.spec_history.specs.declared.scripts.Script.{Script}
use Rattle.std.specs.Fmt.{digits}
use Rattle.afs_num.specs.Names.{is_name_of, name_ok, volume_name_ok}
use Rattle.afs_xdr.specs.Words.{counted_at, opaque, opaque_at, pad, word, word_at}
use Rattle.spec_ideal.specs.AccessLists as acls
use Rattle.spec_ideal.specs.AccessLists.{rights_of}
use Rattle.spec_ideal.specs.Directories as directories
use Rattle.spec_ideal.specs.Images.{value_of}
use Rattle.spec_ideal.specs.SetUp.{laid_at, led}
use Rattle.spec_ideal.specs.VnodeImage.{image, kind_fits}
use Rattle.spec_ideal.specs.VnodeMaps.{changed_since}
use Rattle.spec_model.specs.Messages.{spelled}
use Rattle.spec_records.specs.LocRecords.{entry_form, loc_record_bytes}
use Rattle.spec_records.specs.Records.{head_form, record_bytes, volume_form}
use Rattle.spec_records.specs.Sound.{is_sound}
use Rattle.spec_dumps.specs.Restores.{fed, restored_from}
use Rattle.spec_dumps.specs.Streams.{dump_at, dump_field, dump_header_field, image_field, live_field, next_at, volume_header_field}
use Rattle.spec_rows.specs.LocSteps.{loc_row, loc_start_row}
use Rattle.spec_volrows.specs.FileRow.{file_row, file_start}
use Rattle.spec_volrows.specs.VolSteps.{node_row, node_start_row}
use Rattle.law_places.specs.Accepting.{cell_behind}
use Rattle.law_keys.specs.Ran.{ran_in, RanCall}
use Rattle.law_keys.specs.Replied.{AnyOf, IsAnswered, WasRun}
use Rattle.law_keys.specs.Once.{kept_seat, AreInOrder, IsEarlier}

-- ---- a volume that an administrator makes

abbrev one : Script
one = record (script 1) { admins = 1 }

-- so many messages from this place on are given, one after the other
abbrev given_from : ℕ → ℕ → List CellInput
given_from place zero = []
given_from place (suc n) = usual (gives place steady) ∷ given_from (place + 1) n

abbrev create : CellInput
create = admin_begins 1 (acts.Create (codes "more") 1 10)

-- at which callee, in which boot, the call of which number, and whether it changed something
record Told : Type 0 where
  callee : Node
  boot : ℕ
  number : ℕ
  changed : Bool

abbrev told : RanCall → Told
told r = record { callee = r.callee; boot = r.boot; number = r.head.number; changed = r.changed }

abbrev at : Node → ℕ → ℕ → Bool → Told
at callee boot number changed = record { callee = callee; boot = boot; number = number; changed = changed }

abbrev ran : List CellInput → List Told
ran inputs = map told (ran_in (node_start one) inputs)

-- Nine calls run: a number is drawn, the volume is made and closed, and its transaction ends; its entry is made; under the entry's stamp, which
-- the server stores, a transaction begins, the volume is opened, and the transaction ends; the entry is unlocked.
all_run : ran (create ∷ given_from 1 18) ≡
    at Loc 1 1 true ∷ at (Server 1) 1 2 true ∷ at (Server 1) 1 3 true ∷ at (Server 1) 1 4 false ∷ at Loc 1 5 true
    ∷ at (Server 1) 1 6 true ∷ at (Server 1) 1 7 true ∷ at (Server 1) 1 8 false ∷ at Loc 1 9 true ∷ []
unfolding usually_moved admin_row admin_begin_row admin_timeout_row loc_row loc_record_bytes entry_form volume_name_ok is_name_of laid_at led node_row file_row file_start spelled record_bytes head_form volume_form restored_from fed dump_at dump_field dump_header_field volume_header_field live_field image_field next_at changed_since word opaque pad word_at opaque_at counted_at kind_fits image value_of is_sound directories.directory_bytes directories.name_bytes directories.directory_of directories.whole_at directories.count_at directories.names_at directories.name_at directories.spelled_at directories.bytes_below acls.acl_text acls.acl_entry_text acls.acl_at acls.count_at acls.line_number_at acls.acl_entry_at acls.name_at acls.named_at rights_of name_ok digits
all_run = refl

-- calls that are given again run no more: the kept reply is sent
once_each : ran (create ∷ usual (gives 1 steady) ∷ usual (gives 1 steady) ∷ usual (gives 2 steady) ∷ usual (gives 4 steady) ∷ usual (gives 4 steady) ∷ usual (gives 1 steady) ∷ []) ≡ at Loc 1 1 true ∷ at (Server 1) 1 2 true ∷ []
unfolding usually_moved admin_row admin_begin_row admin_timeout_row loc_row loc_record_bytes entry_form volume_name_ok is_name_of laid_at led node_row file_row file_start spelled record_bytes head_form volume_form restored_from fed dump_at dump_field dump_header_field volume_header_field live_field image_field next_at changed_since word opaque pad word_at opaque_at counted_at kind_fits image value_of is_sound directories.directory_bytes directories.name_bytes directories.directory_of directories.whole_at directories.count_at directories.names_at directories.name_at directories.spelled_at directories.bytes_below acls.acl_text acls.acl_entry_text acls.acl_at acls.count_at acls.line_number_at acls.acl_entry_at acls.name_at acls.named_at rights_of name_ok digits
once_each = refl

-- ---- its server is stopped at the last of the four calls that write the record of the new volume

-- The restart finds the record whole. So the call has run, in the boot before: given again to the next one, for which its caller sends it
-- anew, it finds its reply.
abbrev stopped : Bool → List CellInput
stopped after =
    create ∷ usual (gives 1 steady) ∷ usual (gives 2 steady) ∷ usual (sets_stop 1 3 1) ∷ usual (gives 3 steady) ∷ usual (starts_again 1 after comes_up)
    ∷ usual (gives 3 steady) ∷ usual (gives 5 steady) ∷ usual (gives 6 steady) ∷ []

found_whole : ran (stopped true) ≡ at Loc 1 1 true ∷ at (Server 1) 1 2 true ∷ []
unfolding usually_moved admin_row admin_begin_row admin_timeout_row loc_row loc_start_row loc_record_bytes entry_form volume_name_ok is_name_of laid_at led node_row node_start_row file_row file_start spelled record_bytes head_form volume_form restored_from fed dump_at dump_field dump_header_field volume_header_field live_field image_field next_at changed_since word opaque pad word_at opaque_at counted_at kind_fits image value_of is_sound directories.directory_bytes directories.name_bytes directories.directory_of directories.whole_at directories.count_at directories.names_at directories.name_at directories.spelled_at directories.bytes_below acls.acl_text acls.acl_entry_text acls.acl_at acls.count_at acls.line_number_at acls.acl_entry_at acls.name_at acls.named_at rights_of name_ok digits
found_whole = refl

-- it doesn't: the call runs in the next boot
found_none : ran (stopped false) ≡ at Loc 1 1 true ∷ at (Server 1) 2 2 true ∷ []
unfolding usually_moved admin_row admin_begin_row admin_timeout_row loc_row loc_start_row loc_record_bytes entry_form volume_name_ok is_name_of laid_at led node_row node_start_row file_row file_start spelled record_bytes head_form volume_form restored_from fed dump_at dump_field dump_header_field volume_header_field live_field image_field next_at changed_since word opaque pad word_at opaque_at counted_at kind_fits image value_of is_sound directories.directory_bytes directories.name_bytes directories.directory_of directories.whole_at directories.count_at directories.names_at directories.name_at directories.spelled_at directories.bytes_below acls.acl_text acls.acl_entry_text acls.acl_at acls.count_at acls.line_number_at acls.acl_entry_at acls.name_at acls.named_at rights_of name_ok digits
found_none = refl

-- ---- A call that changed nothing may run again in the next boot. Its server crashed behind the end of the transaction, before that is answered.

ends_twice : ran (create ∷ given_from 1 7 ++ usual (stops 1) ∷ usual (starts_again 1 false comes_up) ∷ usual (gives 7 steady) ∷ usual (gives 10 steady) ∷ usual (gives 11 steady) ∷ []) ≡
    at Loc 1 1 true ∷ at (Server 1) 1 2 true ∷ at (Server 1) 1 3 true ∷ at (Server 1) 1 4 false ∷ at (Server 1) 2 4 false ∷ []
unfolding usually_moved admin_row admin_begin_row admin_timeout_row loc_row loc_start_row loc_record_bytes entry_form volume_name_ok is_name_of laid_at led node_row node_start_row file_row file_start spelled record_bytes head_form volume_form restored_from fed dump_at dump_field dump_header_field volume_header_field live_field image_field next_at changed_since word opaque pad word_at opaque_at counted_at kind_fits image value_of is_sound directories.directory_bytes directories.name_bytes directories.directory_of directories.whole_at directories.count_at directories.names_at directories.name_at directories.spelled_at directories.bytes_below acls.acl_text acls.acl_entry_text acls.acl_at acls.count_at acls.line_number_at acls.acl_entry_at acls.name_at acls.named_at rights_of name_ok digits
ends_twice = refl

-- ---- what is spent: all calls of the act to the server up to the one that opened the volume, and to the database all

abbrev pair : Seat → ℕ × ℕ
pair seat = (seat.epoch, seat.number)

abbrev pair_of : ℕ → ℕ → ℕ × ℕ
pair_of epoch number = (epoch, number)

abbrev made : NodeCell
made = cell_behind (node_start one) (create ∷ given_from 1 18)

kept_at_the_server : option_map pair (kept_seat made (Server 1) (Admin 1)) ≡ Some (pair_of 1 7)
unfolding usually_moved admin_row admin_begin_row admin_timeout_row loc_row loc_record_bytes entry_form volume_name_ok is_name_of laid_at led node_row file_row file_start spelled record_bytes head_form volume_form restored_from fed dump_at dump_field dump_header_field volume_header_field live_field image_field next_at changed_since word opaque pad word_at opaque_at counted_at kind_fits image value_of is_sound directories.directory_bytes directories.name_bytes directories.directory_of directories.whole_at directories.count_at directories.names_at directories.name_at directories.spelled_at directories.bytes_below acls.acl_text acls.acl_entry_text acls.acl_at acls.count_at acls.line_number_at acls.acl_entry_at acls.name_at acls.named_at rights_of name_ok digits
kept_at_the_server = refl

kept_at_the_database : option_map pair (kept_seat made Loc (Admin 1)) ≡ Some (pair_of 1 9)
unfolding usually_moved admin_row admin_begin_row admin_timeout_row loc_row loc_record_bytes entry_form volume_name_ok is_name_of laid_at led node_row file_row file_start spelled record_bytes head_form volume_form restored_from fed dump_at dump_field dump_header_field volume_header_field live_field image_field next_at changed_since word opaque pad word_at opaque_at counted_at kind_fits image value_of is_sound directories.directory_bytes directories.name_bytes directories.directory_of directories.whole_at directories.count_at directories.names_at directories.name_at directories.spelled_at directories.bytes_below acls.acl_text acls.acl_entry_text acls.acl_at acls.count_at acls.line_number_at acls.acl_entry_at acls.name_at acls.named_at rights_of name_ok digits
kept_at_the_database = refl

-- ---- what is refused

abbrev called : ℕ → ℕ → Head
called number boot = record { half = halves.Call; from = Admin 1; to = Server 1; epoch = 1; number = number; boot = boot; stamp = 0; opcode = 109 }

abbrev run : ℕ → ℕ → Bool → RanCall
run number boot changed = record { callee = Server 1; boot = boot; head = called number boot; changed = changed }

not_itself : (a : Head) → IsEarlier a a → ⊥
not_itself a (inl e) = absurd (omega (arith, e))
not_itself a (inr e) = let l : a.number < a.number = e.1 in absurd (omega (arith, l))

-- a call runs twice in one boot
twice_in_a_boot : AreInOrder [] (run 2 1 false ∷ run 2 1 false ∷ []) → ⊥
twice_in_a_boot h = not_itself (called 2 1) (h.1.0.0.0.pair refl refl (inl refl))

not_itself_anew : IsEarlier (called 2 1) (called 2 2) → ⊥
not_itself_anew (inl e) = let l : 1 < 1 = e in absurd (omega (arith, l))
not_itself_anew (inr e) = let l : 2 < 2 = e.1 in absurd (omega (arith, l))

-- one that changed something runs again in a later boot
twice_over_boots : AreInOrder [] (run 2 1 true ∷ run 2 2 false ∷ []) → ⊥
twice_over_boots h = not_itself_anew (h.1.0.0.0.pair refl refl (inr refl))

three_not_first : IsEarlier (called 3 1) (called 2 1) → ⊥
three_not_first (inl e) = let l : 1 < 1 = e in absurd (omega (arith, l))
three_not_first (inr e) = let l : 3 < 2 = e.1 in absurd (omega (arith, l))

-- an older call runs behind a later one
behind_a_later : AreInOrder [] (run 3 1 false ∷ run 2 1 false ∷ []) → ⊥
behind_a_later h = three_not_first (h.1.0.0.0.pair refl refl (inl refl))

-- a call that is for another boot
for_another_boot : AreInOrder [] (record { callee = Server 1; boot = 2; head = called 2 1; changed = false } ∷ []) → ⊥
for_another_boot h = let same : 1 ≡ 2 = h.0.1.boot in absurd (omega (arith, same))

-- ---- and replies to calls that never ran

abbrev reply : ℕ → ℕ → Message
reply number boot = record {
  head = record { half = halves.Reply; from = Server 1; to = Admin 1; epoch = 1; number = number; boot = boot; stamp = 0; opcode = 109 };
  carried = carried.Reply (tell.Volume replies.SetFlags);
}

-- it is to the call that ran
answered : WasRun (run 3 1 true ∷ []) (reply 3 1)
answered told = inl (record { callee = refl; boot = refl; key = refl; opcode = refl; changed = λ did. refl })

-- nothing ran
of_no_call : WasRun [] (reply 3 1) → ⊥
of_no_call h = h refl

abbrev IsItsAnswer : RanCall → Type 0
IsItsAnswer r = AnyOf (λ (x : RanCall). IsAnswered x (reply 3 1)) (r ∷ [])

not_second : IsItsAnswer (run 2 1 true) → ⊥
not_second (inl r) = let same : 2 ≡ 3 = ap (λ (k : Key). k.number) r.key in absurd (omega (arith, same))
not_second (inr none) = none

-- another call ran
of_another_call : WasRun (run 2 1 true ∷ []) (reply 3 1) → ⊥
of_another_call h = not_second (h refl)

not_later : IsItsAnswer (run 3 2 true) → ⊥
not_later (inl r) = let same : 2 ≡ 1 = r.boot in absurd (omega (arith, same))
not_later (inr none) = none

-- it ran in another boot
of_another_boot : WasRun (run 3 2 true ∷ []) (reply 3 1) → ⊥
of_another_boot h = not_later (h refl)

not_changing : IsItsAnswer (run 3 1 false) → ⊥
not_changing (inl r) = let did : false ≡ true = r.changed refl in absurd cc
not_changing (inr none) = none

-- it changed nothing
of_no_change : WasRun (run 3 1 false ∷ []) (reply 3 1) → ⊥
of_no_change h = not_changing (h refl)
