-- The tables of the cell are sound, since those of its three interfaces are and no two of these share an opcode.
use Rattle.std.proofs.Common.{◌≡◌, ℕ, true, false, List, ◌++◌, Some, refl, sym, ap, ◌∙◌}
use Rattle.std.specs.Prelude.{map}
use Rattle.std.proofs.lemmas.List.{append-nil}
use Rattle.afs_num.specs.declared.messages.Call.{Call}
use Rattle.afs_num.specs.declared.messages.Call.TheVariants as calls
use Rattle.afs_num.specs.declared.messages.Reply.{Reply}
use Rattle.afs_num.specs.declared.messages.Reply.TheVariants as replies
use Rattle.afs_num.specs.declared.calls.FsCall.{FsCall}
use Rattle.afs_num.specs.declared.calls.FsReply.{FsReply}
use Rattle.afs_num.specs.declared.volume_calls.VolCall.{VolCall}
use Rattle.afs_num.specs.declared.volume_calls.VolReply.{VolReply}
use Rattle.afs_num.specs.declared.location_calls.LocCall.{LocCall}
use Rattle.afs_num.specs.declared.location_calls.LocReply.{LocReply}
use Rattle.spec_shape.specs.Tables.{is_among}
use Rattle.spec_shape.specs.Rows.{message_of, opcodes, IsSoundTable}
use Rattle.spec_shape.proofs.MadeLaws.{RowMakes, all_make}
use Rattle.spec_shape.proofs.InterfaceLaws.{row_makes, made_in_front, made_in_last, made_behind, opcode_is_among, apart}
use Rattle.spec_model.specs.FsRows.{fs_calls, fs_replies}
use Rattle.spec_model.specs.VolRows.{vol_calls, vol_replies}
use Rattle.spec_model.specs.LocRows.{loc_calls, loc_replies}
use Rattle.spec_model.specs.CellRows.{cell_calls, cell_replies}
use Rattle.spec_model.specs.SpellingLaws.{CallsHaveOneInterface, RepliesHaveOneInterface, RepliesAreOfTheirCalls}
use Rattle.spec_model.proofs.FsMade as file
use Rattle.spec_model.proofs.VolMade as volume
use Rattle.spec_model.proofs.LocMade as location

-- ---- calls

call_makes : (call : Call) → RowMakes cell_calls call
call_makes (calls.File c) = row_makes fs_calls cell_calls calls.File (λ x. refl) c (file.call_makes c)
call_makes (calls.Volume c) = row_makes vol_calls cell_calls calls.Volume (λ x. refl) c (volume.call_makes c)
call_makes (calls.Location c) = row_makes loc_calls cell_calls calls.Location (λ x. refl) c (location.call_makes c)

-- no file call has the opcode of a volume call, and none of either that of a location call
volume_no_file : (c : VolCall) → is_among (opcodes fs_calls) (vol_calls.row c).opcode ≡ false
volume_no_file c = apart (opcodes vol_calls) (opcodes fs_calls) (vol_calls.row c).opcode refl (opcode_is_among vol_calls volume.calls_sound.again c)

location_no_file : (c : LocCall) → is_among (opcodes fs_calls) (loc_calls.row c).opcode ≡ false
location_no_file c = apart (opcodes loc_calls) (opcodes fs_calls) (loc_calls.row c).opcode refl (opcode_is_among loc_calls location.calls_sound.again c)

location_no_volume : (c : LocCall) → is_among (opcodes vol_calls) (loc_calls.row c).opcode ≡ false
location_no_volume c = apart (opcodes loc_calls) (opcodes vol_calls) (loc_calls.row c).opcode refl (opcode_is_among loc_calls location.calls_sound.again c)

abbrev behind_files : List Call
behind_files = map calls.Volume vol_calls.each ++ map calls.Location loc_calls.each

call_again : (call : Call) → message_of cell_calls (cell_calls.row call).opcode (cell_calls.row call).fields ≡ Some call
call_again (calls.File c) =
    let r = fs_calls.row c in
    made_in_front fs_calls cell_calls calls.File (λ x. refl) r.opcode r.fields fs_calls.each behind_files c (file.calls_sound.again c)
call_again (calls.Volume c) =
    let r = vol_calls.row c in
    made_behind fs_calls cell_calls calls.File (λ x. refl) r.opcode r.fields fs_calls.each behind_files (volume_no_file c)
    ∙ made_in_front vol_calls cell_calls calls.Volume (λ x. refl) r.opcode r.fields vol_calls.each (map calls.Location loc_calls.each) c (volume.calls_sound.again c)
call_again (calls.Location c) =
    let r = loc_calls.row c in
    made_behind fs_calls cell_calls calls.File (λ x. refl) r.opcode r.fields fs_calls.each behind_files (location_no_file c)
    ∙ (made_behind vol_calls cell_calls calls.Volume (λ x. refl) r.opcode r.fields vol_calls.each (map calls.Location loc_calls.each) (location_no_volume c)
    ∙ made_in_last loc_calls cell_calls calls.Location (λ x. refl) r.opcode r.fields loc_calls.each c (location.calls_sound.again c))

pub calls_sound : IsSoundTable cell_calls
calls_sound = record { makes = all_make cell_calls call_makes; again = call_again }

-- ---- replies

reply_makes : (reply : Reply) → RowMakes cell_replies reply
reply_makes (replies.File r) = row_makes fs_replies cell_replies replies.File (λ x. refl) r (file.reply_makes r)
reply_makes (replies.Volume r) = row_makes vol_replies cell_replies replies.Volume (λ x. refl) r (volume.reply_makes r)
reply_makes (replies.Location r) = row_makes loc_replies cell_replies replies.Location (λ x. refl) r (location.reply_makes r)

volume_no_file_reply : (c : VolReply) → is_among (opcodes fs_replies) (vol_replies.row c).opcode ≡ false
volume_no_file_reply c = apart (opcodes vol_replies) (opcodes fs_replies) (vol_replies.row c).opcode refl (opcode_is_among vol_replies volume.replies_sound.again c)

location_no_file_reply : (c : LocReply) → is_among (opcodes fs_replies) (loc_replies.row c).opcode ≡ false
location_no_file_reply c = apart (opcodes loc_replies) (opcodes fs_replies) (loc_replies.row c).opcode refl (opcode_is_among loc_replies location.replies_sound.again c)

location_no_volume_reply : (c : LocReply) → is_among (opcodes vol_replies) (loc_replies.row c).opcode ≡ false
location_no_volume_reply c = apart (opcodes loc_replies) (opcodes vol_replies) (loc_replies.row c).opcode refl (opcode_is_among loc_replies location.replies_sound.again c)

abbrev behind_file_replies : List Reply
behind_file_replies = map replies.Volume vol_replies.each ++ map replies.Location loc_replies.each

reply_again : (reply : Reply) → message_of cell_replies (cell_replies.row reply).opcode (cell_replies.row reply).fields ≡ Some reply
reply_again (replies.File c) =
    let r = fs_replies.row c in
    made_in_front fs_replies cell_replies replies.File (λ x. refl) r.opcode r.fields fs_replies.each behind_file_replies c (file.replies_sound.again c)
reply_again (replies.Volume c) =
    let r = vol_replies.row c in
    made_behind fs_replies cell_replies replies.File (λ x. refl) r.opcode r.fields fs_replies.each behind_file_replies (volume_no_file_reply c)
    ∙ made_in_front vol_replies cell_replies replies.Volume (λ x. refl) r.opcode r.fields vol_replies.each (map replies.Location loc_replies.each) c (volume.replies_sound.again c)
reply_again (replies.Location c) =
    let r = loc_replies.row c in
    made_behind fs_replies cell_replies replies.File (λ x. refl) r.opcode r.fields fs_replies.each behind_file_replies (location_no_file_reply c)
    ∙ (made_behind vol_replies cell_replies replies.Volume (λ x. refl) r.opcode r.fields vol_replies.each (map replies.Location loc_replies.each) (location_no_volume_reply c)
    ∙ made_in_last loc_replies cell_replies replies.Location (λ x. refl) r.opcode r.fields loc_replies.each c (location.replies_sound.again c))

pub replies_sound : IsSoundTable cell_replies
replies_sound = record { makes = all_make cell_replies reply_makes; again = reply_again }

-- ---- an opcode tells its interface

true_no_false : true ≡ false → ⊥
true_no_false e = cc

no_both : {P : Type 0} (ns : List ℕ) (a b : ℕ) → is_among ns a ≡ true → is_among ns b ≡ false → a ≡ b → P
no_both {P} ns a b there gone same = absurd (true_no_false (sym there ∙ (ap (is_among ns) same ∙ gone)))

in_files : (c : FsCall) → is_among (opcodes fs_calls) (fs_calls.row c).opcode ≡ true
in_files c = opcode_is_among fs_calls file.calls_sound.again c

in_volumes : (c : VolCall) → is_among (opcodes vol_calls) (vol_calls.row c).opcode ≡ true
in_volumes c = opcode_is_among vol_calls volume.calls_sound.again c

pub calls_have_one_interface : CallsHaveOneInterface
calls_have_one_interface (calls.File a) (calls.File b) e = refl
calls_have_one_interface (calls.Volume a) (calls.Volume b) e = refl
calls_have_one_interface (calls.Location a) (calls.Location b) e = refl
calls_have_one_interface (calls.File a) (calls.Volume b) e = no_both (opcodes fs_calls) _ _ (in_files a) (volume_no_file b) e
calls_have_one_interface (calls.File a) (calls.Location b) e = no_both (opcodes fs_calls) _ _ (in_files a) (location_no_file b) e
calls_have_one_interface (calls.Volume a) (calls.Location b) e = no_both (opcodes vol_calls) _ _ (in_volumes a) (location_no_volume b) e
calls_have_one_interface (calls.Volume a) (calls.File b) e = no_both (opcodes fs_calls) _ _ (in_files b) (volume_no_file a) (sym e)
calls_have_one_interface (calls.Location a) (calls.File b) e = no_both (opcodes fs_calls) _ _ (in_files b) (location_no_file a) (sym e)
calls_have_one_interface (calls.Location a) (calls.Volume b) e = no_both (opcodes vol_calls) _ _ (in_volumes b) (location_no_volume a) (sym e)

-- the opcodes of the replies are those of the calls
in_file_replies : (r : FsReply) → is_among (opcodes fs_calls) (fs_replies.row r).opcode ≡ true
in_file_replies r = opcode_is_among fs_replies file.replies_sound.again r

in_volume_replies : (r : VolReply) → is_among (opcodes vol_calls) (vol_replies.row r).opcode ≡ true
in_volume_replies r = opcode_is_among vol_replies volume.replies_sound.again r

pub replies_are_of_their_calls : RepliesAreOfTheirCalls
replies_are_of_their_calls (calls.File a) (replies.File b) e = refl
replies_are_of_their_calls (calls.Volume a) (replies.Volume b) e = refl
replies_are_of_their_calls (calls.Location a) (replies.Location b) e = refl
replies_are_of_their_calls (calls.File a) (replies.Volume b) e = no_both (opcodes fs_calls) _ _ (in_files a) (volume_no_file_reply b) e
replies_are_of_their_calls (calls.File a) (replies.Location b) e = no_both (opcodes fs_calls) _ _ (in_files a) (location_no_file_reply b) e
replies_are_of_their_calls (calls.Volume a) (replies.Location b) e = no_both (opcodes vol_calls) _ _ (in_volumes a) (location_no_volume_reply b) e
replies_are_of_their_calls (calls.Volume a) (replies.File b) e = no_both (opcodes fs_calls) _ _ (in_file_replies b) (volume_no_file a) (sym e)
replies_are_of_their_calls (calls.Location a) (replies.File b) e = no_both (opcodes fs_calls) _ _ (in_file_replies b) (location_no_file a) (sym e)
replies_are_of_their_calls (calls.Location a) (replies.Volume b) e = no_both (opcodes vol_calls) _ _ (in_volume_replies b) (location_no_volume a) (sym e)

pub replies_have_one_interface : RepliesHaveOneInterface
replies_have_one_interface (replies.File a) (replies.File b) e = refl
replies_have_one_interface (replies.Volume a) (replies.Volume b) e = refl
replies_have_one_interface (replies.Location a) (replies.Location b) e = refl
replies_have_one_interface (replies.File a) (replies.Volume b) e = no_both (opcodes fs_replies) _ _ (in_file_replies a) (volume_no_file_reply b) e
replies_have_one_interface (replies.File a) (replies.Location b) e = no_both (opcodes fs_replies) _ _ (in_file_replies a) (location_no_file_reply b) e
replies_have_one_interface (replies.Volume a) (replies.Location b) e = no_both (opcodes vol_replies) _ _ (in_volume_replies a) (location_no_volume_reply b) e
replies_have_one_interface (replies.Volume a) (replies.File b) e = no_both (opcodes fs_replies) _ _ (in_file_replies b) (volume_no_file_reply a) (sym e)
replies_have_one_interface (replies.Location a) (replies.File b) e = no_both (opcodes fs_replies) _ _ (in_file_replies b) (location_no_file_reply a) (sym e)
replies_have_one_interface (replies.Location a) (replies.Volume b) e = no_both (opcodes vol_replies) _ _ (in_volume_replies b) (location_no_volume_reply a) (sym e)
