-- The calls of all three interfaces as one table, and their replies. Which interface a message is of is told by the row
-- of its opcode.
use Rattle.std.specs.Prelude.{ℕ, List, [], ◌∷◌, ◌++◌, map}
use Rattle.afs_num.specs.declared.messages.Call.{Call}
use Rattle.afs_num.specs.declared.messages.Call.TheVariants as calls
use Rattle.afs_num.specs.declared.messages.Reply.{Reply}
use Rattle.afs_num.specs.declared.messages.Reply.TheVariants as replies
use Rattle.spec_shape.specs.declared.kinds.Kind.{Kind}
use Rattle.spec_shape.specs.declared.kinds.Field.{Field}
use Rattle.spec_shape.specs.Rows.{MessageRow, MessageTable, table_rows, opcodes, in_interface}
use Rattle.spec_model.specs.FsRows.{fs_calls, fs_replies}
use Rattle.spec_model.specs.VolRows.{vol_calls, vol_replies}
use Rattle.spec_model.specs.LocRows.{loc_calls, loc_replies}

-- ---- calls

abbrev pub call_row : Call → MessageRow Call
call_row (calls.File call) = in_interface calls.File (fs_calls.row call)
call_row (calls.Volume call) = in_interface calls.Volume (vol_calls.row call)
call_row (calls.Location call) = in_interface calls.Location (loc_calls.row call)

abbrev pub cell_calls : MessageTable Call
cell_calls = record { row = call_row; each = map calls.File fs_calls.each ++ (map calls.Volume vol_calls.each ++ map calls.Location loc_calls.each) }

abbrev pub call_rows : List (ℕ × List Kind)
call_rows = table_rows cell_calls

abbrev pub call_number : Call → ℕ
call_number call = (call_row call).opcode

abbrev pub call_fields : Call → List Field
call_fields call = (call_row call).fields

-- ---- replies, behind a code of 0

abbrev pub reply_row : Reply → MessageRow Reply
reply_row (replies.File reply) = in_interface replies.File (fs_replies.row reply)
reply_row (replies.Volume reply) = in_interface replies.Volume (vol_replies.row reply)
reply_row (replies.Location reply) = in_interface replies.Location (loc_replies.row reply)

abbrev pub cell_replies : MessageTable Reply
cell_replies = record { row = reply_row; each = map replies.File fs_replies.each ++ (map replies.Volume vol_replies.each ++ map replies.Location loc_replies.each) }

abbrev pub reply_rows : List (ℕ × List Kind)
reply_rows = table_rows cell_replies

abbrev pub reply_number : Reply → ℕ
reply_number reply = (reply_row reply).opcode

abbrev pub reply_fields : Reply → List Field
reply_fields reply = (reply_row reply).fields

-- ---- interfaces

pub data Interface : Type 0 where
  of_files : Interface
  of_volumes : Interface
  of_locations : Interface

abbrev pub interface_of : Call → Interface
interface_of (calls.File call) = of_files
interface_of (calls.Volume call) = of_volumes
interface_of (calls.Location call) = of_locations

abbrev pub interface_of_reply : Reply → Interface
interface_of_reply (replies.File reply) = of_files
interface_of_reply (replies.Volume reply) = of_volumes
interface_of_reply (replies.Location reply) = of_locations

-- a client: CallBack, InitCallBackState and Probe
abbrev pub client_calls : List ℕ
client_calls = 204 ∷ 205 ∷ 206 ∷ []

-- all that any node may serve
abbrev pub all_calls : List ℕ
all_calls = opcodes cell_calls
