-- The calls of the Volume Server Interface and their replies, row by row: the opcode, and the fields of their kinds in
-- order. Each call begins with the family of its volume.
use Rattle.std.specs.Prelude.{ℕ, List, [], ◌∷◌}
use Rattle.afs_num.specs.declared.volume_calls.VolCall.{VolCall}
use Rattle.afs_num.specs.declared.volume_calls.VolCall.TheVariants as calls
use Rattle.afs_num.specs.declared.volume_calls.VolReply.{VolReply}
use Rattle.afs_num.specs.declared.volume_calls.VolReply.TheVariants as replies
use Rattle.spec_shape.specs.Items.{volume_name_limit}
use Rattle.spec_shape.specs.Rows.{word, volume_kind, server, opaque, volumes, ◌&◌, end, numbered, MessageRow, MessageTable}

-- at most so many bytes of a dump in one message
abbrev pub piece_limit : ℕ
piece_limit = 33554432

-- at most so many volumes in a list
abbrev pub volumes_limit : ℕ
volumes_limit = 64

abbrev pub call_row : VolCall → MessageRow VolCall
call_row (calls.CreateVolume family volume name kind flags quota) = numbered 100 calls.CreateVolume (word family & word volume & opaque volume_name_limit name & volume_kind kind & word flags & word quota & end)
call_row (calls.DeleteVolume family transaction) = numbered 101 calls.DeleteVolume (word family & word transaction & end)
call_row (calls.Restore family transaction offset last piece) = numbered 102 calls.Restore (word family & word transaction & word offset & word last & opaque piece_limit piece & end)
call_row (calls.Forward family transaction from its_server its_transaction) = numbered 103 calls.Forward (word family & word transaction & word from & server its_server & word its_transaction & end)
call_row (calls.EndTrans family transaction) = numbered 104 calls.EndTrans (word family & word transaction & end)
call_row (calls.Clone family transaction volume name kind) = numbered 105 calls.Clone (word family & word transaction & word volume & opaque volume_name_limit name & volume_kind kind & end)
call_row (calls.SetFlags family transaction flags) = numbered 106 calls.SetFlags (word family & word transaction & word flags & end)
call_row (calls.GetFlags family transaction) = numbered 107 calls.GetFlags (word family & word transaction & end)
call_row (calls.TransCreate family volume flags) = numbered 108 calls.TransCreate (word family & word volume & word flags & end)
call_row (calls.Dump family transaction from offset) = numbered 109 calls.Dump (word family & word transaction & word from & word offset & end)
call_row (calls.SetForwarding family transaction new_server) = numbered 111 calls.SetForwarding (word family & word transaction & server new_server & end)
call_row (calls.GetStatus family transaction) = numbered 113 calls.GetStatus (word family & word transaction & end)
call_row (calls.ListVols family) = numbered 116 calls.ListVols (word family & end)
call_row (calls.ReClone family transaction volume) = numbered 120 calls.ReClone (word family & word transaction & word volume & end)

abbrev pub vol_calls : MessageTable VolCall
vol_calls = record {
  row = call_row;
  each =
      calls.CreateVolume 0 0 [] 0 0 0
      ∷ calls.DeleteVolume 0 0
      ∷ calls.Restore 0 0 0 0 []
      ∷ calls.Forward 0 0 0 0 0
      ∷ calls.EndTrans 0 0
      ∷ calls.Clone 0 0 0 [] 0
      ∷ calls.SetFlags 0 0 0
      ∷ calls.GetFlags 0 0
      ∷ calls.TransCreate 0 0 0
      ∷ calls.Dump 0 0 0 0
      ∷ calls.SetForwarding 0 0 0
      ∷ calls.GetStatus 0 0
      ∷ calls.ListVols 0
      ∷ calls.ReClone 0 0 0
      ∷ [];
}

-- behind a code of 0
abbrev pub reply_row : VolReply → MessageRow VolReply
reply_row (replies.CreateVolume transaction) = numbered 100 replies.CreateVolume (word transaction & end)
reply_row replies.DeleteVolume = numbered 101 replies.DeleteVolume end
reply_row replies.Restore = numbered 102 replies.Restore end
reply_row replies.Forward = numbered 103 replies.Forward end
reply_row replies.EndTrans = numbered 104 replies.EndTrans end
reply_row (replies.Clone counter release) = numbered 105 replies.Clone (word counter & word release & end)
reply_row replies.SetFlags = numbered 106 replies.SetFlags end
reply_row (replies.GetFlags flags) = numbered 107 replies.GetFlags (word flags & end)
reply_row (replies.TransCreate transaction) = numbered 108 replies.TransCreate (word transaction & end)
reply_row (replies.Dump last piece) = numbered 109 replies.Dump (word last & opaque piece_limit piece & end)
reply_row replies.SetForwarding = numbered 111 replies.SetForwarding end
reply_row (replies.GetStatus volume kind flags quota used counter release) = numbered 113 replies.GetStatus (word volume & volume_kind kind & word flags & word quota & word used & word counter & word release & end)
reply_row (replies.ListVols listed) = numbered 116 replies.ListVols (volumes volumes_limit listed & end)
reply_row (replies.ReClone counter release) = numbered 120 replies.ReClone (word counter & word release & end)

abbrev pub vol_replies : MessageTable VolReply
vol_replies = record {
  row = reply_row;
  each =
      replies.CreateVolume 0
      ∷ replies.DeleteVolume
      ∷ replies.Restore
      ∷ replies.Forward
      ∷ replies.EndTrans
      ∷ replies.Clone 0 0
      ∷ replies.SetFlags
      ∷ replies.GetFlags 0
      ∷ replies.TransCreate 0
      ∷ replies.Dump 0 []
      ∷ replies.SetForwarding
      ∷ replies.GetStatus 0 0 0 0 0 0 0
      ∷ replies.ListVols []
      ∷ replies.ReClone 0 0
      ∷ [];
}
