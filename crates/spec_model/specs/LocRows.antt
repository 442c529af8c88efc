-- The calls of the Volume Location Interface and their replies, row by row: the opcode, and the fields of their kinds
-- in order.
use Rattle.std.specs.Prelude.{ℕ, List, [], ◌∷◌}
use Rattle.afs_num.specs.declared.location_calls.LocCall.{LocCall}
use Rattle.afs_num.specs.declared.location_calls.LocCall.TheVariants as calls
use Rattle.afs_num.specs.declared.location_calls.LocReply.{LocReply}
use Rattle.afs_num.specs.declared.location_calls.LocReply.TheVariants as replies
use Rattle.spec_shape.specs.Items.{volume_name_limit}
use Rattle.spec_shape.specs.Rows.{word, opaque, entry, ◌&◌, end, numbered, MessageRow, MessageTable, empty_entry}

abbrev pub call_row : LocCall → MessageRow LocCall
call_row (calls.CreateEntry new) = numbered 501 calls.CreateEntry (entry new & end)
call_row (calls.DeleteEntry volume) = numbered 502 calls.DeleteEntry (word volume & end)
call_row (calls.GetEntryById volume) = numbered 503 calls.GetEntryById (word volume & end)
call_row (calls.GetEntryByName name) = numbered 504 calls.GetEntryByName (opaque volume_name_limit name & end)
call_row calls.GetNewVolumeId = numbered 505 calls.GetNewVolumeId end
call_row (calls.ReplaceEntry volume new) = numbered 506 calls.ReplaceEntry (word volume & entry new & end)
call_row (calls.SetLock volume operation force) = numbered 508 calls.SetLock (word volume & word operation & word force & end)
call_row (calls.ReleaseLock volume) = numbered 509 calls.ReleaseLock (word volume & end)
call_row (calls.ListEntry index) = numbered 510 calls.ListEntry (word index & end)

abbrev pub loc_calls : MessageTable LocCall
loc_calls = record {
  row = call_row;
  each =
      calls.CreateEntry empty_entry
      ∷ calls.DeleteEntry 0
      ∷ calls.GetEntryById 0
      ∷ calls.GetEntryByName []
      ∷ calls.GetNewVolumeId
      ∷ calls.ReplaceEntry 0 empty_entry
      ∷ calls.SetLock 0 0 0
      ∷ calls.ReleaseLock 0
      ∷ calls.ListEntry 0
      ∷ [];
}

-- behind a code of 0
abbrev pub reply_row : LocReply → MessageRow LocReply
reply_row (replies.CreateEntry stamp) = numbered 501 replies.CreateEntry (word stamp & end)
reply_row replies.DeleteEntry = numbered 502 replies.DeleteEntry end
reply_row (replies.GetEntryById found) = numbered 503 replies.GetEntryById (entry found & end)
reply_row (replies.GetEntryByName found) = numbered 504 replies.GetEntryByName (entry found & end)
reply_row (replies.GetNewVolumeId volume) = numbered 505 replies.GetNewVolumeId (word volume & end)
reply_row replies.ReplaceEntry = numbered 506 replies.ReplaceEntry end
reply_row (replies.SetLock stamp locked) = numbered 508 replies.SetLock (word stamp & entry locked & end)
reply_row replies.ReleaseLock = numbered 509 replies.ReleaseLock end
reply_row (replies.ListEntry next_index found) = numbered 510 replies.ListEntry (word next_index & entry found & end)

abbrev pub loc_replies : MessageTable LocReply
loc_replies = record {
  row = reply_row;
  each =
      replies.CreateEntry 0
      ∷ replies.DeleteEntry
      ∷ replies.GetEntryById empty_entry
      ∷ replies.GetEntryByName empty_entry
      ∷ replies.GetNewVolumeId 0
      ∷ replies.ReplaceEntry
      ∷ replies.SetLock 0 empty_entry
      ∷ replies.ReleaseLock
      ∷ replies.ListEntry 0 empty_entry
      ∷ [];
}
