-- Calls and replies by their interface.
use Rattle.std.specs.Prelude.{Option, Some, None}
use Rattle.afs_num.specs.declared.calls.FsCall.{FsCall}
use Rattle.afs_num.specs.declared.calls.FsReply.{FsReply}
use Rattle.afs_num.specs.declared.messages.Call.{Call}
use Rattle.afs_num.specs.declared.messages.Call.TheVariants as calls
use Rattle.afs_num.specs.declared.messages.Reply.{Reply}
use Rattle.afs_num.specs.declared.messages.Reply.TheVariants as replies

-- a call of the interface of file servers and clients
abbrev pub file_call : Call → Option FsCall
file_call (calls.File call) = Some call
file_call call = None

-- a reply to one
abbrev pub file_reply : Reply → Option FsReply
file_reply (replies.File reply) = Some reply
file_reply reply = None
