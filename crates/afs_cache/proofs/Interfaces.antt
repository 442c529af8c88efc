-- The calls and replies of file servers and clients, and those of other interfaces.
use Rattle.std.proofs.Common.{◌≡◌, ℕ, [], Option, Some, None, refl}
use Rattle.afs_num.specs.Messages.{file_call, file_reply}
use Rattle.afs_num.specs.declared.calls.FsCall.{FsCall}
use Rattle.afs_num.specs.declared.calls.FsReply.{FsReply}
use Rattle.afs_num.specs.declared.messages.Call.{Call}
use Rattle.afs_num.specs.declared.messages.Call.TheVariants as ask
use Rattle.afs_num.specs.declared.messages.Reply.{Reply}
use Rattle.afs_num.specs.declared.messages.Reply.TheVariants as tell
use Rattle.afs_num.specs.declared.types.Head.{Head}
use Rattle.afs_num.specs.declared.types.Node.{Node}
use Rattle.spec_rows.specs.Going.{ClientState, Going}
use Rattle.spec_rows.specs.ClientRow.{ignores, refused_with, replies_step}
use Rattle.spec_rows.specs.ServerRow.{not_served}
use Rattle.spec_rows.specs.Steps.{Step}
use Rattle.afs_cache.specs.Serving.{runs_asking}
use Rattle.afs_cache.specs.Wanted.{counts_reply}
use Rattle.afs_cache.specs.declared.serving.Asking.TheVariants as askings

pub call_is : (x : Call) (call : FsCall) → file_call x ≡ Some call → x ≡ ask.File call
call_is (ask.File other) call e = cc
call_is (ask.Volume other) call e = absurd cc
call_is (ask.Location other) call e = absurd cc

pub reply_is : (x : Reply) (reply : FsReply) → file_reply x ≡ Some reply → x ≡ tell.File reply
reply_is (tell.File other) reply e = cc
reply_is (tell.Volume other) reply e = absurd cc
reply_is (tell.Location other) reply e = absurd cc

-- calls of other interfaces aren't served
pub refused_else : (me : Node) (c : ClientState) (place : ℕ) (head : Head) (x : Call) → file_call x ≡ None → replies_step c place head [] (refused_with not_served) ≡ runs_asking me c place head (askings.Call x)
refused_else me c place head (ask.File call) e = absurd cc
refused_else me c place head (ask.Volume call) e = refl
refused_else me c place head (ask.Location call) e = refl

-- and replies to them do nothing
pub ignored_else : (me : Node) (c : ClientState) (clock place : ℕ) (act : Going) (x : Reply) → file_reply x ≡ None → ignores c place ≡ counts_reply me c clock place act x
ignored_else me c clock place act (tell.File reply) e = absurd cc
ignored_else me c clock place act (tell.Volume reply) e = refl
ignored_else me c clock place act (tell.Location reply) e = refl
