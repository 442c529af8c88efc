use Rattle.std.proofs.Common.{ℤ, Option, ap}
use Rattle.afs_num.specs.declared.types.Head.{Head}
use Rattle.afs_num.specs.declared.calls.FsReply.{FsReply}
use Rattle.spec_model.specs.FsRows.{fs_replies}
use Rattle.spec_model.proofs.RpcLaws.{no_reply_begins}
use Rattle.spec_model.proofs.FsMade.{replies_sound}
use Rattle.afs_fsrpc.proofs.laws.no_reply_begins_another.Goals as goal

pub returns : goal.returns
returns c = λ head other_head code other_code reply other_reply bytes more one two.
    let r = no_reply_begins fs_replies replies_sound head other_head code other_code reply other_reply bytes more one two in
    (r.0, ap (λ (p : Head × ℤ × Option FsReply). p.0) r.1, ap (λ (p : Head × ℤ × Option FsReply). p.1) r.1, ap (λ (p : Head × ℤ × Option FsReply). p.2) r.1)
