use Rattle.std.proofs.Common.{ℕ, List, ap}
use Rattle.afs_num.specs.declared.types.Head.{Head}
use Rattle.afs_num.specs.declared.calls.FsCall.{FsCall}
use Rattle.spec_model.specs.FsRows.{fs_calls}
use Rattle.spec_model.proofs.RpcLaws.{no_call_begins}
use Rattle.spec_model.proofs.FsMade.{calls_sound}
use Rattle.afs_fsrpc.proofs.laws.no_call_begins_another.Goals as goal

pub returns : goal.returns
returns c = λ head other_head user other_user call other_call bytes more one two.
    let r = no_call_begins fs_calls calls_sound head other_head user other_user call other_call bytes more one two in
    (r.0, ap (λ (p : Head × List ℕ × FsCall). p.0) r.1, ap (λ (p : Head × List ℕ × FsCall). p.1) r.1, ap (λ (p : Head × List ℕ × FsCall). p.2) r.1)
