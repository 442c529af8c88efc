use Rattle.std.proofs.Common.{ℕ, List, ap}
use Rattle.afs_num.specs.declared.types.Head.{Head}
use Rattle.afs_num.specs.declared.location_calls.LocCall.{LocCall}
use Rattle.spec_model.specs.LocRows.{loc_calls}
use Rattle.spec_model.proofs.RpcLaws.{no_call_begins}
use Rattle.spec_model.proofs.LocMade.{calls_sound}
use Rattle.afs_vlrpc.proofs.laws.no_call_begins_another.Goals as goal

pub returns : goal.returns
returns c = λ head other_head user other_user call other_call bytes more one two.
    let r = no_call_begins loc_calls calls_sound head other_head user other_user call other_call bytes more one two in
    (r.0, ap (λ (p : Head × List ℕ × LocCall). p.0) r.1, ap (λ (p : Head × List ℕ × LocCall). p.1) r.1, ap (λ (p : Head × List ℕ × LocCall). p.2) r.1)
