use Rattle.std.proofs.Common.{◌≡◌, map, take}
use Rattle.afs_num.specs.declared.calls.AfsCallBack.{AfsCallBack}
use Rattle.spec_rows.specs.ServerRow.{promise_until}
use Rattle.afs_callees.proofs.replies.promises.Given as goal

abbrev pub invariant-loop-place : goal.invariant-loop-place
invariant-loop-place l = l.promises ≡ map (λ (c : AfsCallBack). promise_until l.expiry) (take l._place-index l.places)
