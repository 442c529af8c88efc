use Rattle.std.proofs.Common.{◌≡◌, ℕ, sym, subst}
use Rattle.std.specs.Prelude.{IfOk}
use Rattle.spec_volrows.specs.VolRow.{verdict}
use Rattle.afs_voldecisions.specs.Verdicts.{verdict_of, CanTell}
use Rattle.afs_volanswers.specs.Deciding.{same_decided, CanBeDone}
use Rattle.afs_volserv.specs.Seen.{durable_seen, vol_seen, VolMemory}
use Rattle.afs_volanswers.proofs.Judged.{coded, equal_ok, known, numbered, same_can}
use Rattle.afs_volserv.proofs.server.VolServer.judge_same.Goals as goal

pub same-requires : goal.same-requires
same-requires g c =
    let m = c.args.self.now in
    let s = c.args.store.now in
    let stamp = c.args.head.now.stamp in
    let call = c.args.call.now in
    let x = c.in_ok-verdict.verdict in
    let decides : verdict_of x ≡ verdict (durable_seen s) m.transactions m.last stamp call =
    subst (λ (n : VolMemory). verdict_of x ≡ verdict (durable_seen s) n.transactions n.last stamp call) c.self.view_is c.in_ok-verdict.ensures.decides in
    coded x (known (durable_seen s).kept s.durable m.transactions m.last stamp call x decides c.requires.serves.apart).plain

pub returns-clause-can : goal.returns-clause-can
returns-clause-can g c =
    let m = c.args.self.now in
    let s = c.args.store.now in
    let v = vol_seen m in
    let head = c.args.head.now in
    let call = c.args.call.now in
    let x = c.in_ok-verdict.verdict in
    let decides : verdict_of x ≡ verdict (durable_seen s) m.transactions m.last head.stamp call =
    subst (λ (n : VolMemory). verdict_of x ≡ verdict (durable_seen s) n.transactions n.last head.stamp call) c.self.view_is c.in_ok-verdict.ensures.decides in
    let done : IfOk c.same.result (λ y. y ≡ same_decided (numbered v) x) =
    subst (λ (n : VolMemory). IfOk c.same.result (λ y. y ≡ same_decided (numbered (vol_seen n)) x)) c.self.view_is c.same.ensures in
    let right = known (durable_seen s).kept s.durable m.transactions m.last head.stamp call x decides c.requires.serves.apart in
    let told = subst (λ (n : ℕ). CanTell n x) (sym c.requires.opcode) c.in_ok-verdict.ensures.told in
    equal_ok (CanBeDone s.durable v head.opcode) c.same.result (same_decided (numbered v) x) done
    (same_can s.durable v head.opcode x right told c.in_ok-verdict.ensures.made c.requires.serves.apart c.requires.serves.flagged)
