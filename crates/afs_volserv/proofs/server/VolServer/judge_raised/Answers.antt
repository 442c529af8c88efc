use Rattle.std.proofs.Common.{◌≡◌, ℕ, sym, subst}
use Rattle.spec_volrows.specs.VolRow.{verdict, without_family}
use Rattle.spec_volrows.proofs.VolApart.{rest_apart}
use Rattle.afs_voldecisions.specs.Numbering.{Numbered}
use Rattle.afs_voldecisions.specs.Verdicts.{verdict_of, CanTell}
use Rattle.afs_volanswers.specs.Deciding.{raised_decided, CanBeDone}
use Rattle.afs_volserv.specs.Seen.{durable_seen, vol_seen}
use Rattle.afs_volanswers.proofs.Judged.{coded, equal_ok, raised_can, rest_known}
use Rattle.afs_volanswers.proofs.Plain.{flagged_rest}
use Rattle.afs_volserv.proofs.server.VolServer.judge_raised.Goals as goal

pub raised-requires : goal.raised-requires
raised-requires g c =
    let m = c.args.self.now in
    let s = c.args.store.now in
    let stamp = c.args.head.now.stamp in
    let call = c.args.call.now in
    let family = c.family_of-family.result in
    let x = c.in_ok-verdict.verdict in
    let decides : verdict_of x ≡ verdict (durable_seen s) (without_family family m.transactions) m.last stamp call =
    subst (λ (t : Numbered). verdict_of x ≡ verdict (durable_seen s) t.table t.last stamp call) c.in_ok-live.ensures c.in_ok-verdict.ensures.decides in
    coded x (rest_known (durable_seen s).kept s.durable m.transactions m.last family stamp call x decides c.requires.serves.apart).plain

pub returns-clause-can : goal.returns-clause-can
returns-clause-can g c =
    let m = c.args.self.now in
    let s = c.args.store.now in
    let v = vol_seen m in
    let head = c.args.head.now in
    let call = c.args.call.now in
    let family = c.family_of-family.result in
    let x = c.in_ok-verdict.verdict in
    let decides : verdict_of x ≡ verdict (durable_seen s) (without_family family m.transactions) m.last head.stamp call =
    subst (λ (t : Numbered). verdict_of x ≡ verdict (durable_seen s) t.table t.last head.stamp call) c.in_ok-live.ensures c.in_ok-verdict.ensures.decides in
    let right = rest_known (durable_seen s).kept s.durable m.transactions m.last family head.stamp call x decides c.requires.serves.apart in
    let told = subst (λ (n : ℕ). CanTell n x) (sym c.requires.opcode) c.in_ok-verdict.ensures.told in
    let can = raised_can s.durable v head.opcode family head.stamp m.last x right told c.in_ok-verdict.ensures.made (rest_apart s.durable.volumes m.last family m.transactions c.requires.serves.apart) (flagged_rest family m.transactions c.requires.serves.flagged) in
    equal_ok (CanBeDone s.durable v head.opcode) c.raised.result (raised_decided family head.stamp c.in_ok-live.live x) c.raised.ensures
    (subst (λ (t : Numbered). CanBeDone s.durable v head.opcode (raised_decided family head.stamp t x)) (sym c.in_ok-live.ensures) can)
