use Rattle.std.proofs.Common.{◌≡◌, subst}
use Rattle.spec_volrows.specs.VolRow.{verdict}
use Rattle.afs_voldecisions.specs.Verdicts.{verdict_of}
use Rattle.afs_volserv.specs.Seen.{durable_seen, VolMemory}
use Rattle.afs_volanswers.proofs.Judged.{coded, full_becomes, known}
use Rattle.afs_volserv.proofs.server.VolServer.judge_full.Goals as goal

pub full-requires : goal.full-requires
full-requires g c =
    let m = c.args.self.now in
    let s = c.args.store.now in
    let stamp = c.args.head.now.stamp in
    let call = c.args.call.now in
    let x = c.in_ok-verdict.verdict in
    let decides : verdict_of x ≡ verdict (durable_seen s) m.transactions m.last stamp call =
    subst (λ (n : VolMemory). verdict_of x ≡ verdict (durable_seen s) n.transactions n.last stamp call) c.self.view_is c.in_ok-verdict.ensures.decides in
    coded x (known (durable_seen s).kept s.durable m.transactions m.last stamp call x decides c.requires.serves.apart).plain

pub returns-clause-becomes : goal.returns-clause-becomes
returns-clause-becomes g c =
    let m = c.args.self.now in
    let s = c.args.store.now in
    let stamp = c.args.head.now.stamp in
    let call = c.args.call.now in
    let x = c.in_ok-verdict.verdict in
    let decides : verdict_of x ≡ verdict (durable_seen s) m.transactions m.last stamp call =
    subst (λ (n : VolMemory). verdict_of x ≡ verdict (durable_seen s) n.transactions n.last stamp call) c.self.view_is c.in_ok-verdict.ensures.decides in
    let right = known (durable_seen s).kept s.durable m.transactions m.last stamp call x decides c.requires.serves.apart in
    full_becomes s.durable m.transactions m.last x c.full.result c.full.ensures right c.requires.serves.apart c.requires.serves.flagged
