use Rattle.std.proofs.Common.{sym, subst}
use Rattle.afs_volanswers.specs.Deciding.{decision_of}
use Rattle.afs_volserv.specs.Handling.{vol_turn_then, StepsVolumes}
use Rattle.afs_volserv.specs.Seen.{durable_seen, vol_seen}
use Rattle.afs_volanswers.specs.declared.decided.Decided.{Decided}
use Rattle.afs_volserv.proofs.server.VolServer.answer_decided.Goals as goal

pub returns-in-Answers : goal.returns-in-Answers
returns-in-Answers g c full =
    let s = c.args.store.now in
    let k = c.args.callbacks.now in
    let old = c.args.self.now in
    subst (λ (x : Decided). StepsVolumes (vol_turn_then old k s c.args.now (decision_of (durable_seen s) (vol_seen old) c.args.head.now full x)) old c.answer.new.self k c.answer.new.callbacks s c.answer.new.store c.answer.result)
    (sym c.in-Answers.is) c.answer.ensures
