use Rattle.spec_copyrows.specs.CopyRow.{copy_begin_row}
use Rattle.afs_cache.proofs.Numbers.{answers_last, answers_rise, copy_begin_rises}
use Rattle.afs_cache.proofs.node.CacheManager.act.Goals as goal

pub returns-clause-last : goal.returns-clause-last
returns-clause-last c =
    let old = c.args.self.now in
    answers_rise (copy_begin_row old.node old.state c.args.now c.args.act.now) old c.begin.new.self c.begin.result (copy_begin_rises old.node old.state c.args.now c.args.act.now) c.begin.ensures

pub returns-clause-lasting : goal.returns-clause-lasting
returns-clause-lasting c =
    let old = c.args.self.now in
    answers_last (copy_begin_row old.node old.state c.args.now c.args.act.now) old c.begin.new.self c.begin.result (copy_begin_rises old.node old.state c.args.now c.args.act.now).0 c.begin.ensures
