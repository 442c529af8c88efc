use Rattle.afs_cache.specs.Managing.{copy_times_out}
use Rattle.afs_cache.proofs.Numbers.{answers_last, answers_rise, copy_times_out_rises}
use Rattle.afs_cache.proofs.node.CacheManager.timeout.Goals as goal

pub returns-clause-last : goal.returns-clause-last
returns-clause-last c =
    let old = c.args.self.now in
    answers_rise (copy_times_out old.node old.state old.state.client.running) old c.time_out.new.self c.time_out.result (copy_times_out_rises old.node old.state old.state.client.running) c.time_out.ensures

pub returns-clause-lasting : goal.returns-clause-lasting
returns-clause-lasting c =
    let old = c.args.self.now in
    answers_last (copy_times_out old.node old.state old.state.client.running) old c.time_out.new.self c.time_out.result (copy_times_out_rises old.node old.state old.state.client.running).0 c.time_out.ensures
