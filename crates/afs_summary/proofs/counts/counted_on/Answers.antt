use Rattle.std.proofs.Common.{rules}
use Rattle.afs_summary.proofs.Counted.{counts_no_more, counts_on}
use Rattle.afs_summary.proofs.counts.counted_on.Goals as goal

pub returns-in-Some : goal.returns-in-Some
returns-in-Some c = λ before counted. counts_on c.args.counts c.in-Some.counts c.with_entries.result before c.args.entries.now (search rules) counted c.with_entries.ensures

pub returns-in-None : goal.returns-in-None
returns-in-None c = λ before counted. counts_no_more c.args.counts before c.args.entries.now (search rules) counted
