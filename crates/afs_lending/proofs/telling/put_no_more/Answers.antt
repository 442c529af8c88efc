use Rattle.std.proofs.Common.{rules}
use Rattle.afs_lending.proofs.Behind.{puts_behind, puts_no_more}
use Rattle.afs_lending.proofs.telling.put_no_more.Goals as goal

pub returns-in_err-written-clause-puts : goal.returns-in_err-written-clause-puts
returns-in_err-written-clause-puts g c = λ text start count p. puts_no_more text _ start _ count _ c.args.written _ (search rules) (search rules) p

pub returns-clause-puts : goal.returns-clause-puts
returns-clause-puts g c = λ text start count p. puts_behind text _ start _ _ count _ _ c.args.written _ (search rules) p c.pass_on.ensures.puts
