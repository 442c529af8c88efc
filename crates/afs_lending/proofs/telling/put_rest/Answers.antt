-- The final part, behind the history.
use Rattle.std.proofs.Common.{rules}
use Rattle.afs_outside.proofs.Puts.{puts_fail, puts_passed}
use Rattle.afs_lending.proofs.Behind.{puts_behind, puts_no_more}
use Rattle.afs_lending.proofs.telling.put_rest.Goals as goal

pub returns-in_err-written-clause-puts : goal.returns-in_err-written-clause-puts
returns-in_err-written-clause-puts g c = λ text start count p. puts_no_more text _ start _ count _ c.args.written _ (search rules) (search rules) p

pub returns-in_err-put_final-clause-puts : goal.returns-in_err-put_final-clause-puts
returns-in_err-put_final-clause-puts g c = λ text start count p. puts_behind text _ start _ _ count _ _ c.args.written _ (search rules) p (puts_fail _ _ _ _ _ _ _ c.from_residual-in_err-put_final.ensures.0 c.in_err-put_final.ensures)

pub returns-clause-puts : goal.returns-clause-puts
returns-clause-puts g c = λ text start count p. puts_behind text _ start _ _ count _ _ c.args.written _ (search rules) p (puts_passed _ _ _ _ _ _ _ _ _ c.in_ok-put_final.ensures c.pass_on.ensures.puts)
