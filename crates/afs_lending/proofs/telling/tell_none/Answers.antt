use Rattle.afs_lending.proofs.Written.{passed_by}
use Rattle.afs_lending.proofs.telling.tell_none.Goals as goal

pub returns-clause-written : goal.returns-clause-written
returns-clause-written g c = λ text start count p. passed_by text start _ _ count _ c.put_no_more-passed.result c.put_no_more-passed.ensures.all (c.put_no_more-passed.ensures.puts text start count p)
