use Rattle.afs_cell.proofs.giving.database_takes.Goals as goal

pub returns-clause-happened : goal.returns-clause-happened
returns-clause-happened g c = λ clock count. record { happens = c.replace_with.ensures.0 clock count; goes = c.replace_with.ensures.1.0; keeps = c.replace_with.ensures.1.1.0 }
