use Rattle.afs_memory.specs.States.{kept_seen}
use Rattle.afs_shelves.proofs.Found.{seen_none, seen_some}
use Rattle.afs_memory.proofs.memory.State.kept.Goals as goal

pub returns-clause-some : goal.returns-clause-some
returns-clause-some c = seen_some kept_seen c.args.caller c.args.self.now.kept.table c.get.result c.get.ensures

pub returns-clause-none : goal.returns-clause-none
returns-clause-none c = seen_none kept_seen c.args.caller c.args.self.now.kept.table c.get.result c.get.ensures
