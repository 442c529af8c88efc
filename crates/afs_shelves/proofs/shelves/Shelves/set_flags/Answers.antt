use Rattle.std.proofs.Common.{◌∙◌}
use Rattle.afs_shelves.proofs.Done.{put_back}
use Rattle.afs_shelves.proofs.shelves.Shelves.set_flags.Goals as goal

pub returns-clause-altered : goal.returns-clause-altered
returns-clause-altered c = record {
  before = c.take-shelf.result;
  there = c.take-shelf.ensures.value;
  after = c.flagged.result;
  put = put_back c.args.id c.flagged.result c.args.self.now.volumes.table c.take-shelf.new.self.volumes.table c.put.new.self.volumes.table c.take-shelf.ensures.ascends c.take-shelf.ensures.table (c.flagged.ensures.id ∙ c.take-shelf.ensures.id) c.put.ensures.table;
  altered = c.flagged.ensures.value;
}
