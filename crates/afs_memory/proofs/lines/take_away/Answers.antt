use Rattle.std.proofs.Common.{ℕ, ap, sym, List}
use Rattle.spec_records.specs.Durable.{with_removed}
use Rattle.afs_memory.specs.Telling.{outcomes_seen}
use Rattle.afs_shelves.proofs.Lists.{on_ok}
use Rattle.afs_shelves.proofs.Lists.{drop_none}
use Rattle.afs_memory.proofs.Told.{one_gone}
use Rattle.afs_memory.proofs.lines.take_away.Goals as goal

pub returns-in-Some : goal.returns-in-Some
returns-in-Some c = on_ok c.put.result _ _ (λ put images. one_gone images c.args.removed.now c.args.place c.in-Some.number c.args.outcomes.now.table c.put.new.self.table (sym c.in-Some.ensures) put) c.put.ensures.ok

pub returns-in-None : goal.returns-in-None
returns-in-None c = λ images. ap (λ (r : List ℕ). with_removed r (outcomes_seen images c.args.outcomes.now.table)) (drop_none c.args.removed.now c.args.place (sym c.in-None.ensures))
