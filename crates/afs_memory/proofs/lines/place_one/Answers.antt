use Rattle.std.proofs.Common.{ap, sym, refl, drop, List}
use Rattle.afs_num.specs.declared.vnodes.Vnode as image
use Rattle.spec_records.specs.Durable.{with_outcomes}
use Rattle.afs_memory.specs.Telling.{outcomes_seen}
use Rattle.afs_shelves.proofs.Lists.{on_ok}
use Rattle.afs_shelves.proofs.Lists.{drop_none}
use Rattle.afs_memory.proofs.Told.{one_placed}
use Rattle.afs_memory.proofs.lines.place_one.Goals as goal

pub returns-in-Some : goal.returns-in-Some
returns-in-Some c =
    on_ok c.put.result _ _ (λ put. one_placed c.args.images.now (drop c.args.place c.args.images.now) c.args.place c.in-Some.image.now c.args.places.now.table c.put.new.self.table refl (sym c.in-Some.ensures) put) c.put.ensures.ok

pub returns-in-None : goal.returns-in-None
returns-in-None c = ap (λ (r : List image.Vnode). with_outcomes r (outcomes_seen c.args.images.now c.args.places.now.table)) (drop_none c.args.images.now c.args.place (sym c.in-None.ensures))
