use Rattle.std.proofs.Common.{◌∙◌, ap}
use Rattle.afs_num.specs.declared.types.Node.{Node}
use Rattle.afs_seats.specs.Seated.{Seated}
use Rattle.afs_memory.specs.States.{parts_seen}
use Rattle.afs_memory.proofs.Held.{parts_started}
use Rattle.afs_memory.proofs.memory.State.start.Goals as goal

pub returns-clause-parts : goal.returns-clause-parts
returns-clause-parts c =
    let s = c.args.self.now in
    let left = c.drop_flagged.new.self in
    ap (λ (f : Seated Node). parts_seen c.args.boot left.volumes.table f.table s.stamps.table s.kept.table) c.drop_flagged.ensures.forwardings
    ∙ parts_started s.boot c.args.boot s.shelves.volumes.table left.volumes.table s.shelves.forwardings.table s.stamps.table s.kept.table c.drop_flagged.ensures.volumes
