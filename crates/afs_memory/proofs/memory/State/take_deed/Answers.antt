use Rattle.std.proofs.Common.{◌≡◌, ◌∙◌, Some, ap, subst, sym}
use Rattle.spec_fold.specs.Fold.{body_taken}
use Rattle.spec_records.specs.Durable.{Durable}
use Rattle.afs_shelves.specs.Deeds.{deed_body, SuitsDeed}
use Rattle.afs_memory.specs.States.{parts_of, parts_seen}
use Rattle.afs_memory.proofs.Held.{parts_same}
use Rattle.afs_memory.proofs.memory.State.take_deed.Goals as goal

pub redo_deed-requires-clause-suits : goal.redo_deed-requires-clause-suits
redo_deed-requires-clause-suits c =
    let s = c.args.self.now in
    let m = c.reserve_one.new.self in
    subst (SuitsDeed c.args.deed) (sym (parts_same s.boot s.shelves.volumes.table m.volumes.table s.shelves.forwardings.table m.forwardings.table s.stamps.table s.kept.table c.reserve_one.ensures.volumes c.reserve_one.ensures.forwardings)) c.requires

pub returns-in-Ok-clause-taken : goal.returns-in-Ok-clause-taken
returns-in-Ok-clause-taken c =
    let s = c.args.self.now in
    let m = c.reserve_one.new.self in
    sym (ap (body_taken (deed_body c.args.deed)) (parts_same s.boot s.shelves.volumes.table m.volumes.table s.shelves.forwardings.table m.forwardings.table s.stamps.table s.kept.table c.reserve_one.ensures.volumes c.reserve_one.ensures.forwardings))
    ∙ c.redo_deed.ensures.parts

pub returns-in-Err-clause-same : goal.returns-in-Err-clause-same
returns-in-Err-clause-same c =
    let s = c.args.self.now in
    let m = c.reserve_one.new.self in
    parts_same s.boot s.shelves.volumes.table m.volumes.table s.shelves.forwardings.table m.forwardings.table s.stamps.table s.kept.table c.reserve_one.ensures.volumes c.reserve_one.ensures.forwardings
