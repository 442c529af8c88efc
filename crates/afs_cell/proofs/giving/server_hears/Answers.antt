use Rattle.std.proofs.Common.{ap, sym, subst, ◌+◌, ℕ, [], ◌∷◌}
use Rattle.afs_num.specs.declared.types.Node.TheVariants.{Server}
use Rattle.spec_history.specs.declared.lines.Line.TheVariants as lines
use Rattle.afs_cell.specs.SeatSteps.{HasHeard, IsFallen}
use Rattle.afs_cell.specs.Hearing.{IsUpAt, OneFalls}
use Rattle.afs_clients.specs.Places.{put_place}
use Rattle.afs_cell.proofs.Falling.{server_changed, server_fell, up_at}
use Rattle.afs_clients.proofs.Numbers.{at_found}
use Rattle.afs_cell.proofs.giving.server_hears.Goals as goal

pub hear-requires-clause-can : goal.hear-requires-clause-can
hear-requires-clause-can g c = (c.requires.can c.args.server c.at.result.now (at_found c.args.servers.now.items c.args.server (c.in-Some.i + 1) c.at.result.now c.in-Some.ensures.some.0 c.at.ensures.value)).can

pub fall-requires : goal.fall-requires
fall-requires g c =
    subst (λ (k : ℕ). IsUpAt c.args.server (put_place k c.hear.new.seat c.args.servers.now.items)) (sym c.in-Some.ensures.some.0)
    (up_at g.D.Disk.seen g.D.Disk.left_by g.D.Disk.may_leave g.D.Disk.faults g.D.Disk.limit c.args.server c.args.servers.now.items c.at.result.now c.hear.new.seat (at_found c.args.servers.now.items c.args.server (c.in-Some.i + 1) c.at.result.now c.in-Some.ensures.some.0 c.at.ensures.value) c.in-None.ensures.falls)

pub returns-in-Some-hear : goal.returns-in-Some-hear
returns-in-Some-hear g c = λ place.
    let found = (at_found c.args.servers.now.items c.args.server (c.in-Some.i + 1) c.at.result.now c.in-Some.ensures.some.0 c.at.ensures.value) in
    let own = (c.requires.can c.args.server c.at.result.now found).own in
    server_changed g.D.Disk.seen g.D.Disk.left_by g.D.Disk.may_leave g.D.Disk.faults g.D.Disk.limit c.args.server (lines.Given place ∷ []) IsFallen (HasHeard (Server c.args.server) c.args.now place c.args.bytes.now) c.args.servers.now.items c.at.result.now c.hear.new.seat found
    (put_place (c.in-Some.i + 1) c.hear.new.seat c.args.servers.now.items) c.in-Some-hear.happened (ap (λ (k : ℕ). put_place k c.hear.new.seat c.args.servers.now.items) c.in-Some.ensures.some.0)
    (c.in-Some-hear.ensures.happens (Server c.args.server) place own) (c.in-Some-hear.ensures.goes (Server c.args.server) own) c.in-Some-hear.ensures.keeps

pub returns-in-None : goal.returns-in-None
returns-in-None g c = λ place.
    let found = (at_found c.args.servers.now.items c.args.server (c.in-Some.i + 1) c.at.result.now c.in-Some.ensures.some.0 c.at.ensures.value) in
    let own = (c.requires.can c.args.server c.at.result.now found).own in
    server_fell g.D.Disk.seen g.D.Disk.left_by g.D.Disk.may_leave g.D.Disk.faults g.D.Disk.limit c.args.server (lines.Given place ∷ []) IsFallen (HasHeard (Server c.args.server) c.args.now place c.args.bytes.now) c.args.servers.now.items c.at.result.now c.hear.new.seat found
    c.fall.new.servers.items c.fall.result
    (subst (λ (k : ℕ). OneFalls g.D.Disk.seen g.D.Disk.left_by g.D.Disk.may_leave g.D.Disk.faults g.D.Disk.limit c.args.server (put_place k c.hear.new.seat c.args.servers.now.items) c.fall.new.servers.items c.fall.result) c.in-Some.ensures.some.0 c.fall.ensures)
    (c.in-None.ensures.happens (Server c.args.server) place own) (c.in-None.ensures.goes (Server c.args.server) own) c.in-None.ensures.keeps
