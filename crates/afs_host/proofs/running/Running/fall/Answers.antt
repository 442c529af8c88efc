use Rattle.std.specs.Prelude.{◌≡◌}
use Rattle.std.proofs.Common.{refl, ap, sym, subst, ◌∙◌}
use Rattle.afs_disk.specs.Disk.{IsBeyond}
use Rattle.afs_host.specs.Seats.{Resting, Running}
use Rattle.afs_host.specs.Setting.{pick_of, stops_now}
use Rattle.afs_host.proofs.Fallen.{as_it_was, at_rest_then, failed_so, stopped_so}
use Rattle.afs_host.proofs.Lying.{left_image}
use Rattle.afs_host.proofs.running.Running.fall.Goals as goal

pub returns-then-stops_now : goal.returns-then-stops_now
returns-then-stops_now g c =
    let is = c.self.view_is in
    let left = c.left_by.ensures in
    let v = g.T.OnDisk.shown c.args.self.store in
    stopped_so g.T.D.Disk.seen g.T.D.Disk.left_by g.T.D.Disk.may_leave g.T.D.Disk.faults g.T.D.Disk.limit v c.args.self.armed c.left_by.result c.stopped.result c.node-node.result
    (λ b. c.stopped.ensures.1 (subst (λ (r : Running g.row.N.Denot g.row.T.Denot). IsBeyond (g.T.OnDisk.shown r.store).fuse.stop (g.T.OnDisk.shown r.store).fuse.calls) (sym is) b))
    (λ e. subst (λ (r : Running g.row.N.Denot g.row.T.Denot). IsBeyond (g.T.OnDisk.shown r.store).fuse.stop (g.T.OnDisk.shown r.store).fuse.calls) is (c.stopped.ensures.0 e))
    (c.node-node.ensures ∙ ap (λ (r : Running g.row.N.Denot g.row.T.Denot). (g.T.OnDisk.shown r.store).node) is)
    (ap (λ (r : Running g.row.N.Denot g.row.T.Denot). stops_now c.stopped.result r.armed) (sym is) ∙ (sym c.stops_now.ensures ∙ c.if-stops_now.true))
    (record {
      mark = left.mark;
      told = left.told;
      image = left_image (g.T.D.Disk.seen c.left_by.result.disk) (g.T.D.Disk.may_leave v.fuse.disk) (g.T.D.Disk.may_leave c.left_by.result.disk) left.image;
      same_faults = left.faults;
      same_limit = left.limit;
    }) (left.picked ∙ ap (g.T.D.Disk.left_by v.fuse.disk) (c.pick-pick.ensures ∙ ap (λ (r : Running g.row.N.Denot g.row.T.Denot). pick_of r.armed) is)) (at_rest_then (g.T.D.Disk.seen c.left_by.result.disk) (g.T.D.Disk.may_leave v.fuse.disk) (g.T.D.Disk.may_leave c.left_by.result.disk) left.image)

pub returns-else-stops_now : goal.returns-else-stops_now
returns-else-stops_now g c =
    let is = c.self.view_is in
    let value = c.rest.ensures.value in
    let v = g.T.OnDisk.shown c.args.self.store in
    failed_so g.T.D.Disk.seen g.T.D.Disk.left_by g.T.D.Disk.may_leave g.T.D.Disk.faults g.T.D.Disk.limit v c.args.self.armed c.rest.result c.stopped.result c.node-node.result
    (λ b. c.stopped.ensures.1 (subst (λ (r : Running g.row.N.Denot g.row.T.Denot). IsBeyond (g.T.OnDisk.shown r.store).fuse.stop (g.T.OnDisk.shown r.store).fuse.calls) (sym is) b))
    (λ e. subst (λ (r : Running g.row.N.Denot g.row.T.Denot). IsBeyond (g.T.OnDisk.shown r.store).fuse.stop (g.T.OnDisk.shown r.store).fuse.calls) is (c.stopped.ensures.0 e))
    (c.node-node.ensures ∙ ap (λ (r : Running g.row.N.Denot g.row.T.Denot). (g.T.OnDisk.shown r.store).node) is)
    (ap (λ (r : Running g.row.N.Denot g.row.T.Denot). stops_now c.stopped.result r.armed) (sym is) ∙ (sym c.stops_now.ensures ∙ c.if-stops_now.false))
    (as_it_was g.T.D.Disk.seen g.T.D.Disk.may_leave g.T.D.Disk.faults g.T.D.Disk.limit v c.rest.result value)
    (ap (λ (r : Resting g.row.T-D.Denot). r.disk) value)
