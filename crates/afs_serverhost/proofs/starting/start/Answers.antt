use Rattle.std.specs.Prelude.{◌≡◌, ℕ, List, [], ◌∷◌, Option, Some, None, IsSome}
use Rattle.std.proofs.Common.{refl, ap, sym, subst, ◌∙◌}
use Rattle.afs_num.specs.declared.faults.StoreFault.{StoreFault}
use Rattle.afs_num.specs.declared.faults.StoreFault.TheVariants as refusals
use Rattle.afs_num.specs.declared.types.Node.{Node}
use Rattle.spec_history.specs.declared.lines.Line.{Line}
use Rattle.afs_disk.specs.Disk.{Rose, Setting}
use Rattle.afs_disk.specs.Fuses.{Fused}
use Rattle.spec_volrows.specs.VolStates.{NodeState}
use Rattle.spec_rows.specs.Steps.{Begun}
use Rattle.afs_volstore.specs.Stores.{recorded, IsCaused, Store}
use Rattle.afs_host.specs.Seats.{Resting}
use Rattle.afs_serverhost.specs.Seats.{ServerRunning}
use Rattle.afs_serverhost.specs.Standing.{server_keeping}
use Rattle.afs_serverhost.specs.Starting.{disk_started, node_start, server_sight, BootsFrom, BootsOver, GoesOnBooted, IsStarted, StartsOver}
use Rattle.afs_serverhost.proofs.Rising.{server_fits}
use Rattle.afs_host.specs.Starting.{IsFound, IsRefused}
use Rattle.afs_host.specs.declared.starting.Start.{Start}
use Rattle.afs_host.proofs.Started.{boots_over, own_cause, own_quiet, refused_over, refused_so, taken_up, Refused}
use Rattle.afs_serverhost.proofs.starting.start.Goals as goal

pub returns-in-Ok-attach-clause-started : goal.returns-in-Ok-attach-clause-started
returns-in-Ok-attach-clause-started g c =
    let fuse = c.new.result in
    let old : Resting g.row.D.Denot = record { disk = fuse.disk; mark = c.resting.inside.mark } in
    let s = c.in-Ok-attach.store in
    let e = c.in-Ok-attach.ensures in
    let b = c.boot.ensures in
    let k = server_keeping c.args.node in
    let node : s.node ≡ c.args.node = ap (λ (t : Store (Fused g.row.D.Denot)). t.node) e.rest in
    let is : old ≡ c.args.resting = ap (λ (d : g.row.D.Denot). record { disk = d; mark = c.resting.inside.mark }) (ap (λ (f : Fused g.row.D.Denot). f.disk) c.new.ensures) ∙ c.resting.view_is in
    subst (λ (x : Resting g.row.D.Denot). IsSome (g.D.Disk.seen x.disk) → IsStarted g.D.Disk c.args.node c.args.now c.args.clients x c.boot.result) is
    (taken_up k (server_fits c.args.node) g.D.Disk old server_sight c.args.now c.args.clients (recorded s) c.in-Ok-attach.front c.boot.result (record {
      shows = λ d bytes told. g.met.D.Disk.leaves d 1 bytes (g.met.D.Disk.shows d ∙ told);
      stands = λ bytes told. e.stands bytes told;
      lines_are = λ bytes told. e.lines bytes told;
      rests = λ bytes told. let r = e.at_rest bytes told in record { now = r.now; stands = r.stands; fit = r.fit; durable = r.durable };
      counted = λ bytes told. e.count bytes told;
      capacity = e.capacity;
      quiet = e.quiet.1;
      boots = subst (λ (n : Node). (begun : Begun NodeState) (records : List (List ℕ)) → IsFound (server_keeping n) g.D.Disk begun records c.in-Ok-attach.front (recorded s) → BootsFrom g.D.Disk begun records n c.args.now c.args.clients s.disk.disk c.boot.result) node b.boots;
      unchanged = λ d is. (
        subst (λ (x : Start (ServerRunning g.row.D.Denot) (Resting g.row.D.Denot)). GoesOnBooted s old.mark x) is b.goes_on,
        subst (λ (x : Start (ServerRunning g.row.D.Denot) (Resting g.row.D.Denot)). g.D.Disk.limit (disk_started x) ≡ g.D.Disk.limit old.disk) is (b.limit ∙ e.limit),
      );
    }))

pub returns-in-Err-clause-started : goal.returns-in-Err-clause-started
returns-in-Err-clause-started g c =
    let fuse = c.new.result in
    let old : Resting g.row.D.Denot = record { disk = fuse.disk; mark = c.resting.inside.mark } in
    let new : Resting g.row.D.Denot = record { disk = c.into_inner.result; mark = c.resting.inside.mark } in
    let e = c.in-Err.ensures in
    let is : old ≡ c.args.resting = ap (λ (d : g.row.D.Denot). record { disk = d; mark = c.resting.inside.mark }) (ap (λ (f : Fused g.row.D.Denot). f.disk) c.new.ensures) ∙ c.resting.view_is in
    let inner : new.disk ≡ c.in-Err.fuse.disk = c.into_inner.ensures in
    subst (λ (x : Resting g.row.D.Denot). IsSome (g.D.Disk.seen x.disk) → IsStarted g.D.Disk c.args.node c.args.now c.args.clients x c.refused.result) is
    (refused_so (server_keeping c.args.node) (server_fits c.args.node) g.D.Disk old g.met.D.Disk.counts_now c.in-Err.refusal new
    (subst (λ (d : g.row.D.Denot). Refused (server_keeping c.args.node) g.D.Disk c.in-Err.refusal old (record { disk = d; mark = c.resting.inside.mark })) (sym inner) (record {
      shows = λ bytes told. g.met.D.Disk.leaves old.disk 1 bytes (g.met.D.Disk.shows old.disk ∙ told);
      reads = λ bytes now told held. e.reads bytes now told held;
      mark = refl;
      same_limit = e.limit;
      told = e.told.0;
      leaves = λ bytes told.
          let only = e.any_moment bytes told in
          record { later = only.later; each = only.each; before = only.before };
      refusals_are = e.refusals;
      bad = λ number is bytes told. e.bad number is bytes told;
      failed = own_cause (record { stop = fuse.stop; fail = fuse.fail }) c.in-Err.fuse.calls _ _ _ _ c.in-Err.refusal (ap (λ (f : Fused g.row.D.Denot). f.stop) c.new.ensures) (ap (λ (f : Fused g.row.D.Denot). f.fail) c.new.ensures) e.err.1;
    })) server_sight c.args.now c.args.clients c.refused.result (subst (λ (ls : List Line). IsRefused c.in-Err.refusal new ls c.refused.result) c.in-Ok.ensures c.refused.ensures))

pub returns-in-Ok-attach-clause-over : goal.returns-in-Ok-attach-clause-over
returns-in-Ok-attach-clause-over g c =
    let fuse = c.new.result in
    let old : Resting g.row.D.Denot = record { disk = fuse.disk; mark = c.resting.inside.mark } in
    let s = c.in-Ok-attach.store in
    let e = c.in-Ok-attach.ensures in
    let is : old ≡ c.args.resting = ap (λ (d : g.row.D.Denot). record { disk = d; mark = c.resting.inside.mark }) (ap (λ (f : Fused g.row.D.Denot). f.disk) c.new.ensures) ∙ c.resting.view_is in
    let node = ap (λ (t : Store (Fused g.row.D.Denot)). t.node) e.rest in
    subst (λ (x : Resting g.row.D.Denot). StartsOver g.D.Disk c.args.node c.args.now c.args.clients x c.boot.result) is
    (boots_over (server_keeping c.args.node) server_sight g.D.Disk (node_start c.args.node c.args.now c.args.clients) old (recorded s) c.in-Ok-attach.front e.capacity c.boot.result
    (subst (λ (before : ℕ). BootsOver g.D.Disk s.durable c.in-Ok-attach.front c.args.node c.args.now c.args.clients before c.boot.result) e.quiet.1
    (subst (λ (n : Node). BootsOver g.D.Disk s.durable c.in-Ok-attach.front n c.args.now c.args.clients (g.D.Disk.faults s.disk.disk) c.boot.result) node c.boot.ensures.over)))

pub returns-in-Err-clause-over : goal.returns-in-Err-clause-over
returns-in-Err-clause-over g c =
    let fuse = c.new.result in
    let old : Resting g.row.D.Denot = record { disk = fuse.disk; mark = c.resting.inside.mark } in
    let new : Resting g.row.D.Denot = record { disk = c.into_inner.result; mark = c.resting.inside.mark } in
    let e = c.in-Err.ensures in
    let is : old ≡ c.args.resting = ap (λ (d : g.row.D.Denot). record { disk = d; mark = c.resting.inside.mark }) (ap (λ (f : Fused g.row.D.Denot). f.disk) c.new.ensures) ∙ c.resting.view_is in
    let inner : new.disk ≡ c.in-Err.fuse.disk = c.into_inner.ensures in
    subst (λ (x : Resting g.row.D.Denot). StartsOver g.D.Disk c.args.node c.args.now c.args.clients x c.refused.result) is
    (refused_over (server_keeping c.args.node) server_sight g.D.Disk (node_start c.args.node c.args.now c.args.clients) old new c.in-Err.refusal (λ number is bytes told. e.bad number is bytes told)
    (λ failed. subst (λ (d : g.row.D.Denot). Rose (g.D.Disk.faults old.disk) (g.D.Disk.faults d)) (sym inner)
    (own_cause (record { stop = fuse.stop; fail = fuse.fail }) c.in-Err.fuse.calls _ _ _ _ c.in-Err.refusal (ap (λ (f : Fused g.row.D.Denot). f.stop) c.new.ensures) (ap (λ (f : Fused g.row.D.Denot). f.fail) c.new.ensures) e.err.1 failed)) refl e.refusals
    (λ memory. ap g.D.Disk.faults inner ∙ own_quiet (record { stop = fuse.stop; fail = fuse.fail }) c.in-Err.fuse.calls _ _ _ _ c.in-Err.refusal e.err.1 memory)
    c.refused.result (subst (λ (ls : List Line). IsRefused c.in-Err.refusal new ls c.refused.result) c.in-Ok.ensures c.refused.ensures))
