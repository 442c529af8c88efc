use Rattle.std.specs.Prelude.{◌≡◌, ℕ, List, [], ◌∷◌, IsSome}
use Rattle.std.proofs.Common.{refl, ap, sym, subst, ◌∙◌}
use Rattle.afs_num.specs.declared.types.Node.TheVariants.{Loc}
use Rattle.spec_history.specs.declared.lines.Line.{Line}
use Rattle.spec_history.specs.declared.lines.Line.TheVariants as lines
use Rattle.afs_disk.specs.Disk.{Rose}
use Rattle.afs_disk.specs.Fuses.{Fused}
use Rattle.spec_rows.specs.LocSteps.{loc_start_row}
use Rattle.afs_host.specs.LocStanding.{loc_keeping}
use Rattle.afs_host.specs.LocStarting.{loc_disk_started, loc_sight, IsLocStarted, LocBootsOver, LocGoesOnBooted, LocStart, LocStartsOver}
use Rattle.afs_host.specs.Seats.{Resting}
use Rattle.afs_host.specs.Starting.{IsRefused}
use Rattle.afs_host.proofs.LocRising.{loc_begun_so, loc_fits, loc_starts_over}
use Rattle.afs_host.proofs.Started.{boots_over, own_cause, own_quiet, refused_over, refused_so, taken_up, Refused, TakenUp}
use Rattle.afs_host.proofs.resting.Resting.start_database.Goals as goal

pub returns-in-Ok-attach-clause-started : goal.returns-in-Ok-attach-clause-started
returns-in-Ok-attach-clause-started g c =
    let fuse = c.new.result in
    let old : Resting g.row.D.Denot = record { disk = fuse.disk; mark = c.self.inside.mark } in
    let e = c.in-Ok-attach.ensures in
    let a = e.attached in
    let b = c.boot.ensures in
    let is : old ≡ c.args.self = ap (λ (d : g.row.D.Denot). record { disk = d; mark = c.self.inside.mark }) (ap (λ (f : Fused g.row.D.Denot). f.disk) c.new.ensures) ∙ c.self.view_is in
    let taken : TakenUp loc_keeping loc_sight g.D.Disk loc_start_row old c.in-Ok-attach.store.store c.in-Ok-attach.front c.boot.result = record {
      shows = λ d bytes told. g.met.D.Disk.leaves d 1 bytes (g.met.D.Disk.shows d ∙ told);
      stands = λ bytes told. a.stands bytes told;
      lines_are = λ bytes told. e.lines bytes told;
      rests = λ bytes told. let r = a.at_rest bytes told in record { now = r.now; stands = r.stands; fit = r.fit; durable = r.durable };
      counted = λ bytes told. a.count bytes told;
      capacity = a.capacity;
      quiet = e.quiet.1;
      boots = b.boots;
      unchanged = λ d is. (
        subst (λ (x : LocStart g.row.D.Denot). LocGoesOnBooted c.in-Ok-attach.store old.mark x) is b.goes_on,
        subst (λ (x : LocStart g.row.D.Denot). g.D.Disk.limit (loc_disk_started x) ≡ g.D.Disk.limit old.disk) is (b.limit ∙ e.disk.same_limit),
      );
    } in
    subst (λ (x : Resting g.row.D.Denot). IsSome (g.D.Disk.seen x.disk) → IsLocStarted g.D.Disk x c.boot.result) is
    (λ told. loc_begun_so g.D.Disk old c.boot.result (λ clock count. taken_up loc_keeping loc_fits g.D.Disk old loc_sight clock count c.in-Ok-attach.store.store c.in-Ok-attach.front c.boot.result taken told)
    (λ d is. subst (λ (x : LocStart g.row.D.Denot). LocGoesOnBooted c.in-Ok-attach.store old.mark x) is b.goes_on))

pub returns-in-Err-clause-started : goal.returns-in-Err-clause-started
returns-in-Err-clause-started g c =
    let fuse = c.new.result in
    let old : Resting g.row.D.Denot = record { disk = fuse.disk; mark = c.self.inside.mark } in
    let new : Resting g.row.D.Denot = record { disk = c.into_inner.result; mark = c.self.inside.mark } in
    let e = c.in-Err.ensures in
    let is : old ≡ c.args.self = ap (λ (d : g.row.D.Denot). record { disk = d; mark = c.self.inside.mark }) (ap (λ (f : Fused g.row.D.Denot). f.disk) c.new.ensures) ∙ c.self.view_is in
    let inner : new.disk ≡ c.in-Err.fuse.disk = c.into_inner.ensures in
    let refused = subst (λ (d : g.row.D.Denot). Refused loc_keeping g.D.Disk c.in-Err.refusal old (record { disk = d; mark = c.self.inside.mark })) (sym inner) (record {
      shows = λ bytes told. g.met.D.Disk.leaves old.disk 1 bytes (g.met.D.Disk.shows old.disk ∙ told);
      reads = λ bytes now told held. e.reads bytes now told held;
      mark = refl;
      same_limit = e.disk.same_limit;
      told = e.disk.told.0;
      leaves = λ bytes told.
          let only = e.disk.any_moment bytes told in
          record { later = only.later; each = only.each; before = only.before };
      refusals_are = e.attached.refusal;
      bad = λ number is bytes told. e.attached.bad number is bytes told;
      failed = own_cause (record { stop = fuse.stop; fail = fuse.fail }) c.in-Err.fuse.calls _ _ _ _ c.in-Err.refusal (ap (λ (f : Fused g.row.D.Denot). f.stop) c.new.ensures) (ap (λ (f : Fused g.row.D.Denot). f.fail) c.new.ensures) e.attached.caused;
    }) in
    let so = subst (λ (ls : List Line). IsRefused c.in-Err.refusal new ls c.refused.result) c.in-Ok.ensures c.refused.ensures in
    subst (λ (x : Resting g.row.D.Denot). IsSome (g.D.Disk.seen x.disk) → IsLocStarted g.D.Disk x c.refused.result) is
    (λ told. loc_begun_so g.D.Disk old c.refused.result (λ clock count. refused_so loc_keeping loc_fits g.D.Disk old g.met.D.Disk.counts_now c.in-Err.refusal new refused loc_sight clock count c.refused.result so told)
    (λ d is. subst (λ (x : LocStart g.row.D.Denot). IsRefused c.in-Err.refusal new (lines.Fault Loc ∷ []) x) is so))

pub returns-in-Ok-attach-clause-over : goal.returns-in-Ok-attach-clause-over
returns-in-Ok-attach-clause-over g c =
    let fuse = c.new.result in
    let old : Resting g.row.D.Denot = record { disk = fuse.disk; mark = c.self.inside.mark } in
    let store = c.in-Ok-attach.store in
    let e = c.in-Ok-attach.ensures in
    let is : old ≡ c.args.self = ap (λ (d : g.row.D.Denot). record { disk = d; mark = c.self.inside.mark }) (ap (λ (f : Fused g.row.D.Denot). f.disk) c.new.ensures) ∙ c.self.view_is in
    subst (λ (x : Resting g.row.D.Denot). LocStartsOver g.D.Disk x c.boot.result) is
    (loc_starts_over g.D.Disk old c.boot.result (boots_over loc_keeping loc_sight g.D.Disk loc_start_row old store.store c.in-Ok-attach.front e.attached.capacity c.boot.result
    (subst (λ (before : ℕ). LocBootsOver g.D.Disk store.store.durable c.in-Ok-attach.front before c.boot.result) e.quiet.1 c.boot.ensures.over)))

pub returns-in-Err-clause-over : goal.returns-in-Err-clause-over
returns-in-Err-clause-over g c =
    let fuse = c.new.result in
    let old : Resting g.row.D.Denot = record { disk = fuse.disk; mark = c.self.inside.mark } in
    let new : Resting g.row.D.Denot = record { disk = c.into_inner.result; mark = c.self.inside.mark } in
    let e = c.in-Err.ensures in
    let is : old ≡ c.args.self = ap (λ (d : g.row.D.Denot). record { disk = d; mark = c.self.inside.mark }) (ap (λ (f : Fused g.row.D.Denot). f.disk) c.new.ensures) ∙ c.self.view_is in
    let inner : new.disk ≡ c.in-Err.fuse.disk = c.into_inner.ensures in
    subst (λ (x : Resting g.row.D.Denot). LocStartsOver g.D.Disk x c.refused.result) is
    (loc_starts_over g.D.Disk old c.refused.result (refused_over loc_keeping loc_sight g.D.Disk loc_start_row old new c.in-Err.refusal (λ number is bytes told. e.attached.bad number is bytes told)
    (λ failed. subst (λ (d : g.row.D.Denot). Rose (g.D.Disk.faults old.disk) (g.D.Disk.faults d)) (sym inner)
    (own_cause (record { stop = fuse.stop; fail = fuse.fail }) c.in-Err.fuse.calls _ _ _ _ c.in-Err.refusal (ap (λ (f : Fused g.row.D.Denot). f.stop) c.new.ensures) (ap (λ (f : Fused g.row.D.Denot). f.fail) c.new.ensures) e.attached.caused failed)) refl e.attached.refusal
    (λ memory. ap g.D.Disk.faults inner ∙ own_quiet (record { stop = fuse.stop; fail = fuse.fail }) c.in-Err.fuse.calls _ _ _ _ c.in-Err.refusal e.attached.caused memory)
    c.refused.result (subst (λ (ls : List Line). IsRefused c.in-Err.refusal new ls c.refused.result) c.in-Ok.ensures c.refused.ensures)))
