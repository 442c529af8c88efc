use Rattle.std.specs.Prelude.{◌≡◌, ℕ, List, false}
use Rattle.std.proofs.Common.{refl, ap, sym, subst, ◌∙◌, inl}
use Rattle.afs_num.specs.declared.records.Mark.{Mark}
use Rattle.spec_rows.specs.Hosts.{at_rest}
use Rattle.spec_volrows.specs.VolStates.{NodeState}
use Rattle.afs_disk.specs.Disk.{LeavesJust}
use Rattle.afs_journal.specs.Records.{whole_records}
use Rattle.afs_host.specs.Standing.{LiesBefore}
use Rattle.afs_serverhost.specs.Standing.{server_keeping, Lies}
use Rattle.afs_host.proofs.Lying.{if_some, is_told, kept_before, left_image}
use Rattle.afs_serverhost.proofs.server.crash.Goals as goal

pub returns-clause-step : goal.returns-clause-step
returns-clause-step g c = λ h up.
    let self = c.args.running in
    let left = c.left_by.ensures in
    record {
      fall = at_rest;
      down = refl;
      armed = refl;
      capacity = ap (λ (s : NodeState). s.file.lasting.capacity) up.state ∙ (left.capacity ∙ sym left.limit);
      lies = λ told b l.
          subst (λ (mark : Mark). Lies self.store.node h.state at_rest mark b) (sym left.mark)
          (inl (kept_before (server_keeping self.store.node) self.store.durable self.store.count (g.D.Disk.seen self.store.disk.disk) (g.D.Disk.may_leave self.store.disk.disk) h.state (sym (ap (λ (s : NodeState). s.file.lasting) up.state))
          (left.kept c.requires.up) (left.counted c.requires.up) (left.told.0 told) b
          (left_image (g.D.Disk.seen c.left_by.result.disk) (g.D.Disk.may_leave self.store.disk.disk) (g.D.Disk.may_leave c.left_by.result.disk) left.image told b l)));
      found = λ b at. (
        false,
        (
          tt,
          subst (λ (mark : Mark). LiesBefore (server_keeping self.store.node) h.state mark (whole_records b)) (sym left.mark)
              (kept_before (server_keeping self.store.node) self.store.durable self.store.count (g.D.Disk.seen self.store.disk.disk) (g.D.Disk.may_leave self.store.disk.disk) h.state (sym (ap (λ (s : NodeState). s.file.lasting) up.state))
              (left.kept c.requires.up) (left.counted c.requires.up) (left.told.0 (is_told (g.D.Disk.seen c.left_by.result.disk) b at)) b
              (if_some (g.D.Disk.seen c.left_by.result.disk) (λ (bytes : List ℕ). g.D.Disk.may_leave self.store.disk.disk bytes × LeavesJust bytes (g.D.Disk.may_leave c.left_by.result.disk)) b at left.image).0),
        ),
      );
    }
