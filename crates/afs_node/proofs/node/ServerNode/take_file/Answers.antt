use Rattle.std.specs.Prelude.{◌+◌, ℕ}
use Rattle.std.proofs.Common.{ap, ◌∙◌}
use Rattle.afs_server.specs.Handling.{calls_served, decided_then, record_then, server_seen}
use Rattle.afs_node.proofs.Answered.{can_release, file_found, file_ok_serves, file_record_calls, file_steps, file_takes, on_map, on_ok}
use Rattle.afs_node.proofs.Stepped.{file_leaves, files_took}
use Rattle.afs_node.proofs.Whose.{of_client}
use Rattle.afs_node.proofs.node.ServerNode.take_file.Goals as goal

pub returns-clause-step : goal.returns-clause-step
returns-clause-step g c = λ place.
    let m = c.args.self.now in
    let s = c.args.store.now in
    file_takes m s c.args.now c.args.bytes.now c.requires.client c.requires.serves place (record m { file = c.handle.new.self }) c.handle.new.store c.handle.result
    (files_took m c.handle.new.self s c.handle.new.store c.args.now place (file_found m s c.args.now c.args.bytes.now) c.handle.result c.requires.serves.volumes.holds (c.handle.ensures.step place))

pub returns-clause-release : goal.returns-clause-release
returns-clause-release g c = on_ok c.handle.result _ (can_release c.args.self.now.vol c.args.store.now c.requires.room)

pub returns-clause-leaves : goal.returns-clause-leaves
returns-clause-leaves g c =
    let m = c.args.self.now in
    let s = c.args.store.now in
    let n = c.handle.new.self in
    let t = c.handle.new.store in
    let e = c.handle.ensures in
    let decided = record_then m.file s c.args.now c.args.bytes.now in
    let r = file_found m s c.args.now c.args.bytes.now in
    file_steps m s c.args.now c.args.bytes.now c.requires.client c.requires.serves g.D.Disk (record m { file = n }) t c.handle.result (record {
      leaves = file_leaves decided m n s t c.handle.result
          (file_ok_serves m n s t c.args.now r c.handle.result (of_client calls_served c.args.bytes.now c.requires.client) c.requires.serves (e.step 0) e.serves e.store) e.store e.kept e.draws;
      down = e.down;
      interrupted = e.interrupted;
      effects = e.effects;
      prepared = e.prepared;
      called = e.calls;
      disk = record {
        told = e.told;
        quiet = e.quiet;
        any_moment = e.any_moment;
        reached = e.reached;
        left = e.left;
        fits = e.fits;
        most = e.most;
        limited = e.limit;
        called = on_map c.handle.result _ _ (λ x. x ∙ ap (λ (k : ℕ). g.D.Disk.calls s.disk + k) (file_record_calls s.durable (server_seen m.file s) s.durable.boot c.args.now (decided_then m.file s c.args.now c.args.bytes.now))) e.calls;
        ran = e.ran;
        set = e.setting;
      };
    })
