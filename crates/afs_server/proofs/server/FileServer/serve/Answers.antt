use Rattle.std.proofs.Common.{◌≡◌, true, rules}
use Rattle.std.proofs.lemmas.Result.{IfOk-weaker}
use Rattle.afs_decisions.specs.Deciding.{is_on_volume, IsDecision}
use Rattle.afs_server.specs.Handling.{holds_seen, server_seen}
use Rattle.afs_decisions.proofs.Admitting.{volume_serves}
use Rattle.afs_decisions.specs.declared.decided.Decided.{Decided}
use Rattle.afs_server.proofs.server.FileServer.serve.Goals as goal
use Rattle.spec_ideal.specs.Operations.{the_user, volume_called}
use Rattle.spec_volrows.specs.FileRow.{file_volume}

pub returns-then-is_on_volume : goal.returns-then-is_on_volume
returns-then-is_on_volume g c =
    let state = server_seen c.args.self.now c.args.store.now in
    let now = c.args.now in
    let head = c.args.head.now in
    let user = c.args.user.now in
    let call = c.args.call.now in
    let on : is_on_volume call ≡ true = search rules in
    IfOk-weaker _ _ _
    (λ (d : Decided) (h : IsDecision state now head (file_volume (holds_seen c.args.store.now) state now head (the_user user) call (volume_called call)) d). record {
      decides = volume_serves (holds_seen c.args.store.now) state now head user call d on h.decides;
      told = h.told;
      fits = h.fits;
    })
    c.with_volume.ensures
