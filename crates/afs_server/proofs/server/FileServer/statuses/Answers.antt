use Rattle.std.proofs.Common.{◌≡◌, length}
use Rattle.spec_ideal.specs.Operations.{the_user}
use Rattle.spec_volrows.specs.FileRow.{file_sights}
use Rattle.afs_server.specs.Handling.{holds_seen, server_seen}
use Rattle.afs_decisions.proofs.Sights.{told_can_be_told, told_decides, told_fits}
use Rattle.afs_sharing.specs.Lasting.{lasting_of}
use Rattle.afs_server.proofs.server.FileServer.statuses.Goals as goal

pub returns : goal.returns
returns g c =
    let caller = the_user c.args.user.now in
    let count = length c.args.fids.now in
    let seen = file_sights (holds_seen c.args.store.now) (lasting_of c.args.store.now.durable) caller c.args.fids.now in
    let x = c.see_all-told.result in
    let d = c.in_ok-decided.decided in
    let sees = c.see_all-told.ensures in
    let is = c.in_ok-decided.ensures in
    record {
      decides = told_decides (server_seen c.args.self.now c.args.store.now) c.args.now c.args.head.now caller count seen x d sees is;
      told = told_can_be_told caller count c.args.head.now.opcode seen x d c.requires.few c.requires.opcode sees is;
      fits = told_fits caller count seen x d c.requires.few sees is;
    }
