use Rattle.std.proofs.Common.{arith, refl, ◌≡◌, length}
use Rattle.afs_cell.proofs.Since.{lets_go}
use Rattle.afs_cell.proofs.world.World.let_go.Goals as goal

pub returns : goal.returns
returns g c =
    let measured : c.len.result ≡ length c.self.inside.history.items = omega (arith, c.len.ensures, c.self.inside.history.ok) in
    lets_go c.args.settled _ c.args.self.now c.self.view_is c.len.result measured c.count.result c.count.ensures.count _ c.clear.ensures.items _ _ refl refl c.let_go.ensures
