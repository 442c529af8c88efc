use Rattle.std.proofs.Common.{subst, arith, ◌≡◌, length, None}
use Rattle.std.specs.Prelude.{IfNone}
use Rattle.afs_num.specs.Places.{at_place}
use Rattle.afs_clients.specs.Places.{Room}
use Rattle.afs_clients.proofs.Numbers.{none_found}
use Rattle.afs_clients.proofs.places.Places.find.Goals as goal

pub returns-clause-none : goal.returns-clause-none
returns-clause-none g c =
    let same : c.len.result ≡ length c.self.inside.items.items = omega (arith, c.len.ensures, c.self.inside.items.ok) in
    subst (λ (old : Room g.row.T.Denot). IfNone c.index.result (at_place old.items c.args.number ≡ None)) c.self.view_is
    (none_found c.self.inside.items.items c.args.number c.len.result c.index.result same c.index.ensures.none)
