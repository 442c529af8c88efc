use Rattle.std.proofs.Common.{subst, sym}
use Rattle.spec_ideal.specs.Images.{Image}
use Rattle.afs_restore.specs.Filling.{IsMade}
use Rattle.afs_restore.proofs.restoring.kept.Goals as goal

pub returns-in_ok-x-in-Some-clause-given : goal.returns-in_ok-x-in-Some-clause-given
returns-in_ok-x-in-Some-clause-given c =
    let made : IsMade c.args.pair c.in-Some.x.now = record {
      number = c.in-Some.ensures.number;
      fits = c.in-Some.ensures.fits;
      readable = c.requires c.args.pair.0 c.in-Some.x.now (sym c.in-Some.ensures.value);
    } in
    subst (λ (x : Image). IsMade c.args.pair x) (sym c.in_ok-x-in-Some.ensures) made
