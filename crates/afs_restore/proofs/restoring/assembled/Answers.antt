use Rattle.std.proofs.Common.{List, Option, IfSome, subst, arith}
use Rattle.spec_ideal.specs.Images.{Image}
use Rattle.afs_restore.specs.Filling.{AreMade}
use Rattle.afs_restore.proofs.Made.{made_ascend, made_few, made_fit}
use Rattle.afs_restore.proofs.restoring.assembled.Goals as goal

pub of-requires-clause-ascends : goal.of-requires-clause-ascends
of-requires-clause-ascends c =
    let made : AreMade c.args.live.now c.in-Some.vnodes = subst (λ (o : Option (List Image)). IfSome o (AreMade c.args.live.now)) c.in-Some.is c.requires.made in
    made_ascend 0 c.args.live.now c.in-Some.vnodes c.requires.listed.ascends made

pub of-requires-clause-few : goal.of-requires-clause-few
of-requires-clause-few c =
    let made : AreMade c.args.live.now c.in-Some.vnodes = subst (λ (o : Option (List Image)). IfSome o (AreMade c.args.live.now)) c.in-Some.is c.requires.made in
    let many = made_few c.args.live.now c.in-Some.vnodes made in
    let few = c.requires.listed.few in
    omega (arith, many, few)

pub of-requires-clause-fits : goal.of-requires-clause-fits
of-requires-clause-fits c =
    let made : AreMade c.args.live.now c.in-Some.vnodes = subst (λ (o : Option (List Image)). IfSome o (AreMade c.args.live.now)) c.in-Some.is c.requires.made in
    made_fit c.args.live.now c.in-Some.vnodes made
