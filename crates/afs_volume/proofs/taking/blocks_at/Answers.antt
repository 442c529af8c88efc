use Rattle.std.proofs.Common.{◌≡◌, ◌∙◌, Some, None, rules}
use Rattle.spec_ideal.specs.Tables.{get}
use Rattle.afs_volume.proofs.Taken.{blocks_found, no_blocks}
use Rattle.afs_volume.proofs.taking.blocks_at.Goals as goal

pub blocks_of-requires : goal.blocks_of-requires
blocks_of-requires c =
    let there : get c.args.number c.args.vnodes.now.table ≡ Some c.in-Some.x.now = search rules in
    c.requires c.args.number c.in-Some.x.now there

pub returns-in-Some-clause-value : goal.returns-in-Some-clause-value
returns-in-Some-clause-value c =
    let there : get c.args.number c.args.vnodes.now.table ≡ Some c.in-Some.x.now = search rules in
    c.blocks_of.ensures.value ∙ blocks_found c.args.number c.args.vnodes.now.table c.in-Some.x.now there

pub returns-in-None-clause-value : goal.returns-in-None-clause-value
returns-in-None-clause-value c =
    let none : get c.args.number c.args.vnodes.now.table ≡ None = search rules in
    no_blocks c.args.number c.args.vnodes.now.table none
