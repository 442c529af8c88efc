use Rattle.std.proofs.Common.{◌≡◌, false, rules}
use Rattle.spec_ideal.specs.Operations.{the_user}
use Rattle.afs_reads.specs.Replying.{is_reading}
use Rattle.afs_decisions.proofs.Decisions.{changing_else, in_any}
use Rattle.afs_decisions.proofs.deciding.in_found.Goals as goal

pub change_in-requires-clause-changing : goal.change_in-requires-clause-changing
change_in-requires-clause-changing c =
    let else_reads : is_reading c.args.call.now ≡ false = search rules in
    changing_else c.args.call.now c.args.volume.now.head.id c.requires.on else_reads

pub returns-then-is_reading : goal.returns-then-is_reading
returns-then-is_reading c = in_any c.args.now c.args.head.now (the_user c.args.user.now) c.args.call.now c.args.volume.now c.read_in.result c.read_in.ensures.decides c.read_in.ensures.told c.read_in.ensures.fits
