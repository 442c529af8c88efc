use Rattle.std.proofs.Common.{◌≡◌, false, rules}
use Rattle.afs_voldecisions.specs.Verdicts.{is_clone, is_outside}
use Rattle.afs_voldecisions.proofs.Deciding.{begins_in, clones_on, creates_on, others_on}
use Rattle.afs_voldecisions.proofs.verdicts.judged.Goals as goal

pub returns-in-CreateVolume : goal.returns-in-CreateVolume
returns-in-CreateVolume c =
    creates_on c.args.ts.now.table c.args.ts.now.last c.args.stamp c.args.has_room c.args.listed c.args.named c.args.held c.creates.result c.args.call.now c.is_some.result c.last.result _ _ _ _ _ _ c.in-CreateVolume.is c.is_some.ensures c.last.ensures
    c.creates.ensures

pub returns-in-TransCreate : goal.returns-in-TransCreate
returns-in-TransCreate c =
    begins_in c.args.ts.now.table c.args.ts.now.last c.args.stamp c.args.has_room c.args.listed c.args.named c.args.held c.begins_on.result c.args.call.now _ _ _ c.in-TransCreate.is c.begins_on.ensures

pub returns-in-Clone : goal.returns-in-Clone
returns-in-Clone c =
    clones_on c.args.ts.now.table c.args.ts.now.last c.args.stamp c.args.has_room c.args.listed c.args.named c.args.held c.clones_new.result c.args.call.now c.clones_new.ensures

pub returns-in_default : goal.returns-in_default
returns-in_default c =
    let inside : is_outside c.args.call.now ≡ false = search rules in
    let other : is_clone c.args.call.now ≡ false = search rules in
    others_on c.args.ts.now.table c.args.ts.now.last c.args.stamp c.args.has_room c.args.listed c.args.named c.args.held c.in_transaction.result c.args.call.now inside other c.in_transaction.ensures
