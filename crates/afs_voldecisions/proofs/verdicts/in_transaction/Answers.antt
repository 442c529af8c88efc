use Rattle.std.proofs.Common.{◌≡◌, rules, Some}
use Rattle.spec_volrows.specs.VolRow.{family_of, found}
use Rattle.afs_voldecisions.specs.Verdicts.{number_in}
use Rattle.afs_voldecisions.proofs.Deciding.{found_decides}
use Rattle.afs_voldecisions.proofs.verdicts.in_transaction.Goals as goal

pub returns-in-Some : goal.returns-in-Some
returns-in-Some c =
    let call = c.args.call.now in
    let is : found (family_of call) (number_in call) c.args.ts.now.table ≡ Some c.in-Some.transaction.now = search rules in
    found_decides c.in_its_volume.result c.args.ts.now.table call c.args.has_room c.args.named c.args.held c.in-Some.transaction.now is c.in_its_volume.ensures
