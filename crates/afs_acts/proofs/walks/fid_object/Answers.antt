use Rattle.std.proofs.Common.{◌≡◌, Some, rules}
use Rattle.afs_acts.proofs.Coming.{fid_goes}
use Rattle.afs_acts.proofs.walks.fid_object.Goals as goal

pub returns-in-Some : goal.returns-in-Some
returns-in-Some c =
    let way = c.args.way.now in
    let known : c.args.home ≡ Some c.in-Some.field-0 = search rules in
    fid_goes c.args.home c.args.fid way.names way.fid way.behind c.args.rest.now c.in-Some.field-0 _ c.requires known c.ahead.ensures
