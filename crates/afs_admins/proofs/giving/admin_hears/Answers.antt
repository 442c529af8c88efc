use Rattle.std.proofs.Common.{ap, ◌≡◌, ◌+◌, ℕ, true}
use Rattle.afs_clients.specs.Places.{put_place}
use Rattle.afs_clients.proofs.Numbers.{at_found}
use Rattle.afs_admins.specs.Happening.{AdminHears}
use Rattle.afs_admins.specs.declared.admins.AdminSeat.{AdminSeat}
use Rattle.afs_admins.proofs.Lifted.{admin_changed, goes_from}
use Rattle.afs_admins.proofs.giving.admin_hears.Goals as goal

pub hear-requires-clause-node : goal.hear-requires-clause-node
hear-requires-clause-node c = (c.requires.ready c.args.admin c.at.result.now (at_found c.args.admins.now.items c.args.admin (c.in-Some.i + 1) c.at.result.now c.in-Some.ensures.some.0 c.at.ensures.value)).seated.node

pub hear-requires-clause-last : goal.hear-requires-clause-last
hear-requires-clause-last c = (c.requires.ready c.args.admin c.at.result.now (at_found c.args.admins.now.items c.args.admin (c.in-Some.i + 1) c.at.result.now c.in-Some.ensures.some.0 c.at.ensures.value)).last

pub returns : goal.returns
returns c = λ place.
    let found = (at_found c.args.admins.now.items c.args.admin (c.in-Some.i + 1) c.at.result.now c.in-Some.ensures.some.0 c.at.ensures.value) in
    admin_changed c.args.script.now c.args.admin (λ (seat : AdminSeat). seat.is_away ≡ true) (AdminHears c.args.admin place c.args.bytes.now) c.args.admins.now.items c.at.result.now c.hear.new.self found
    (put_place (c.in-Some.i + 1) c.hear.new.self c.args.admins.now.items) c.hear.result (ap (λ (k : ℕ). put_place k c.hear.new.self c.args.admins.now.items) c.in-Some.ensures.some.0) (c.hear.ensures.happens place)
    (goes_from c.args.script.now c.args.admin c.at.result.now c.hear.new.self (c.requires.ready c.args.admin c.at.result.now found).seated c.hear.ensures.goes_on)
