use Rattle.std.proofs.Common.{ap, ◌+◌, ℕ}
use Rattle.afs_clients.specs.Places.{put_place}
use Rattle.afs_clients.proofs.Numbers.{at_found}
use Rattle.afs_admins.specs.Happening.{AdminTakes, IsVoidAdmin}
use Rattle.afs_admins.proofs.Lifted.{admin_changed}
use Rattle.afs_admins.proofs.giving.admin_takes.Goals as goal

pub take-requires-clause-admin : goal.take-requires-clause-admin
take-requires-clause-admin c = (c.requires.ready c.args.admin c.at.result.now (at_found c.args.admins.now.items c.args.admin (c.in-Some.i + 1) c.at.result.now c.in-Some.ensures.some.0 c.at.ensures.value)).number

pub take-requires-clause-seated : goal.take-requires-clause-seated
take-requires-clause-seated c = (c.requires.ready c.args.admin c.at.result.now (at_found c.args.admins.now.items c.args.admin (c.in-Some.i + 1) c.at.result.now c.in-Some.ensures.some.0 c.at.ensures.value)).seated

pub take-requires-clause-last : goal.take-requires-clause-last
take-requires-clause-last c = (c.requires.ready c.args.admin c.at.result.now (at_found c.args.admins.now.items c.args.admin (c.in-Some.i + 1) c.at.result.now c.in-Some.ensures.some.0 c.at.ensures.value)).last

pub take-requires-clause-epoch : goal.take-requires-clause-epoch
take-requires-clause-epoch c = (c.requires.ready c.args.admin c.at.result.now (at_found c.args.admins.now.items c.args.admin (c.in-Some.i + 1) c.at.result.now c.in-Some.ensures.some.0 c.at.ensures.value)).epoch

pub returns : goal.returns
returns c =
    admin_changed c.args.script.now c.args.admin (IsVoidAdmin c.args.given) (AdminTakes c.args.admin c.args.given) c.args.admins.now.items c.at.result.now c.take.new.self (at_found c.args.admins.now.items c.args.admin (c.in-Some.i + 1) c.at.result.now c.in-Some.ensures.some.0 c.at.ensures.value)
    (put_place (c.in-Some.i + 1) c.take.new.self c.args.admins.now.items) c.take.result (ap (λ (k : ℕ). put_place k c.take.new.self c.args.admins.now.items) c.in-Some.ensures.some.0) c.take.ensures.happens c.take.ensures.goes
