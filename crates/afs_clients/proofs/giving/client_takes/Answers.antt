use Rattle.std.proofs.Common.{ap, ◌+◌, ℕ}
use Rattle.afs_clients.specs.Happening.{ClientTakes, IsVoidClient}
use Rattle.afs_clients.specs.Places.{put_place}
use Rattle.afs_clients.proofs.Lifted.{client_changed}
use Rattle.afs_clients.proofs.Numbers.{at_found}
use Rattle.afs_clients.proofs.giving.client_takes.Goals as goal

pub take-requires-clause-client : goal.take-requires-clause-client
take-requires-clause-client c = (c.requires.ready c.args.client c.at.result.now (at_found c.args.clients.now.items c.args.client (c.in-Some.i + 1) c.at.result.now c.in-Some.ensures.some.0 c.at.ensures.value)).number

pub take-requires-clause-handed : goal.take-requires-clause-handed
take-requires-clause-handed c = (c.requires.ready c.args.client c.at.result.now (at_found c.args.clients.now.items c.args.client (c.in-Some.i + 1) c.at.result.now c.in-Some.ensures.some.0 c.at.ensures.value)).handed

pub take-requires-clause-last : goal.take-requires-clause-last
take-requires-clause-last c = (c.requires.ready c.args.client c.at.result.now (at_found c.args.clients.now.items c.args.client (c.in-Some.i + 1) c.at.result.now c.in-Some.ensures.some.0 c.at.ensures.value)).last

pub take-requires-clause-epoch : goal.take-requires-clause-epoch
take-requires-clause-epoch c = (c.requires.ready c.args.client c.at.result.now (at_found c.args.clients.now.items c.args.client (c.in-Some.i + 1) c.at.result.now c.in-Some.ensures.some.0 c.at.ensures.value)).epoch

pub returns : goal.returns
returns c =
    client_changed c.args.script.now c.args.client (IsVoidClient c.args.given) (ClientTakes c.args.script.now c.args.client c.args.now c.args.given) c.args.clients.now.items c.at.result.now c.take.new.self (at_found c.args.clients.now.items c.args.client (c.in-Some.i + 1) c.at.result.now c.in-Some.ensures.some.0 c.at.ensures.value)
    (put_place (c.in-Some.i + 1) c.take.new.self c.args.clients.now.items) c.take.result (ap (λ (k : ℕ). put_place k c.take.new.self c.args.clients.now.items) c.in-Some.ensures.some.0) c.take.ensures.happens c.take.ensures.goes
