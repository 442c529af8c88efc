use Rattle.std.proofs.Common.{ap, ◌≡◌, ◌+◌, ℕ, true}
use Rattle.afs_clients.specs.Happening.{ClientHears}
use Rattle.afs_clients.specs.Places.{put_place}
use Rattle.afs_clients.specs.declared.clients.ClientSeat.{ClientSeat}
use Rattle.afs_clients.proofs.Lifted.{client_changed, goes_from}
use Rattle.afs_clients.proofs.Numbers.{at_found}
use Rattle.afs_clients.proofs.giving.client_hears.Goals as goal

pub hear-requires-clause-node : goal.hear-requires-clause-node
hear-requires-clause-node c = (c.requires.ready c.args.client c.at.result.now (at_found c.args.clients.now.items c.args.client (c.in-Some.i + 1) c.at.result.now c.in-Some.ensures.some.0 c.at.ensures.value)).handed.node

pub hear-requires-clause-last : goal.hear-requires-clause-last
hear-requires-clause-last c = (c.requires.ready c.args.client c.at.result.now (at_found c.args.clients.now.items c.args.client (c.in-Some.i + 1) c.at.result.now c.in-Some.ensures.some.0 c.at.ensures.value)).last

pub returns : goal.returns
returns c = λ place.
    let found = (at_found c.args.clients.now.items c.args.client (c.in-Some.i + 1) c.at.result.now c.in-Some.ensures.some.0 c.at.ensures.value) in
    client_changed c.args.script.now c.args.client (λ (seat : ClientSeat). seat.is_away ≡ true) (ClientHears c.args.client c.args.now place c.args.bytes.now) c.args.clients.now.items c.at.result.now c.hear.new.self found
    (put_place (c.in-Some.i + 1) c.hear.new.self c.args.clients.now.items) c.hear.result (ap (λ (k : ℕ). put_place k c.hear.new.self c.args.clients.now.items) c.in-Some.ensures.some.0) (c.hear.ensures.happens place)
    (goes_from c.args.script.now c.args.client c.at.result.now c.hear.new.self c.hear.result (c.requires.ready c.args.client c.at.result.now found).handed c.hear.ensures.goes_on)
