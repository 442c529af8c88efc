use Rattle.std.proofs.Common.{◌≡◌, length}
use Rattle.afs_clients.specs.Seating.{AreFirstClients}
use Rattle.afs_clients.proofs.setup.clients_at_first.Given as goal

abbrev pub invariant-loop-before : goal.invariant-loop-before
invariant-loop-before l = record {
  first : AreFirstClients l.script 1 l.clients.items;
  count : length l.clients.items ≡ l.before;
}
