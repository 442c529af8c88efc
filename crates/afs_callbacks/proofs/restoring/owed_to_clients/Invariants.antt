use Rattle.std.proofs.Common.{◌≡◌, ◌-◌, []}
use Rattle.std.specs.List.{All}
use Rattle.spec_breaks.specs.Promises.{no_lists}
use Rattle.spec_rows.specs.Callbacks.{owed_to_clients}
use Rattle.afs_server_parts.specs.Turning.{IsBreakToNode}
use Rattle.afs_callbacks.proofs.restoring.owed_to_clients.Given as goal

abbrev pub invariant-loop-before : goal.invariant-loop-before
invariant-loop-before l = record {
  lists : owed_to_clients l.expiry l.before (l.clients - l.before) l.promises ≡ owed_to_clients l.expiry 0 l.clients no_lists;
  promises : l.promises.promises ≡ [];
  last : l.promises.last_owed ≡ l.before;
  nodes : All IsBreakToNode l.promises.owed;
}
