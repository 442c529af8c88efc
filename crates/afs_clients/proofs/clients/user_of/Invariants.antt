use Rattle.std.proofs.Common.{◌≡◌, codes, drop}
use Rattle.spec_rows.specs.Runs.{user_in}
use Rattle.afs_clients.proofs.clients.user_of.Given as goal

abbrev pub invariant-loop-line : goal.invariant-loop-line
invariant-loop-line l = user_in l.client l.user (drop l.line-index l.users) ≡ user_in l.client (codes "guest") l.users
