use Rattle.std.proofs.Common.{ap, ◌∙◌}
use Rattle.afs_callees.specs.Called.{call_to, known_to}
use Rattle.afs_callees.proofs.Calls.{calls_after, known_after}
use Rattle.afs_callees.proofs.callees.put_callee.Goals as goal

pub returns-clause-calls : goal.returns-clause-calls
returns-clause-calls g c = ap call_to c.put_last.ensures.items ∙ calls_after c.args.callee c.args.callees.now.items

pub returns-clause-known : goal.returns-clause-known
returns-clause-known g c = ap known_to c.put_last.ensures.items ∙ known_after c.args.callee c.args.callees.now.items
