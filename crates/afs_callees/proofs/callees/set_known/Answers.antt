use Rattle.std.proofs.Common.{rules}
use Rattle.afs_callees.specs.Called.{call_to}
use Rattle.afs_callees.proofs.Calls.{put_same}
use Rattle.afs_callees.proofs.callees.set_known.Goals as goal

pub returns-clause-calls : goal.returns-clause-calls
returns-clause-calls g c =
    let same = put_same c.args.node (call_to c.args.callees.now.items) in
    search (rules, same)
