use Rattle.std.proofs.Common.{Some, sym, subst}
use Rattle.afs_callees.specs.Called.{IsGoodCall}
use Rattle.afs_callees.proofs.Calls.{good_put}
use Rattle.afs_server_parts.proofs.pumping.start.Goals as goal

pub returns-clause-good : goal.returns-clause-good
returns-clause-good c all = good_put c.args.oldest.now.client _ _ _ c.in_ok-set_call.ensures.calls all (record { callee = c.requires.client; few = c.in_ok-carried.ensures.few })
