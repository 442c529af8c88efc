use Rattle.std.proofs.Common.{◌≡◌, sym, subst, ap, ◌∙◌, ℕ}
use Rattle.spec_rows.specs.LocRow as rows
use Rattle.afs_locdb.specs.Deciding.{lasting_seen, CanBeTold}
use Rattle.afs_locdb.specs.Seen.{lasting_of, loc_seen}
use Rattle.afs_locdb.proofs.Decides.{made_in, op_here}
use Rattle.afs_locdb.proofs.database.LocDb.serve.Goals as goal

pub returns-clause-decides : goal.returns-clause-decides
returns-clause-decides g c =
    let b = c.args.self.now in
    let here = op_here c.args.head.now.stamp c.args.call.now c.held.result.now b.store.durable.journal (g.D.Disk.limit b.store.disk) b.store.durable c.held.ensures in
    c.decided.ensures.decides (loc_seen b) c.args.head.now ∙ ap (rows.decided (loc_seen b) c.args.head.now) (c.in_ok-outcome.ensures.value ∙ here)

pub returns-clause-told : goal.returns-clause-told
returns-clause-told g c = subst (λ (n : ℕ). CanBeTold n c.decided.result) (sym c.requires.opcode) (c.decided.ensures.told _ c.in_ok-outcome.ensures.told)

pub returns-clause-made : goal.returns-clause-made
returns-clause-made g c =
    let b = c.args.self.now in
    let here = op_here c.args.head.now.stamp c.args.call.now c.held.result.now b.store.durable.journal (g.D.Disk.limit b.store.disk) b.store.durable c.held.ensures in
    made_in (loc_seen b) c.args.head.now.stamp c.args.call.now c.decided.result c.in_ok-outcome.outcome c.decided.ensures.change (c.in_ok-outcome.ensures.value ∙ here)
