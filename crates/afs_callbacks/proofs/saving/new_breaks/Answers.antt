use Rattle.std.proofs.Common.{◌≡◌, rules, arith, subst, sym}
use Rattle.std.specs.List.{All}
use Rattle.spec_breaks.specs.Promises.{owes_from}
use Rattle.afs_server_parts.specs.Turning.{IsBreakToNode}
use Rattle.afs_callbacks.proofs.Withdrawn.{owes_to_nodes}
use Rattle.afs_callbacks.proofs.saving.new_breaks.Goals as goal

pub owe_each-requires : goal.owe_each-requires
owe_each-requires c =
    let last : c.last.result ≡ c.args.promises.now.last_owed = search rules in
    let draws = c.requires.draws in
    omega (arith, last, draws)

pub returns-clause-nodes : goal.returns-clause-nodes
returns-clause-nodes c =
    let owes : c.owe_each.new.owed.items ≡ owes_from c.args.promises.now.last_owed c.args.withdrawn.now = search rules in
    subst (All IsBreakToNode) (sym owes) (owes_to_nodes c.args.promises.now.last_owed c.args.withdrawn.now c.requires.promised)
