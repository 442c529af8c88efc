use Rattle.std.proofs.Common.{◌≡◌, true, rules, arith}
use Rattle.afs_journal.specs.Records.{is_whole}
use Rattle.afs_journal.proofs.Records.{starts}
use Rattle.afs_journal.proofs.scan.first.Goals as goal

pub returns-clause-some : goal.returns-clause-some
returns-clause-some c =
    let held : is_whole c.args.number c.args.bytes.now ≡ true = search rules in
    rw (c.split_at-2.ensures.front, c.split_at-2.ensures.back, c.split_at.ensures.back, c.word-size.ensures) (starts c.args.number c.args.bytes.now (λ i. omega (arith, c.type_inv.bytes i)) held)
