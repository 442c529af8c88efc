use Rattle.std.proofs.Common.{◌≡◌, Ok, rules, arith}
use Rattle.spec_ideal.specs.Directories.{directory_of}
use Rattle.spec_ideal.proofs.DirectoryBytes.{read_is_spelled}
use Rattle.afs_volume.proofs.finding.names_spelled.Goals as goal

pub returns-in-Ok-clause-few : goal.returns-in-Ok-clause-few
returns-in-Ok-clause-few c =
    let read : directory_of c.args.bytes.now ≡ Ok c.in-Ok.names = search rules in
    (read_is_spelled c.args.bytes.now c.in-Ok.names (λ i. omega (arith, c.type_inv.bytes i)) read).0.few
