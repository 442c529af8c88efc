use Rattle.std.proofs.Common.{◌≡◌, Ok, rules, arith}
use Rattle.spec_ideal.specs.Directories.{directory_of}
use Rattle.spec_ideal.proofs.DirectoryBytes.{read_is_spelled}
use Rattle.afs_dir.proofs.dir.Dir.from_bytes.Goals as goal

pub returns-in-Ok-clause-spelled : goal.returns-in-Ok-clause-spelled
unfolding directory_of
returns-in-Ok-clause-spelled c =
    let read : directory_of c.args.bytes.now ≡ Ok c.in-Ok.names.items = search rules in
    (read_is_spelled c.args.bytes.now c.in-Ok.names.items (λ i. omega (arith, c.type_inv.bytes i)) read).2
