use Rattle.std.proofs.Common.{◌≡◌, ◌<◌, true, length, rules, arith}
use Rattle.afs_num.specs.Names.{name_ok}
use Rattle.afs_dir.proofs.Finding.{gap_fills}
use Rattle.afs_dir.proofs.dir.Dir.add.Goals as goal

pub invariant_of-self-2 : goal.invariant_of-self-2
invariant_of-self-2 c =
    let good : name_ok c.args.name.now ≡ true = search rules in
    let room : length c.self.inside.names.items < 1024 = omega arith in
    rw c.in_ok-insert.ensures.items (gap_fills c.args.name.now _ c.self.inside.names.items c.in-Err.place c.in_ok-name.ensures c.self.invariant (rw c.deref.ensures.value at c.in-Err.ensures.absent) good room)
