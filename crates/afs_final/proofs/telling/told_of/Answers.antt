use Rattle.std.proofs.Common.{◌≤◌, ap, map, drop, length, drop_of_length-le, rules}
use Rattle.afs_final.specs.Reading.{part}
use Rattle.afs_final.proofs.Places.{all_told}
use Rattle.afs_final.proofs.telling.told_of.Goals as goal

pub returns : goal.returns
returns g c =
    let all : length c.args.left.now ≤ c.loop-i.i = search rules in
    all_told c.loop-i.i (map part c.args.left.now) (map part (drop c.loop-i.i c.args.left.now)) _ (ap (map part) (drop_of_length-le c.args.left.now all)) c.loop-i.invariant
