use Rattle.std.proofs.Common.{◌≡◌, ◌+◌, ◌-◌, ℕ, List, false, ap, ◌∙◌, arith}
use Rattle.std.specs.Str.{bytes_eq}
use Rattle.afs_acl.specs.Walks.{is_among, name_of_line}
use Rattle.afs_acl.proofs.Walked.{among_later}
use Rattle.afs_acl.proofs.walking.is_among.Goals as goal

pub loop-preserved : goal.loop-preserved
loop-preserved c =
    let lt = c.loop-test.true in
    let unlike : bytes_eq (name_of_line c.loop.rest.now) c.args.name.now ≡ false = cc in
    record {
      told = ap (λ (xs : List ℕ). is_among c.args.name.now (c.args.count - (c.loop.counter + 1)) xs) c.behind_line-rest.ensures
          ∙ among_later c.args.name.now c.args.count c.loop.counter c.loop.rest.now _ lt unlike c.loop.invariant.told;
      within = omega (arith, lt);
    }
