use Rattle.std.proofs.Common.{ap, sym, ◌∙◌}
use Rattle.spec_rows.specs.Going.{parted}
use Rattle.afs_acts.proofs.Numbers.{last_of}
use Rattle.afs_acts.proofs.walks.part.Goals as goal

pub returns-in-Some : goal.returns-in-Some
returns-in-Some c = record {
  value = sym (ap parted (c.in-Some.ensures.cases).0 ∙ last_of c.in-Some.front.now c.in-Some.last.now);
  split = (c.in-Some.ensures.cases).0;
}
