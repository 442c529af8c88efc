use Rattle.std.proofs.Common.{◌≡◌, ◌-◌}
use Rattle.spec_records.specs.Forms.{many_at}
use Rattle.afs_record.proofs.Loops.{with_front}
use Rattle.afs_record.proofs.lists.read_many.Given as goal

-- the values so far and those still to read are all
abbrev pub invariant-loop : goal.invariant-loop
invariant-loop g l = record {
  all : with_front l.items (many_at g.F.Form.form.at (l.count - l.counter) l.r.left) ≡ many_at g.F.Form.form.at l.count l.fn.r.left;
}
