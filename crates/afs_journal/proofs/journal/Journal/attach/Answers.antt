use Rattle.std.proofs.Common.{◌≡◌, length, arith, ◌∙◌, ap}
use Rattle.afs_journal.proofs.Sound.{settled_now, told_is, told_from}
use Rattle.afs_journal.proofs.journal.Journal.attach.Goals as goal

pub invariant_of-result : goal.invariant_of-result
invariant_of-result g c = record {
  counts = omega (arith, c.in-Ok.ensures.counts.0, c.len.ensures.value);
  few = omega (arith, c.in-Ok.ensures.few, c.len.ensures.value);
  short = c.in-Ok.ensures.counts.1;
  small = omega (arith, c.take_up.ensures.limit, c.requires);
  at_rest = λ rest. record {
    ends = c.in-Ok.ensures.size;
    settled = λ bytes told.
        let was = told_is (g.D.Disk.seen c.args.disk) (c.take_up.ensures.told.0 (told_from (g.D.Disk.seen c.take_up.new.disk) bytes told)) in
        let counted : c.len.result ≡ length _ = c.len.ensures.value ∙ ap length (c.in-Ok.ensures.found was.0 was.1) in
        settled_now _ c.len.result c.in-Ok.gate (g.D.Disk.seen c.take_up.new.disk) (g.D.Disk.may_leave c.take_up.new.disk) bytes (c.in-Ok.ensures.done was.0 was.1) counted (g.met.D.Disk.measures c.take_up.new.disk bytes told ∙ c.in-Ok.ensures.size) told;
  };
}
