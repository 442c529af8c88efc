use Rattle.std.proofs.Common.{◌≡◌, drop}
use Rattle.spec_rows.specs.ClientRow.{is_among_fids}
use Rattle.afs_asking.proofs.breaks.is_named.Given as goal

abbrev pub invariant-loop-named : goal.invariant-loop-named
invariant-loop-named l = is_among_fids l.fid (drop l.named-index l.fids) ≡ is_among_fids l.fid l.fids
