use Rattle.std.proofs.Common.{◌≡◌, drop, map}
use Rattle.std.specs.List.{list_any}
use Rattle.spec_copyrows.specs.CopyRow.{expiry_in, is_over}
use Rattle.afs_sites.proofs.offers.is_any_over.Given as goal

abbrev pub invariant-loop-callback : goal.invariant-loop-callback
invariant-loop-callback l = list_any (is_over l.now) (map expiry_in (drop l.callback-index l.callbacks)) ≡ list_any (is_over l.now) (map expiry_in l.callbacks)
