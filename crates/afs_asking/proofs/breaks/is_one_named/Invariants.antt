use Rattle.std.proofs.Common.{◌≡◌, drop}
use Rattle.std.specs.List.{list_any}
use Rattle.afs_num.specs.declared.types.Fid.{Fid}
use Rattle.spec_rows.specs.ClientRow.{is_among_fids}
use Rattle.afs_asking.proofs.breaks.is_one_named.Given as goal

abbrev pub invariant-loop-fid : goal.invariant-loop-fid
invariant-loop-fid l = list_any (λ (f : Fid). is_among_fids f l.fids) (drop l.fid-index l.asked) ≡ list_any (λ (f : Fid). is_among_fids f l.fids) l.asked
