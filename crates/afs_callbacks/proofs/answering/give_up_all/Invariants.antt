use Rattle.std.proofs.Common.{◌≡◌, drop}
use Rattle.spec_rows.specs.Callbacks.{gives_up_all}
use Rattle.afs_callbacks.proofs.answering.give_up_all.Given as goal

abbrev pub invariant-loop-fid : goal.invariant-loop-fid
invariant-loop-fid l = gives_up_all l.node (drop l.fid-index l.fids) l.promises ≡ gives_up_all l.node l.fids l.fn.promises
