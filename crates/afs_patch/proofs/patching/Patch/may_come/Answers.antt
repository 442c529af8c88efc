use Rattle.std.proofs.Common.{sym, ◌∙◌}
use Rattle.spec_ideal.proofs.Basics.{both_true}
use Rattle.afs_volume.specs.Seen.{seen}
use Rattle.afs_patch.proofs.patching.Patch.may_come.Goals as goal

pub returns-then-is_right : goal.returns-then-is_right
unfolding seen
returns-then-is_right c = λ e. both_true _ _ (c.is_right.ensures c.if-is_right.true) (sym c.is_unmoved.ensures ∙ e)
