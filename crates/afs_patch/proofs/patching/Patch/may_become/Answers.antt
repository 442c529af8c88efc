use Rattle.std.proofs.Common.{ap, sym, ◌∙◌}
use Rattle.std.specs.Option.{option_map}
use Rattle.afs_volume.proofs.Tables.{got}
use Rattle.afs_volume.specs.Seen.{seen}
use Rattle.afs_patch.proofs.patching.Patch.may_become.Goals as goal

pub is_right-requires-clause-there : goal.is_right-requires-clause-there
is_right-requires-clause-there c = sym (got c.args.number c.args.self.now.volume.now.vnodes.table ∙ ap (option_map seen) c.requires.there)
