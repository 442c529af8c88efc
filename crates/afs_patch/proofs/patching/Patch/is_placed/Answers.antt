use Rattle.std.specs.Option.{option_copied, option_map}
use Rattle.afs_volume.specs.Seen.{seen}
use Rattle.afs_patch.proofs.Patches.{placed_as_before}
use Rattle.afs_patch.proofs.patching.Patch.is_placed.Goals as goal

pub returns-then-is_named_as_before : goal.returns-then-is_named_as_before
returns-then-is_named_as_before c = λ e.
    placed_as_before c.args.number c.args.self.now.touched.now c.args.self.now.volume.now c.args.self.now.change.now (option_map seen (option_copied c.args.x)) (seen c.args.y.now) c.requires.touched c.requires.there (c.is_named_as_before.ensures c.if-is_named_as_before.true)
