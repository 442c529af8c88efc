use Rattle.std.proofs.Common.{◌∙◌}
use Rattle.afs_volume.proofs.soundness.Parts.names_of.Goals as goal

pub returns : goal.returns
returns c = c.count.ensures ∙ c.args.self.now.counted (record { directory = c.args.directory; vnode = c.args.vnode; unique = c.args.unique })
