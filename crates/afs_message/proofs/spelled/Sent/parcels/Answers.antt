use Rattle.std.proofs.Common.{ap, ◌∙◌}
use Rattle.spec_model.specs.Messages.{messages_spelled}
use Rattle.afs_message.proofs.Sending.{all_spelled}
use Rattle.afs_message.proofs.spelled.Sent.parcels.Goals as goal

pub returns : goal.returns
returns c = all_spelled c.self.inside.parcels c.self.invariant ∙ ap messages_spelled c.self.view_is
