use Rattle.std.proofs.Common.{ap, ◌∙◌}
use Rattle.spec_model.specs.Messages.{received}
use Rattle.spec_model.proofs.Spellings.{message_again}
use Rattle.afs_message.proofs.messages.encode_message.Goals as goal

pub returns-clause-read : goal.returns-clause-read
returns-clause-read c = ap received c.in_ok-bytes.ensures.spelled ∙ message_again c.args.message.now c.in_ok-bytes.ensures.fits
