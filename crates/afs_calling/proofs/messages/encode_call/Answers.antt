use Rattle.std.proofs.Common.{ap, ◌∙◌}
use Rattle.spec_model.specs.Messages.{received}
use Rattle.spec_model.proofs.Spellings.{message_again}
use Rattle.afs_calling.specs.Calls.{calling}
use Rattle.afs_calling.proofs.messages.encode_call.Goals as goal

pub returns-clause-read : goal.returns-clause-read
returns-clause-read c = ap received c.in_ok-bytes.ensures.spelled ∙ message_again (calling c.args.head.now c.args.user.now c.args.call.now) c.in_ok-bytes.ensures.fits
