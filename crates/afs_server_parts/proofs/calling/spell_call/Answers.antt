use Rattle.std.proofs.Common.{sym, subst}
use Rattle.spec_model.specs.Messages.{HasSpelling}
use Rattle.afs_server_parts.proofs.Spelling.{break_spelled}
use Rattle.afs_server_parts.proofs.calling.spell_call.Goals as goal

pub from_message-requires : goal.from_message-requires
from_message-requires c = subst HasSpelling (sym c.in_ok-message.ensures) (break_spelled c.args.stand.node c.args.stand.boot c.args.callee c.args.known c.args.call.now c.requires.stands c.requires.callee c.requires.few)
