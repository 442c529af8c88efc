use Rattle.std.proofs.Common.{sym, subst}
use Rattle.spec_model.specs.Messages.{HasSpelling}
use Rattle.afs_sendings.proofs.Spelled.{piece_spelled}
use Rattle.afs_sendings.proofs.sendings.Sending.spell.Goals as goal

pub from_message-requires : goal.from_message-requires
from_message-requires c = subst HasSpelling (sym c.in_ok-message.ensures) (piece_spelled c.args.stand.node c.args.stand.boot c.args.callee c.args.known c.args.number c.args.self.now c.requires.stands c.requires.callee)
