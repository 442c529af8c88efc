use Rattle.std.proofs.Common.{sym, subst}
use Rattle.afs_message.specs.Spelled.{Spells}
use Rattle.afs_callbacks.proofs.callbacks.Callbacks.plan_spelled.Goals as goal

pub returns : goal.returns
returns c = record { answer = c.in_ok-ended.ensures; kept = subst (Spells c.args.reply) (sym c.in_ok-kept.ensures) c.bytes.ensures }
