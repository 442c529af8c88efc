use Rattle.std.proofs.Common.{arith, ap, sym, ◌∙◌}
use Rattle.afs_message.specs.Spelled.{is_whole}
use Rattle.afs_message.proofs.Read.{spelling_of}
use Rattle.afs_server_parts.proofs.callers.is_message.Goals as goal

pub returns-clause-value : goal.returns-clause-value
returns-clause-value c = c.is_whole.ensures ∙ ap is_whole c.in_ok-received.ensures.value

pub returns-clause-spelling : goal.returns-clause-spelling
returns-clause-spelling c t = spelling_of c.args.bytes.now c.in_ok-received.received (λ i. omega (arith, c.type_inv.bytes i)) c.in_ok-received.ensures.value (sym c.is_whole.ensures ∙ t)
