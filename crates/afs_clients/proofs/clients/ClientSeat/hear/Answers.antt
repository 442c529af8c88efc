use Rattle.std.proofs.Common.{refl, arith}
use Rattle.spec_model.specs.CellRows.{client_calls}
use Rattle.spec_model.specs.Messages.{received_by}
use Rattle.spec_model.proofs.Spellings.{found_in}
use Rattle.afs_clients.proofs.Heard.{hears_message}
use Rattle.afs_clients.proofs.clients.ClientSeat.hear.Goals as goal

pub returns-in-Ok-clause-happens : goal.returns-in-Ok-clause-happens
returns-in-Ok-clause-happens c = λ place. record {
  makes = λ m whole.
      hears_message c.args.client c.args.now place c.args.self.now.client.node (received_by client_calls c.args.bytes.now) m c.args.self.now _ c.in-Ok.outs c.requires.node (found_in client_calls c.args.bytes.now m (λ i. omega (arith, c.type_inv.bytes i)) whole) c.if-self.false refl (c.in-Ok.ensures.step.1 place);
  plan = refl;
}
