use Rattle.std.proofs.Common.{◌≡◌, arith, ap, sym, subst}
use Rattle.spec_model.specs.CellRows.{all_calls}
use Rattle.spec_model.specs.Messages.{received, HasSpelling, IsSoundReceived}
use Rattle.spec_model.proofs.Headers.{no_header, read_head_is}
use Rattle.spec_model.proofs.Spellings.{read_sound}
use Rattle.afs_message.specs.Spelled.{message_read}
use Rattle.afs_message.proofs.spelled.head_in.Goals as goal

pub unreachable-requires : goal.unreachable-requires
unreachable-requires c =
    let none = no_header all_calls c.args.bytes.now c.in-Err.field-0 c.in-Err.ensures in
    let whole = c.requires.1.read in
    absurd cc

pub returns-clause-is : goal.returns-clause-is
returns-clause-is c = record {
  message = c.requires.0;
  headed = sym (read_head_is all_calls c.args.bytes.now c.in-Ok.head c.requires.0 c.in-Ok.ensures c.requires.1.read);
  spells = c.requires.1;
}

pub returns-clause-sound : goal.returns-clause-sound
returns-clause-sound c =
    let same : message_read c.in-Ok.head (received c.args.bytes.now) ≡ c.requires.0 = ap (message_read c.in-Ok.head) c.requires.1.read in
    subst HasSpelling (sym same) (subst IsSoundReceived c.requires.1.read (read_sound all_calls c.args.bytes.now (λ i. omega (arith, c.type_inv.bytes i))))
