use Rattle.std.proofs.Common.{List, ℕ, Some, ap, sym, subst, ◌∙◌}
use Rattle.afs_num.specs.declared.messages.Received.{Received}
use Rattle.spec_model.specs.Messages.{received, HasSpelling}
use Rattle.afs_message.specs.Spelled.{message_in, message_read, IsMessage}
use Rattle.afs_message.proofs.spelled.SpelledMessage.of_spelling.Goals as goal

pub invariant_of-result : goal.invariant_of-result
invariant_of-result c = record {
  is = subst (IsMessage c.head_in-head.result) c.as_slice.ensures c.head_in-head.ensures.is;
  sound = subst (λ (bytes : List ℕ). HasSpelling (message_read c.head_in-head.result (received bytes))) c.as_slice.ensures c.head_in-head.ensures.sound;
}

pub returns-clause-read : goal.returns-clause-read
returns-clause-read c = ap message_in c.requires.1.read ∙ sym (ap (λ (r : Received). Some (message_read c.head_in-head.result r)) c.requires.1.read)
