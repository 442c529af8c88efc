-- What is read in the bytes of a kept reply.
use Rattle.std.proofs.Common.{◌≡◌, ℕ, Bool, true, false, List, Option, None, refl, sym, ◌∙◌}
use Rattle.afs_num.specs.declared.messages.Received.{Received}
use Rattle.afs_num.specs.declared.messages.Received.TheVariants.{Whole}
use Rattle.spec_model.specs.Messages.{received}
use Rattle.spec_shape.proofs.Codecs.{IsBytes}
use Rattle.spec_model.proofs.Spellings.{read_spelled}
use Rattle.afs_message.specs.Spelled.{is_whole, message_in, IsSpelling}

spelling_by : (bytes : List ℕ) (r : Received) → IsBytes bytes → received bytes ≡ r → is_whole r ≡ true → IsSpelling bytes
spelling_by bytes (Whole m) fits e t = (m, record { spelled = sym (read_spelled bytes m fits e).0; read = e })
spelling_by bytes r fits e t = absurd cc

pub spelling_of : (bytes : List ℕ) (r : Received) → IsBytes bytes → r ≡ received bytes → is_whole r ≡ true → IsSpelling bytes
spelling_of bytes r fits e t = spelling_by bytes r fits (sym e) t

pub no_message : (r : Received) → is_whole r ≡ false → message_in r ≡ None
no_message (Whole m) t = absurd cc
no_message r t = refl
