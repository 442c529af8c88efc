-- What a volume server answers.
use Rattle.std.specs.Prelude.{◌≡◌, ℕ, false}
use Rattle.afs_num.specs.declared.messages.Message.{Message}
use Rattle.afs_num.specs.declared.types.Head.{Head}
use Rattle.spec_model.specs.Heads.{is_zero}
use Rattle.spec_rows.specs.ServerRow.{refusal}
use Rattle.spec_volrows.specs.VolSteps.{vol_reply}
use Rattle.afs_voldecisions.specs.Verdicts.{IsReplyTo}
use Rattle.afs_voldecisions.specs.declared.replies.Answer.{Answer}
use Rattle.afs_voldecisions.specs.declared.replies.Answer.TheVariants as answers

-- as the message that goes to the caller
abbrev pub answer_message : ℕ → Head → Answer → Message
answer_message boot head (answers.Refused code) = refusal boot head code
answer_message boot head (answers.Told reply) = vol_reply boot head reply

-- it can be the answer to a call of this opcode, and then has a spelling
abbrev pub CanAnswer : ℕ → Answer → Type 0
CanAnswer opcode (answers.Refused code) = is_zero code ≡ false
CanAnswer opcode (answers.Told reply) = IsReplyTo opcode reply
