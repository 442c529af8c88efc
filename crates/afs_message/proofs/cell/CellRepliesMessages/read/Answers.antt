use Rattle.afs_message.proofs.Interfaces.{replies_of_three}
use Rattle.afs_message.proofs.Parts.{failed_with, first_failed, first_taken, second_failed, second_taken, third_failed, third_taken}
use Rattle.afs_message.proofs.cell.CellRepliesMessages.read.Goals as goal

pub returns-in_ok-reply-in-Ok : goal.returns-in_ok-reply-in-Ok
returns-in_ok-reply-in-Ok c = first_taken replies_of_three c.args.opcode _ _ c.in_ok-reply-in-Ok.reply c.in-Ok.ensures.kinds c.in_ok-reply-in-Ok.ensures

pub returns-in_ok-reply-in-Ok-shape : goal.returns-in_ok-reply-in-Ok-shape
returns-in_ok-reply-in-Ok-shape c = second_taken replies_of_three c.args.opcode _ _ _ c.in_ok-reply-in-Ok-shape.reply c.in-Err.ensures.none.1 c.in-Ok-shape.ensures.kinds c.in_ok-reply-in-Ok-shape.ensures

pub returns-in_ok-reply-in-Err-shape : goal.returns-in_ok-reply-in-Err-shape
returns-in_ok-reply-in-Err-shape c = third_taken replies_of_three c.args.opcode _ _ _ c.in_ok-reply-in-Err-shape.reply c.in-Err.ensures.none.1 c.in-Err-shape.ensures.none.1 c.in_ok-reply-in-Err-shape.ensures

pub returns-in_err-reply-in-Ok : goal.returns-in_err-reply-in-Ok
returns-in_err-reply-in-Ok c = failed_with _ _ c.from_residual.result _ c.from_residual.ensures.1 (first_failed replies_of_three c.args.opcode _ _ _ c.in-Ok.ensures.kinds c.in_err-reply-in-Ok.ensures)

pub returns-in_err-reply-in-Ok-shape : goal.returns-in_err-reply-in-Ok-shape
returns-in_err-reply-in-Ok-shape c = failed_with _ _ c.from_residual-in_err-reply-in-Ok-shape.result _ c.from_residual-in_err-reply-in-Ok-shape.ensures.1 (second_failed replies_of_three c.args.opcode _ _ _ _ c.in-Err.ensures.none.1 c.in-Ok-shape.ensures.kinds c.in_err-reply-in-Ok-shape.ensures)

pub returns-in_err-reply-in-Err-shape : goal.returns-in_err-reply-in-Err-shape
returns-in_err-reply-in-Err-shape c = failed_with _ _ c.from_residual-in_err-reply-in-Err-shape.result _ c.from_residual-in_err-reply-in-Err-shape.ensures.1 (third_failed replies_of_three c.args.opcode _ _ _ _ c.in-Err.ensures.none.1 c.in-Err-shape.ensures.none.1 c.in_err-reply-in-Err-shape.ensures)
