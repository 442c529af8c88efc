use Rattle.afs_message.proofs.Interfaces.{calls_of_three}
use Rattle.afs_message.proofs.Parts.{failed_with, first_failed, first_taken, second_failed, second_taken, third_failed, third_taken}
use Rattle.afs_message.proofs.cell.CellCallsMessages.read.Goals as goal

pub returns-in_ok-call-in-Ok : goal.returns-in_ok-call-in-Ok
returns-in_ok-call-in-Ok c = first_taken calls_of_three c.args.opcode _ _ c.in_ok-call-in-Ok.call c.in-Ok.ensures.kinds c.in_ok-call-in-Ok.ensures

pub returns-in_ok-call-in-Ok-shape : goal.returns-in_ok-call-in-Ok-shape
returns-in_ok-call-in-Ok-shape c = second_taken calls_of_three c.args.opcode _ _ _ c.in_ok-call-in-Ok-shape.call c.in-Err.ensures.none.1 c.in-Ok-shape.ensures.kinds c.in_ok-call-in-Ok-shape.ensures

pub returns-in_ok-call-in-Err-shape : goal.returns-in_ok-call-in-Err-shape
returns-in_ok-call-in-Err-shape c = third_taken calls_of_three c.args.opcode _ _ _ c.in_ok-call-in-Err-shape.call c.in-Err.ensures.none.1 c.in-Err-shape.ensures.none.1 c.in_ok-call-in-Err-shape.ensures

pub returns-in_err-call-in-Ok : goal.returns-in_err-call-in-Ok
returns-in_err-call-in-Ok c = failed_with _ _ c.from_residual.result _ c.from_residual.ensures.1 (first_failed calls_of_three c.args.opcode _ _ _ c.in-Ok.ensures.kinds c.in_err-call-in-Ok.ensures)

pub returns-in_err-call-in-Ok-shape : goal.returns-in_err-call-in-Ok-shape
returns-in_err-call-in-Ok-shape c = failed_with _ _ c.from_residual-in_err-call-in-Ok-shape.result _ c.from_residual-in_err-call-in-Ok-shape.ensures.1 (second_failed calls_of_three c.args.opcode _ _ _ _ c.in-Err.ensures.none.1 c.in-Ok-shape.ensures.kinds c.in_err-call-in-Ok-shape.ensures)

pub returns-in_err-call-in-Err-shape : goal.returns-in_err-call-in-Err-shape
returns-in_err-call-in-Err-shape c = failed_with _ _ c.from_residual-in_err-call-in-Err-shape.result _ c.from_residual-in_err-call-in-Err-shape.ensures.1 (third_failed calls_of_three c.args.opcode _ _ _ _ c.in-Err.ensures.none.1 c.in-Err-shape.ensures.none.1 c.in_err-call-in-Err-shape.ensures)
