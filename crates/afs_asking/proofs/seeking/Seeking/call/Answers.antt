use Rattle.std.proofs.Common.{subst}
use Rattle.spec_shape.specs.Rows.{IsWithin}
use Rattle.spec_model.specs.CellRows.{cell_calls}
use Rattle.afs_num.specs.declared.messages.Call.TheVariants as ask
use Rattle.spec_rows.specs.Going.{Seek}
use Rattle.spec_rows.specs.ClientRow.{question}
use Rattle.afs_asking.proofs.Calling.{question_within}
use Rattle.afs_asking.proofs.seeking.Seeking.call.Goals as goal

pub returns-clause-within : goal.returns-clause-within
returns-clause-within c = subst (λ (k : Seek). IsWithin cell_calls (ask.Location (question k.operand))) c.self.view_is (question_within c.self.inside.held.value.operand c.self.invariant.operand)
