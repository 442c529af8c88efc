use Rattle.std.proofs.Common.{subst}
use Rattle.spec_shape.specs.Rows.{IsWithin}
use Rattle.spec_model.specs.CellRows.{cell_calls}
use Rattle.afs_num.specs.declared.messages.Call.TheVariants as ask
use Rattle.spec_rows.specs.Going.{next}
use Rattle.spec_rows.specs.ClientRow.{call_by}
use Rattle.afs_asking.specs.Asking.{Asking}
use Rattle.afs_asking.proofs.Calling.{call_within}
use Rattle.afs_asking.proofs.asked.Asked.call.Goals as goal

pub returns-clause-within : goal.returns-clause-within
returns-clause-within c = subst (λ (a : Asking). IsWithin cell_calls (ask.File (call_by a.gifts (next a.going)))) c.self.view_is (call_within c.self.inside.held.value.going c.self.inside.held.value.gifts.items c.self.invariant.short)
