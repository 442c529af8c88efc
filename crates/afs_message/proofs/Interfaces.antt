-- The tables of the cell are made of those of its three interfaces.
use Rattle.std.proofs.Common.{refl}
use Rattle.afs_num.specs.declared.messages.Call.TheVariants as calls
use Rattle.afs_num.specs.declared.messages.Reply.TheVariants as replies
use Rattle.spec_model.specs.FsRows.{fs_calls, fs_replies}
use Rattle.spec_model.specs.VolRows.{vol_calls, vol_replies}
use Rattle.spec_model.specs.LocRows.{loc_calls, loc_replies}
use Rattle.spec_model.specs.CellRows.{cell_calls, cell_replies}
use Rattle.afs_message.proofs.Parts.{IsOfThree}

pub calls_of_three : IsOfThree fs_calls vol_calls loc_calls cell_calls calls.File calls.Volume calls.Location
calls_of_three = record { rows = refl; each = refl; in_first = λ x. refl; in_second = λ y. refl; in_third = λ z. refl }

pub replies_of_three : IsOfThree fs_replies vol_replies loc_replies cell_replies replies.File replies.Volume replies.Location
replies_of_three = record { rows = refl; each = refl; in_first = λ x. refl; in_second = λ y. refl; in_third = λ z. refl }
