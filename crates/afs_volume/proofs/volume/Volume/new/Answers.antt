use Rattle.std.proofs.Common.{ℕ, List, refl, rules}
use Rattle.afs_num.specs.declared.volumes.VolumeHead.{VolumeHead}
use Rattle.afs_volume.proofs.AtSetUp.{new_at_set_up}
use Rattle.afs_volume.proofs.Readable.{not_unread}
use Rattle.afs_volume.proofs.Soundly.{new_sound}
use Rattle.afs_volume.proofs.Texts.{one_block}
use Rattle.afs_volume.proofs.volume.Volume.new.Goals as goal

pub invariant_of-result-clause-counted : goal.invariant_of-result-clause-counted
invariant_of-result-clause-counted c = one_block _ c.in_ok-vnodes.ensures.seen

abbrev head_of : (id family kind flags quota : ℕ) → List ℕ → VolumeHead
head_of id family kind flags quota name = record { id = id; family = family; name = name; kind = kind; flags = flags; quota = quota; unique = 2; counter = 1; release = 0 }

pub invariant_of-result-clause-sound : goal.invariant_of-result-clause-sound
invariant_of-result-clause-sound c = new_sound (head_of c.args.id c.args.family c.args.kind c.args.flags c.args.quota c.in_ok-from_slice.field-0) c.in_ok-vnodes.vnodes.table refl c.in_ok-vnodes.ensures.seen

pub returns-clause-times : goal.returns-clause-times
returns-clause-times c = new_at_set_up (head_of c.args.id c.args.family c.args.kind c.args.flags c.args.quota c.in_ok-from_slice.field-0) c.in_ok-vnodes.vnodes.table c.in_ok-vnodes.ensures.times

pub unreachable-requires : goal.unreachable-requires
unreachable-requires c = not_unread c.in_ok-vnodes.vnodes.table c.in-Err-NotSound.ensures.ordered c.in_ok-vnodes.ensures.readable (c.in-Err-NotSound.ensures.not_sound (search rules))
