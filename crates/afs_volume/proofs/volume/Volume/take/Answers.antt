use Rattle.std.proofs.Common.{◌≡◌, refl, sym, subst, ap, ◌∙◌, true, Some, arith}
use Rattle.afs_num.specs.declared.vnodes.Vnode as image
use Rattle.spec_ideal.specs.Tables.{Table}
use Rattle.spec_records.specs.Sound.{is_sound}
use Rattle.afs_volume.specs.Seen.{volume_seen}
use Rattle.afs_volume.specs.Taking.{put_but, stored_with, without_all}
use Rattle.afs_volume.proofs.Folded.{volume_takes}
use Rattle.afs_volume.proofs.volume.Volume.take.Goals as goal

pub put_all-self-requires-clause-few : goal.put_all-self-requires-clause-few
put_all-self-requires-clause-few c = rw (c.as_slice-gone.ensures, c.remove_all-left.ensures.table, c.as_slice-gone.ensures) (volume_takes c.args.self.now c.args.counter c.args.unique c.args.vnodes c.args.removed c.requires.taken).few

pub put_all-self-requires-clause-room : goal.put_all-self-requires-clause-room
put_all-self-requires-clause-room c = let room = c.requires.room.vnodes in let more = c.remove_all-left.ensures.room in omega (arith, room, more)

pub put_all-self-requires-clause-dirs_room : goal.put_all-self-requires-clause-dirs_room
put_all-self-requires-clause-dirs_room c = let room = c.requires.room.dirs in let more = c.remove_all-left.ensures.dirs_room in omega (arith, room, more)

table : (c : goal.After-self-2-1) → c.put_all-self.new.vnodes.table ≡ put_but c.args.removed c.args.vnodes (without_all c.args.removed c.args.self.now.vnodes.table)
table c = c.put_all-self.ensures.table ∙ rw (c.as_slice-gone.ensures, c.remove_all-left.ensures.table, c.as_slice-gone.ensures) refl

pub invariant_of-self-clause-sound : goal.invariant_of-self-clause-sound
invariant_of-self-clause-sound c =
    subst (λ (t : Table image.Vnode). is_sound (volume_seen (record c.args.self.now.head { counter = c.args.counter; unique = c.args.unique }) t) ≡ true) (sym (table c)) (volume_takes c.args.self.now c.args.counter c.args.unique c.args.vnodes c.args.removed c.requires.taken).sound

pub returns-clause-stored : goal.returns-clause-stored
returns-clause-stored c =
    (volume_takes c.args.self.now c.args.counter c.args.unique c.args.vnodes c.args.removed c.requires.taken).is
    ∙ ap (λ (t : Table image.Vnode). Some (stored_with (record c.args.self.now.head { counter = c.args.counter; unique = c.args.unique }) t))
    (sym (c.put_all-self.ensures.table ∙ rw (c.as_slice-gone.ensures, c.remove_all-left.ensures.table, c.as_slice-gone.ensures) refl))
