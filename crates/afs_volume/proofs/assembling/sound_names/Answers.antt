use Rattle.std.proofs.Common.{refl, rules, sym, ◌∙◌}
use Rattle.afs_volume.proofs.Readable.{all_read}
use Rattle.afs_volume.proofs.assembling.sound_names.Goals as goal

pub returns-in_err-dirs-clause-not_sound : goal.returns-in_err-dirs-clause-not_sound
returns-in_err-dirs-clause-not_sound c e = rw (all_read c.args.vnodes.now.table, c.in_err-dirs.ensures.not_sound (search rules)) refl

pub returns-clause-sound : goal.returns-clause-sound
returns-clause-sound c = sym c.is_sound.ensures ∙ c.if-not-is_sound.false

pub returns-clause-whole : goal.returns-clause-whole
returns-clause-whole c = rw (all_read c.args.vnodes.now.table, c.in_ok-dirs.ensures.read) (sym c.is_sound.ensures ∙ c.if-not-is_sound.false)
