use Rattle.std.proofs.Common.{sym, ◌∙◌, rules}
use Rattle.afs_volume.specs.Assembling.{is_sound_pair}
use Rattle.afs_volume.proofs.Walked.{goes_on, stops, walk_end}
use Rattle.afs_volume.proofs.soundness.Parts.are_sound.Goals as goal

pub returns-then-not-is_sound_at : goal.returns-then-not-is_sound_at
returns-then-not-is_sound_at c =
    let p = c.args.self.now in
    sym (sym c.loop-place.invariant ∙ stops (is_sound_pair p.head.now p.vnodes.now.table) p.vnodes.now.table c.loop-place.place (search rules))

pub loop-place-preserved : goal.loop-place-preserved
loop-place-preserved c =
    let p = c.args.self.now in
    goes_on (is_sound_pair p.head.now p.vnodes.now.table) p.vnodes.now.table c.loop-place.place (search rules) ∙ c.loop-place.invariant

pub returns : goal.returns
returns c =
    let p = c.args.self.now in
    sym (sym c.loop-place.invariant ∙ walk_end (is_sound_pair p.head.now p.vnodes.now.table) p.vnodes.now.table c.loop-place.place (search rules))
