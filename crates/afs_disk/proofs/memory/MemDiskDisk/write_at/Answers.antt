use Rattle.std.proofs.Common.{◌≤◌, ◌++◌, ◌∷◌, [], length, arith, ◌∙◌, ap, subst}
use Rattle.afs_disk.specs.Disk.{ComesBy, Torn, written_by}
use Rattle.afs_disk.specs.Images.{Held, MayLeave, image}
use Rattle.afs_disk.specs.Past.{Memory}
use Rattle.afs_disk.proofs.Painting.{torn_same}
use Rattle.afs_disk.proofs.Remembered.{passes, comes_by_write, image_written}
use Rattle.afs_disk.proofs.memory.MemDiskDisk.write_at.Goals as goal

pub returns-in_err-admits-clause-crash : goal.returns-in_err-admits-clause-crash
returns-in_err-admits-clause-crash c = λ x left. (x, subst (λ (h : Held). MayLeave h x) (ap (λ (m : Memory). m.held) c.self.view_is) left, torn_same c.args.at (length c.args.bytes.now) x)

pub returns-clause-crash : goal.returns-clause-crash
returns-clause-crash c =
    let inside : c.args.at ≤ length c.self.inside.medium.now = omega (arith, c.requires.inside, ap (λ (m : Memory). length m.held.now) c.self.view_is) in
    subst (λ (h : Held). ComesBy (Torn c.args.at (length c.args.bytes.now)) (MayLeave h) (MayLeave c.write.new.self)) (ap (λ (m : Memory). m.held) c.self.view_is) (comes_by_write c.self.inside.medium c.write.new.self c.args.at c.args.bytes.now inside c.write.ensures.kept c.write.ensures.now c.write.ensures.unsynced)

pub returns-clause-picks : goal.returns-clause-picks
returns-clause-picks c =
    let inside : c.args.at ≤ length c.self.inside.medium.now = omega (arith, c.requires.inside, ap (λ (m : Memory). length m.held.now) c.self.view_is) in
    λ pick.
    image_written c.self.inside.medium c.write.new.self c.args.at c.args.bytes.now inside c.write.ensures.kept c.write.ensures.now c.write.ensures.unsynced pick
    ∙ ap (λ (m : Memory). written_by pick c.args.at c.args.bytes.now (image pick m.held)) c.self.view_is

pub returns-clause-time : goal.returns-clause-time
returns-clause-time c = passes c.args.self.now.past _ c.args.self.now.held c.write.new.self (c.remember.ensures ∙ ap (λ (m : Memory). m.past ++ m.held ∷ []) c.self.view_is)
