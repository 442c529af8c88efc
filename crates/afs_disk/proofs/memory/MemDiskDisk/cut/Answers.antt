use Rattle.std.proofs.Common.{◌++◌, ◌∷◌, [], ◌∙◌, ap, subst}
use Rattle.afs_disk.specs.Disk.{ComesBy, CutShort, cut_by}
use Rattle.afs_disk.specs.Images.{Held, MayLeave, image}
use Rattle.afs_disk.specs.Past.{Memory}
use Rattle.afs_disk.proofs.Painting.{cut_same}
use Rattle.afs_disk.proofs.Remembered.{passes, comes_by_cut, image_cut}
use Rattle.afs_disk.proofs.memory.MemDiskDisk.cut.Goals as goal

pub returns-in_err-admits-clause-crash : goal.returns-in_err-admits-clause-crash
returns-in_err-admits-clause-crash c = λ x left. (x, subst (λ (h : Held). MayLeave h x) (ap (λ (m : Memory). m.held) c.self.view_is) left, cut_same c.args.len x)

pub returns-clause-crash : goal.returns-clause-crash
returns-clause-crash c = subst (λ (h : Held). ComesBy (CutShort c.args.len) (MayLeave h) (MayLeave c.cut.new.self)) (ap (λ (m : Memory). m.held) c.self.view_is) (comes_by_cut c.self.inside.medium c.cut.new.self c.args.len c.cut.ensures.kept c.cut.ensures.now c.cut.ensures.unsynced)

pub returns-clause-picks : goal.returns-clause-picks
returns-clause-picks c = λ pick.
    image_cut c.self.inside.medium c.cut.new.self c.args.len c.cut.ensures.kept c.cut.ensures.now c.cut.ensures.unsynced pick
    ∙ ap (λ (m : Memory). cut_by pick c.args.len (image pick m.held)) c.self.view_is

pub returns-clause-time : goal.returns-clause-time
returns-clause-time c = passes c.args.self.now.past _ c.args.self.now.held c.cut.new.self (c.remember.ensures ∙ ap (λ (m : Memory). m.past ++ m.held ∷ []) c.self.view_is)
