use Rattle.std.proofs.Common.{sym}
use Rattle.afs_changes.specs.Drawing.{shown_by, without}
use Rattle.afs_volume.specs.Giving.{volume_of}
use Rattle.afs_volume.specs.Seen.{seen}
use Rattle.afs_changes.proofs.Drawn.{found_first}
use Rattle.afs_changes.proofs.sights.Sight.shown.Goals as goal

pub returns-clause-seen : goal.returns-clause-seen
returns-clause-seen c =
    let d = c.args.self.now.draft.now in
    found_first c.args.number (shown_by d.vnodes) (without d.removed (volume_of c.args.self.now.volume.now).vnodes) (seen c.in-Some.x.now) (sym c.in-Some.ensures.seen)
