use Rattle.std.proofs.Common.{◌≡◌}
use Rattle.afs_asking.specs.Telling.{told_of}
use Rattle.afs_asking.proofs.Telling.{told_all, told_more}
use Rattle.afs_asking.proofs.replies.entries_told.Goals as goal

pub loop-told-preserved : goal.loop-told-preserved
loop-told-preserved c =
    told_more c.args.server c.args.sync.now c.loop-told.fids.now c.loop-told.statuses.now c.loop-told.callbacks.now (told_of c.in-Some.told) c.loop-told.all.items c.push.new.self.items _ _
    c.in-Some.ensures.value c.in_ok-push.ensures.items (c.entry_told.ensures c.in-Some.told.fid) c.loop-told.invariant

pub returns : goal.returns
returns c =
    told_all c.args.server c.args.sync.now c.loop-told.fids.now c.loop-told.statuses.now c.loop-told.callbacks.now c.loop-told.all.items _
    c.in_default.ensures.value c.loop-told.invariant
