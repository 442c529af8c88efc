use Rattle.spec_ideal.specs.Operations.{shows_several}
use Rattle.afs_reads.specs.Replying.{caller_seen}
use Rattle.afs_volume.specs.Giving.{volume_of}
use Rattle.afs_reads.proofs.Statuses.{bulk_replied}
use Rattle.afs_reads.proofs.bulk.bulk_status.Goals as goal

pub returns-clause-replies : goal.returns-clause-replies
returns-clause-replies c =
    bulk_replied (caller_seen c.args.caller.now) c.args.volume.now c.args.fids.now (shows_several (caller_seen c.args.caller.now) (volume_of c.args.volume.now) c.args.fids.now) _ _ _ c.in_ok-statuses.ensures.shown c.in_ok-statuses.ensures.value c.in_ok-no_callbacks.ensures c.sync_beside.ensures
