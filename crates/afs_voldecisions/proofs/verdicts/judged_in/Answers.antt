use Rattle.afs_voldecisions.proofs.Judging.{clones_in, dumps_in, forwards_in, reclones_in, restores_in, sets_flags_in, status_in}
use Rattle.afs_voldecisions.proofs.verdicts.judged_in.Goals as goal

pub returns-in-Restore : goal.returns-in-Restore
returns-in-Restore c = restores_in c.args.has_room c.args.ts.now.table c.args.transaction.now c.args.volume.now c.args.named c.restores.result c.args.call.now _ _ _ _ _ c.in-Restore.is c.restores.ensures

pub returns-in-Forward : goal.returns-in-Forward
returns-in-Forward c = forwards_in c.args.has_room c.args.ts.now.table c.args.transaction.now c.args.volume.now c.args.named c.forwards.result c.args.call.now _ _ _ _ _ c.in-Forward.is c.forwards.ensures

pub returns-in-Clone : goal.returns-in-Clone
returns-in-Clone c = clones_in c.args.has_room c.args.ts.now.table c.args.transaction.now c.args.volume.now c.args.named c.clones.result c.args.call.now _ _ _ _ _ c.in-Clone.is c.clones.ensures

pub returns-in-SetFlags : goal.returns-in-SetFlags
returns-in-SetFlags c = sets_flags_in c.args.has_room c.args.ts.now.table c.args.transaction.now c.args.volume.now c.args.named c.args.call.now c.sets_flags.result _ _ _ c.in-SetFlags.is c.sets_flags.ensures

pub returns-in-Dump : goal.returns-in-Dump
returns-in-Dump c = dumps_in c.args.has_room c.args.ts.now.table c.args.transaction.now c.args.volume.now c.args.named c.dumps.result c.args.call.now _ _ _ _ c.in-Dump.is c.dumps.ensures

pub returns-in-GetStatus : goal.returns-in-GetStatus
returns-in-GetStatus c = status_in c.args.has_room c.args.ts.now.table c.args.transaction.now c.args.volume.now c.args.named c.args.call.now c.status_of.result _ _ c.in-GetStatus.is c.status_of.ensures

pub returns-in-ReClone : goal.returns-in-ReClone
returns-in-ReClone c =
    reclones_in c.args.has_room c.args.ts.now.table c.args.transaction.now c.args.volume.now c.args.named c.reclones.result c.args.call.now _ _ _ c.requires.family c.in-ReClone.is c.reclones.ensures
