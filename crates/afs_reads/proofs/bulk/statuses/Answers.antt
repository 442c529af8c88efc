use Rattle.std.proofs.Common.{arith, get_or, refl, rules}
use Rattle.afs_num.specs.declared.types.Fid.{Fid}
use Rattle.afs_reads.specs.Bulk.{refusal_at, IsRefusal, IsShown}
use Rattle.afs_reads.specs.Replying.{caller_seen}
use Rattle.afs_volume.specs.Giving.{volume_of}
use Rattle.afs_reads.proofs.Statuses.{all_shown, all_taken, refused_all}
use Rattle.afs_reads.proofs.bulk.statuses.Goals as goal

pub returns-in-Err-clause-refused : goal.returns-in-Err-clause-refused
returns-in-Err-clause-refused c =
    let none : Fid = record { volume = 0; vnode = 0; unique = 0 } in
    let f : Fid = get_or c.args.fids.now c.loop-fid.fid-index none in
    let refusal : IsRefusal (refusal_at (caller_seen c.args.caller.now) (volume_of c.args.volume.now) f) c.in-Err.fault = search (rules, c.in-Err.ensures.refused) in
    refused_all (caller_seen c.args.caller.now) (volume_of c.args.volume.now) c.args.fids.now c.loop-fid.fid-index f c.in-Err.fault c.loop-fid-test.true none refl c.loop-fid.invariant.shown refusal

pub returns-clause-shown : goal.returns-clause-shown
returns-clause-shown c =
    let shows = λ (f : Fid). IsShown (caller_seen c.args.caller.now) (volume_of c.args.volume.now) f in
    all_shown (caller_seen c.args.caller.now) (volume_of c.args.volume.now) c.args.fids.now (all_taken shows c.loop-fid.fid-index c.args.fids.now (omega (arith, c.loop-fid-test.false)) c.loop-fid.invariant.shown)
