use Rattle.std.proofs.Common.{◌≡◌, false, nat_eq, rules}
use Rattle.afs_num.specs.declared.calls.FsCall.TheVariants as calls
use Rattle.spec_ideal.specs.Operations.{effect}
use Rattle.afs_reads.specs.Replying.{caller_seen}
use Rattle.afs_volume.specs.Giving.{volume_of}
use Rattle.afs_changes.proofs.renaming.rename.Goals as goal

pub returns-then-e-d : goal.returns-then-e-d
returns-then-e-d c =
    let other : nat_eq c.args.e.now.volume c.args.d.now.volume ≡ false = search rules in
    rw other (c.rename_out.ensures (effect (caller_seen c.args.caller.now) (calls.Rename c.args.d.now c.args.old.now c.args.e.now c.args.new.now) (volume_of c.args.volume.now)))
