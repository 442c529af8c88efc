use Rattle.std.proofs.Common.{sym, subst}
use Rattle.afs_message.specs.Sending.{AreMessages}
use Rattle.afs_message.proofs.Sending.{all_more, is_message}
use Rattle.afs_message.proofs.spelled.Sent.push.Goals as goal

pub invariant_of-self-2 : goal.invariant_of-self-2
invariant_of-self-2 c =
    subst AreMessages (sym c.in_ok-push.ensures.ok)
    (all_more c.self.inside.parcels c.into_parcel.result c.self.invariant (is_message c.into_parcel.result c.args.message c.into_parcel.ensures))
