use Rattle.std.proofs.Common.{◌≡◌, Some, None, slice_get, subst}
use Rattle.afs_num.specs.Nodes.{node_number}
use Rattle.spec_records.specs.Durable.{Kept}
use Rattle.afs_seats.specs.Seated.{Seated}
use Rattle.afs_locstore.specs.Kept.{kept_seen}
use Rattle.afs_locstore.proofs.Replies.{no_reply, nth_reply}
use Rattle.afs_locstore.proofs.kept.KeptReplies.at.Goals as goal

pub returns-in-Some-clause-some : goal.returns-in-Some-clause-some
returns-in-Some-clause-some c =
    rw c.as_slice.ensures
    (subst (λ (v : Seated Kept). slice_get v.table c.args.place ≡ Some (node_number c.in-Some.item.now.1.caller, kept_seen c.in-Some.item.now.1)) c.self.view_is
    (nth_reply c.args.place c.self.inside.seats.table c.in-Some.item.now c.self.invariant c.in-Some.ensures.value))

pub returns-in-None-clause-none : goal.returns-in-None-clause-none
returns-in-None-clause-none c =
    subst (λ (v : Seated Kept). slice_get v.table c.args.place ≡ None) c.self.view_is (no_reply c.args.place c.self.inside.seats.table c.in-None.ensures.value)
