use Rattle.std.proofs.Common.{ℕ, false, rules, subst}
use Rattle.afs_num.specs.declared.calls.FsCall.TheVariants as calls
use Rattle.spec_ideal.specs.Operations.{op, the_user}
use Rattle.spec_rows.specs.ServerRow.{sight_by}
use Rattle.afs_volume.specs.Giving.{volume_of}
use Rattle.afs_shelves.specs.Shelving.{stored_as}
use Rattle.afs_decisions.specs.Several.{seen_in, Sees}
use Rattle.afs_decisions.proofs.Sights.{seen_as, status_read}
use Rattle.afs_decisions.proofs.several.see_in.Goals as goal

pub seen_in-requires : goal.seen_in-requires
seen_in-requires c = status_read (the_user c.args.user.now) c.args.fid.now false c.args.volume.now c.read-read.result c.read-read.ensures.replies

pub returns : goal.returns
returns c new =
    let caller = the_user c.args.user.now in
    let f = c.args.fid.now in
    let w = c.args.volume.now in
    let sees = subst (λ (id : ℕ). Sees caller f (sight_by (stored_as new w) (op id caller (calls.FetchStatus f) (volume_of w))) (seen_in c.read-read.result)) c.requires (seen_as caller f new w c.read-read.result c.read-read.ensures.replies) in
    search (rules, sees)
