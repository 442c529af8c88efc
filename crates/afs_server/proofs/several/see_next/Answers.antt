use Rattle.std.proofs.Common.{◌≡◌, List}
use Rattle.spec_ideal.specs.Operations.{the_user}
use Rattle.spec_ideal.specs.Tables.{get}
use Rattle.spec_volrows.specs.FileRow.{file_sight}
use Rattle.afs_server.specs.Handling.{holds_seen}
use Rattle.afs_decisions.proofs.Sights.{tells_one}
use Rattle.afs_sharing.specs.Lasting.{lasting_of}
use Rattle.afs_server.proofs.several.see_next.Goals as goal

pub returns : goal.returns
returns g c =
    tells_one (the_user c.args.user.now) c.args.fid.now c.in_ok-seen.seen (file_sight (holds_seen c.args.store.now) (lasting_of c.args.store.now.durable) (the_user c.args.user.now) c.args.fid.now (get c.args.fid.now.volume c.args.store.now.durable.volumes)) c.args.told.now c.add.new.self
    c.in_ok-seen.ensures c.in_ok-add.ensures.statuses c.in_ok-add.ensures.callbacks c.in_ok-add.ensures.grants c.in_ok-add.ensures.sync
