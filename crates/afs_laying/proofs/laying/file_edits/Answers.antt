use Rattle.afs_volume.specs.Giving.{volume_of}
use Rattle.afs_volume.specs.Seen.{seen}
use Rattle.afs_laying.proofs.Files.{if_filled}
use Rattle.afs_laying.proofs.laying.file_edits.Goals as goal

pub returns : goal.returns
returns c =
    if_filled c.args.volume.now.head.id c.args.d.now c.args.name.now c.args.contents.now (volume_of c.args.volume.now) (seen c.in_ok-file.file) c.filled_edits.result c.requires.accepted c.in_ok-file.ensures.seen c.filled_edits.ensures
