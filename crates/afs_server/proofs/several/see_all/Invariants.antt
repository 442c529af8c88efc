use Rattle.std.proofs.Common.{drop}
use Rattle.spec_ideal.specs.Operations.{the_user}
use Rattle.spec_volrows.specs.FileRow.{file_sights}
use Rattle.afs_server.specs.Handling.{holds_seen}
use Rattle.afs_decisions.specs.Several.{AreFirst}
use Rattle.afs_sharing.specs.Lasting.{lasting_of}
use Rattle.afs_server.proofs.several.see_all.Given as goal

abbrev pub invariant-loop-fid : goal.invariant-loop-fid
invariant-loop-fid g l =
    let seen = file_sights (holds_seen l.store) (lasting_of l.store.durable) (the_user l.user) in
    AreFirst (the_user l.user) (seen l.fids) (seen (drop l.fid-index l.fids)) l.fid-index l.told
