use Rattle.std.proofs.Common.{refl}
use Rattle.afs_volstore.proofs.held.HeldFoldStoreRecordPart.nothing.Goals as goal

pub returns : goal.returns
returns c = rw (c.new.ensures.boot, c.new.ensures.volumes, c.new.ensures.forwardings, c.new.ensures.stamps, c.new.ensures.kept) refl
