use Rattle.std.proofs.Common.{refl}
use Rattle.afs_locstore.proofs.held.HeldFoldLocRecordPart.nothing.Goals as goal

pub returns : goal.returns
returns c = rw (c.new.ensures.boot, c.new.ensures.entries, c.new.ensures.next_id, c.new.ensures.next_stamp, c.new.ensures.kept) refl
