use Rattle.std.proofs.Common.{sym}
use Rattle.std.proofs.lemmas.List.{take_all}
use Rattle.spec_volrows.specs.VolRow.{most_piece}
use Rattle.afs_adminvolumes.proofs.creating.front.Goals as goal

pub returns-then-bytes-le-MOST_PIECE : goal.returns-then-bytes-le-MOST_PIECE
returns-then-bytes-le-MOST_PIECE c = sym (take_all most_piece c.args.bytes.now c.if-bytes-le-MOST_PIECE.true)
