use Rattle.std.proofs.Common.{refl, arith}
use Rattle.afs_locdb.proofs.Formed.{leaves_fits}
use Rattle.afs_locdb.proofs.operations.draw.Goals as goal

pub returns-clause-told : goal.returns-clause-told
returns-clause-told c = let word = c.are_words.ensures.0 in let last = c.if-volume.false in ((refl, (tt, tt)), record { deed = leaves_fits; next_id = omega (arith, word, last); next_stamp = c.are_words.ensures.1.0 })
