-- Fewer bytes than a header's are no word behind it.
use Rattle.std.proofs.Common.{◌≡◌, true, length, drop, refl, arith, length-drop}
use Rattle.std.proofs.lemmas.Bool.{lt-ltb}
use Rattle.std.proofs.Math.Dec.{ltb}
use Rattle.afs_xdr.specs.Words.{word_at}
use Rattle.spec_shape.specs.Reading.{signed_at}
use Rattle.spec_model.specs.Telling.{code_at}
use Rattle.afs_text.proofs.printing.code_of.Goals as goal

pub returns-then-bytes-lt-HEADER : goal.returns-then-bytes-lt-HEADER
unfolding code_at signed_at word_at
returns-then-bytes-lt-HEADER c =
    let short : ltb (length (drop 32 c.args.bytes.now)) 4 ≡ true = lt-ltb _ _ (omega (arith, length-drop 32 c.args.bytes.now)) in
    rw short refl
