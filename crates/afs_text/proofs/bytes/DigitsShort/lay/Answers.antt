use Rattle.std.proofs.Common.{◌+◌, ◌*◌, ◌∙◌, length, refl, arith}
use borrow.Rule.Slice.PartMut.{mid_len}
use Rattle.afs_text.proofs.Digits.{digits_laid, hex_length}
use Rattle.afs_text.proofs.bytes.DigitsShort.lay.Goals as goal

pub returns-clause-laid : goal.returns-clause-laid
returns-clause-laid c =
    let xs = c.args.self.now.0.now in
    let behind = c.args.at + 2 * length xs in
    digits_laid xs c.args.bytes.now c.part.new.halves c.spell.new.halves c.args.at behind refl (omega (arith, c.requires)) (c.part.ensures.room ∙ mid_len c.args.at behind c.args.bytes.now (omega (arith, c.requires))) c.part.ensures.parted c.spell.ensures

pub returns-clause-short : goal.returns-clause-short
returns-clause-short c = omega (arith, hex_length c.args.self.now.0.now)
