-- The sign stands before the digits.
use Rattle.std.proofs.Common.{[], ◌∷◌, ap, ◌∙◌, arith, unsigned_abs, to_z-of_z, length}
use Rattle.std.specs.Fmt.{decimal}
use Rattle.std.proofs.lemmas.Fmt.{length-decimal-le}
use Rattle.itoa.proofs.Decimal.{minus_first}
use Rattle.afs_text.proofs.Placed.{placed_as, placed_both}
use Rattle.afs_text.proofs.Signed.{no_minus}
use Rattle.afs_text.proofs.numbers.lay_signed.Goals as goal

pub lay_number-requires-clause-room : goal.lay_number-requires-clause-room
lay_number-requires-clause-room c = omega (arith, c.requires, length-decimal-le 10 c.unsigned_abs-size.result (omega arith) (omega arith) (omega arith))

pub lay_number-requires-2-clause-room : goal.lay_number-requires-2-clause-room
lay_number-requires-2-clause-room c =
    omega (arith, c.requires, c.lay_byte-behind.ensures.end, c.lay_byte-behind.ensures.room, length-decimal-le 10 c.unsigned_abs-size.result (omega arith) (omega arith) (omega arith))

pub returns-then-n-ge0-clause-laid : goal.returns-then-n-ge0-clause-laid
returns-then-n-ge0-clause-laid c =
    let back = to_z-of_z c.ranges.n in
    placed_as _ _ c.args.at _ _ _ (ap decimal (c.unsigned_abs-size.ensures.value ∙ ap unsigned_abs back) ∙ no_minus c.args.n (rw back at c.if-n-ge0.true)) c.lay_number.ensures

pub returns-then-n-ge0-clause-short : goal.returns-then-n-ge0-clause-short
returns-then-n-ge0-clause-short c =
    let back = to_z-of_z c.ranges.n in
    let same = ap length (ap decimal (c.unsigned_abs-size.ensures.value ∙ ap unsigned_abs back) ∙ no_minus c.args.n (rw back at c.if-n-ge0.true)) in
    omega (arith, same, length-decimal-le 10 c.unsigned_abs-size.result (omega arith) (omega arith) (omega arith))

pub returns-clause-laid : goal.returns-clause-laid
returns-clause-laid c =
    let back = to_z-of_z c.ranges.n in
    placed_as _ _ c.args.at _ _ _ (ap (λ k. 45 ∷ decimal k) (c.unsigned_abs-size.ensures.value ∙ ap unsigned_abs back) ∙ minus_first c.args.n (rw back at c.if-n-ge0.false))
    (placed_both (45 ∷ []) (decimal c.unsigned_abs-size.result) c.args.at _ _ _ _ _ c.lay_byte-behind.ensures c.lay_number-2.ensures)

pub returns-clause-short : goal.returns-clause-short
returns-clause-short c =
    let back = to_z-of_z c.ranges.n in
    let same = ap length (ap (λ k. 45 ∷ decimal k) (c.unsigned_abs-size.ensures.value ∙ ap unsigned_abs back) ∙ minus_first c.args.n (rw back at c.if-n-ge0.false)) in
    omega (arith, same, length-decimal-le 10 c.unsigned_abs-size.result (omega arith) (omega arith) (omega arith))
