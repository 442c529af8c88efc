use Rattle.std.proofs.Common.{ℕ, List, ◌+◌, [], ◌∷◌, arith, slice_set, refl}
use Rattle.std.proofs.lemmas.List.{length-set}
use Rattle.afs_text.proofs.Placed.{placed_both, placed_one}
use Rattle.afs_text.proofs.laying.lay_two.Goals as goal

pub returns : goal.returns
returns c =
    let bytes = c.args.bytes.now in
    let at = c.args.at in
    let first = c.args.first in
    placed_both (first ∷ []) (c.args.second ∷ []) at (at + 1) (at + 2) bytes (slice_set bytes at first) _ (placed_one bytes at first (at + 1) (omega (arith, c.requires)) refl)
    (placed_one (slice_set bytes at first) (at + 1) c.args.second (at + 2) (omega (arith, c.requires, length-set bytes at first)) (omega arith))
