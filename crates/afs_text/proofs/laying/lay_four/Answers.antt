use Rattle.std.proofs.Common.{[], ◌∷◌, arith}
use Rattle.afs_text.proofs.Placed.{placed_both}
use Rattle.afs_text.proofs.laying.lay_four.Goals as goal

pub lay_two-requires : goal.lay_two-requires
lay_two-requires c = omega (arith, c.requires, c.lay_two-behind.ensures.end, c.lay_two-behind.ensures.room)

pub returns : goal.returns
returns c = placed_both (c.args.first ∷ c.args.second ∷ []) (c.args.third ∷ c.args.fourth ∷ []) c.args.at _ _ _ _ _ c.lay_two-behind.ensures c.lay_two.ensures
