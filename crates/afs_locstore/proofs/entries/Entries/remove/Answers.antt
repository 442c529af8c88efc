use Rattle.std.proofs.Common.{◌∙◌, sym}
use Rattle.afs_locstore.proofs.Listed.{indexed_as, without_one}
use Rattle.afs_locstore.proofs.entries.Entries.remove.Goals as goal

pub invariant_of-self : goal.invariant_of-self
invariant_of-self c =
    indexed_as _ _ _ _ _ _ c.take.ensures.table c.take_numbers.ensures.pairs c.take_name.ensures.pairs
    (without_one c.args.number c.in-Some.listed _ _ _ c.self.invariant (sym c.take.ensures.value ∙ c.in-Some.is))
