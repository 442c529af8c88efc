use Rattle.std.proofs.Common.{inl, inr}
use Rattle.law_legal.proofs.laws.reads_are_newest.Goals as goal

pub returns : goal.returns
returns c = λ s n f index source body past own read unbroken. elim read.newest [ inl withdrawn ↦ absurd (unbroken (withdrawn, read.kept)) | inr last ↦ last ]
