use Rattle.spec_shape.proofs.FieldLaws.{fields_take}
use Rattle.spec_shape.proofs.laws.fields_are_spelled_so.Goals as goal

pub returns : goal.returns
returns c = λ place kinds bytes fields rest fits read.
    let t = fields_take place kinds bytes fields rest fits read in
    (t.takes.parts, t.are_of, t.in_range)
