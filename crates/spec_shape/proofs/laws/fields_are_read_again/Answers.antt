use Rattle.spec_shape.proofs.FieldLaws.{fields_again}
use Rattle.spec_shape.proofs.laws.fields_are_read_again.Goals as goal

pub returns : goal.returns
returns c = λ place kinds fields rest are ranged. fields_again place kinds fields rest are ranged
