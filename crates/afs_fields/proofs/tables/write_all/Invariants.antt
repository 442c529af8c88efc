use Rattle.std.proofs.Common.{◌≡◌, ◌++◌, take}
use Rattle.spec_shape.specs.Spelling.{fields_spelled}
use Rattle.afs_fields.proofs.tables.write_all.Given as goal

abbrev pub invariant-loop-field : goal.invariant-loop-field
invariant-loop-field l = l.w ≡ l.fn.w ++ fields_spelled (take l.field-index l.fields)
