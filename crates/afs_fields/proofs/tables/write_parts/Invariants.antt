use Rattle.std.proofs.Common.{◌≡◌, ◌++◌, take}
use Rattle.spec_shape.specs.Spelling.{fields_spelled}
use Rattle.spec_shape.specs.Parts.{fields_of}
use Rattle.spec_shape.specs.Tables.{AreInRange}
use Rattle.afs_fields.proofs.tables.write_parts.Given as goal

abbrev pub invariant-loop-part : goal.invariant-loop-part
invariant-loop-part l = record {
  written : l.w ≡ l.fn.w ++ fields_spelled (fields_of (take l.part-index l.parts));
  fits : AreInRange (fields_of (take l.part-index l.parts));
}
