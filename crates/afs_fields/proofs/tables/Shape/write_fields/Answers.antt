use Rattle.spec_shape.specs.Tables.{kinds_of}
use Rattle.spec_shape.proofs.Spellable.{AreOf-spellable}
use Rattle.afs_fields.proofs.tables.Shape.write_fields.Goals as goal

pub write_all-requires : goal.write_all-requires
write_all-requires g c = rw c.as_slice.ensures (AreOf-spellable (kinds_of c.args.self.now.kinds) c.args.fields.now c.requires)
