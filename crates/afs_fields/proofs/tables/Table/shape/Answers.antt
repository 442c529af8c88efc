use Rattle.std.proofs.Common.{sym, refl}
use Rattle.afs_fields.proofs.RowLaws.{row_kinds, no_row_kinds}
use Rattle.afs_fields.proofs.tables.Table.shape.Goals as goal

pub returns-in-Some-clause-kinds : goal.returns-in-Some-clause-kinds
returns-in-Some-clause-kinds g c = row_kinds c.args.opcode c.args.self.now.rows c.in-Some.row.now (sym c.in-Some.ensures)

pub returns-in-None-clause-none : goal.returns-in-None-clause-none
returns-in-None-clause-none g c = (refl, no_row_kinds c.args.opcode c.args.self.now.rows (sym c.in-None.ensures))
