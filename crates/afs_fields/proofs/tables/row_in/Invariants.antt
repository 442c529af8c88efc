use Rattle.std.proofs.Common.{◌≡◌, drop}
use Rattle.afs_fields.specs.TableRows.{find_row}
use Rattle.afs_fields.proofs.tables.row_in.Given as goal

abbrev pub invariant-loop-row : goal.invariant-loop-row
invariant-loop-row g l = find_row l.opcode (drop l.row-index l.rows) ≡ find_row l.opcode l.fn.rows
