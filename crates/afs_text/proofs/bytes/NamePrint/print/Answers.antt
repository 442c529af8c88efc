-- A name of plain bytes is its own text.
use Rattle.std.proofs.Common.{sym, ◌∙◌}
use Rattle.afs_text.proofs.Digits.{plain_name}
use Rattle.afs_text.proofs.Octal.{puts_same}
use Rattle.afs_text.proofs.bytes.NamePrint.print.Goals as goal

pub returns-then-is_all_plain : goal.returns-then-is_all_plain
returns-then-is_all_plain g c =
    puts_same _ _ _ _ _ _ _ (sym (plain_name c.args.self.now.0.now (sym c.is_all_plain.ensures ∙ c.if-is_all_plain.true))) c.put_bytes.ensures
