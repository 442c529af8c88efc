use Rattle.std.proofs.Common.{◌≡◌, true, ℕ, List, rules, subst, sym}
use Rattle.afs_num.specs.Names.{volume_name_ok}
use Rattle.afs_grammar.proofs.Readers.{label_named}
use Rattle.afs_grammar.proofs.lines.LinesRead.volume.Goals as goal

pub with_volume-requires-clause-name : goal.with_volume-requires-clause-name
with_volume-requires-clause-name g c =
    let same : c.in_ok-from_slice.field-0 ≡ c.in_ok-name.name.now = search rules in
    subst (λ (n : List ℕ). volume_name_ok n ≡ true) (sym same) (label_named _ _ _ c.in_ok-name.ensures)
