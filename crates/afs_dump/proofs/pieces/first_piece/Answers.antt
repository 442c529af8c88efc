use Rattle.std.proofs.Common.{◌≤◌, ◌∙◌, ℕ, sym, subst}
use Rattle.std.proofs.lemmas.List.{take_all}
use Rattle.spec_volrows.specs.VolRow.{most_piece}
use Rattle.afs_dump.proofs.pieces.first_piece.Goals as goal

pub returns-in_ok-copy : goal.returns-in_ok-copy
returns-in_ok-copy c =
    let few = subst (λ (n : ℕ). n ≤ most_piece) c.len.ensures.value c.if-len-le-MOST_PIECE.true in
    c.in_ok-copy.ensures ∙ sym (take_all most_piece c.args.whole.now few)
