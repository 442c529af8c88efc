use Rattle.std.proofs.Common.{◌∷◌, List, ℕ, ap, sym, ◌∙◌}
use Rattle.afs_words.specs.Words.{unescaped_from}
use Rattle.afs_words.proofs.Escapes.{escaped_on}
use Rattle.afs_words.proofs.names.next_byte.Goals as goal

pub returns-clause-some : goal.returns-clause-some
returns-clause-some c = λ out.
    ap (unescaped_from out) (c.in_ok-mark.ensures.some ∙ ap (λ (l : List ℕ). c.in_ok-mark.mark ∷ l) c.in_ok-high.ensures.some)
    ∙ escaped_on out c.in_ok-mark.mark c.in_ok-high.high c.in_ok-high.low c.in_ok-byte.byte c.in_ok-high.rest.now (sym c.is_plain.ensures ∙ c.if-is_plain.false) c.in_ok-byte.ensures
