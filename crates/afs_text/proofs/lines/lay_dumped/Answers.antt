-- Whose dump it is, the label, and the rest of the line.
use Rattle.std.proofs.Common.{◌≡◌, ℕ, List, [], ◌∷◌, ◌++◌, refl, ap, ◌∙◌, codes}
use Rattle.std.specs.Fmt.{decimal}
use Rattle.afs_num.specs.Texts.{node_text}
use Rattle.afs_num.specs.declared.types.Node.{Node}
use Rattle.spec_model.specs.LineText.{name_text}
use Rattle.afs_text.specs.RunText.{dumped_text}
use Rattle.afs_text.proofs.Laid.{behind_row, lays_as, lays_stop, lays_then, row}
use Rattle.afs_text.proofs.lines.lay_dumped.Goals as goal

abbrev start : Node → List ℕ
start node = row (codes "dumped " ∷ node_text node ∷ []) (codes " ")

abbrev end : ℕ → List ℕ
end size = codes " " ++ (decimal size ++ codes "\n")

abbrev rest : List ℕ → ℕ → List ℕ
rest label size = name_text label ++ end size

whole : (node : Node) (seen label : List ℕ) (size : ℕ) → seen ≡ label → start node ++ rest seen size ≡ dumped_text node label size
unfolding dumped_text
whole node seen label size same =
    behind_row (codes "dumped " ∷ node_text node ∷ []) (codes " ") (rest seen size)
    ∙ ap (λ (l : List ℕ). codes "dumped " ++ (node_text node ++ (codes " " ++ rest l size))) same

pub returns-in_err-lay_short : goal.returns-in_err-lay_short
returns-in_err-lay_short g c =
    let a = c.args in
    lays_as _ _ _ _ _ _ _ _ _ (whole a.node a.label.now a.label.now a.size refl) (lays_stop (start a.node) (rest a.label.now a.size) a.piece.now _ _ _ _ _ _ _ c.from_residual.ensures.0 c.in_err-lay_short.ensures)

pub returns-in_err-lay_long : goal.returns-in_err-lay_long
returns-in_err-lay_long g c =
    let a = c.args in
    let seen = c.as_slice.result.now in
    lays_as _ _ _ _ _ _ _ _ _ (whole a.node seen a.label.now a.size c.as_slice.ensures) (lays_then (start a.node) (rest seen a.size) a.piece.now _ _ _ _ _ _ _ _ _ _ c.in_ok-lay_short.ensures (lays_stop (name_text seen) (end a.size) c.lay_short.new.piece _ _ _ _ _ _ _ c.from_residual-in_err-lay_long.ensures.0 c.in_err-lay_long.ensures))

pub returns : goal.returns
returns g c =
    let a = c.args in
    let seen = c.as_slice.result.now in
    lays_as _ _ _ _ _ _ _ _ _ (whole a.node seen a.label.now a.size c.as_slice.ensures) (lays_then (start a.node) (rest seen a.size) a.piece.now _ _ _ _ _ _ _ _ _ _ c.in_ok-lay_short.ensures (lays_then (name_text seen) (end a.size) c.lay_short.new.piece _ _ _ _ _ _ _ _ _ _ c.in_ok-lay_long.ensures c.lay_short-2.ensures))
