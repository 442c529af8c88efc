-- Whose act it is, the act, and the line's end.
use Rattle.std.proofs.Common.{◌≡◌, ℕ, List, [], ◌∷◌, ◌++◌, codes}
use Rattle.afs_num.specs.Texts.{node_text}
use Rattle.afs_num.specs.declared.types.Node.{Node}
use Rattle.afs_text.specs.ActText.{begin_text}
use Rattle.afs_text.proofs.Laid.{behind_row, lays_as, lays_stop, lays_then, row}
use Rattle.afs_text.proofs.acts.lay_begin.Goals as goal

abbrev start : Node → List ℕ
start node = row (codes "begin " ∷ node_text node ∷ []) (codes " ")

whole : (node : Node) (act : List ℕ) → start node ++ (act ++ codes "\n") ≡ begin_text node act
unfolding begin_text
whole node act = behind_row (codes "begin " ∷ node_text node ∷ []) (codes " ") (act ++ codes "\n")

pub returns-in_err-lay_short : goal.returns-in_err-lay_short
returns-in_err-lay_short g c =
    let a = c.args in
    let act = g.P.Print.text a.act.now in
    lays_as _ _ _ _ _ _ _ _ _ (whole a.node act) (lays_stop (start a.node) (act ++ codes "\n") a.piece.now _ _ _ _ _ _ _ c.from_residual.ensures.0 c.in_err-lay_short.ensures)

pub returns-in_err-lay_long : goal.returns-in_err-lay_long
returns-in_err-lay_long g c =
    let a = c.args in
    let act = g.P.Print.text a.act.now in
    lays_as _ _ _ _ _ _ _ _ _ (whole a.node act) (lays_then (start a.node) (act ++ codes "\n") a.piece.now _ _ _ _ _ _ _ _ _ _ c.in_ok-lay_short.ensures (lays_stop act (codes "\n") c.lay_short.new.piece _ _ _ _ _ _ _ c.from_residual-in_err-lay_long.ensures.0 c.in_err-lay_long.ensures))

pub returns : goal.returns
returns g c =
    let a = c.args in
    let act = g.P.Print.text a.act.now in
    lays_as _ _ _ _ _ _ _ _ _ (whole a.node act) (lays_then (start a.node) (act ++ codes "\n") a.piece.now _ _ _ _ _ _ _ _ _ _ c.in_ok-lay_short.ensures (lays_then act (codes "\n") c.lay_short.new.piece _ _ _ _ _ _ _ _ _ _ c.in_ok-lay_long.ensures c.lay_short-2.ensures))
