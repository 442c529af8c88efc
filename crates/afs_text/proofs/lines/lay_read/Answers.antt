-- What the read is of, what it shows, and the line's end.
use Rattle.std.proofs.Common.{◌≡◌, ℕ, List, [], ◌∷◌, ◌++◌, codes}
use Rattle.std.specs.Fmt.{decimal}
use Rattle.afs_num.specs.Texts.{fid_text, node_text}
use Rattle.afs_num.specs.declared.types.Fid.{Fid}
use Rattle.afs_num.specs.declared.types.Node.{Node}
use Rattle.afs_num.specs.declared.histories.ReadBody.{ReadBody}
use Rattle.afs_num.specs.declared.histories.ReadSource.{ReadSource}
use Rattle.spec_model.specs.LineText.{read_body_text, read_text, source_text}
use Rattle.afs_text.proofs.Laid.{behind_row, lays_as, lays_stop, lays_then, row}
use Rattle.afs_text.proofs.lines.lay_read.Goals as goal

abbrev start : Node → Fid → ℕ → ReadSource → List ℕ
start client fid index source = row (codes "read " ∷ node_text client ∷ codes " " ∷ fid_text fid ∷ codes " " ∷ decimal index ∷ codes " " ∷ source_text source ∷ []) (codes " ")

abbrev rest : ReadBody → List ℕ
rest body = read_body_text body ++ codes "\n"

whole : (client : Node) (fid : Fid) (index : ℕ) (source : ReadSource) (body : ReadBody) → start client fid index source ++ rest body ≡ read_text client fid index source body
unfolding read_text
whole client fid index source body = behind_row (codes "read " ∷ node_text client ∷ codes " " ∷ fid_text fid ∷ codes " " ∷ decimal index ∷ codes " " ∷ source_text source ∷ []) (codes " ") (rest body)

pub returns-in_err-lay_short : goal.returns-in_err-lay_short
returns-in_err-lay_short g c =
    let a = c.args in
    lays_as _ _ _ _ _ _ _ _ _ (whole a.client a.fid a.index a.source a.body.now) (lays_stop (start a.client a.fid a.index a.source) (rest a.body.now) a.piece.now _ _ _ _ _ _ _ c.from_residual.ensures.0 c.in_err-lay_short.ensures)

pub returns-in_err-lay_read_body : goal.returns-in_err-lay_read_body
returns-in_err-lay_read_body g c =
    let a = c.args in
    lays_as _ _ _ _ _ _ _ _ _ (whole a.client a.fid a.index a.source a.body.now) (lays_then (start a.client a.fid a.index a.source) (rest a.body.now) a.piece.now _ _ _ _ _ _ _ _ _ _ c.in_ok-lay_short.ensures (lays_stop (read_body_text a.body.now) (codes "\n") c.lay_short.new.piece _ _ _ _ _ _ _ c.from_residual-in_err-lay_read_body.ensures.0 c.in_err-lay_read_body.ensures))

pub returns : goal.returns
returns g c =
    let a = c.args in
    lays_as _ _ _ _ _ _ _ _ _ (whole a.client a.fid a.index a.source a.body.now) (lays_then (start a.client a.fid a.index a.source) (rest a.body.now) a.piece.now _ _ _ _ _ _ _ _ _ _ c.in_ok-lay_short.ensures (lays_then (read_body_text a.body.now) (codes "\n") c.lay_short.new.piece _ _ _ _ _ _ _ _ _ _ c.in_ok-lay_read_body.ensures c.lay_short-2.ensures))
