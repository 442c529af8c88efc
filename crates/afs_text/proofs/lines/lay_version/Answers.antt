-- The version's numbers, what it holds, and the line's end.
use Rattle.std.proofs.Common.{◌≡◌, ℕ, List, [], ◌∷◌, ◌++◌, codes}
use Rattle.std.specs.Fmt.{decimal}
use Rattle.afs_num.specs.Texts.{fid_text}
use Rattle.afs_num.specs.declared.histories.Version.{Version}
use Rattle.spec_model.specs.LineText.{body_text, version_text}
use Rattle.afs_text.proofs.Laid.{behind_row, lays_as, lays_stop, lays_then, row}
use Rattle.afs_text.proofs.lines.lay_version.Goals as goal

abbrev start : Version → List ℕ
start v = row (codes "version " ∷ fid_text v.fid ∷ codes " " ∷ decimal v.index ∷ codes " " ∷ decimal v.data_version ∷ []) (codes " ")

abbrev rest : Version → List ℕ
rest v = body_text v.body ++ codes "\n"

whole : (v : Version) → start v ++ rest v ≡ version_text v
unfolding version_text
whole v = behind_row (codes "version " ∷ fid_text v.fid ∷ codes " " ∷ decimal v.index ∷ codes " " ∷ decimal v.data_version ∷ []) (codes " ") (rest v)

pub returns-in_err-lay_short : goal.returns-in_err-lay_short
returns-in_err-lay_short g c =
    let v = c.args.version.now in
    lays_as _ _ _ _ _ _ _ _ _ (whole v) (lays_stop (start v) (rest v) c.args.piece.now _ _ _ _ _ _ _ c.from_residual.ensures.0 c.in_err-lay_short.ensures)

pub returns-in_err-lay_body : goal.returns-in_err-lay_body
returns-in_err-lay_body g c =
    let v = c.args.version.now in
    lays_as _ _ _ _ _ _ _ _ _ (whole v) (lays_then (start v) (rest v) c.args.piece.now _ _ _ _ _ _ _ _ _ _ c.in_ok-lay_short.ensures (lays_stop (body_text v.body) (codes "\n") c.lay_short.new.piece _ _ _ _ _ _ _ c.from_residual-in_err-lay_body.ensures.0 c.in_err-lay_body.ensures))

pub returns : goal.returns
returns g c =
    let v = c.args.version.now in
    lays_as _ _ _ _ _ _ _ _ _ (whole v) (lays_then (start v) (rest v) c.args.piece.now _ _ _ _ _ _ _ _ _ _ c.in_ok-lay_short.ensures (lays_then (body_text v.body) (codes "\n") c.lay_short.new.piece _ _ _ _ _ _ _ _ _ _ c.in_ok-lay_body.ensures c.lay_short-2.ensures))
