-- The line goes before the bytes that were asked for.
use Rattle.std.proofs.Common.{◌≡◌, ℕ, ℤ, Bool, true, List, [], ◌∷◌, ◌++◌, ap, ◌∙◌, codes}
use Rattle.std.specs.Fmt.{decimal}
use Rattle.afs_num.specs.declared.types.Head.{Head}
use Rattle.spec_model.specs.LineText.{hex_text}
use Rattle.spec_model.specs.Telling.{code_at}
use Rattle.spec_model.specs.Text.{code_text, head_text, sent_text}
use Rattle.afs_text.proofs.Laid.{lays_as, lays_stop, lays_then, row, sent_with_bytes}
use Rattle.afs_text.proofs.printing.lay_parcel.Goals as goal

abbrev start : ℕ → Head → ℤ → List ℕ
start place h code = row (codes "sent " ∷ decimal place ∷ codes " " ∷ head_text h ∷ code_text h.half code ∷ []) (codes " ")

abbrev rest : List ℕ → List ℕ
rest bytes = hex_text bytes ++ codes "\n"

whole : (wire : Bool) (place : ℕ) (h : Head) (code : ℤ) (seen own : List ℕ) → wire ≡ true → code ≡ code_at seen → seen ≡ own → start place h code ++ rest seen ≡ sent_text wire place h (code_at own) own
whole wire place h code seen own asked read is =
    ap (λ (k : ℤ). start place h k ++ rest seen) read ∙ ap (λ (b : List ℕ). start place h (code_at b) ++ rest b) is ∙ sent_with_bytes wire place h (code_at own) own asked

pub returns-in_err-lay_short : goal.returns-in_err-lay_short
returns-in_err-lay_short g c =
    let a = c.args in
    let all = whole a.wire a.place a.parcel.now.head c.code_of.result.0 c.as_slice-bytes.result.now a.parcel.now.bytes c.if-wire.true c.code_of.ensures c.as_slice-bytes.ensures in
    lays_as _ _ _ _ _ _ _ _ _ all (lays_stop (start a.place a.parcel.now.head c.code_of.result.0) (rest c.as_slice-bytes.result.now) a.piece.now _ _ _ _ _ _ _ c.from_residual.ensures.0 c.in_err-lay_short.ensures)

pub returns-in_err-lay_hex : goal.returns-in_err-lay_hex
returns-in_err-lay_hex g c =
    let a = c.args in
    let all = whole a.wire a.place a.parcel.now.head c.code_of.result.0 c.as_slice-bytes.result.now a.parcel.now.bytes c.if-wire.true c.code_of.ensures c.as_slice-bytes.ensures in
    lays_as _ _ _ _ _ _ _ _ _ all (lays_then (start a.place a.parcel.now.head c.code_of.result.0) (rest c.as_slice-bytes.result.now) a.piece.now _ _ _ _ _ _ _ _ _ _ c.in_ok-lay_short.ensures (lays_stop (hex_text c.as_slice-bytes.result.now) (codes "\n") c.lay_short.new.piece _ _ _ _ _ _ _ c.from_residual-in_err-lay_hex.ensures.0 c.in_err-lay_hex.ensures))

pub returns-in_ok-lay_hex : goal.returns-in_ok-lay_hex
returns-in_ok-lay_hex g c =
    let a = c.args in
    let all = whole a.wire a.place a.parcel.now.head c.code_of.result.0 c.as_slice-bytes.result.now a.parcel.now.bytes c.if-wire.true c.code_of.ensures c.as_slice-bytes.ensures in
    lays_as _ _ _ _ _ _ _ _ _ all (lays_then (start a.place a.parcel.now.head c.code_of.result.0) (rest c.as_slice-bytes.result.now) a.piece.now _ _ _ _ _ _ _ _ _ _ c.in_ok-lay_short.ensures (lays_then (hex_text c.as_slice-bytes.result.now) (codes "\n") c.lay_short.new.piece _ _ _ _ _ _ _ _ _ _ c.in_ok-lay_hex.ensures c.lay_short-then-wire.ensures))
