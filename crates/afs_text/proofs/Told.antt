-- Entries that are told with their parcels, one behind another.
use Rattle.std.proofs.Common.{◌≡◌, ℕ, ◌+◌, ◌≤◌, ◌<◌, List, [], ◌∷◌, ◌++◌, length, take, drop, length-drop, ap, sym, ◌∙◌, Bool, arith}
use Rattle.std.proofs.lemmas.List.{length-take-le, drop_more}
use Rattle.std.proofs.Math.ListN.{get_or}
use Rattle.afs_num.specs.declared.types.Parcel.{Parcel}
use Rattle.spec_history.specs.declared.lines.Entry as kept
use Rattle.spec_model.proofs.Texts.{parcels_length}
use Rattle.spec_rows.specs.Runs.{Entry}
use Rattle.afs_text.specs.HistoryText.{entry_text, entries_text}
use Rattle.afs_text.specs.Telling.{messages_of, AreRead, entries_as_told, sent_by}
use Rattle.afs_text.proofs.Sent.{read_take}

-- the text of the first entry, with the parcels that it sent, and that of the others
pub entries_next : (wire : Bool) (number place : ℕ) (ps : List Parcel) (e : kept.Entry) (es : List kept.Entry) → AreRead ps → e.sent ≤ length ps
    → entries_text wire number place (entries_as_told ps (e ∷ es))
    ≡ entry_text wire number place (record { actor = e.actor; lines = e.lines; sent = messages_of (take e.sent ps); volumes = [] }) ++ entries_text wire (number + 1) (place + e.sent) (entries_as_told (drop e.sent ps) es)
entries_next wire number place ps e es read within =
    let entry : Entry = record { actor = e.actor; lines = e.lines; sent = messages_of (take e.sent ps); volumes = [] } in
    let size : length (messages_of (take e.sent ps)) ≡ e.sent =
    sym (parcels_length (take e.sent ps) (messages_of (take e.sent ps)) (read_take e.sent ps read).0) ∙ length-take-le e.sent ps within in
    ap (λ (n : ℕ). entry_text wire number place entry ++ entries_text wire (number + 1) (place + n) (entries_as_told (drop e.sent ps) es)) size

pub sent_next : (es : List kept.Entry) (i : ℕ) (e : kept.Entry) → i < length es → e ≡ get_or es i e → sent_by (drop i es) ≡ e.sent + sent_by (drop (i + 1) es)
sent_next es i e within is = ap sent_by (drop_more es i e within) ∙ ap (λ (x : kept.Entry). x.sent + sent_by (drop (i + 1) es)) (sym is)

-- the first entry's parcels are there
pub enough_left : (es : List kept.Entry) (i n : ℕ) (e : kept.Entry) → i < length es → e ≡ get_or es i e → sent_by (drop i es) ≡ n → e.sent ≤ n
enough_left es i n e within is all = omega (arith, sent_next es i e within is, all)

-- and those of the others behind them
pub others_left : (es : List kept.Entry) (i : ℕ) (e : kept.Entry) (ps behind : List Parcel) → i < length es → e ≡ get_or es i e → sent_by (drop i es) ≡ length ps → behind ≡ drop e.sent ps → sent_by (drop (i + 1) es) ≡ length behind
others_left es i e ps behind within is all back = omega (arith, sent_next es i e within is, all, ap (λ (qs : List Parcel). length qs) back, length-drop e.sent ps)
