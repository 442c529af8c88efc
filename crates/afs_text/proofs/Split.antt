-- Entries that are told behind others, and parcels that are sent behind others: the text goes on.
use Rattle.std.proofs.Common.{◌≡◌, ℕ, zero, suc, ◌+◌, ◌≤◌, List, [], ◌∷◌, ◌++◌, length, take, drop, length-drop, append_assoc, ap, ap₂, refl, sym, ◌∙◌, Bool, arith}
use Rattle.std.proofs.Math.Seq.{drop-nil}
use Rattle.std.proofs.lemmas.List.{drop-append-le, take-append-le}
use Rattle.afs_num.specs.declared.types.Parcel.{Parcel}
use Rattle.spec_history.specs.declared.lines.Entry as kept
use Rattle.afs_text.specs.KeptText.{kept_entries_text, kept_entry_text, kept_history_text}
use Rattle.afs_text.specs.Telling.{sent_by}

drop_both : {A : Type 0} (m n : ℕ) (xs : List A) → drop m (drop n xs) ≡ drop (n + m) xs
drop_both {A} m zero xs =
    let same : m ≡ zero + m = omega (arith) in
    ap (λ (k : ℕ). drop k xs) same
drop_both {A} m (suc n) [] = drop-nil m ∙ sym (drop-nil (suc n + m))
drop_both {A} m (suc n) (x ∷ xs) =
    let same : suc (n + m) ≡ suc n + m = omega (arith) in
    drop_both m n xs ∙ ap (λ (k : ℕ). drop k (x ∷ xs)) same

-- the first of these entries, and then the others
pub kept_split : (wire : Bool) (number place : ℕ) (ps : List Parcel) (es fs : List kept.Entry) →
    kept_entries_text wire number place ps (es ++ fs) ≡ kept_entries_text wire number place ps es ++ kept_entries_text wire (number + length es) (place + sent_by es) (drop (sent_by es) ps) fs
kept_split wire number place ps [] fs = ap₂ (λ (n p : ℕ). kept_entries_text wire n p ps fs) (omega (arith)) (omega (arith))
kept_split wire number place ps (e ∷ es) fs =
    let here = kept_entry_text wire number place (take e.sent ps) e in
    let first = kept_entries_text wire (number + 1) (place + e.sent) (drop e.sent ps) es in
    ap (λ (t : List ℕ). here ++ t) (kept_split wire (number + 1) (place + e.sent) (drop e.sent ps) es fs)
    ∙ (ap (λ (qs : List Parcel). here ++ (first ++ kept_entries_text wire (number + 1 + length es) (place + e.sent + sent_by es) qs fs)) (drop_both (sent_by es) e.sent ps)
    ∙ (ap₂ (λ (n p : ℕ). here ++ (first ++ kept_entries_text wire n p (drop (e.sent + sent_by es) ps) fs)) (omega (arith)) (omega (arith))
    ∙ sym (append_assoc here first _)))

-- entries whose parcels are there tell nothing of those behind
pub kept_front : (wire : Bool) (number place : ℕ) (ps qs : List Parcel) (es : List kept.Entry) → sent_by es ≤ length ps → kept_entries_text wire number place (ps ++ qs) es ≡ kept_entries_text wire number place ps es
kept_front wire number place ps qs [] enough = refl
kept_front wire number place ps qs (e ∷ es) enough =
    let within : e.sent ≤ length ps = omega (arith, enough) in
    let rest : sent_by es ≤ length (drop e.sent ps) = omega (arith, enough, length-drop e.sent ps) in
    ap (λ (ts : List Parcel). kept_entry_text wire number place ts e ++ kept_entries_text wire (number + 1) (place + e.sent) (drop e.sent (ps ++ qs)) es) (take-append-le e.sent ps qs within)
    ∙ ap (λ (t : List ℕ). kept_entry_text wire number place (take e.sent ps) e ++ t)
    (ap (λ (ts : List Parcel). kept_entries_text wire (number + 1) (place + e.sent) ts es) (drop-append-le e.sent ps qs within) ∙ kept_front wire (number + 1) (place + e.sent) (drop e.sent ps) qs es rest)

-- a history goes on with these entries, and with parcels that are sent behind those before
pub history_goes_on : (wire : Bool) (ps qs : List Parcel) (es fs : List kept.Entry) → sent_by es ≤ length ps →
    kept_history_text wire (ps ++ qs) (es ++ fs) ≡ kept_history_text wire ps es ++ kept_entries_text wire (1 + length es) (1 + sent_by es) (drop (sent_by es) (ps ++ qs)) fs
unfolding kept_history_text
history_goes_on wire ps qs es fs enough =
    kept_split wire 1 1 (ps ++ qs) es fs
    ∙ ap (λ (t : List ℕ). t ++ kept_entries_text wire (1 + length es) (1 + sent_by es) (drop (sent_by es) (ps ++ qs)) fs) (kept_front wire 1 1 ps qs es enough)
