-- Entries that are written with their parcels, one behind another; and what that says of a history, where the parcels are messages.
use Rattle.std.proofs.Common.{◌≡◌, ℕ, ◌+◌, ◌≤◌, ◌<◌, List, [], ◌∷◌, ◌++◌, length, take, drop, refl, ap, sym, ◌∙◌, Bool, Option, arith, length-drop}
use Rattle.std.proofs.Math.ListN.{get_or}
use Rattle.afs_num.specs.declared.types.Parcel.{Parcel}
use Rattle.spec_history.specs.declared.lines.Entry as kept
use Rattle.spec_model.specs.Telling.{code_at}
use Rattle.spec_model.specs.Text.{messages_text, sent_text, entry_head_text}
use Rattle.afs_outside.proofs.Puts.{at_item, Completes}
use Rattle.afs_text.specs.HistoryText.{entries_text, entry_text, history_text}
use Rattle.afs_text.specs.KeptText.{kept_entries_text, kept_entry_text, kept_history_text, parcels_text}
use Rattle.afs_text.specs.RunText.{lines_text}
use Rattle.afs_text.specs.Telling.{messages_of, sent_by, entries_as_told, AreRead}
use Rattle.afs_text.proofs.Sent.{messages_next, read_next, read_take}
use Rattle.afs_text.proofs.Told.{entries_next}

-- ---- in a loop over parcels, and in one over entries

pub sent_left : (wire : Bool) (place after : ℕ) (whole : List ℕ) (a b : Option (List ℕ)) (f g : ℕ) (ps : List Parcel) (i : ℕ) (d p : Parcel) → after ≡ place + 1 → i < length ps → p ≡ get_or ps i d
    → Completes (parcels_text wire place (drop i ps)) whole a b f g → Completes (sent_text wire place p.head (code_at p.bytes) p.bytes ++ parcels_text wire after (drop (i + 1) ps)) whole a b f g
sent_left wire place after whole a b f g ps i d p behind within is left = rw (behind) (at_item (parcels_text wire place) whole a b f g ps i d p within is left)

pub kept_left : (wire : Bool) (number after place : ℕ) (ps own behind : List Parcel) (whole : List ℕ) (a b : Option (List ℕ)) (f g : ℕ) (es : List kept.Entry) (i : ℕ) (d e : kept.Entry) → after ≡ number + 1 → i < length es → e ≡ get_or es i d
    → own ≡ take e.sent ps → behind ≡ drop e.sent ps → Completes (kept_entries_text wire number place ps (drop i es)) whole a b f g
    → Completes (kept_entry_text wire number place own e ++ kept_entries_text wire after (place + e.sent) behind (drop (i + 1) es)) whole a b f g
kept_left wire number after place ps own behind whole a b f g es i d e later within is front back left =
    rw (later, front, back) (at_item (kept_entries_text wire number place ps) whole a b f g es i d e within is left)

-- ---- where the parcels are messages

parcels_told : (wire : Bool) (place : ℕ) (ps : List Parcel) → AreRead ps → parcels_text wire place ps ≡ messages_text wire place (messages_of ps)
parcels_told wire place [] read = refl
parcels_told wire place (p ∷ ps) read =
    ap (λ (t : List ℕ). sent_text wire place p.head (code_at p.bytes) p.bytes ++ t) (parcels_told wire (place + 1) ps (read_next p ps read).others)
    ∙ sym (messages_next wire place p ps read)

entries_told : (wire : Bool) (number place : ℕ) (ps : List Parcel) (es : List kept.Entry) → AreRead ps → sent_by es ≡ length ps → kept_entries_text wire number place ps es ≡ entries_text wire number place (entries_as_told ps es)
unfolding kept_entry_text entry_text
entries_told wire number place ps [] read all = refl
entries_told wire number place ps (e ∷ es) read all =
    let within : e.sent ≤ length ps = omega (arith, all) in
    let both = read_take e.sent ps read in
    let rest : sent_by es ≡ length (drop e.sent ps) = omega (arith, all, length-drop e.sent ps) in
    ap (λ (t : List ℕ). ((entry_head_text number e.actor ++ lines_text e.lines) ++ t) ++ kept_entries_text wire (number + 1) (place + e.sent) (drop e.sent ps) es) (parcels_told wire place (take e.sent ps) both.0)
    ∙ (ap (λ (t : List ℕ). entry_text wire number place (record { actor = e.actor; lines = e.lines; sent = messages_of (take e.sent ps); volumes = [] }) ++ t) (entries_told wire (number + 1) (place + e.sent) (drop e.sent ps) es both.1 rest)
    ∙ sym (entries_next wire number place ps e es read within))

pub history_told : (wire : Bool) (ps : List Parcel) (es : List kept.Entry) → AreRead ps → sent_by es ≡ length ps → kept_history_text wire ps es ≡ history_text wire (entries_as_told ps es)
unfolding kept_history_text history_text
history_told wire ps es read all = entries_told wire 1 1 ps es read all
