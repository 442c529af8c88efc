-- The text of entries as the program keeps them, with the parcels that they sent, whatever bytes these have.
use Rattle.std.specs.Prelude.{ℕ, ◌+◌, List, [], ◌∷◌, ◌++◌, Bool, take, drop}
use Rattle.afs_num.specs.declared.types.Parcel.{Parcel}
use Rattle.spec_history.specs.declared.lines.Entry as kept
use Rattle.spec_model.specs.Telling.{code_at}
use Rattle.spec_model.specs.Text.{sent_text, entry_head_text}
use Rattle.afs_text.specs.RunText.{lines_text}

-- the line of each parcel, by its header and by the code that its bytes have where a reply has one
abbrev pub parcels_text : Bool → ℕ → List Parcel → List ℕ
parcels_text wire place [] = []
parcels_text wire place (p ∷ ps) = sent_text wire place p.head (code_at p.bytes) p.bytes ++ parcels_text wire (place + 1) ps

-- an entry of this number, which sent these, the first of them with this place
unfoldable pub kept_entry_text : Bool → ℕ → ℕ → List Parcel → kept.Entry → List ℕ
kept_entry_text wire number place sent e = (entry_head_text number e.actor ++ lines_text e.lines) ++ parcels_text wire place sent

-- each entry with the next of these parcels
abbrev pub kept_entries_text : Bool → ℕ → ℕ → List Parcel → List kept.Entry → List ℕ
kept_entries_text wire number place ps [] = []
kept_entries_text wire number place ps (e ∷ es) = kept_entry_text wire number place (take e.sent ps) e ++ kept_entries_text wire (number + 1) (place + e.sent) (drop e.sent ps) es

unfoldable pub kept_history_text : Bool → List Parcel → List kept.Entry → List ℕ
kept_history_text wire ps es = kept_entries_text wire 1 1 ps es
