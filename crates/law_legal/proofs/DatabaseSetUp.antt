-- What set-up puts on the location database's disk is what it begins with.
use Rattle.spec_rows.specs.LocRow.{loc_durable_of}
use Rattle.law_legal.proofs.BaseLaws.{some_of}
use Rattle.law_legal.specs.Laws.{AscendBy}
use Rattle.law_legal.specs.DatabaseRuns.{LocSetUpsAreFirst}
use Rattle.spec_ideal.specs.Tables.{set, Table, AscendsFrom}
use Rattle.spec_records.specs.LocRecords.{Listed}
use Rattle.spec_records.specs.LocDurable.{lines_listed, entries_set, LocDurable, loc_has_room, listed_line, loc_folded, loc_first_record, loc_first_folded, nothing_listed}
use Rattle.spec_history.specs.declared.scripts.VolumeLine.{VolumeLine}
use Rattle.spec_rows.specs.Runs.{counts_later, listed_by, first_entries, first_loc}
use Rattle.law_legal.proofs.ServerFirstDisk.{below_more, below_nil, nil_behind, set_first, set_last, below_up, not_later, AllBelow, none_is}
use Rattle.std.proofs.Common.{◌≡◌, ℕ, ◌+◌, Bool, true, false, cond, List, [], ◌∷◌, ◌++◌, Option, Some, None, refl, sym, ap, ◌∙◌, arith, append_assoc}

abbrev listed_lines : List VolumeLine → Table Listed
listed_lines [] = []
listed_lines (v ∷ vs) = (v.id, listed_line v) ∷ listed_lines vs

-- the entries that the first record sets, one behind the other
entries_are : (vs : List VolumeLine) (t : Table Listed) (n : ℕ) → AllBelow n t → AscendBy n vs → entries_set (lines_listed vs) t ≡ t ++ listed_lines vs
entries_are [] t n b up = sym (nil_behind t)
entries_are (v ∷ vs) t n b up =
    let x : Listed = listed_line v in
    let low : AllBelow v.id t = below_up n v.id t up.0 b in
    let last : set v.id x t ≡ t ++ (v.id, x) ∷ [] = set_last v.id x t low in
    ap (entries_set (lines_listed vs)) last ∙ (entries_are vs (t ++ (v.id, x) ∷ []) (v.id + 1) (below_more v.id (v.id + 1) x t (omega arith) low) up.1 ∙ append_assoc t ((v.id, x) ∷ []) (listed_lines vs))

-- and those that it begins with
listed_up : (vs : List VolumeLine) (n : ℕ) → AscendBy n vs → AscendsFrom n (listed_lines vs)
listed_up [] n up = tt
listed_up (v ∷ vs) n up = (up.0, listed_up vs (v.id + 1) up.1)

first_are : (vs : List VolumeLine) (n : ℕ) → AscendBy n vs → first_entries vs ≡ listed_lines vs
first_are [] n up = refl
first_are (v ∷ vs) n up =
    ap (λ (b : Bool). listed_by b v (first_entries vs)) (not_later v vs up.1)
    ∙ (ap (set v.id (listed_line v)) (first_are vs (v.id + 1) up.1) ∙ set_first v.id (v.id + 1) (listed_line v) (listed_lines vs) (omega arith) (listed_up vs (v.id + 1) up.1))

set_by : (b : Bool) (capacity : ℕ) (vs : List VolumeLine) (d : LocDurable) → AscendBy 0 vs → cond b (loc_first_folded (loc_first_record vs) (nothing_listed capacity)) None ≡ Some d → d ≡ loc_durable_of (first_loc capacity vs).lasting
unfolding loc_folded
set_by false capacity vs d up h = absurd (none_is d h)
set_by true capacity vs d up h =
    let first : LocDurable = loc_durable_of (first_loc capacity vs).lasting in
    sym (some_of (record first { entries = entries_set (lines_listed vs) [] }) d h) ∙ ap (λ (t : Table Listed). record first { entries = t }) (entries_are vs [] 0 (below_nil Listed 0) up ∙ sym (first_are vs 0 up))

pub loc_set_ups_first : LocSetUpsAreFirst
loc_set_ups_first capacity vs d up h = set_by (loc_has_room (nothing_listed capacity) (loc_first_record vs)) capacity vs d up h
