-- A disk at set-up: what its first record makes of it.
use Rattle.std.proofs.Common.{◌≡◌, ◌≤◌, ◌<◌, ◌+◌, ℕ, Bool, true, false, not, List, [], ◌∷◌, length, Option, Some, None, nat_lt, if◌then◌else◌, refl, sym, ap, subst, ◌∙◌, arith, inl, inr, le-ltb, lt-ltb}
use Rattle.spec_history.specs.declared.scripts.VolumeLine.{VolumeLine}
use Rattle.afs_journal.specs.Records.{IsBeforeOrAfter}
use Rattle.spec_shape.specs.Taking.{◌>>=◌}
use Rattle.spec_records.specs.LocDurable.{entries_set, first_id, first_stamp, lines_listed, loc_first_folded, loc_first_record, loc_fold_all, loc_fold_from, loc_folded, loc_has_room, loc_place_length, loc_placing, loc_set_up, loc_with_journal, nothing_listed, numbered_as, LocDurable}
use Rattle.spec_records.specs.LocLaws.{LocRecordsAreReadAgain}
use Rattle.spec_records.specs.LocRecords.{loc_record_bytes, FitsLocRecord, LocRecord}
use Rattle.law_legal.specs.DatabaseRuns.{IsAfter}
use Rattle.spec_model.specs.Calls.{call_seat}
use Rattle.afs_num.specs.declared.types.Node.TheVariants.{Loc}
use Rattle.afs_locdb.specs.Creating.{IsSetUpSoFar}
use Rattle.afs_locdb.specs.Seen.{lasting_of, Database, Serves}
pub use Rattle.afs_store.proofs.Begun.{nothing_there}

abbrev some : {A : Type 0} → A → Option A
some x = Some x

some_is : {A : Type 0} (x y : A) → some x ≡ some y → x ≡ y
some_is x y e = cc

-- what the first record makes of a disk of this capacity
abbrev pub made_of : ℕ → List VolumeLine → LocDurable
made_of capacity ls =
    let none = nothing_listed capacity in
    loc_with_journal (loc_placing none (loc_first_record ls)).journal (numbered_as (first_id + length ls) first_stamp (record none { entries = entries_set (lines_listed ls) [] }))

folds_first : (capacity : ℕ) (ls : List VolumeLine) → loc_folded (loc_first_record ls) (nothing_listed capacity) ≡ Some (made_of capacity ls)
unfolding loc_folded
folds_first capacity ls = refl

has_place : (capacity : ℕ) (ls : List VolumeLine) → length (loc_record_bytes (loc_first_record ls)) + 10 ≤ capacity → loc_has_room (nothing_listed capacity) (loc_first_record ls) ≡ true
has_place capacity ls le = ap not (let z : nat_lt capacity (1 + loc_place_length (loc_first_record ls)) ≡ false = le-ltb capacity (1 + loc_place_length (loc_first_record ls)) (omega (arith, le)) in z)

no_place : (capacity : ℕ) (ls : List VolumeLine) → capacity < length (loc_record_bytes (loc_first_record ls)) + 10 → loc_has_room (nothing_listed capacity) (loc_first_record ls) ≡ false
no_place capacity ls lt = ap not (let z : nat_lt capacity (1 + loc_place_length (loc_first_record ls)) ≡ true = lt-ltb capacity (1 + loc_place_length (loc_first_record ls)) (omega (arith, lt)) in z)

abbrev if_room : ℕ → List VolumeLine → Bool → Option LocDurable
if_room capacity ls b = if b then loc_first_folded (loc_first_record ls) (nothing_listed capacity) else None

pub made_on : (capacity : ℕ) (ls : List VolumeLine) → length (loc_record_bytes (loc_first_record ls)) + 10 ≤ capacity → loc_set_up capacity ls ≡ Some (made_of capacity ls)
made_on capacity ls le = ap (if_room capacity ls) (has_place capacity ls le) ∙ folds_first capacity ls

-- a record that doesn't fit sets nothing up
pub none_on : (capacity : ℕ) (ls : List VolumeLine) → capacity < length (loc_record_bytes (loc_first_record ls)) + 10 → loc_set_up capacity ls ≡ None
none_on capacity ls lt = ap (if_room capacity ls) (no_place capacity ls lt)

-- and one that fits something
pub not_none : (capacity : ℕ) (ls : List VolumeLine) → length (loc_record_bytes (loc_first_record ls)) + 10 ≤ capacity → loc_set_up capacity ls ≡ None → ⊥
not_none capacity ls le none = let z : ◌≡◌ {A = Option LocDurable} (Some (made_of capacity ls)) None = sym (made_on capacity ls le) ∙ none in absurd cc

-- what the first record makes is what set-up makes
pub made_as : (capacity : ℕ) (ls : List VolumeLine) (r : LocRecord) (d : LocDurable) → r ≡ loc_first_record ls → length (loc_record_bytes r) + 10 ≤ capacity → loc_first_folded r (nothing_listed capacity) ≡ Some d → loc_set_up capacity ls ≡ Some d
made_as capacity ls r d is le folds =
    ap (if_room capacity ls) (has_place capacity ls (subst (λ (q : LocRecord). length (loc_record_bytes q) + 10 ≤ capacity) is le)) ∙ (ap (λ (q : LocRecord). loc_first_folded q (nothing_listed capacity)) (sym is) ∙ folds)

stands : (law : LocRecordsAreReadAgain) (capacity : ℕ) (ls : List VolumeLine) → FitsLocRecord (loc_first_record ls) → loc_fold_all capacity (loc_record_bytes (loc_first_record ls) ∷ []) ≡ Some (made_of capacity ls)
stands law capacity ls fits =
    ap (λ (o : Option LocRecord). o >>= λ r. (loc_first_folded r (nothing_listed capacity) >>= loc_fold_from [])) (law (loc_first_record ls) fits)
    ∙ ap (λ (o : Option LocDurable). o >>= loc_fold_from []) (folds_first capacity ls)

-- ---- what a crash leaves

-- a record that is put or not is set-up so far
pub left_so_far : (law : LocRecordsAreReadAgain) (capacity : ℕ) (ls : List VolumeLine) (r : LocRecord) (c : List ℕ) → r ≡ loc_first_record ls → FitsLocRecord r → length (loc_record_bytes r) + 10 ≤ capacity → IsBeforeOrAfter [] (loc_record_bytes r) c → IsSetUpSoFar capacity ls c
left_so_far law capacity ls r c is fits le (inl before) = inl before
left_so_far law capacity ls r c is fits le (inr after) =
    let e = made_of capacity ls in
    let made = made_on capacity ls (subst (λ (q : LocRecord). length (loc_record_bytes q) + 10 ≤ capacity) is le) in
    inr (e, (made, subst (λ (rs : List (List ℕ)). loc_fold_all capacity rs ≡ Some e) (sym after) (subst (λ (q : LocRecord). loc_fold_all capacity (loc_record_bytes q ∷ []) ≡ Some e) (sym is) (stands law capacity ls (subst FitsLocRecord is fits)))))

-- ---- a new database

pub first_boot : (capacity : ℕ) (ls : List VolumeLine) (r : LocRecord) (d : LocDurable) → r ≡ loc_first_record ls → length (loc_record_bytes r) + 10 ≤ capacity → loc_first_folded r (nothing_listed capacity) ≡ Some d → d.boot ≡ 1
first_boot capacity ls r d is le folds =
    let same : d ≡ made_of capacity ls = some_is d (made_of capacity ls) (sym folds ∙ (ap (λ (q : LocRecord). loc_first_folded q (nothing_listed capacity)) is ∙ folds_first capacity ls)) in
    ap (λ (e : LocDurable). e.boot) same

pub new_serves : {D : Type 0} (capacity : ℕ) (ls : List VolumeLine) (b : Database D) → length (loc_record_bytes (loc_first_record ls)) + 10 ≤ capacity → loc_set_up capacity ls ≡ Some b.store.durable → b.boot ≡ 1 → b.store.node ≡ Loc → Serves b
new_serves {D} capacity ls b le made boot node =
    let is : b.store.durable ≡ made_of capacity ls = some_is b.store.durable (made_of capacity ls) (sym made ∙ made_on capacity ls le) in
    record {
      here = record { boot = boot ∙ sym (ap (λ (d : LocDurable). d.boot) is); node = node };
      settled = record { kept = λ n epoch number h. subst (λ (d : LocDurable). IsAfter (call_seat n (lasting_of d).kept) epoch number) (sym is) tt };
    }
