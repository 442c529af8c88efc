-- A disk at set-up: what its first record makes of it.
use Rattle.std.proofs.Common.{◌≡◌, ℕ, ◌+◌, ◌≤◌, Bool, true, false, not, List, [], ◌∷◌, length, Option, Some, None, is_some, nat_lt, if◌then◌else◌, refl, sym, ap, subst, ◌∙◌, arith, inl, inr}
use Rattle.std.specs.Prelude.{Result, Ok, Err, IfOk, MatchResult}
use Rattle.std.proofs.lemmas.Bool.{le-ltb}
use Rattle.std.specs.Option.{option_map}
use Rattle.afs_num.specs.declared.records.StoreRecord.{StoreRecord}
use Rattle.spec_history.specs.declared.scripts.VolumeLine.{VolumeLine}
use Rattle.spec_shape.specs.Taking.{◌>>=◌}
use Rattle.spec_ideal.specs.Tables.{Table}
use Rattle.afs_journal.specs.Records.{IsBeforeOrAfter}
use Rattle.spec_records.specs.Changes.{first_record, record_of_volumes, volumes_laid}
use Rattle.spec_fold.specs.SetUps.{set_up}
use Rattle.afs_num.specs.declared.records.RecordBody.{RecordBody}
use Rattle.afs_num.specs.declared.records.RecordBody.TheVariants as bodies
use Rattle.spec_records.specs.Durable.{has_room, noted, nothing_on, place_length, placing, with_journal, Durable, Stored}
use Rattle.spec_fold.specs.Fold.{is_first, body_taken, first_folded, fold_all, fold_from, folded}
use Rattle.spec_records.specs.Laws.{RecordsAreReadAgain}
use Rattle.spec_records.specs.Records.{record_bytes, FitsRecord}
use Rattle.afs_volstore.specs.Opening.{IsSetUpSoFar}
use Rattle.afs_memory.specs.States.{on_disk}
use Rattle.afs_store.proofs.Folding.{folded_is}
use Rattle.afs_volstore.specs.VolumeFold.{volume_fold}
use Rattle.afs_volstore.specs.VolumeLaws.{volume_sound}
pub use Rattle.afs_store.proofs.Begun.{nothing_there}

first_by : (o : Option (Table Stored)) (r : StoreRecord) → (o >>= λ t. Some (record_of_volumes t)) ≡ Some r → is_first r.body ≡ true
first_by None r e = absurd cc
first_by (Some t) r e = subst (λ (x : StoreRecord). is_first x.body ≡ true) (same (record_of_volumes t) r e) refl
  where
    same : (x y : StoreRecord) → Some x ≡ Some y → x ≡ y
    same x y q = cc

-- what the first record makes of a disk of this capacity
pub record IsMade (capacity : ℕ) (ls : List VolumeLine) (r : StoreRecord) (e : Durable) : Type 0 where
  pub made : set_up capacity ls ≡ Some e
  pub stands : fold_all capacity (record_bytes r ∷ []) ≡ Some e
  pub same : e.capacity ≡ capacity

has_place : (capacity : ℕ) (r : StoreRecord) → length (record_bytes r) + 10 ≤ capacity → has_room (nothing_on capacity) r ≡ true
has_place capacity r le = ap not (let z : nat_lt capacity (1 + place_length r) ≡ false = le-ltb capacity (1 + place_length r) (omega (arith, le)) in z)

folds_first : (capacity : ℕ) (r : StoreRecord) (d e : Durable) → is_first r.body ≡ true → nothing_on capacity ≡ on_disk 1 capacity d → option_map (noted r.head) (body_taken r.body d) ≡ Some e
    → first_folded r (nothing_on capacity) ≡ Some (on_disk (1 + place_length r) capacity e)
folds_first capacity r d e first none taken =
    ap (λ (b : Bool). if b then folded r (nothing_on capacity) else None) first ∙ (ap (folded r) none ∙ folded_is volume_fold volume_sound r 1 capacity d e taken)

-- what was put on the disk is what set-up makes
pub set_up_is : (capacity : ℕ) (ls : List VolumeLine) (r : StoreRecord) (e : Durable) → first_record ls ≡ Some r → length (record_bytes r) + 10 ≤ capacity → first_folded r (nothing_on capacity) ≡ Some e → set_up capacity ls ≡ Some e
set_up_is capacity ls r e is le after =
    ap (λ (o : Option StoreRecord). o >>= λ x. (if has_room (nothing_on capacity) x then first_folded x (nothing_on capacity) else None)) is
    ∙ (ap (λ (b : Bool). if b then first_folded r (nothing_on capacity) else None) (has_place capacity r le) ∙ after)

is_made : (law : RecordsAreReadAgain) (capacity : ℕ) (ls : List VolumeLine) (r : StoreRecord) (d e : Durable) → first_record ls ≡ Some r → FitsRecord r → length (record_bytes r) + 10 ≤ capacity → nothing_on capacity ≡ on_disk 1 capacity d
    → option_map (noted r.head) (body_taken r.body d) ≡ Some e → IsMade capacity ls r (on_disk (1 + place_length r) capacity e)
is_made law capacity ls r d e is fits le none taken =
    let after = folds_first capacity r d e (first_by (volumes_laid ls []) r is) none taken in
    record {
      made = set_up_is capacity ls r (on_disk (1 + place_length r) capacity e) is le after;
      stands = ap (λ (o : Option StoreRecord). o >>= λ x. (first_folded x (nothing_on capacity) >>= fold_from [])) (law r fits)
          ∙ ap (λ (o : Option Durable). o >>= fold_from []) after;
      same = refl;
    }

some_taken : (r : StoreRecord) (o : Option Durable) → is_some o ≡ true → (e : Durable) × (option_map (noted r.head) o ≡ Some e)
some_taken r None e = absurd cc
some_taken r (Some d) e = (noted r.head d, refl)

some_made : (law : RecordsAreReadAgain) (capacity : ℕ) (ls : List VolumeLine) (r : StoreRecord) (d : Durable) → first_record ls ≡ Some r → FitsRecord r → length (record_bytes r) + 10 ≤ capacity → nothing_on capacity ≡ on_disk 1 capacity d
    → is_some (body_taken r.body d) ≡ true → (e : Durable) × IsMade capacity ls r e
some_made law capacity ls r d is fits le none can =
    let e = some_taken r (body_taken r.body d) can in
    (on_disk (1 + place_length r) capacity e.0, is_made law capacity ls r d e.0 is fits le none e.1)

-- ---- what a crash leaves

-- a record that is put or not is set-up so far
pub left_so_far : (capacity : ℕ) (ls : List VolumeLine) (r : StoreRecord) (c : List ℕ) → (e : Durable) × IsMade capacity ls r e → IsBeforeOrAfter [] (record_bytes r) c → IsSetUpSoFar capacity ls c
left_so_far capacity ls r c (e, made) (inl before) = inl before
left_so_far capacity ls r c (e, made) (inr after) = inr (e, (made.made, subst (λ (rs : List (List ℕ)). fold_all e.capacity rs ≡ Some e) (sym after) (subst (λ (n : ℕ). fold_all n (record_bytes r ∷ []) ≡ Some e) (sym made.same) made.stands)))

-- ---- set-up on a disk

-- what an outcome has, it has by what follows
pub matched_on : {T E : Type 0} (r : Result T E) (P Q : T → Type 0) (R S : E → Type 0) → MatchResult r P R → ((x : T) → P x → Q x) → ((e : E) → R e → S e) → MatchResult r Q S
matched_on {T} {E} (Ok x) P Q R S is ok err = ok x is
matched_on {T} {E} (Err e) P Q R S is ok err = err e is

pub on_ok : {T E : Type 0} (r : Result T E) (P Q : T → Type 0) → IfOk r P → ((x : T) → P x → Q x) → IfOk r Q
on_ok {T} {E} (Ok x) P Q is more = more x is
on_ok {T} {E} (Err e) P Q is more = tt

-- what stands on a disk without records, but for its length and capacity
abbrev pub bare : ℕ → Durable
bare capacity = record (nothing_on capacity) { journal = 0; capacity = 0 }

pub made_on : (law : RecordsAreReadAgain) (capacity : ℕ) (ls : List VolumeLine) (r : StoreRecord) → first_record ls ≡ Some r → FitsRecord r → length (record_bytes r) + 10 ≤ capacity → ((d : Durable) → d.volumes ≡ [] → is_some (body_taken r.body d) ≡ true)
    → (e : Durable) × IsMade capacity ls r e
made_on law capacity ls r is fits le can = some_made law capacity ls r (bare capacity) is fits le refl (can (bare capacity) refl)

-- a record that fits sets something up
pub not_none : (capacity : ℕ) (ls : List VolumeLine) (r : StoreRecord) → (e : Durable) × IsMade capacity ls r e → set_up capacity ls ≡ None → ⊥
not_none capacity ls r (e, made) none = some_isnt (sym made.made ∙ none)
  where
    some_isnt : ◌≡◌ {A = Option Durable} (Some e) None → ⊥
    some_isnt q = cc

-- what a record does can be done as its body can be taken
pub done_is_taken : (r : StoreRecord) (o : Option Durable) → is_some o ≡ true → is_some (option_map (noted r.head) o) ≡ true
done_is_taken r None e = e
done_is_taken r (Some d) e = refl
