-- A disk that is begun: a journal without records, and then the first record on it.
use Rattle.std.proofs.Common.{◌≡◌, ℕ, ◌+◌, Bool, true, List, [], ◌∷◌, ◌++◌, length, Option, Some, None, is_some, if◌then◌else◌, refl, sym, ap, subst, ◌∙◌, arith}
use Rattle.afs_journal.specs.Log.{IsJournal, StandsAsBefore}
use Rattle.afs_journal.specs.Records.{journal_bytes, whole_records}
use Rattle.afs_store.specs.Folding.{Folding}
use Rattle.afs_store.specs.Folds.{folded_from, place_length, taken_as}
use Rattle.afs_store.specs.Sound.{IsSound}
use Rattle.afs_store.specs.Stores.{IsKept, StandFor}
use Rattle.spec_shape.specs.Taking.{◌>>=◌}
use Rattle.afs_store.proofs.Attached.{kept_by}
use Rattle.afs_store.proofs.Folding.{folded_is, some_of}

-- ---- a journal that begins

no_bytes : (bytes : List ℕ) → length bytes ≡ 0 → bytes ≡ []
no_bytes [] none = refl
no_bytes (x ∷ bytes) none = absurd (omega arith)

none_in_nothing : whole_records [] ≡ []
unfolding whole_records
none_in_nothing = refl

nothing_whole : (bytes : List ℕ) → length bytes ≡ 0 → whole_records bytes ≡ []
nothing_whole bytes none = ap whole_records (no_bytes bytes none) ∙ none_in_nothing

-- an empty disk has no record
pub begun_on : (size : ℕ) (cleared seen : Option (List ℕ)) (may_leave : List ℕ → Type 0) → ((bytes : List ℕ) → cleared ≡ Some bytes → length bytes ≡ size) → size ≡ 0
    → ((bytes : List ℕ) → cleared ≡ Some bytes → IsJournal (whole_records bytes) seen may_leave) → is_some cleared ≡ true → IsJournal [] seen may_leave
begun_on size cleared seen may_leave measures none rests told =
    let was = some_of cleared told in
    subst (λ (rs : List (List ℕ)). IsJournal rs seen may_leave) (nothing_whole was.0 (measures was.0 was.1 ∙ none)) (rests was.0 was.1)

pub none_left : (may_leave : List ℕ → Type 0) (c : List ℕ) → ((b : List ℕ) → may_leave b → b ≡ []) → StandsAsBefore may_leave c → whole_records c ≡ []
none_left may_leave c only (d, left, same) = same ∙ (ap whole_records (only d left) ∙ nothing_whole [] refl)

pub nothing_there : (c : List ℕ) → c ≡ [] → whole_records c ≡ []
nothing_there c e = ap whole_records e ∙ nothing_whole [] refl

-- ---- the journal with the first record

-- the first stands alone behind no others
pub added_first : (rec : List ℕ) (before seen : Option (List ℕ)) (old leaves : List ℕ → Type 0) → IsJournal [] before old → ((content : List ℕ) → before ≡ Some content → IsJournal (whole_records content ++ rec ∷ []) seen leaves) → IsJournal (rec ∷ []) seen leaves
added_first rec before seen old leaves begun added =
    subst (λ (rs : List (List ℕ)). IsJournal (rs ++ rec ∷ []) seen leaves) begun.stands (added (journal_bytes []) begun.now)

-- where a disk tells after the record, it told before
pub then_first : (rec : List ℕ) (before seen : Option (List ℕ)) (old leaves : List ℕ → Type 0) → (is_some before ≡ true → IsJournal [] before old) → ((content : List ℕ) → before ≡ Some content → IsJournal (whole_records content ++ rec ∷ []) seen leaves) → is_some before ≡ true
    → IsJournal (rec ∷ []) seen leaves
then_first rec before seen old leaves begun added told = added_first rec before seen old leaves (begun told) added

pub ends_at : (old new len : ℕ) → old ≡ 0 → new ≡ old + len + 9 → new ≡ len + 9
ends_at old new len none is = omega (arith, none, is)

-- ---- a store over the first record

module _ {R T S P : Type 0} (k : Folding R T S P) (sound : IsSound k) where
  -- what stands in memory is what the first record makes of a disk
  pub filled_with : (capacity gate : ℕ) (r : R) (e : T) → k.is_first r ≡ true → k.done r k.nothing ≡ Some e → gate ≡ length (k.spelled r) + 9 → taken_as k true r (k.placed 1 capacity k.nothing) ≡ Some (k.placed (gate + 1) capacity e)
  filled_with capacity gate r e first taken ends =
      ap (λ (b : Bool). if b then k.folded r (k.placed 1 capacity k.nothing) else None) first
      ∙ (folded_is k sound r 1 capacity k.nothing e taken ∙ ap (λ (j : ℕ). Some (k.placed j capacity e)) (let z : 1 + place_length k r ≡ gate + 1 = omega (arith, ends) in z))

  and_no_more : (o : Option T) → (o >>= folded_from k []) ≡ o
  and_no_more None = refl
  and_no_more (Some d) = refl

  pub kept_first : (gate limit : ℕ) (d : T) (r : R) (seen : Option (List ℕ)) (may_leave : List ℕ → Type 0) → k.Fits r → (is_some seen ≡ true → IsJournal (k.spelled r ∷ []) seen may_leave)
      → taken_as k true r (k.placed 1 limit k.nothing) ≡ Some (k.placed (gate + 1) limit d) → IsKept k (k.placed (gate + 1) limit d) seen may_leave
  kept_first gate limit d r seen may_leave fits journal folds =
      let stands : StandFor k (k.spelled r ∷ []) (k.placed (gate + 1) limit d) =
      ap (λ (n : ℕ). k.fold_all n (k.spelled r ∷ [])) (sound.sized (gate + 1) limit d)
      ∙ (sym (sound.all limit (k.spelled r ∷ []))
      ∙ (ap (λ (o : Option R). o >>= λ x. (taken_as k true x (k.placed 1 limit k.nothing) >>= folded_from k [])) (sound.again r fits)
      ∙ (and_no_more (taken_as k true r (k.placed 1 limit k.nothing)) ∙ folds))) in
      record {
        stands = λ bytes at. (kept_by k (k.placed (gate + 1) limit d) (k.spelled r ∷ []) seen may_leave (journal (ap is_some at)) stands).stands bytes at;
        durable = λ bytes at. (kept_by k (k.placed (gate + 1) limit d) (k.spelled r ∷ []) seen may_leave (journal (ap is_some at)) stands).durable bytes at;
      }
