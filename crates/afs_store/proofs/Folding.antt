-- The fold of one record more, on a disk with its journal.
use Rattle.std.proofs.Common.{◌≡◌, ℕ, ◌+◌, ◌<◌, Bool, true, false, not, List, [], ◌∷◌, ◌++◌, length, Option, Some, None, is_some, nat_lt, if◌then◌else◌, refl, sym, ap, subst, ◌∙◌, arith, inl, inr}
use Rattle.std.proofs.lemmas.Bool.{lt-ltb, ltb-true}
use Rattle.std.specs.Option.{option_map}
use Rattle.spec_shape.specs.Taking.{◌>>=◌}
use Rattle.afs_journal.specs.Records.{whole_records, IsBeforeOrAfter}
use Rattle.afs_store.specs.Folding.{Folding}
use Rattle.afs_store.specs.Folds.{all_folded, has_room, place_length, taken_as, IsBadAt, TakesOne}
use Rattle.afs_store.specs.Sound.{IsSound}
use Rattle.afs_store.specs.Stores.{LeftAround, StandFor, Stands, StandsAround}
use Rattle.afs_store.proofs.FoldsOn.{front_step, some_is}

pub mapped_some : {A B : Type 0} (f : A → B) (o : Option A) → is_some (option_map f o) ≡ is_some o
mapped_some {A} {B} f None = refl
mapped_some {A} {B} f (Some x) = refl

pub some_of : {A : Type 0} (o : Option A) → is_some o ≡ true → (x : A) × (o ≡ Some x)
some_of {A} None e = absurd cc
some_of {A} (Some x) e = (x, refl)

none_first : {A : Type 0} (b : Bool) (o : Option A) → o ≡ None → (if b then o else None) ≡ None
none_first {A} true o e = e
none_first {A} false o e = refl

module _ {R T S P : Type 0} (k : Folding R T S P) (sound : IsSound k) where
  -- ---- a record does on a disk what it does in memory

  pub folded_is : (r : R) (j c : ℕ) (d e : T) → k.done r d ≡ Some e → k.folded r (k.placed j c d) ≡ Some (k.placed (j + place_length k r) c e)
  folded_is r j c d e is = sound.folds r j c d ∙ ap (option_map (k.placed (j + place_length k r) c)) is

  pub is_taken : (r : R) (j c : ℕ) (d : T) → is_some (k.folded r (k.placed j c d)) ≡ is_some (k.done r d)
  is_taken r j c d = ap is_some (sound.folds r j c d) ∙ mapped_some (k.placed (j + place_length k r) c) (k.done r d)

  -- what was put makes the journal so long
  pub put_folds : (r : R) (rec : List ℕ) (gate gate2 limit limit2 : ℕ) (d e : T) → rec ≡ k.spelled r → gate2 ≡ gate + length rec + 9 → limit2 ≡ limit → k.done r d ≡ Some e → k.folded r (k.placed (gate + 1) limit d) ≡ Some (k.placed (gate2 + 1) limit2 e)
  put_folds r rec gate gate2 limit limit2 d e spelled longer same is =
      folded_is r (gate + 1) limit d e is
      ∙ (ap (λ (j : ℕ). Some (k.placed j limit e)) (let z : gate + 1 + place_length k r ≡ gate2 + 1 = omega (arith, ap length spelled, longer) in z) ∙ ap (λ (l : ℕ). Some (k.placed (gate2 + 1) l e)) (sym same))

  -- ---- a record as it is read

  as_first : (first : Bool) (r : R) (d : T) → (first ≡ true → k.is_first r ≡ true) → taken_as k first r d ≡ k.folded r d
  as_first true r d is = ap (λ (b : Bool). if b then k.folded r d else None) (is refl)
  as_first false r d is = refl

  none_as : (first : Bool) (r : R) (d : T) → k.folded r d ≡ None → taken_as k first r d ≡ None
  none_as true r d e = none_first (k.is_first r) (k.folded r d) e
  none_as false r d e = e

  pub takes_one : (first : Bool) (bytes : List ℕ) (r : R) (old new : T) → k.read bytes ≡ Some r → k.spelled r ≡ bytes → (first ≡ true → k.is_first r ≡ true) → k.done r old ≡ Some new → TakesOne k first bytes old new
  takes_one first bytes r old new read spelled is taken j c =
      ap (λ (o : Option R). o >>= λ x. taken_as k first x (k.placed j c old)) read
      ∙ (as_first first r (k.placed j c old) is ∙ (folded_is r j c old new taken ∙ ap (λ (n : ℕ). Some (k.placed (j + (n + 9)) c new)) (ap length spelled)))

  pub bad_alone : (first : Bool) (bytes : List ℕ) (r : R) (old : T) → k.read bytes ≡ Some r → k.done r old ≡ None → IsBadAt k first bytes old
  bad_alone first bytes r old read e j c =
      ap (λ (o : Option R). o >>= λ x. taken_as k first x (k.placed j c old)) read ∙ none_as first r (k.placed j c old) (sound.folds r j c old ∙ ap (option_map (k.placed (j + place_length k r) c)) e)

  -- ---- room

  room_is : (r : R) (j c : ℕ) (d : T) → has_room k (k.placed j c d) r ≡ not (nat_lt c (j + place_length k r))
  room_is r j c d = rw (sound.sized j c d, sound.long j c d) refl

  pub too_long : (r : R) (gate c : ℕ) (d : T) → c < gate + 1 + place_length k r → has_room k (k.placed (gate + 1) c d) r ≡ false
  too_long r gate c d lt = room_is r (gate + 1) c d ∙ ap not (let t : nat_lt c (gate + 1 + place_length k r) ≡ true = lt-ltb c (gate + 1 + place_length k r) lt in t)

  room_by : (b : Bool) (c n : ℕ) → nat_lt c n ≡ b → not b ≡ false → c < n
  room_by true c n is e = ltb-true c n is
  room_by false c n is e = absurd cc

  pub has_no_room : (r : R) (gate c : ℕ) (d : T) → has_room k (k.placed (gate + 1) c d) r ≡ false → c < gate + 1 + place_length k r
  has_no_room r gate c d e = room_by (nat_lt c (gate + 1 + place_length k r)) c (gate + 1 + place_length k r) refl (sym (room_is r (gate + 1) c d) ∙ e)

  -- ---- one record more stands for what the fold makes of it

  sized_by : (n c : ℕ) (o : Option T) (e : T) → option_map (k.placed n c) o ≡ Some e → k.capacity e ≡ c
  sized_by n c None e is = absurd cc
  sized_by n c (Some x) e is = ap k.capacity (sym (some_is (k.placed n c x) e is)) ∙ sound.sized n c x

  sized_after : (r : R) (j c : ℕ) (d e : T) → k.folded r (k.placed j c d) ≡ Some e → k.capacity e ≡ c
  sized_after r j c d e is = sized_by (j + place_length k r) c (k.done r d) e (sym (sound.folds r j c d) ∙ is)

  one_all : (c : ℕ) (records : List (List ℕ)) (r : R) (d e : T) → all_folded k c records ≡ Some d → k.Fits r → k.folded r d ≡ Some e → all_folded k c (records ++ k.spelled r ∷ []) ≡ Some e
  one_all c [] r d e stands fits is = absurd cc
  one_all c (a ∷ pre) r d e stands fits is =
      front_step k c (a ∷ pre) (k.spelled r) d stands ∙ (ap (λ (o : Option R). o >>= λ x. k.folded x d) (sound.again r fits) ∙ is)

  pub one_more : (records : List (List ℕ)) (r : R) (j c : ℕ) (d e : T) → StandFor k records (k.placed j c d) → k.Fits r → k.folded r (k.placed j c d) ≡ Some e → StandFor k (records ++ k.spelled r ∷ []) e
  one_more records r j c d e stands fits is =
      let before : all_folded k c records ≡ Some (k.placed j c d) = sound.all c records ∙ (ap (λ (n : ℕ). k.fold_all n records) (sym (sound.sized j c d)) ∙ stands) in
      ap (λ (n : ℕ). k.fold_all n (records ++ k.spelled r ∷ [])) (sized_after r j c d e is) ∙ (sym (sound.all c (records ++ k.spelled r ∷ [])) ∙ one_all c records r (k.placed j c d) e before fits is)

  -- ---- what a crash leaves around a record

  around : (r : R) (j c : ℕ) (d e : T) (bytes b : List ℕ) → Stands k bytes (k.placed j c d) → k.Fits r → k.folded r (k.placed j c d) ≡ Some e → IsBeforeOrAfter (whole_records bytes) (k.spelled r) b → StandsAround k r (k.placed j c d) b
  around r j c d e bytes b stands fits is (inl before) = inl (subst (λ (rs : List (List ℕ)). StandFor k rs (k.placed j c d)) (sym before) stands)
  around r j c d e bytes b stands fits is (inr after) = inr (e, (is, subst (λ (rs : List (List ℕ)). StandFor k rs e) (sym after) (one_more (whole_records bytes) r j c d e stands fits is)))

  pub left_around : (r : R) (j c : ℕ) (d : T) (bytes b : List ℕ) → Stands k bytes (k.placed j c d) → k.Fits r → is_some (k.done r d) ≡ true → IsBeforeOrAfter (whole_records bytes) (k.spelled r) b → LeftAround k (whole_records bytes) r (k.placed j c d) b
  left_around r j c d bytes b stands fits can left =
      let after = some_of (k.folded r (k.placed j c d)) (is_taken r j c d ∙ can) in
      (left, around r j c d after.0 bytes b stands fits after.1 left)

-- the record that waits is the one that was seen to
pub record_is : {R P : Type 0} (f : P → R) (o : Option P) (p : P) (seen : Option R) (r : R) → o ≡ Some p → option_map f o ≡ seen → seen ≡ Some r → f p ≡ r
record_is {R} {P} f o p seen r is view has = some_is (f p) r (sym (ap (option_map f) is) ∙ (view ∙ has))

pub none_is_taken : {A : Type 0} (o : Option A) → is_some o ≡ true → o ≡ None → ⊥
none_is_taken {A} o some none = no (sym (ap is_some none) ∙ some)
  where
    no : ◌≡◌ {A = Bool} false true → ⊥
    no e = cc
