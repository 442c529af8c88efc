-- What is found of the volumes in memory, as their disk keeps it.
use Rattle.std.proofs.Common.{◌≡◌, ℕ, zero, suc, [], ◌∷◌, Bool, false, Option, Some, None, is_some, refl, sym, ap, ◌∙◌, slice_get, Bor, IfSome, IfNone}
use Rattle.std.specs.Option.{option_copied, option_map, option_map_or}
use Rattle.spec_ideal.specs.Tables.{Table, get}
use Rattle.spec_records.specs.Durable.{Stored}
use Rattle.afs_seats.specs.Seated.{seen_as}
use Rattle.afs_seats.proofs.Places.{get_seen}
use Rattle.afs_shelves.specs.Numbered.{shelf_number, AreShelved}
use Rattle.afs_shelves.specs.Shelving.{is_new_in, shelved, stored_as}
use Rattle.afs_shelves.specs.declared.shelf.Shelf.{Shelf}
use Rattle.afs_shelves.proofs.Numbers.{numbered_nth}

pub seen_some : {A B : Type 0} (f : A → B) (n : ℕ) (t : Table A) (r : Option (Bor A)) → option_copied r ≡ get n t → IfSome r (λ v. get n (seen_as f t) ≡ Some (f v.now))
seen_some {A} {B} f n t None e = tt
seen_some {A} {B} f n t (Some v) e = get_seen f n t ∙ ap (option_map f) (sym e)

pub seen_none : {A B : Type 0} (f : A → B) (n : ℕ) (t : Table A) (r : Option (Bor A)) → option_copied r ≡ get n t → IfNone r (get n (seen_as f t) ≡ None)
seen_none {A} {B} f n t None e = get_seen f n t ∙ ap (option_map f) (sym e)
seen_none {A} {B} f n t (Some v) e = tt

nth_seen : {A B : Type 0} (f : A → B) (i : ℕ) (t : Table A) → slice_get (seen_as f t) i ≡ option_map (λ (p : ℕ × A). (p.0, f p.1)) (slice_get t i)
nth_seen {A} {B} f i [] = refl
nth_seen {A} {B} f zero (p ∷ ps) = refl
nth_seen {A} {B} f (suc i) (p ∷ ps) = nth_seen f i ps

-- an item that stands by this number
pub nth_some : {A B : Type 0} (f : A → B) (i n : ℕ) (t : Table A) (p : ℕ × A) → n ≡ p.0 → Some p ≡ slice_get t i → slice_get (seen_as f t) i ≡ Some (n, f p.1)
nth_some {A} {B} f i n t p same e = nth_seen f i t ∙ (ap (option_map (λ (q : ℕ × A). (q.0, f q.1))) (sym e) ∙ ap (λ (k : ℕ). Some (k, f p.1)) (sym same))

pub nth_none : {A B : Type 0} (f : A → B) (i : ℕ) (t : Table A) → None ≡ slice_get t i → slice_get (seen_as f t) i ≡ None
nth_none {A} {B} f i t e = nth_seen f i t ∙ ap (option_map (λ (q : ℕ × A). (q.0, f q.1))) (sym e)

pub nth_shelf : (i : ℕ) (t : Table Shelf) (p : ℕ × Shelf) → AreShelved t → Some p ≡ slice_get t i → slice_get (seen_as shelved t) i ≡ Some (p.1.volume.head.id, shelved p.1)
nth_shelf i t p are e = nth_some shelved i p.1.volume.head.id t p (numbered_nth shelf_number i t p are (sym e)) e

pub mapped_is : {A B : Type 0} (f : A → B) (o : Option A) → is_some (option_map f o) ≡ is_some o
mapped_is {A} {B} f None = refl
mapped_is {A} {B} f (Some x) = refl

-- what is seen is there
pub seen_is : {A B : Type 0} (f : A → B) (n : ℕ) (t : Table A) → is_some (get n (seen_as f t)) ≡ is_some (get n t)
seen_is {A} {B} f n t = ap is_some (get_seen f n t) ∙ mapped_is f (get n t)
