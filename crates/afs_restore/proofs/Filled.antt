-- The vnodes that are filled in pair by pair are those that the dump restores.
use Rattle.std.proofs.Common.{◌≡◌, ℕ, Bool, true, false, List, [], ◌∷◌, ◌++◌, Option, Some, None, nat_eq, if◌then◌else◌, refl, sym, ap, subst, ◌∙◌, append_assoc}
use Rattle.std.specs.Prelude.{⊤}
use Rattle.std.specs.Option.{option_map}
use Rattle.spec_ideal.specs.Images.{Image, value_of}
use Rattle.spec_ideal.specs.Tables.{Table, get}
use Rattle.spec_ideal.specs.Volumes.{Vnode, if_unique}
use Rattle.spec_dumps.specs.Restores as restores
use Rattle.spec_dumps.specs.Restores.{image_in, indexed, restored_vnodes, timed, vnode_by, vnodes_in, with_timed, Timed}
use Rattle.spec_records.specs.Durable.{Stored, or_zero}
use Rattle.afs_vnode.specs.Stores.{table_of}
use Rattle.afs_volume.specs.Seen.{all_seen, seen}
use Rattle.afs_volume.specs.Taking.{times_in}
use Rattle.afs_volume.proofs.Tables.{got}
use Rattle.afs_volume.proofs.Timed.{times_are}
use Rattle.afs_restore.specs.Filling.{filled, image_indexed, kept, numbered_as, or_kept, with_first, with_unique, ImagesAreGood, IsGoodWhere}
use Rattle.afs_restore.proofs.Given.{given_by}
use Rattle.afs_restore.proofs.Good.{good_valued}

-- ---- as a loop fills them in

abbrev pub with_vnodes : List Image → Option (List Image) → Option (List Image)
with_vnodes front None = None
with_vnodes front (Some xs) = Some (front ++ xs)

regroup : (front : List Image) (x : Image) (xs : Option (List Image)) → with_vnodes front (with_first (Some x) xs) ≡ with_vnodes (front ++ x ∷ []) xs
regroup front x None = refl
regroup front x (Some xs) = ap (λ (ys : List Image). Some ys) (sym (append_assoc front (x ∷ []) xs))

pub one_more_filled : (front : List Image) (x : Image) (o : Option Image) (xs total : Option (List Image)) → o ≡ Some x → with_vnodes front (with_first o xs) ≡ total → with_vnodes (front ++ x ∷ []) xs ≡ total
one_more_filled front x o xs total is so_far = sym (regroup front x xs) ∙ (ap (λ (z : Option Image). with_vnodes front (with_first z xs)) (sym is) ∙ so_far)

pub one_missing : (front : List Image) (o : Option Image) (xs total : Option (List Image)) → o ≡ None → with_vnodes front (with_first o xs) ≡ total → total ≡ None
one_missing front o xs total is so_far = sym so_far ∙ ap (λ (z : Option Image). with_vnodes front (with_first z xs)) is

-- the next vnode of the list
filled_first : (anew : Bool) (old : Table Image) (ps qs : List (ℕ × ℕ)) (os more : List (Option Image)) (p : ℕ × ℕ) (o : Option Image) → ps ≡ p ∷ qs → os ≡ o ∷ more →
    filled anew old ps os ≡ with_first (option_map (image_indexed anew) (or_kept o (kept old p))) (filled anew old qs more)
filled_first anew old ps qs os more p o here there = ap (λ (z : List (ℕ × ℕ)). filled anew old z os) here ∙ ap (λ (z : List (Option Image)). filled anew old (p ∷ qs) z) there

pub next_filled : (anew : Bool) (old : Table Image) (ps qs : List (ℕ × ℕ)) (os more : List (Option Image)) (p : ℕ × ℕ) (o : Option Image) (front : List Image) (x y : Image) (total : Option (List Image)) →
    ps ≡ p ∷ qs → os ≡ o ∷ more → Some x ≡ or_kept o (kept old p) → y ≡ image_indexed anew x → with_vnodes front (filled anew old ps os) ≡ total → with_vnodes (front ++ y ∷ []) (filled anew old qs more) ≡ total
next_filled anew old ps qs os more p o front x y total here there found is so_far =
    one_more_filled front y (option_map (image_indexed anew) (or_kept o (kept old p))) (filled anew old qs more) total
    (sym (ap (option_map (image_indexed anew)) found) ∙ ap (λ (z : Image). Some z) (sym is))
    (ap (with_vnodes front) (sym (filled_first anew old ps qs os more p o here there)) ∙ so_far)

pub next_missing : (anew : Bool) (old : Table Image) (ps qs : List (ℕ × ℕ)) (os more : List (Option Image)) (p : ℕ × ℕ) (o : Option Image) (front : List Image) (total : Option (List Image)) →
    ps ≡ p ∷ qs → os ≡ o ∷ more → None ≡ or_kept o (kept old p) → with_vnodes front (filled anew old ps os) ≡ total → total ≡ None
next_missing anew old ps qs os more p o front total here there found so_far =
    one_missing front (option_map (image_indexed anew) (or_kept o (kept old p))) (filled anew old qs more) total (sym (ap (option_map (image_indexed anew)) found))
    (ap (with_vnodes front) (sym (filled_first anew old ps qs os more p o here there)) ∙ so_far)

-- ---- what is filled in is what is restored

IsOne : Bool → ℕ → Option Image → Option Timed → Type 0
IsOne anew n (Some x) (Some y) = (x.vnode ≡ n) × ((seen x ≡ indexed anew y.0) × (x.server_time ≡ y.1))
IsOne anew n None None = ⊤
IsOne anew n x y = ⊥

unfoldable pub AreAll : Bool → Option (List Image) → Option (Table Timed) → Type 0
AreAll anew (Some xs) (Some t) = (all_seen (table_of xs) ≡ vnodes_in anew t) × (times_in (table_of xs) ≡ restores.times_in t)
AreAll anew None None = ⊤
AreAll anew xs t = ⊥

and_one : (anew : Bool) (n : ℕ) (x : Option Image) (y : Option Timed) (xs : Option (List Image)) (t : Option (Table Timed)) → IsOne anew n x y → AreAll anew xs t → AreAll anew (with_first x xs) (with_timed n y t)
unfolding IsOne AreAll all_seen
and_one anew n None None xs t one all = tt
and_one anew n None (Some y) xs t one all = absurd one
and_one anew n (Some x) None xs t one all = absurd one
and_one anew n (Some x) (Some y) None None one all = tt
and_one anew n (Some x) (Some y) None (Some t) one all = absurd all
and_one anew n (Some x) (Some y) (Some xs) None one all = absurd all
and_one anew n (Some x) (Some y) (Some xs) (Some t) one all = (
  ap (λ (k : ℕ). (k, seen x) ∷ all_seen (table_of xs)) one.0
      ∙ (ap (λ (v : Vnode). (n, v) ∷ all_seen (table_of xs)) one.1.0 ∙ ap (λ (vs : Table Vnode). (n, indexed anew y.0) ∷ vs) all.0),
  ap (λ (k : ℕ). (k, x.server_time) ∷ times_in (table_of xs)) one.0
      ∙ (ap (λ (k : ℕ). (n, k) ∷ times_in (table_of xs)) one.1.1 ∙ ap (λ (ts : Table ℕ). (n, y.1) ∷ ts) all.1),
)

indexed_is : (anew : Bool) (x : Image) → seen (image_indexed anew x) ≡ indexed anew (seen x)
unfolding seen
indexed_is true x = refl
indexed_is false x = refl

number_is : (anew : Bool) (x : Image) → (image_indexed anew x).vnode ≡ x.vnode
number_is true x = refl
number_is false x = refl

time_is : (anew : Bool) (x : Image) → (image_indexed anew x).server_time ≡ x.server_time
time_is true x = refl
time_is false x = refl

-- an image of the stream
from_stream : (anew : Bool) (n time : ℕ) (i : Image) (v : Option Vnode) → i.vnode ≡ n → v ≡ Some (seen i) → IsOne anew n (Some (image_indexed anew i)) (timed i.server_time v)
unfolding IsOne
from_stream anew n time i None number is = absurd cc
from_stream anew n time i (Some y) number is =
    (number_is anew i ∙ number, (indexed_is anew i ∙ ap (indexed anew) (let z : seen i ≡ y = cc in z), time_is anew i))

-- a vnode of the volume
of_volume_by : (b : Bool) (anew : Bool) (n time : ℕ) (x : Image) → x.server_time ≡ time → IsOne anew n (option_map (image_indexed anew) (option_map (numbered_as n) (if b then Some x else None))) (timed time (if b then Some (seen x) else None))
unfolding IsOne seen
of_volume_by false anew n time x at = tt
of_volume_by true true n time x at = (refl, (refl, at))
of_volume_by true false n time x at = (refl, (refl, at))

of_volume : (anew : Bool) (n unique time : ℕ) (o : Option Image) → ((x : Image) → o ≡ Some x → time ≡ x.server_time) →
    IsOne anew n (option_map (image_indexed anew) (option_map (numbered_as n) (with_unique unique o))) (timed time (if_unique unique (option_map seen o)))
unfolding IsOne seen
of_volume anew n unique time None times = tt
of_volume anew n unique time (Some x) times = of_volume_by (nat_eq x.unique unique) anew n time x (sym (times x refl))

-- the volume as it is kept
pub record IsOld (old : Table Image) (s : Stored) : Type 0 where
  pub vnodes : s.volume.vnodes ≡ all_seen old
  pub times : s.times ≡ times_in old

one_is : (anew : Bool) (p : ℕ × ℕ) (old : Table Image) (s : Stored) (o : Option Image) → IsOld old s → IsGoodWhere p o → IsOne anew p.0 (option_map (image_indexed anew) (or_kept o (kept old p))) (vnode_by o p.0 p.1 s)
one_is anew p old s (Some i) is given = from_stream anew p.0 0 i (value_of i) given.number (good_valued p i given)
one_is anew p old s None is given =
    subst (λ (v : Option Vnode). IsOne anew p.0 (option_map (image_indexed anew) (kept old p)) (timed (or_zero (get p.0 s.times)) (if_unique p.1 v)))
    (sym (ap (get p.0) is.vnodes ∙ got p.0 old))
    (of_volume anew p.0 p.1 (or_zero (get p.0 s.times)) (get p.0 old) (λ x e. ap (λ (t : Table ℕ). or_zero (get p.0 t)) is.times ∙ times_are old p.0 x e))

pub all_filled : (anew : Bool) (old : Table Image) (is : List Image) (s : Stored) (ps : List (ℕ × ℕ)) → IsOld old s → ImagesAreGood ps (given_by ps is) → AreAll anew (filled anew old ps (given_by ps is)) (restored_vnodes ps is s)
unfolding AreAll all_seen
all_filled anew old is s [] has given = (refl, refl)
all_filled anew old is s (p ∷ ps) has given =
    and_one anew p.0 (option_map (image_indexed anew) (or_kept (image_in p.0 is) (kept old p))) (vnode_by (image_in p.0 is) p.0 p.1 s) (filled anew old ps (given_by ps is)) (restored_vnodes ps is s)
    (one_is anew p old s (image_in p.0 is) has given.0) (all_filled anew old is s ps has given.1)
