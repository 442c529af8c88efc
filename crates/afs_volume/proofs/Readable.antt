-- Which vnodes can be read.
use Rattle.std.proofs.Common.{◌≡◌, ℕ, zero, suc, ◌+◌, ◌≤◌, Bool, true, false, List, [], ◌∷◌, length, take, Option, Some, None, Result, Ok, Err, IfErr, is_ok, is_some, nat_eq, slice_get, if◌then◌else◌, refl, sym, ap, subst, ◌∙◌, arith}
use Rattle.std.specs.Prelude.{◌&&◌, ◌||◌}
use Rattle.std.specs.List.{list_all, AllByRecursion}
use Rattle.std.proofs.lemmas.Bool.Decides.{nat_tests}
use Rattle.afs_num.specs.declared.acls.AccessList.{AccessList}
use Rattle.afs_num.specs.declared.directories.Name.{Name}
use Rattle.afs_num.specs.declared.vnodes.Vnode as image
use Rattle.spec_ideal.specs.AccessLists.{acl_at}
use Rattle.spec_ideal.specs.Directories.{directory_bytes, directory_of}
use Rattle.spec_ideal.specs.Images.{directory_value, value_of, values_of, with_value}
use Rattle.spec_ideal.specs.Tables.{Table, get, AscendsFrom}
use Rattle.spec_ideal.specs.Volumes.{a_directory, a_file, a_link, blocks_in, type_of, VnodeKind}
use Rattle.spec_ideal.specs.Volumes as ideal
use Rattle.afs_volume.specs.Assembling.{are_read, blocks_in_place, can_be_read, make_volume, IsReadablePlace}
use Rattle.afs_volume.specs.Seen.{all_seen, kind_seen, names_spelled, text_by, AreReadable, IsReadable}
use Rattle.afs_volume.specs.declared.faults.AssembleFault.{AssembleFault}
use Rattle.afs_volume.specs.declared.faults.AssembleFault.TheVariants as faults
use Rattle.afs_volume.specs.declared.volume.Volume as volumes
use Rattle.afs_volume.proofs.Soundly.{in_order}
use Rattle.afs_volume.proofs.Taken.{later_by}
use Rattle.afs_volume.proofs.Spelled.{names_again}

-- ---- one vnode

both_read : {E F : Type 0} (x : image.Vnode) (r : Result (List Name) E) (s : Result AccessList F) → is_some (directory_value x r s) ≡ (is_ok r && is_ok s)
both_read {E} {F} x (Ok names) (Ok acl) = refl
both_read {E} {F} x (Ok names) (Err f) = refl
both_read {E} {F} x (Err g) (Ok acl) = refl
both_read {E} {F} x (Err g) (Err f) = refl

pub directory_read : (x : image.Vnode) → x.kind ≡ 2 → can_be_read x ≡ (is_ok (directory_of x.contents) && is_ok (acl_at x.acl))
unfolding value_of
directory_read x kind = rw kind (both_read x (directory_of x.contents) (acl_at x.acl))

none_by : (x : image.Vnode) (b : Bool) (y : ideal.Vnode) → is_some (if b then Some y else None) ≡ b
none_by x true y = refl
none_by x false y = refl

other_by : (x : image.Vnode) (a b : Bool) → nat_eq x.kind 2 ≡ false → nat_eq x.kind 1 ≡ a → nat_eq x.kind 3 ≡ b → is_some (value_of x) ≡ ((a || b) && nat_eq (length x.acl) 0)
unfolding value_of
other_by x true b not one three = rw one (none_by x (nat_eq (length x.acl) 0) _)
other_by x false true not one three = rw (one, not, three) (none_by x (nat_eq (length x.acl) 0) _)
other_by x false false not one three = rw (one, not, three) refl

pub other_read : (x : image.Vnode) → nat_eq x.kind 2 ≡ false → can_be_read x ≡ ((nat_eq x.kind 1 || nat_eq x.kind 3) && nat_eq (length x.acl) 0)
other_read x not = other_by x (nat_eq x.kind 1) (nat_eq x.kind 3) not refl refl

pub readable_directory : (x : image.Vnode) → x.kind ≡ 2 → directory_bytes (names_spelled x.contents) ≡ x.contents → is_ok (acl_at x.acl) ≡ true → IsReadable x
readable_directory x kind spelled list = rw kind (refl, (λ is. spelled, (λ is. list, refl)))

empty : (text : List ℕ) → nat_eq (length text) 0 ≡ true → text ≡ []
empty [] e = refl
empty (b ∷ bs) e = absurd (grind (arith, nat_tests, e))

readable_by : (x : image.Vnode) (a b : Bool) → nat_eq x.kind 2 ≡ false → nat_eq x.kind 1 ≡ a → nat_eq x.kind 3 ≡ b → ((a || b) && nat_eq (length x.acl) 0) ≡ true → IsReadable x
readable_by x true b not one three is =
    let kind : x.kind ≡ 1 = grind (arith, nat_tests, one) in
    rw kind (refl, (λ e. absurd cc, (λ e. absurd cc, sym (empty x.acl is))))
readable_by x false true not one three is =
    let kind : x.kind ≡ 3 = grind (arith, nat_tests, three) in
    rw kind (refl, (λ e. absurd cc, (λ e. absurd cc, sym (empty x.acl is))))
readable_by x false false not one three is = absurd cc

pub readable_other : (x : image.Vnode) → nat_eq x.kind 2 ≡ false → ((nat_eq x.kind 1 || nat_eq x.kind 3) && nat_eq (length x.acl) 0) ≡ true → IsReadable x
readable_other x not is = readable_by x (nat_eq x.kind 1) (nat_eq x.kind 3) not refl refl is

-- ---- all of them

values_by : (n : ℕ) (x : image.Vnode) (o : Option ideal.Vnode) (t : Option (Table ideal.Vnode)) → is_some (with_value n o t) ≡ (is_some o && is_some t)
values_by n x None None = refl
values_by n x None (Some t) = refl
values_by n x (Some y) None = refl
values_by n x (Some y) (Some t) = refl

pub all_read : (t : Table image.Vnode) → is_some (values_of t) ≡ are_read t
all_read [] = refl
all_read (p ∷ ps) = values_by p.0 p.1 (value_of p.1) (values_of ps) ∙ ap (λ (b : Bool). is_some (value_of p.1) && b) (all_read ps)

pub nothing_taken : (i : ℕ) → take {A = ℕ × image.Vnode} i [] ≡ []
nothing_taken zero = refl
nothing_taken (suc i) = refl

pub next_take : (p : ℕ × image.Vnode) (ps : Table image.Vnode) (i : ℕ) → take (suc i + 1) (p ∷ ps) ≡ p ∷ take (i + 1) ps
next_take p ps i = ap (λ (k : ℕ). take k (p ∷ ps)) (let z : suc i + 1 ≡ suc (i + 1) = omega arith in z)

abbrev pub AllReadable : Table image.Vnode → Type 0
AllReadable t = AllByRecursion (λ (p : ℕ × image.Vnode). IsReadable p.1) t

pub one_more_readable : (t : Table image.Vnode) (i : ℕ) → AllReadable (take i t) → IsReadablePlace (slice_get t i) → AllReadable (take (i + 1) t)
one_more_readable [] i all one = subst AllReadable (sym (nothing_taken (i + 1))) tt
one_more_readable (p ∷ ps) zero all one = (one, tt)
one_more_readable (p ∷ ps) (suc i) all one = subst AllReadable (sym (next_take p ps i)) (all.0, one_more_readable ps i all.1 one)

pub whole : (t : Table image.Vnode) (i : ℕ) → length t ≤ i → take i t ≡ t
whole [] i le = nothing_taken i
whole (p ∷ ps) zero le = absurd (omega (arith, le))
whole (p ∷ ps) (suc i) le = ap (λ (u : Table image.Vnode). p ∷ u) (whole ps i (omega (arith, le)))

found_by : (p : ℕ × image.Vnode) (x : image.Vnode) (o : Option image.Vnode) (b : Bool) → IsReadable p.1 → (o ≡ Some x → IsReadable x) → (if b then Some p.1 else o) ≡ Some x → IsReadable x
found_by p x o true one more e = subst IsReadable (let z : p.1 ≡ x = cc in z) one
found_by p x o false one more e = more e

are_readable : (t : Table image.Vnode) → AllReadable t → AreReadable t
are_readable [] all n x e = absurd cc
are_readable (p ∷ ps) all n x e = found_by p x (get n ps) (nat_eq p.0 n) all.0 (are_readable ps all.1 n x) e

pub end_readable : (t : Table image.Vnode) (i : ℕ) → length t ≤ i → AllReadable (take i t) → AreReadable t
end_readable t i le all = are_readable t (subst AllReadable (whole t i le) all)

-- ---- blocks

pub one_more_counted : (t : Table image.Vnode) (i : ℕ) → blocks_in (all_seen (take (i + 1) t)) ≡ blocks_in (all_seen (take i t)) + blocks_in_place (slice_get t i)
unfolding all_seen
one_more_counted [] i = rw (nothing_taken (i + 1), nothing_taken i) refl
one_more_counted (p ∷ ps) zero = omega arith
one_more_counted (p ∷ ps) (suc i) = rw (next_take p ps i) (let more = one_more_counted ps i in omega (arith, more))

pub place_readable : (m : ℕ) (t : Table image.Vnode) (i : ℕ) → AscendsFrom m t → AreReadable t → IsReadablePlace (slice_get t i)
place_readable m [] i up all = tt
place_readable m (p ∷ ps) zero up all = all p.0 p.1 (grind (arith, nat_tests))
place_readable m (p ∷ ps) (suc i) up all = place_readable (p.0 + 1) ps i up.1 (λ n x e. all n x (later_by n x p ps (nat_eq p.0 n) refl up.1 e))

-- ---- the parts of a volume make one again

-- a vnode that has been read is read again
pub readable_kind : (k : VnodeKind) (x : image.Vnode) → kind_seen x.kind ≡ k → IsReadable x → can_be_read x ≡ true
readable_kind a_directory x is h =
    let kind : x.kind ≡ 2 = sym h.0 ∙ ap type_of is in
    directory_read x kind ∙ rw (names_again x.contents (h.1.0 is), h.1.1.0 is) refl
readable_kind a_file x is h =
    let kind : x.kind ≡ 1 = sym h.0 ∙ ap type_of is in
    let none : x.acl ≡ [] = sym h.1.1.1 ∙ ap (λ (k : VnodeKind). text_by k x.acl) is in
    other_read x (rw kind refl) ∙ rw (kind, none) refl
readable_kind a_link x is h =
    let kind : x.kind ≡ 3 = sym h.0 ∙ ap type_of is in
    let none : x.acl ≡ [] = sym h.1.1.1 ∙ ap (λ (k : VnodeKind). text_by k x.acl) is in
    other_read x (rw kind refl) ∙ rw (kind, none) refl

pub reads_all : (m : ℕ) (t : Table image.Vnode) → AscendsFrom m t → AreReadable t → are_read t ≡ true
reads_all m [] up all = refl
reads_all m (p ∷ ps) up all =
    rw (readable_kind (kind_seen p.1.kind) p.1 refl (all p.0 p.1 (grind (arith, nat_tests))))
    (reads_all (p.0 + 1) ps up.1 (λ n x e. all n x (later_by n x p ps (nat_eq p.0 n) refl up.1 e)))

pub not_unread : (t : Table image.Vnode) → AscendsFrom 0 t → AreReadable t → are_read t ≡ false → ⊥
not_unread t up all unread = let z : true ≡ false = sym (reads_all 0 t up all) ∙ unread in cc

pub parts_make : (v : volumes.Volume) → make_volume v.head v.vnodes.table ≡ true
parts_make v = rw (all_read v.vnodes.table, reads_all 1 v.vnodes.table (in_order v.head v.vnodes.table v.readable v.sound) v.readable) v.sound

-- ---- vnodes that a change gives

pub each_read : (xs : List image.Vnode) → AllByRecursion IsReadable xs → list_all can_be_read xs ≡ true
each_read [] all = refl
each_read (x ∷ xs) all = rw (readable_kind (kind_seen x.kind) x refl all.0) (each_read xs all.1)

-- where all can be read, memory alone is wanting
memory_alone : (e : AssembleFault) (xs : List image.Vnode) → (e ≡ faults.NotSound → list_all can_be_read xs ≡ false) → AllByRecursion IsReadable xs → e ≡ faults.OutOfMemory
memory_alone faults.NotSound xs unread all = absurd (let z : true ≡ false = sym (each_read xs all) ∙ unread refl in cc)
memory_alone faults.OutOfMemory xs unread all = refl

pub memory_left : {A : Type 0} (r : Result A AssembleFault) (e : AssembleFault) (xs : List image.Vnode) → r ≡ Err e → (e ≡ faults.NotSound → list_all can_be_read xs ≡ false) → AllByRecursion IsReadable xs → IfErr r (λ f. f ≡ faults.OutOfMemory)
memory_left {A} r e xs is unread all = rw is (memory_alone e xs unread all)
