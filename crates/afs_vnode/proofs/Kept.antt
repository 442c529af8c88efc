-- What holds of a store holds after each change, and what it says of free numbers.
use Rattle.std.proofs.Common.{◌≡◌, ◌≢◌, ℕ, ◌≤◌, Bool, true, false, List, length, Some, subst, sym, arith, if◌then◌else◌}
use Rattle.std.proofs.lemmas.Bool.Decides.{nat_tests}
use Rattle.std.proofs.lemmas.List.{length-map}
use Rattle.afs_num.specs.declared.vnodes.Vnode.{Vnode}
use Rattle.spec_ideal.specs.Tables.{Table, set, unset, AscendsFrom, lowest_free}
use Rattle.spec_ideal.specs.VnodeImage.{FitsImage}
use Rattle.spec_ideal.specs.VnodeMaps.{most_vnodes, AllFit, first_number, allocated}
use Rattle.spec_ideal.proofs.Tables.{ascends_set, ascends_unset}
use Rattle.afs_vnode.specs.Stores.{table_of, AreVnodes, IsStore, IsHint, raised, lowered}
use Rattle.afs_vnode.proofs.Hints.{hint_set, hint_unset, hint_bound}
use Rattle.afs_vnode.proofs.Places.{fit_set, fit_unset}

pub size_of : (vs : List Vnode) → length (table_of vs) ≡ length vs
size_of vs = length-map vs (λ (v : Vnode). (v.vnode, v))

pub hints_low : (vs : List Vnode) (e o : ℕ) → IsStore vs e o → (e ≤ 10000) × (o ≤ 10000)
hints_low vs e o is =
    (omega (arith, size_of vs, is.few, hint_bound 0 2 e (table_of vs) is.ascends is.even), omega (arith, size_of vs, is.few, hint_bound 0 3 o (table_of vs) is.ascends is.odd))

pub hint_of : (vs : List Vnode) (e o : ℕ) (dir : Bool) → IsStore vs e o → IsHint (first_number dir) (if dir then o else e) (table_of vs)
hint_of vs e o true is = is.odd
hint_of vs e o false is = is.even

pub put_store : (vs new : List Vnode) (e o : ℕ) (x : Vnode) → IsStore vs e o → FitsImage x → table_of new ≡ set x.vnode x (table_of vs) → length new ≤ most_vnodes → IsStore new (raised e x.vnode) (raised o x.vnode)
put_store vs new e o x is fits same few = record {
  ascends = subst (λ (t : Table Vnode). AscendsFrom 0 t) (sym same) (ascends_set 0 x.vnode x (table_of vs) (omega arith) is.ascends);
  few = few;
  fits = subst (λ (t : Table Vnode). AllFit t) (sym same) (fit_set x.vnode x (table_of vs) fits is.fits);
  even = subst (λ (t : Table Vnode). IsHint 2 (raised e x.vnode) t) (sym same) (hint_set 2 e x.vnode x (table_of vs) is.even);
  odd = subst (λ (t : Table Vnode). IsHint 3 (raised o x.vnode) t) (sym same) (hint_set 3 o x.vnode x (table_of vs) is.odd);
}

pub remove_store : (vs new : List Vnode) (e o n : ℕ) → IsStore vs e o → table_of new ≡ unset n (table_of vs) → length new ≤ length vs → IsStore new (lowered 2 e n) (lowered 3 o n)
remove_store vs new e o n is same fewer = record {
  ascends = subst (λ (t : Table Vnode). AscendsFrom 0 t) (sym same) (ascends_unset 0 n (table_of vs) is.ascends);
  few = omega (arith, fewer, is.few);
  fits = subst (λ (t : Table Vnode). AllFit t) (sym same) (fit_unset n (table_of vs) is.fits);
  even = subst (λ (t : Table Vnode). IsHint 2 (lowered 2 e n) t) (sym same) (hint_unset 2 e n (table_of vs) is.even);
  odd = subst (λ (t : Table Vnode). IsHint 3 (lowered 3 o n) t) (sym same) (hint_unset 3 o n (table_of vs) is.odd);
}

pub allocated_is : (dir : Bool) (t : Table Vnode) (n : ℕ) → length t ≢ most_vnodes → n ≡ lowest_free (first_number dir) t → Some n ≡ allocated dir t
allocated_is dir t n room e = grind (arith, nat_tests, room, e)

pub first_low : (dir : Bool) → first_number dir ≤ 3
first_low true = omega arith
first_low false = omega arith

pub are_vnodes : (vs : List Vnode) (e o : ℕ) → IsStore vs e o → AreVnodes (table_of vs)
are_vnodes vs e o is = record { ascends = is.ascends; few = (let few = is.few in omega (arith, size_of vs, few)); fits = is.fits }
