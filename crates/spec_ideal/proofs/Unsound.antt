-- A volume that is sound, and for each condition one that is unsound by it alone.
use Rattle.std.proofs.Common.{◌≡◌, ℕ, ◌<◌, ◌≤◌, Bool, true, false, cond, eqb, List, [], ◌∷◌, length, Some, refl, ap, subst, arith, eqb-true}
use Rattle.std.specs.Prelude.{codes}
use Rattle.std.specs.List.{AllByRecursion}
use Rattle.afs_num.specs.Names.{name_ok}
use Rattle.afs_num.specs.declared.acls.AccessList.{AccessList}
use Rattle.afs_num.specs.declared.directories.Name.{Name}
use Rattle.spec_ideal.specs.AccessLists.{IsAccessList}
use Rattle.spec_ideal.specs.Directories.{bytes_below}
use Rattle.spec_ideal.specs.Tables.{Table, get, set, unset}
use Rattle.spec_ideal.specs.Volumes.{a_file, a_link, Vnode, Volume}
use Rattle.spec_ideal.specs.Soundness.{GivesOne, IsSoundVnode, IsSound}
use Rattle.spec_ideal.proofs.Basics.{some_of}
use Rattle.spec_ideal.proofs.Counts.{all_each, each_all}
use Rattle.spec_ideal.proofs.Operated.{name, directory, other, volume}

-- ---- sound

each_vnode : (P : ℕ → Vnode → Type 0) (t : Table Vnode) → AllByRecursion (λ (p : ℕ × Vnode). P p.0 p.1) t → (n : ℕ) (x : Vnode) → get n t ≡ Some x → P n x
each_vnode P [] h n x e = absurd cc
each_vnode P (p ∷ ps) h n x e = first_or (eqb p.0 n) P p ps n x refl h.0 e (each_vnode P ps h.1 n x)
  where
    first_or : (b : Bool) (P : ℕ → Vnode → Type 0) (p : ℕ × Vnode) (ps : Table Vnode) (n : ℕ) (x : Vnode) → eqb p.0 n ≡ b → P p.0 p.1 → cond b (Some p.1) (get n ps) ≡ Some x → (get n ps ≡ Some x → P n x) → P n x
    first_or true P p ps n x b one e more = subst (λ (m : ℕ). P m x) (eqb-true p.0 n b) (subst (P p.0) (some_of p.1 x e) one)
    first_or false P p ps n x b one e more = more e

list_of : (rights : ℕ) → rights ≤ 127 → IsAccessList (directory 1 2 0 0 [] rights).acl
list_of rights le = record { few = omega arith; positive = (record { name = refl; single = refl; rights = le }, tt); negative = tt }

no_parity : (b : Bool) → b ≡ false → b ≡ true → ⊥
no_parity b e f = absurd cc

abbrev root_names : List Name
root_names = name (codes "a") 2 2 ∷ name (codes "d") 3 3 ∷ name (codes "e") 5 5 ∷ []

abbrev d_names : List Name
d_names = name (codes "f") 4 4 ∷ name (codes "g") 4 4 ∷ name (codes "l") 6 6 ∷ []

volume_is_sound : IsSound volume
unfolding bytes_below name_ok
volume_is_sound = record {
  root = (refl, (refl, (refl, refl)));
  ascending = (omega arith, (omega arith, (omega arith, (omega arith, (omega arith, (omega arith, tt))))));
  vnodes = each_vnode (IsSoundVnode volume) volume.vnodes (
    record {
      kind = (λ t. refl, λ t. refl);
      unique = omega arith;
      body = record { names = record { ordered = refl; few = omega arith }; acl = list_of 127 (omega arith); contents = refl; links = refl };
      given = each_all (GivesOne volume 1 1) root_names (((λ e. absurd (omega (arith, e))), (refl, (refl, refl))), (((λ e. absurd (omega (arith, e))), (refl, (refl, refl))), (((λ e. absurd (omega (arith, e))), (refl, (refl, refl))), tt)));
      placed = λ ne. absurd (ne refl);
    },
    (
      record {
        kind = (λ t. absurd cc, λ t. absurd (omega (arith, t)));
        unique = omega arith;
        body = record { names = refl; acl = refl };
        given = each_all (GivesOne volume 2 2) [] tt;
        placed = λ ne. record { named = (refl, (refl, (refl, omega arith))); reaches = refl };
      },
      (
        record {
          kind = (λ t. refl, λ t. refl);
          unique = omega arith;
          body = record { names = record { ordered = refl; few = omega arith }; acl = list_of 127 (omega arith); contents = refl; links = refl };
          given = each_all (GivesOne volume 3 3) d_names (((λ e. absurd (omega (arith, e))), (refl, (refl, refl))), (((λ e. absurd (omega (arith, e))), (refl, (refl, refl))), (((λ e. absurd (omega (arith, e))), (refl, (refl, refl))), tt)));
          placed = λ ne. record { named = (refl, (refl, refl)); reaches = refl };
        },
        (
          record {
            kind = (λ t. absurd cc, λ t. absurd (omega (arith, t)));
            unique = omega arith;
            body = record { names = refl; acl = refl };
            given = each_all (GivesOne volume 4 4) [] tt;
            placed = λ ne. record { named = (refl, (refl, (refl, omega arith))); reaches = refl };
          },
          (
            record {
              kind = (λ t. refl, λ t. refl);
              unique = omega arith;
              body = record { names = record { ordered = refl; few = omega arith }; acl = list_of 127 (omega arith); contents = refl; links = refl };
              given = each_all (GivesOne volume 5 5) [] tt;
              placed = λ ne. record { named = (refl, (refl, refl)); reaches = refl };
            },
            (
              record {
                kind = (λ t. absurd cc, λ t. absurd (omega (arith, t)));
                unique = omega arith;
                body = record { names = refl; acl = refl };
                given = each_all (GivesOne volume 6 6) [] tt;
                placed = λ ne. record { named = (refl, (refl, (refl, omega arith))); reaches = refl };
              },
              tt,
            ),
          ),
        ),
      ),
    ),
  );
}

-- ---- unsound

Unsound : Volume → Type 0
Unsound v = IsSound v → ⊥

-- with this vnode in place of the one under n
abbrev with_vnode : ℕ → Vnode → Volume
with_vnode n x = record volume { vnodes = set n x volume.vnodes }

without_root : Unsound (record volume { vnodes = unset 1 volume.vnodes })
unfolding Unsound
without_root h = h.root

root_of_another_unique : Unsound (with_vnode 1 (directory 2 4 0 0 root_names 127))
unfolding Unsound
root_of_another_unique h = let e : 2 ≡ 1 = h.root.0 in omega (arith, e)

root_with_a_parent : Unsound (with_vnode 1 (directory 1 4 1 1 root_names 127))
unfolding Unsound
root_with_a_parent h = let e : 1 ≡ 0 = h.root.1.1.0 in omega (arith, e)

root_is_a_file : Unsound (with_vnode 1 (other a_file 1 1 0 0 []))
unfolding Unsound
root_is_a_file h = let e = h.root.1.0 in absurd cc

vnode_0 : Unsound (record volume { vnodes = (0, other a_file 6 1 1 1 []) ∷ volume.vnodes })
unfolding Unsound
vnode_0 h = let e : 1 ≤ 0 = h.ascending.0 in omega (arith, e)

out_of_order : Unsound (record volume { vnodes = (1, directory 1 2 0 0 [] 127) ∷ (1, directory 1 2 0 0 [] 127) ∷ [] })
unfolding Unsound
out_of_order h = let e : 2 ≤ 1 = h.ascending.1.0 in omega (arith, e)

directory_of_an_even_number : Unsound (with_vnode 2 (directory 2 2 1 1 [] 127))
unfolding Unsound
directory_of_an_even_number h = let e : 0 ≡ 1 = (h.vnodes 2 (directory 2 2 1 1 [] 127) refl).kind.0 refl in omega (arith, e)

file_of_an_odd_number : Unsound (with_vnode 5 (other a_file 5 1 1 1 []))
unfolding Unsound
file_of_an_odd_number h = let e = (h.vnodes 5 (other a_file 5 1 1 1 []) refl).kind.1 refl in absurd cc

unique_to_come : Unsound (record volume { next = 6 })
unfolding Unsound
unique_to_come h = let e : 6 < 6 = (h.vnodes 6 (other a_link 6 1 3 3 (codes "a")) refl).unique in omega (arith, e)

file_with_names : Unsound (with_vnode 2 (record (other a_file 2 1 1 1 []) { names = name (codes "x") 4 4 ∷ [] }))
unfolding Unsound
file_with_names h = let e = (h.vnodes 2 (record (other a_file 2 1 1 1 []) { names = name (codes "x") 4 4 ∷ [] }) refl).body.names in absurd cc

file_with_a_list : Unsound (with_vnode 2 (record (other a_file 2 1 1 1 []) { acl = (directory 1 2 0 0 [] 127).acl }))
unfolding Unsound
file_with_a_list h = let e = (h.vnodes 2 (record (other a_file 2 1 1 1 []) { acl = (directory 1 2 0 0 [] 127).acl }) refl).body.acl in let l : 1 ≡ 0 = ap (λ (c : AccessList). length c.positive) e in omega (arith, l)

directory_with_contents : Unsound (with_vnode 5 (record (directory 5 2 1 1 [] 127) { contents = 7 ∷ [] }))
unfolding Unsound
directory_with_contents h = let e = (h.vnodes 5 (record (directory 5 2 1 1 [] 127) { contents = 7 ∷ [] }) refl).body.contents in absurd cc

list_with_too_many_rights : Unsound (with_vnode 5 (directory 5 2 1 1 [] 128))
unfolding Unsound
list_with_too_many_rights h = let e : 128 ≤ 127 = (h.vnodes 5 (directory 5 2 1 1 [] 128) refl).body.acl.positive.0.rights in omega (arith, e)

names_out_of_order : Unsound (with_vnode 3 (directory 3 2 1 1 (name (codes "g") 4 4 ∷ name (codes "f") 4 4 ∷ name (codes "l") 6 6 ∷ []) 127))
unfolding Unsound bytes_below name_ok
names_out_of_order h = let e : false ≡ true = (h.vnodes 3 (directory 3 2 1 1 (name (codes "g") 4 4 ∷ name (codes "f") 4 4 ∷ name (codes "l") 6 6 ∷ []) 127) refl).body.names.ordered in absurd cc

a_link_too_many : Unsound (with_vnode 1 (directory 1 5 0 0 root_names 127))
unfolding Unsound
a_link_too_many h = let e : 5 ≡ 4 = (h.vnodes 1 (directory 1 5 0 0 root_names 127) refl).body.links in omega (arith, e)

name_of_nothing : Unsound (with_vnode 5 (directory 5 2 1 1 (name (codes "x") 8 8 ∷ []) 127))
unfolding Unsound
name_of_nothing h = (all_each (GivesOne (with_vnode 5 (directory 5 2 1 1 (name (codes "x") 8 8 ∷ []) 127)) 5 5) (name (codes "x") 8 8 ∷ []) (h.vnodes 5 (directory 5 2 1 1 (name (codes "x") 8 8 ∷ []) 127) refl).given).0

name_of_another_unique : Unsound (with_vnode 3 (directory 3 2 1 1 (name (codes "f") 4 4 ∷ name (codes "g") 4 4 ∷ name (codes "l") 6 5 ∷ []) 127))
unfolding Unsound
name_of_another_unique h =
    let v = with_vnode 3 (directory 3 2 1 1 (name (codes "f") 4 4 ∷ name (codes "g") 4 4 ∷ name (codes "l") 6 5 ∷ []) 127) in
    let e : 6 ≡ 5 = (all_each (GivesOne v 3 3) (name (codes "f") 4 4 ∷ name (codes "g") 4 4 ∷ name (codes "l") 6 5 ∷ []) (h.vnodes 3 (directory 3 2 1 1 (name (codes "f") 4 4 ∷ name (codes "g") 4 4 ∷ name (codes "l") 6 5 ∷ []) 127) refl).given).1.1.0.1.0 in omega (arith, e)

name_of_the_root : Unsound (with_vnode 5 (directory 5 3 1 1 (name (codes "x") 1 1 ∷ []) 127))
unfolding Unsound
name_of_the_root h = (all_each (GivesOne (with_vnode 5 (directory 5 3 1 1 (name (codes "x") 1 1 ∷ []) 127)) 5 5) (name (codes "x") 1 1 ∷ []) (h.vnodes 5 (directory 5 3 1 1 (name (codes "x") 1 1 ∷ []) 127) refl).given).0.0 refl

named_in_two_directories : Unsound (with_vnode 5 (directory 5 2 1 1 (name (codes "x") 2 2 ∷ []) 127))
unfolding Unsound
named_in_two_directories h = let e : 1 ≡ 5 = (all_each (GivesOne (with_vnode 5 (directory 5 2 1 1 (name (codes "x") 2 2 ∷ []) 127)) 5 5) (name (codes "x") 2 2 ∷ []) (h.vnodes 5 (directory 5 2 1 1 (name (codes "x") 2 2 ∷ []) 127) refl).given).0.1.1.0 in omega (arith, e)

parent_of_another_unique : Unsound (with_vnode 2 (other a_file 2 1 1 2 []))
unfolding Unsound
parent_of_another_unique h = let e : 1 ≡ 2 = ((h.vnodes 2 (other a_file 2 1 1 2 []) refl).placed (λ e. omega (arith, e))).named.1.0 in omega (arith, e)

named_by_none : Unsound (with_vnode 8 (other a_file 6 1 1 1 []))
unfolding Unsound
named_by_none h = let e : 1 ≤ 0 = ((h.vnodes 8 (other a_file 6 1 1 1 []) refl).placed (λ e. omega (arith, e))).named.1.1.1 in omega (arith, e)

links_without_names : Unsound (with_vnode 4 (other a_file 4 3 3 3 []))
unfolding Unsound
links_without_names h = let e : 2 ≡ 3 = ((h.vnodes 4 (other a_file 4 3 3 3 []) refl).placed (λ e. omega (arith, e))).named.1.1.0 in omega (arith, e)

directory_of_two_names : Unsound (with_vnode 1 (directory 1 5 0 0 (name (codes "a") 2 2 ∷ name (codes "d") 3 3 ∷ name (codes "e") 5 5 ∷ name (codes "x") 5 5 ∷ []) 127))
unfolding Unsound
directory_of_two_names h = let e : 2 ≡ 1 = ((h.vnodes 5 (directory 5 2 1 1 [] 127) refl).placed (λ e. omega (arith, e))).named.1.1 in omega (arith, e)

-- two directories, each in the other
abbrev ring : Volume
ring = record volume {
  vnodes =
      (1, directory 1 2 0 0 [] 127) ∷ (3, directory 3 3 5 5 (name (codes "x") 5 5 ∷ []) 127) ∷ (5, directory 5 3 3 3 (name (codes "y") 3 3 ∷ []) 127) ∷ [];
}

parents_in_a_ring : Unsound ring
unfolding Unsound
parents_in_a_ring h = let e : false ≡ true = ((h.vnodes 3 (directory 3 3 5 5 (name (codes "x") 5 5 ∷ []) 127) refl).placed (λ e. omega (arith, e))).reaches in absurd cc
