-- Rename leaves a sound volume sound: a target that is replaced goes first, then the name moves.
use Rattle.std.proofs.Common.{◌≡◌, ℕ, zero, suc, ◌+◌, ◌<◌, ◌≤◌, Bool, true, false, cond, eqb, List, [], ◌∷◌, length, Option, Some, None, refl, sym, ap, subst, ◌∙◌, arith, eq-eqb, eqb-true}
use Rattle.std.specs.Prelude.{nat_eq, ⊤, ◌%◌, filter}
use Rattle.std.specs.List.{AllByRecursion}
use Rattle.std.specs.Option.{option_map}
use Rattle.std.specs.Str.{bytes_eq}
use Rattle.std.specs.Cmp.Lexicographic.{bytes_decides}
use Rattle.afs_num.specs.Names.{name_ok}
use Rattle.afs_num.specs.declared.types.Fid.{Fid}
use Rattle.afs_num.specs.declared.directories.Name.{Name}
use Rattle.spec_ideal.specs.Tables.{get}
use Rattle.spec_ideal.specs.Directories.{most_names, named, with_name, without_name, add_refused}
use Rattle.spec_ideal.specs.Volumes.{VnodeKind, a_file, a_directory, a_link, Vnode, Volume, vnode_of, Amend, Edit, amends, amended, edited_all, edit_number, ascending, counted}
use Rattle.spec_ideal.specs.Operations.{is_kind, names_in, links_of, is_below, leads_up, no_amend, linked, renamed}
use Rattle.spec_ideal.specs.Soundness.{names_of, names_directory, HasNames, IsNamedIn, IsRoot, IsSound}
use Rattle.spec_ideal.proofs.Basics.{some_of}
use Rattle.spec_ideal.proofs.Tables.{get_below}
use Rattle.spec_ideal.proofs.Directories.{same_is, named-without_name}
use Rattle.spec_ideal.proofs.Counts.{one_if, without_none}
use Rattle.spec_ideal.proofs.Maps.{Map, put, here, other, Own, Sound, AreLike, like_itself}
use Rattle.spec_ideal.proofs.Steps.{with_names, Held, holds, its_names, shorter, parity, room_for, renamed_to, within, moves_within, held_in, across, moves_across, taken}
use Rattle.spec_ideal.proofs.Ranks.{Ranked, at, steps, leaf_rank, ranked_leaf, part_rank, ranked_part, below_is}
use Rattle.spec_ideal.proofs.Looks.{one_edit, Distinct, no_makes, MakesAs, each_ascending, IsNoMake}
use Rattle.spec_ideal.proofs.Kept.{as_map, as_ranked, has_parents, Found, IsPlain, holds_after, same_parents, plain_sound, plain_ranked, like_if, amended_like}
use Rattle.spec_ideal.proofs.Comes.{not_itself}
use Rattle.spec_ideal.proofs.Goes.{stays, unlinked, unlink_by, drops, unlinked_like, unlink_number, unlink_plain, unlink_keeps}

-- ---- names

same_bytes : (a b : List ℕ) → a ≡ b → bytes_eq a b ≡ true
same_bytes a b e = (bytes_decides a b).1 e

pub named_gone : (name : List ℕ) (names : List Name) → named name (without_name name names) ≡ None
named_gone name names = named-without_name name name names ∙ rw (same_bytes name name refl) refl

none_if : (b : Bool) → ◌≡◌ {A = Option Name} (cond b None None) None
none_if true = refl
none_if false = refl

-- a name that isn't there, without another
pub still_none : (old new : List ℕ) (names : List Name) → named new names ≡ None → named new (without_name old names) ≡ None
still_none old new names e = named-without_name old new names ∙ (ap (cond (bytes_eq old new) None) e ∙ none_if (bytes_eq old new))

apart_by : (old new : List ℕ) (b : Bool) → bytes_eq new old ≡ b → bytes_eq old new ≡ false → b ≡ false
apart_by old new true e h = let yes : bytes_eq old new ≡ true = same_bytes old new (sym (same_is new old e)) in absurd cc
apart_by old new false e h = refl

-- another name is found as before
pub still_named : (old new : List ℕ) (m : Name) (names : List Name) → bytes_eq old new ≡ false → named old names ≡ Some m → named old (without_name new names) ≡ Some m
still_named old new m names ne e = named-without_name new old names ∙ rw (apart_by old new (bytes_eq new old) refl ne) e

swap_by : (p q : Bool) (n : Name) (xs ys : List Name) (f g : Name → Bool) → f n ≡ p → g n ≡ q → filter f (filter g xs) ≡ filter g (filter f xs) → filter f (cond q (n ∷ filter g xs) (filter g xs)) ≡ filter g (cond p (n ∷ filter f xs) (filter f xs))
swap_by true true n xs ys f g p q h = rw (p, q) (ap (λ (ts : List Name). n ∷ ts) h)
swap_by true false n xs ys f g p q h = rw q h
swap_by false true n xs ys f g p q h = rw p h
swap_by false false n xs ys f g p q h = h

filter_swap : (f g : Name → Bool) (xs : List Name) → filter f (filter g xs) ≡ filter g (filter f xs)
filter_swap f g [] = refl
filter_swap f g (n ∷ ns) = swap_by (f n) (g n) n ns [] f g refl refl (filter_swap f g ns)

pub without_swap : (a b : List ℕ) (names : List Name) → without_name a (without_name b names) ≡ without_name b (without_name a names)
without_swap a b names = filter_swap _ _ names

-- ---- links

pub less_by : (b : Bool) (l : ℕ) → 1 ≤ l → l ≡ linked false b l + one_if b
less_by true l le = omega (arith, le)
less_by false l le = omega arith

pub more_by : (moves gone : Bool) (l : ℕ) → 1 ≤ l → linked moves gone l ≡ linked false gone l + one_if moves
more_by true true l le = omega (arith, le)
more_by true false l le = omega arith
more_by false true l le = omega arith
more_by false false l le = omega arith

-- ---- likeness

like_three : (p q : Bool) (x x1 t b u r : Option Vnode) → (p ≡ true → AreLike x b) → (q ≡ true → AreLike t u) → AreLike (cond p x (cond q t (cond p x1 r))) (cond p b (cond q u r))
like_three true q x x1 t b u r f g = f refl
like_three false true x x1 t b u r f g = g refl
like_three false false x x1 t b u r f g = like_itself r

like_four : (p q s : Bool) (x z y b c a r : Option Vnode) → (p ≡ true → q ≡ true → ⊥) → (p ≡ true → s ≡ true → ⊥) → (q ≡ true → s ≡ true → ⊥) → (p ≡ true → AreLike x b) → (q ≡ true → AreLike z c) → (s ≡ true → AreLike y a)
    → AreLike (cond s y (cond q z (cond p x r))) (cond p b (cond q c (cond s a r)))
like_four true true s x z y b c a r pq ps qs f g h = absurd (pq refl refl)
like_four true false true x z y b c a r pq ps qs f g h = absurd (ps refl refl)
like_four true false false x z y b c a r pq ps qs f g h = f refl
like_four false true true x z y b c a r pq ps qs f g h = absurd (qs refl refl)
like_four false true false x z y b c a r pq ps qs f g h = g refl
like_four false false true x z y b c a r pq ps qs f g h = h refl
like_four false false false x z y b c a r pq ps qs f g h = like_itself r

like_five : (p q s w : Bool) (x z z1 y t b c a u r : Option Vnode) → (p ≡ true → q ≡ true → ⊥) → (p ≡ true → s ≡ true → ⊥) → (q ≡ true → s ≡ true → ⊥) → (p ≡ true → AreLike x b) → (q ≡ true → AreLike z c) → (s ≡ true → AreLike y a) → (w ≡ true → AreLike t u)
    → AreLike (cond s y (cond q z (cond p x (cond w t (cond q z1 r))))) (cond p b (cond q c (cond s a (cond w u r))))
like_five true true s w x z z1 y t b c a u r pq ps qs f g h k = absurd (pq refl refl)
like_five true false true w x z z1 y t b c a u r pq ps qs f g h k = absurd (ps refl refl)
like_five true false false w x z z1 y t b c a u r pq ps qs f g h k = f refl
like_five false true true w x z z1 y t b c a u r pq ps qs f g h k = absurd (qs refl refl)
like_five false true false w x z z1 y t b c a u r pq ps qs f g h k = g refl
like_five false false true w x z z1 y t b c a u r pq ps qs f g h k = h refl
like_five false false false true x z z1 y t b c a u r pq ps qs f g h k = k refl
like_five false false false false x z z1 y t b c a u r pq ps qs f g h k = like_itself r

never_both : (a b n : ℕ) → (a ≡ b → ⊥) → eqb a n ≡ true → eqb b n ≡ true → ⊥
never_both a b n ne p q = ne (eqb-true a n p ∙ sym (eqb-true b n q))

-- a directory has at least two links
pub two_links : (next d : ℕ) (x : Vnode) → x.kind ≡ a_directory → Own next d x → 1 ≤ x.links
two_links next d x dir own = let l = (its_names next d x dir own).links in omega (arith, l)

gone_parity : (next t : ℕ) (y : Vnode) (m : Name) → m.vnode ≡ t → Own next t y → one_if (names_directory m) ≡ one_if (is_kind y.kind a_directory)
gone_parity next t y m e own = subst (λ (k : ℕ). one_if (nat_eq (k % 2) 1) ≡ one_if (is_kind y.kind a_directory)) (sym e) (parity t y.kind own.kind)

-- ---- within one directory

abbrev pub within_edit : Fid → Name → List ℕ → List ℕ → Bool → Volume → Amend
within_edit d m old new gone v = record no_amend {
  names = Some (renamed m new (without_name old (names_in (vnode_of d v))));
  links = Some (linked false gone (links_of (vnode_of d v)));
}

pub within_sound : (id : ℕ) (d : Fid) (old new : List ℕ) (m : Name) (x y : Vnode) (v : Volume) → IsSound v → Found d v x → x.kind ≡ a_directory → named old x.names ≡ Some m → name_ok new ≡ true → named new x.names ≡ None
    → Held d.vnode m.vnode m.unique x y (at v) → names_in (vnode_of d v) ≡ x.names → links_of (vnode_of d v) ≡ x.links → IsSound (counted (edited_all id (ascending (amends d.vnode (within_edit d m old new false v) ∷ [])) v))
within_sound id d old new m x y v h at_d dir found ok none k its many =
    let a : Amend = within_edit d m old new false v in
    let ne = not_itself d.vnode m.vnode m.unique x y (at v) (steps v) (as_ranked v h) k in
    let gone : named new (without_name old x.names) ≡ None = still_none old new x.names none in
    plain_sound id (amends d.vnode a ∷ []) v (within d.vnode x old new m x.links (at v)) h ((tt, tt), tt) (refl, tt) (tt, tt)
    (moves_within d.vnode v.next old new m x y (at v) at_d.there dir found ok gone k ne (as_map v h))
    (λ n. like_if (eqb d.vnode n) (Some (with_names x (with_name (renamed_to new m) (without_name old x.names)) x.links)) (option_map (amended (v.counter + 1) a) (get n v.vnodes)) (get n v.vnodes) (get n v.vnodes)
    (λ p. amended_like d.vnode n (v.counter + 1) a x (with_names x (with_name (renamed_to new m) (without_name old x.names)) x.links) v at_d.there p
    (record { seen = record { unique = refl; kind = refl; links = many; parent = refl; parent_unique = refl; names = ap (λ (ns : List Name). with_name (renamed_to new m) (without_name new (without_name old ns))) its ∙ ap (with_name (renamed_to new m)) (without_none new (without_name old x.names) gone) }; contents = refl; acl = refl }))
    (like_itself (get n v.vnodes)))

pub within_replaced : (id : ℕ) (d : Fid) (old new : List ℕ) (m w : Name) (x y t : Vnode) (v : Volume) (b : Bool) → stays t ≡ b → IsSound v → Found d v x → x.kind ≡ a_directory → named old x.names ≡ Some m → name_ok new ≡ true → bytes_eq old new ≡ false → named new x.names ≡ Some w
    → Held d.vnode m.vnode m.unique x y (at v) → Held d.vnode w.vnode w.unique x t (at v) → (t.kind ≡ a_directory → t.names ≡ []) → names_in (vnode_of d v) ≡ x.names → links_of (vnode_of d v) ≡ x.links
    → IsSound (counted (edited_all id (ascending (amends d.vnode (within_edit d m old new (is_kind t.kind a_directory) v) ∷ unlink_by b w.vnode t ∷ [])) v))
within_replaced id d old new m w x y t v b e h at_d dir found ok differ target k kt empty its many =
    let s = as_map v h in
    let gone : Bool = is_kind t.kind a_directory in
    let l : ℕ = linked false gone x.links in
    let a : Amend = within_edit d m old new gone v in
    let es : List Edit = amends d.vnode a ∷ unlink_by b w.vnode t ∷ [] in
    let own_x = s.own d.vnode x at_d.there in
    let own_t = s.own w.vnode t kt.there in
    let same : x.links ≡ l + one_if (names_directory w) = less_by gone x.links (two_links v.next d.vnode x dir own_x) ∙ ap (λ (k : ℕ). l + k) (sym (gone_parity v.next w.vnode t w refl own_t)) in
    let ne_w = not_itself d.vnode w.vnode w.unique x t (at v) (steps v) (as_ranked v h) kt in
    let ne_m = not_itself d.vnode m.vnode m.unique x y (at v) (steps v) (as_ranked v h) k in
    let x1 : Vnode = with_names x (without_name new x.names) l in
    let g1 : Map = put w.vnode (unlinked b t) (taken d.vnode x new l (at v)) in
    let s1 : Sound v.next g1 = drops d.vnode v.next l new w x t (at v) b e at_d.there dir target same kt ne_w empty s in
    let at_1 : g1 d.vnode ≡ Some x1 = other w.vnode (unlinked b t) (taken d.vnode x new l (at v)) d.vnode (λ q. ne_w (sym q)) ∙ here d.vnode (Some x1) (at v) in
    let found_1 : named old x1.names ≡ Some m = still_named old new m x.names differ found in
    let held = holds d.vnode v.next old m x1 g1 at_1 found_1 s1 in
    let none_1 : named new (without_name old x1.names) ≡ None = still_none old new x1.names (named_gone new x.names) in
    let s2 : Sound v.next (within d.vnode x1 old new m l g1) = moves_within d.vnode v.next old new m x1 held.0 g1 at_1 dir found_1 ok none_1 held.1 ne_m s1 in
    let ne_edit : edit_number (unlink_by b w.vnode t) ≡ d.vnode → ⊥ = λ q. ne_w (sym (unlink_number b w.vnode t) ∙ q) in
    let last : Vnode = with_names x1 (with_name (renamed_to new m) (without_name old x1.names)) l in
    plain_sound id es v (within d.vnode x1 old new m l g1) h ((tt, tt), (unlink_plain b w.vnode t, tt)) (refl, (unlink_keeps b w.vnode t, tt)) ((ne_edit, tt), (tt, tt)) s2
    (λ n. subst (λ (j : ℕ). AreLike (within d.vnode x1 old new m l g1 n) (cond (eqb d.vnode n) (option_map (amended (v.counter + 1) a) (get n v.vnodes)) (cond (eqb j n) (one_edit (v.counter + 1) v.next (unlink_by b w.vnode t) (get n v.vnodes)) (get n v.vnodes)))) (sym (unlink_number b w.vnode t))
    (like_three (eqb d.vnode n) (eqb w.vnode n) (Some last) (Some x1) (unlinked b t) (option_map (amended (v.counter + 1) a) (get n v.vnodes)) (one_edit (v.counter + 1) v.next (unlink_by b w.vnode t) (get n v.vnodes)) (get n v.vnodes)
    (λ p. amended_like d.vnode n (v.counter + 1) a x last v at_d.there p
    (record { seen = record { unique = refl; kind = refl; links = ap (linked false gone) many; parent = refl; parent_unique = refl; names = ap (λ (ns : List Name). with_name (renamed_to new m) (without_name new (without_name old ns))) its ∙ ap (with_name (renamed_to new m)) (without_swap new old x.names) }; contents = refl; acl = refl }))
    (λ p. unlinked_like b w.vnode n (v.counter + 1) v.next t v kt.there p)))

-- ---- from one directory to another: ranks

root_parent : (v : Volume) → IsSound v → (x : Vnode) → get 1 v.vnodes ≡ Some x → get x.parent v.vnodes ≡ None
root_parent v h x e =
    let root : IsRoot (Some x) = subst IsRoot e h.root in
    ap (λ (n : ℕ). get n v.vnodes) root.1.1.0 ∙ get_below 1 0 v.vnodes (omega arith) h.ascending

itself_below : (k n : ℕ) (v : Volume) (x : Vnode) → 0 < k → leads_up k n n v (Some x) ≡ true
itself_below zero n v x lt = absurd (omega (arith, lt))
itself_below (suc k) n v x lt = rw (eq-eqb n n refl) refl

some_length : (n : ℕ) (v : Volume) (x : Vnode) → get n v.vnodes ≡ Some x → 0 < length v.vnodes
some_length n v x e = long_by v.vnodes e
  where
    long_by : (t : List (ℕ × Vnode)) → get n t ≡ Some x → 0 < length t
    long_by [] e = absurd cc
    long_by (p ∷ ps) e = omega arith

pub below_itself : (n : ℕ) (v : Volume) (x : Vnode) → get n v.vnodes ≡ Some x → is_below n n v ≡ true
below_itself n v x e = subst (λ (o : Option Vnode). leads_up (length v.vnodes) n n v o ≡ true) (sym e) (itself_below (length v.vnodes) n v x (some_length n v x e))

parent_is_directory : (o : Option Vnode) (n : ℕ) (x y : Vnode) → o ≡ Some y → IsNamedIn o n x → y.kind ≡ a_directory
parent_is_directory None n x y e h = absurd h
parent_is_directory (Some d) n x y e h = ap (λ (w : Vnode). w.kind) (sym (some_of d y e)) ∙ h.0

-- a file isn't below itself, nor is a directory in one that doesn't stand below it
abbrev pub MayStandIn : ℕ → ℕ → Volume → Bool → Type 0
MayStandIn e t v true = is_below e t v ≡ false
MayStandIn e t v false = ⊤

kind_no : (k : VnodeKind) → is_kind k a_directory ≡ false → k ≡ a_directory → ⊥
kind_no k e f = let yes : is_kind k a_directory ≡ true = rw f refl in absurd cc

pub moved_ranked : (b : Bool) (t e : ℕ) (y : Vnode) (v : Volume) (k : Map) → is_kind y.kind a_directory ≡ b → MayStandIn e t v b → IsSound v → get t v.vnodes ≡ Some y → (t ≡ e → ⊥) → ((n : ℕ) (z : Vnode) → k n ≡ Some z → (n ≡ t → ⊥) → (x : Vnode) × ((get n v.vnodes ≡ Some x) × (z.parent ≡ x.parent)))
    → ((z : Vnode) → k t ≡ Some z → z.parent ≡ e) → (rank : ℕ → ℕ) × Ranked k rank
moved_ranked true t e y v k is out h there ne same mine =
    let s = as_map v h in
    let below : ℕ → Bool = λ n. is_below n t v in (
      part_rank below e (steps v),
      ranked_part below t e (at v) k (steps v) (as_ranked v h) same mine (below_itself t v y there) out
          (λ n x at_n not_root. below_is v (steps v) t (as_ranked v h) (has_parents v.next (at v) s) (root_parent v h) n x at_n not_root),
    )
moved_ranked false t e y v k is out h there ne same mine =
    let s = as_map v h in (
      leaf_rank t e (steps v),
      ranked_leaf t e (at v) k (steps v) (as_ranked v h) same mine (λ q. ne (sym q))
          (λ n x at_n not_root up. kind_no y.kind is (parent_is_directory (get x.parent v.vnodes) n x y (ap (λ (j : ℕ). get j v.vnodes) up ∙ there) (s.named n x at_n not_root))),
    )

-- ---- from one directory to another: the volume

abbrev pub source_edit : Fid → List ℕ → Bool → Volume → Amend
source_edit d old moves v = record no_amend { names = Some (without_name old (names_in (vnode_of d v))); links = Some (linked false moves (links_of (vnode_of d v))) }

abbrev pub target_edit : Fid → Name → List ℕ → Bool → Bool → Volume → Amend
target_edit e m new moves gone v = record no_amend { names = Some (renamed m new (names_in (vnode_of e v))); links = Some (linked moves gone (links_of (vnode_of e v))) }

abbrev pub parent_edit : Fid → Amend
parent_edit e = record no_amend { parent = Some (e.vnode, e.unique) }

-- what an edit of the parent makes of the vnode
moved_parent : (t : ℕ) (e : Fid) (c : ℕ) (y z : Vnode) (o : Option Vnode) → o ≡ Some (amended c (parent_edit e) y) → o ≡ Some z → z.parent ≡ e.vnode
moved_parent t e c y z o p q = ap (λ (w : Vnode). w.parent) (sym (some_of (amended c (parent_edit e) y) z (sym p ∙ q)))

skip : (b : Bool) (d t : ℕ) (a r : Option Vnode) → eqb d t ≡ b → (d ≡ t → ⊥) → cond b a r ≡ r
skip true d t a r e ne = absurd (ne (eqb-true d t e))
skip false d t a r e ne = refl

-- the vnode under t, behind the edits of the two directories
third : (d e t : ℕ) (a c x r : Option Vnode) → (d ≡ t → ⊥) → (e ≡ t → ⊥) → cond (eqb d t) a (cond (eqb e t) c (cond (eqb t t) x r)) ≡ x
third d e t a c x r p q = skip (eqb d t) d t a _ refl p ∙ (skip (eqb e t) e t c _ refl q ∙ rw (eq-eqb t t refl) refl)

one_count : (k : VnodeKind) (links n : ℕ) → HasNames k links n → ((k ≡ a_directory → ⊥) → links < 2) → n ≡ 1
one_count a_directory links n h few = h
one_count a_file links n h few =
    let l : links < 2 = few (λ e. absurd cc) in
    let a : n ≡ links = h.0 in
    let b : 1 ≤ n = h.1 in
    omega (arith, l, a, b)
one_count a_link links n h few =
    let l : links < 2 = few (λ e. absurd cc) in
    let a : n ≡ links = h.0 in
    let b : 1 ≤ n = h.1 in
    omega (arith, l, a, b)

pub across_sound : (id : ℕ) (d e : Fid) (old new : List ℕ) (m : Name) (x z y : Vnode) (v : Volume) → IsSound v → Found d v x → x.kind ≡ a_directory → Found e v z → z.kind ≡ a_directory → (d.vnode ≡ e.vnode → ⊥) → named old x.names ≡ Some m → add_refused new z.names ≡ None
    → named new z.names ≡ None → Held d.vnode m.vnode m.unique x y (at v) → (m.vnode ≡ e.vnode → ⊥) → MayStandIn e.vnode m.vnode v (is_kind y.kind a_directory) → ((y.kind ≡ a_directory → ⊥) → y.links < 2)
    → names_in (vnode_of d v) ≡ x.names → links_of (vnode_of d v) ≡ x.links → names_in (vnode_of e v) ≡ z.names → links_of (vnode_of e v) ≡ z.links
    → IsSound (counted (edited_all id (ascending (amends d.vnode (source_edit d old (is_kind y.kind a_directory) v) ∷ amends e.vnode (target_edit e m new (is_kind y.kind a_directory) false v) ∷ amends m.vnode (parent_edit e) ∷ [])) v))
across_sound id d e old new m x z y v h at_d dir at_e new_dir apart found ok none k not_new out few its many its_new many_new =
    let s = as_map v h in
    let moves : Bool = is_kind y.kind a_directory in
    let t : ℕ = m.vnode in
    let c : ℕ = v.counter + 1 in
    let a1 : Amend = source_edit d old moves v in
    let a2 : Amend = target_edit e m new moves false v in
    let es : List Edit = amends d.vnode a1 ∷ amends e.vnode a2 ∷ amends t (parent_edit e) ∷ [] in
    let less : ℕ = linked false moves x.links in
    let more : ℕ = linked moves false z.links in
    let par = gone_parity v.next t y m refl (s.own t y k.there) in
    let x_less : x.links ≡ less + one_if (names_directory m) = less_by moves x.links (two_links v.next d.vnode x dir (s.own d.vnode x at_d.there)) ∙ ap (λ (j : ℕ). less + j) (sym par) in
    let z_more : more ≡ z.links + one_if (names_directory m) = more_by moves false z.links (two_links v.next e.vnode z new_dir (s.own e.vnode z at_e.there)) ∙ ap (λ (j : ℕ). z.links + j) (sym par) in
    let ne_d = not_itself d.vnode t m.unique x y (at v) (steps v) (as_ranked v h) k in
    let single = one_count y.kind y.links (names_of t m.unique x.names) k.count few in
    let g : Map = across d.vnode e.vnode x z old new m y less more (at v) in
    let sound : Sound v.next g = moves_across d.vnode e.vnode v.next less more old new m x z y (at v) at_d.there dir at_e.there new_dir apart found ok x_less z_more k ne_d not_new single (subst (HasNames y.kind y.links) single k.count) s in
    let distinct : Distinct es = (((λ q. apart (sym q)), (ne_d, tt)), ((not_new, tt), (tt, tt))) in
    let plain : AllByRecursion IsPlain es = ((tt, tt), ((tt, tt), ((tt, tt), tt))) in
    let nothing : AllByRecursion IsNoMake (ascending es) = each_ascending IsNoMake es (tt, (tt, (tt, tt))) in
    let makes_as : MakesAs v.next v.next (ascending es) = no_makes v.next v.next (ascending es) nothing in
    let k_map : Map = at (edited_all id (ascending es) v) in
    let mine : k_map t ≡ Some (amended c (parent_edit e) y) = holds_after id v.next t es v distinct makes_as ∙ (third d.vnode e.vnode t _ _ _ _ (λ q. ne_d (sym q)) (λ q. not_new (sym q)) ∙ ap (option_map (amended c (parent_edit e))) k.there) in
    let ranked = moved_ranked moves t e.vnode y v k_map refl out h k.there not_new
    (λ n w is ne. same_parents id v.next t es v distinct makes_as ((λ q. refl), ((λ q. refl), ((λ q. absurd (q refl)), tt))) n w is ne)
    (λ w is. moved_parent t e c y w (k_map t) mine is) in
    plain_ranked id es v ranked.0 g h plain distinct sound
    (λ n. like_four (eqb d.vnode n) (eqb e.vnode n) (eqb t n) (Some (with_names x (without_name old x.names) less)) (Some (with_names z (with_name (renamed_to new m) z.names) more)) (Some (held_in e.vnode z.unique y))
    (option_map (amended c a1) (get n v.vnodes)) (option_map (amended c a2) (get n v.vnodes)) (option_map (amended c (parent_edit e)) (get n v.vnodes)) (get n v.vnodes)
    (never_both d.vnode e.vnode n apart) (never_both d.vnode t n (λ q. ne_d (sym q))) (never_both e.vnode t n (λ q. not_new (sym q)))
    (λ p. amended_like d.vnode n c a1 x (with_names x (without_name old x.names) less) v at_d.there p (record { seen = record { unique = refl; kind = refl; links = ap (linked false moves) many; parent = refl; parent_unique = refl; names = ap (without_name old) its }; contents = refl; acl = refl }))
    (λ p. amended_like e.vnode n c a2 z (with_names z (with_name (renamed_to new m) z.names) more) v at_e.there p (record { seen = record { unique = refl; kind = refl; links = ap (linked moves false) many_new; parent = refl; parent_unique = refl; names = ap (λ (ns : List Name). with_name (renamed_to new m) (without_name new ns)) its_new ∙ ap (with_name (renamed_to new m)) (without_none new z.names none) }; contents = refl; acl = refl }))
    (λ p. amended_like t n c (parent_edit e) y (held_in e.vnode z.unique y) v k.there p (record { seen = record { unique = refl; kind = refl; links = refl; parent = refl; parent_unique = sym at_e.unique; names = refl }; contents = refl; acl = refl })))
    ranked.1

-- a replaced target is none of the vnodes that move
pub no_named : (old : List ℕ) (m : Name) (names : List Name) → names ≡ [] → named old names ≡ Some m → ⊥
no_named old m names e f = let z : None ≡ Some m = ap (named old) (sym e) ∙ f in absurd cc

held_elsewhere : (d t u : ℕ) (x y : Vnode) (g f : Map) → f t ≡ Some y → Held d t u x y g → Held d t u x y f
held_elsewhere d t u x y g f e k = record { there = e; not_root = k.not_root; unique = k.unique; parent = k.parent; parent_unique = k.parent_unique; count = k.count }

pub across_replaced : (id : ℕ) (d e : Fid) (old new : List ℕ) (m w : Name) (x z y t : Vnode) (v : Volume) (b : Bool) → stays t ≡ b → IsSound v → Found d v x → x.kind ≡ a_directory → Found e v z → z.kind ≡ a_directory → (d.vnode ≡ e.vnode → ⊥) → named old x.names ≡ Some m → name_ok new ≡ true
    → named new z.names ≡ Some w → Held d.vnode m.vnode m.unique x y (at v) → Held e.vnode w.vnode w.unique z t (at v) → (t.kind ≡ a_directory → t.names ≡ []) → (m.vnode ≡ w.vnode → ⊥) → (m.vnode ≡ e.vnode → ⊥) → MayStandIn e.vnode m.vnode v (is_kind y.kind a_directory) → ((y.kind ≡ a_directory → ⊥) → y.links < 2)
    → names_in (vnode_of d v) ≡ x.names → links_of (vnode_of d v) ≡ x.links → names_in (vnode_of e v) ≡ z.names → links_of (vnode_of e v) ≡ z.links
    → IsSound (counted (edited_all id (ascending (amends d.vnode (source_edit d old (is_kind y.kind a_directory) v) ∷ amends e.vnode (target_edit e m new (is_kind y.kind a_directory) (is_kind t.kind a_directory) v) ∷ amends m.vnode (parent_edit e) ∷ unlink_by b w.vnode t ∷ [])) v))
across_replaced id d e old new m w x z y t v b eb h at_d dir at_e new_dir apart found ok target k kt empty not_same not_new out few its many its_new many_new =
    let s = as_map v h in
    let moves : Bool = is_kind y.kind a_directory in
    let gone : Bool = is_kind t.kind a_directory in
    let c : ℕ = v.counter + 1 in
    let a1 : Amend = source_edit d old moves v in
    let a2 : Amend = target_edit e m new moves gone v in
    let last : Edit = unlink_by b w.vnode t in
    let es : List Edit = amends d.vnode a1 ∷ amends e.vnode a2 ∷ amends m.vnode (parent_edit e) ∷ last ∷ [] in
    let l : ℕ = linked false gone z.links in
    let less : ℕ = linked false moves x.links in
    let more : ℕ = linked moves gone z.links in
    let two = two_links v.next e.vnode z new_dir (s.own e.vnode z at_e.there) in
    let par_m = gone_parity v.next m.vnode y m refl (s.own m.vnode y k.there) in
    let par_w = gone_parity v.next w.vnode t w refl (s.own w.vnode t kt.there) in
    let z_less : z.links ≡ l + one_if (names_directory w) = less_by gone z.links two ∙ ap (λ (j : ℕ). l + j) (sym par_w) in
    let x_less : x.links ≡ less + one_if (names_directory m) = less_by moves x.links (two_links v.next d.vnode x dir (s.own d.vnode x at_d.there)) ∙ ap (λ (j : ℕ). less + j) (sym par_m) in
    let z_more : more ≡ l + one_if (names_directory m) = more_by moves gone z.links two ∙ ap (λ (j : ℕ). l + j) (sym par_m) in
    let ne_d = not_itself d.vnode m.vnode m.unique x y (at v) (steps v) (as_ranked v h) k in
    let ne_w = not_itself e.vnode w.vnode w.unique z t (at v) (steps v) (as_ranked v h) kt in
    let d_w : d.vnode ≡ w.vnode → ⊥ = λ q. (let same : Some x ≡ Some t = sym at_d.there ∙ (ap (at v) q ∙ kt.there) in let is : x ≡ t = some_of x t same in no_named old m x.names (ap (λ (j : Vnode). j.names) is ∙ empty (ap (λ (j : Vnode). j.kind) (sym is) ∙ dir)) found) in
    let single = one_count y.kind y.links (names_of m.vnode m.unique x.names) k.count few in
    let z1 : Vnode = with_names z (without_name new z.names) l in
    let g1 : Map = put w.vnode (unlinked b t) (taken e.vnode z new l (at v)) in
    let s1 : Sound v.next g1 = drops e.vnode v.next l new w z t (at v) b eb at_e.there new_dir target z_less kt ne_w empty s in
    let x_at : g1 d.vnode ≡ Some x = other w.vnode (unlinked b t) (taken e.vnode z new l (at v)) d.vnode d_w ∙ (other e.vnode (Some z1) (at v) d.vnode apart ∙ at_d.there) in
    let z_at : g1 e.vnode ≡ Some z1 = other w.vnode (unlinked b t) (taken e.vnode z new l (at v)) e.vnode (λ q. ne_w (sym q)) ∙ here e.vnode (Some z1) (at v) in
    let y_at : g1 m.vnode ≡ Some y = other w.vnode (unlinked b t) (taken e.vnode z new l (at v)) m.vnode not_same ∙ (other e.vnode (Some z1) (at v) m.vnode not_new ∙ k.there) in
    let short = (its_names v.next e.vnode z new_dir (s.own e.vnode z at_e.there)).names in
    let fits = shorter new w z.names short target in
    let room : length (without_name new z.names) < most_names = (let few_names = short.few in omega (arith, few_names, fits)) in
    let g : Map = across d.vnode e.vnode x z1 old new m y less more g1 in
    let sound : Sound v.next g = moves_across d.vnode e.vnode v.next less more old new m x z1 y g1 x_at dir z_at new_dir apart found (room_for new (without_name new z.names) ok (named_gone new z.names) room) x_less z_more (held_elsewhere d.vnode m.vnode m.unique x y (at v) g1 y_at k) ne_d not_new single
    (subst (HasNames y.kind y.links) single k.count) s1 in
    let num : edit_number last ≡ w.vnode = unlink_number b w.vnode t in
    let distinct : Distinct es = (((λ q. apart (sym q)), (ne_d, ((λ q. d_w (sym q ∙ num)), tt))), ((not_new, ((λ q. ne_w (sym num ∙ q)), tt)), (((λ q. not_same (sym q ∙ num)), tt), (tt, tt)))) in
    let plain : AllByRecursion IsPlain es = ((tt, tt), ((tt, tt), ((tt, tt), (unlink_plain b w.vnode t, tt)))) in
    let nothing : AllByRecursion IsNoMake (ascending es) = each_ascending IsNoMake es (tt, (tt, (tt, ((unlink_plain b w.vnode t).0, tt)))) in
    let makes_as : MakesAs v.next v.next (ascending es) = no_makes v.next v.next (ascending es) nothing in
    let k_map : Map = at (edited_all id (ascending es) v) in
    let mine : k_map m.vnode ≡ Some (amended c (parent_edit e) y) = holds_after id v.next m.vnode es v distinct makes_as ∙ (third d.vnode e.vnode m.vnode _ _ _ _ (λ q. ne_d (sym q)) (λ q. not_new (sym q)) ∙ ap (option_map (amended c (parent_edit e))) k.there) in
    let ranked = moved_ranked moves m.vnode e.vnode y v k_map refl out h k.there not_new
    (λ n j is ne. same_parents id v.next m.vnode es v distinct makes_as ((λ q. refl), ((λ q. refl), ((λ q. absurd (q refl)), ((λ q. unlink_keeps b w.vnode t), tt)))) n j is ne)
    (λ j is. moved_parent m.vnode e c y j (k_map m.vnode) mine is) in
    let z2 : Vnode = with_names z1 (with_name (renamed_to new m) z1.names) more in
    let x2 : Vnode = with_names x (without_name old x.names) less in
    plain_ranked id es v ranked.0 g h plain distinct sound
    (λ n. subst (λ (j : ℕ). AreLike (g n) (cond (eqb d.vnode n) (option_map (amended c a1) (get n v.vnodes)) (cond (eqb e.vnode n) (option_map (amended c a2) (get n v.vnodes)) (cond (eqb m.vnode n) (option_map (amended c (parent_edit e)) (get n v.vnodes)) (cond (eqb j n) (one_edit c v.next last (get n v.vnodes)) (get n v.vnodes)))))) (sym num)
    (like_five (eqb d.vnode n) (eqb e.vnode n) (eqb m.vnode n) (eqb w.vnode n) (Some x2) (Some z2) (Some z1) (Some (held_in e.vnode z.unique y)) (unlinked b t)
    (option_map (amended c a1) (get n v.vnodes)) (option_map (amended c a2) (get n v.vnodes)) (option_map (amended c (parent_edit e)) (get n v.vnodes)) (one_edit c v.next last (get n v.vnodes)) (get n v.vnodes)
    (never_both d.vnode e.vnode n apart) (never_both d.vnode m.vnode n (λ q. ne_d (sym q))) (never_both e.vnode m.vnode n (λ q. not_new (sym q)))
    (λ p. amended_like d.vnode n c a1 x x2 v at_d.there p (record { seen = record { unique = refl; kind = refl; links = ap (linked false moves) many; parent = refl; parent_unique = refl; names = ap (without_name old) its }; contents = refl; acl = refl }))
    (λ p. amended_like e.vnode n c a2 z z2 v at_e.there p (record { seen = record { unique = refl; kind = refl; links = ap (linked moves gone) many_new; parent = refl; parent_unique = refl; names = ap (λ (ns : List Name). with_name (renamed_to new m) (without_name new ns)) its_new }; contents = refl; acl = refl }))
    (λ p. amended_like m.vnode n c (parent_edit e) y (held_in e.vnode z.unique y) v k.there p (record { seen = record { unique = refl; kind = refl; links = refl; parent = refl; parent_unique = sym at_e.unique; names = refl }; contents = refl; acl = refl }))
    (λ p. unlinked_like b w.vnode n c v.next t v kt.there p)))
    ranked.1
