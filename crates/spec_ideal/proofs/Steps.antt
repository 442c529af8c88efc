-- What operations do to the map of a sound volume: a name and its vnode come, go, or move.
use Rattle.std.proofs.Common.{◌≡◌, ℕ, ◌+◌, ◌<◌, ◌≤◌, inl, Bool, true, false, cond, eqb, List, [], length, Option, Some, None, refl, sym, ap, subst, ◌∙◌, arith, eq-eqb, eqb-true, lt-ltb}
use Rattle.afs_num.specs.Names.{name_ok}
use Rattle.std.specs.Prelude.{◌&&◌, ◌%◌, nat_eq}
use Rattle.afs_num.specs.declared.directories.Name.{Name}
use Rattle.spec_ideal.specs.Directories.{most_names, IsDirectory, named, with_name, without_name, add_refused}
use Rattle.spec_ideal.specs.Volumes.{VnodeKind, a_file, a_directory, a_link, Vnode}
use Rattle.spec_ideal.specs.Operations.{is_kind}
use Rattle.spec_ideal.specs.Soundness.{names_it, names_of, names_directory, subdirectories, GivesHeld, KindFits, HasNames, IsNamedIn, HasNamesOf, HasByKind, IsRoot}
use Rattle.spec_ideal.proofs.Directories.{added_is_directory, removed_is_directory}
use Rattle.spec_ideal.proofs.Counts.{one_if, count, count_with, count_without, none_counted, count_all, each_map, each_with, each_without, each_named}
use Rattle.spec_ideal.proofs.Maps.{Map, put, Own, Gives, Sound, GivesBut, But, here, other, Alike, SameFor, leave, leave_new, renames, changes, makes, frees, puts_back, repoints, stays_out, AreLike, like_itself, as_like}

-- ---- a directory with other names

abbrev pub with_names : Vnode → List Name → ℕ → Vnode
with_names x names links = record x { names = names; links = links }

same_alike : (x : Vnode) (names : List Name) (links : ℕ) → Alike x (with_names x names links)
same_alike x names links = record { unique = refl; kind = refl; parent = refl; parent_unique = refl }

of_directory : (k : VnodeKind) (x : Vnode) → k ≡ a_directory → HasByKind k x → HasNamesOf x
of_directory k x e h = subst (λ (c : VnodeKind). HasByKind c x) e h

as_directory : (k : VnodeKind) (x : Vnode) → k ≡ a_directory → HasNamesOf x → HasByKind k x
as_directory k x e h = subst (λ (c : VnodeKind). HasByKind c x) (sym e) h

pub own_names : (next d : ℕ) (x : Vnode) (names : List Name) (links : ℕ) → x.kind ≡ a_directory → IsDirectory names → links ≡ 2 + subdirectories names → Own next d x → Own next d (with_names x names links)
own_names next d x names links e is l h =
    let b = of_directory x.kind x e h.body in
    record { kind = h.kind; unique = h.unique; body = as_directory x.kind (with_names x names links) e (record { names = is; acl = b.acl; contents = b.contents; links = l }) }

pub its_names : (next d : ℕ) (x : Vnode) → x.kind ≡ a_directory → Own next d x → HasNamesOf x
its_names next d x e h = of_directory x.kind x e h.body

-- directories have odd numbers
parity_by : (b c : Bool) → ((b ≡ true) → c ≡ true) → ((c ≡ true) → b ≡ true) → one_if c ≡ one_if b
parity_by true true p q = refl
parity_by false false p q = refl
parity_by true false p q = let z = p refl in absurd cc
parity_by false true p q = let z = q refl in absurd cc

pub parity : (n : ℕ) (k : VnodeKind) → KindFits n k → one_if (nat_eq (n % 2) 1) ≡ one_if (is_kind k a_directory)
parity n k h = parity_by (is_kind k a_directory) (nat_eq (n % 2) 1) (λ e. eq-eqb (n % 2) 1 (h.0 e)) (λ e. h.1 (eqb-true (n % 2) 1 e))

-- ---- a name comes

not_it : (t k unique : ℕ) (m : Name) → m.vnode ≡ t → (k ≡ t → ⊥) → one_if (names_it k unique m) ≡ 0
not_it t k unique m e ne = not_by (eqb m.vnode k) refl
  where
    not_by : (b : Bool) → eqb m.vnode k ≡ b → one_if (b && nat_eq m.unique unique) ≡ 0
    not_by true b = absurd (ne (sym (eqb-true m.vnode k b) ∙ e))
    not_by false b = refl

is_it : (m : Name) → one_if (names_it m.vnode m.unique m) ≡ 1
is_it m = rw (eq-eqb m.vnode m.vnode refl, eq-eqb m.unique m.unique refl) refl

pub same_with : (t : ℕ) (m : Name) (x : Vnode) (links : ℕ) → m.vnode ≡ t → SameFor t x (with_names x (with_name m x.names) links)
same_with t m x links e k unique ne =
    let a = count_with (names_it k unique) m x.names in
    let b = not_it t k unique m e ne in
    omega (arith, a, b)

pub same_without : (t : ℕ) (name : List ℕ) (m : Name) (x : Vnode) (links : ℕ) → IsDirectory x.names → named name x.names ≡ Some m → m.vnode ≡ t → SameFor t x (with_names x (without_name name x.names) links)
same_without t name m x links is found e k unique ne =
    let a = count_without (names_it k unique) name [] m x.names is.ordered found in
    let b = not_it t k unique m e ne in
    omega (arith, a, b)

-- in a directory of the map
pub adds : (d t u next links : ℕ) (m : Name) (x : Vnode) (g : Map) → g d ≡ Some x → x.kind ≡ a_directory → m.vnode ≡ t → m.unique ≡ u → add_refused m.name x.names ≡ None → links ≡ x.links + one_if (names_directory m)
    → But t d u next g → But t d u next (put d (Some (with_names x (with_name m x.names) links)) g)
adds d t u next links m x g e dir number unique ok l h =
    let mine = h.own d x e in
    let has = its_names next d x dir mine in
    let counted = count_with names_directory m x.names in
    let before = has.links in
    renames d t d u next x (with_names x (with_name m x.names) links) g e dir (same_alike x (with_name m x.names) links)
    (own_names next d x (with_name m x.names) links dir (added_is_directory m x.names has.names ok) (omega (arith, l, counted, before)) mine)
    (same_with t m x links number)
    (each_with (GivesBut t d u g d x.unique) m x.names (inl (number, (refl, unique))) (h.given d x e)) h

pub takes : (d t u next links : ℕ) (name : List ℕ) (m : Name) (x : Vnode) (g : Map) → g d ≡ Some x → x.kind ≡ a_directory → named name x.names ≡ Some m → m.vnode ≡ t → x.links ≡ links + one_if (names_directory m)
    → But t d u next g → But t d u next (put d (Some (with_names x (without_name name x.names) links)) g)
takes d t u next links name m x g e dir found number l h =
    let mine = h.own d x e in
    let has = its_names next d x dir mine in
    let counted = count_without names_directory name [] m x.names has.names.ordered found in
    let before = has.links in
    renames d t d u next x (with_names x (without_name name x.names) links) g e dir (same_alike x (without_name name x.names) links)
    (own_names next d x (without_name name x.names) links dir (removed_is_directory name x.names has.names) (omega (arith, l, counted, before)) mine)
    (same_without t name m x links has.names found number)
    (each_without (GivesBut t d u g d x.unique) name x.names (h.given d x e)) h

-- ---- what a name gives

pub record Held (d t u : ℕ) (x y : Vnode) (g : Map) : Type 0 where
  pub there : g t ≡ Some y
  pub not_root : t ≡ 1 → ⊥
  pub unique : y.unique ≡ u
  pub parent : y.parent ≡ d
  pub parent_unique : x.unique ≡ y.parent_unique
  pub count : HasNames y.kind y.links (names_of t u x.names)

held_by : (o : Option Vnode) (d unique n : ℕ) (m : Name) → GivesHeld d unique n o m → (y : Vnode) × ((o ≡ Some y) × GivesHeld d unique n (Some y) m)
held_by None d unique n m h = absurd h
held_by (Some y) d unique n m h = (y, (refl, h))

counted_in : (o : Option Vnode) (n : ℕ) (x y : Vnode) → o ≡ Some x → IsNamedIn o n y → HasNames y.kind y.links (names_of n y.unique x.names)
counted_in o n x y e h = (subst (λ (w : Option Vnode). IsNamedIn w n y) e h).1.1

pub holds : (d next : ℕ) (name : List ℕ) (m : Name) (x : Vnode) (g : Map) → g d ≡ Some x → named name x.names ≡ Some m → Sound next g → (y : Vnode) × Held d m.vnode m.unique x y g
holds d next name m x g e found h =
    let gives : Gives g d x.unique m = each_named (Gives g d x.unique) name m x.names (h.given d x e) found in
    let o = held_by (g m.vnode) d x.unique m.vnode m gives in
    let y : Vnode = o.0 in
    let held = o.1.1 in (
      y,
      record {
        there = o.1.0;
        not_root = held.0;
        unique = held.1.0;
        parent = held.1.1.0;
        parent_unique = sym held.1.1.1;
        count = subst (λ (u : ℕ). HasNames y.kind y.links (names_of m.vnode u x.names)) held.1.0 (counted_in (g y.parent) m.vnode x y (ap g held.1.1.0 ∙ e) (h.named m.vnode y o.1.0 held.0));
      },
    )

pub left_out : (d t u next : ℕ) (x y : Vnode) (g : Map) → Held d t u x y g → Sound next g → But t d u next g
left_out d t u next x y g k h = subst (λ (p : ℕ). But t p u next g) k.parent (subst (λ (w : ℕ). But t y.parent w next g) k.unique (leave t next y g k.there h))

-- ---- a name and its vnode go

abbrev pub taken : ℕ → Vnode → List ℕ → ℕ → Map → Map
taken d x name links g = put d (Some (with_names x (without_name name x.names) links)) g

-- how often it is named after one of its names went
left_count : (d next t u : ℕ) (name : List ℕ) (m : Name) (x : Vnode) (g : Map) → g d ≡ Some x → x.kind ≡ a_directory → named name x.names ≡ Some m → m.vnode ≡ t → m.unique ≡ u → Sound next g → names_of t u x.names ≡ 1 + names_of t u (without_name name x.names)
left_count d next t u name m x g e dir found number unique h =
    let has = its_names next d x dir (h.own d x e) in
    let a = count_without (names_it t u) name [] m x.names has.names.ordered found in
    let b : one_if (names_it t u m) ≡ 1 = subst (λ (k : ℕ). one_if (names_it k u m) ≡ 1) number (subst (λ (k : ℕ). one_if (names_it m.vnode k m) ≡ 1) unique (is_it m)) in
    omega (arith, a, b)

-- its last one
pub goes : (d next links : ℕ) (name : List ℕ) (m : Name) (x y : Vnode) (g : Map) → g d ≡ Some x → x.kind ≡ a_directory → named name x.names ≡ Some m → x.links ≡ links + one_if (names_directory m) → Held d m.vnode m.unique x y g → (m.vnode ≡ d → ⊥)
    → y.names ≡ [] → names_of m.vnode m.unique x.names ≡ 1 → Sound next g → Sound next (put m.vnode None (taken d x name links g))
goes d next links name m x y g e dir found l k ne empty single h =
    let t = m.vnode in
    let u = m.unique in
    let out = takes d t u next links name m x g e dir found refl l (left_out d t u next x y g k h) in
    let there : taken d x name links g t ≡ Some y = other d (Some (with_names x (without_name name x.names) links)) g t ne ∙ k.there in
    let freed = frees t d u next y (taken d x name links g) there k.not_root empty out in
    let before = left_count d next t u name m x g e dir found refl refl h in
    stays_out t d u next (with_names x (without_name name x.names) links) (put t None (taken d x name links g)) (here t None (taken d x name links g))
    (other t None (taken d x name links g) d (λ s. ne (sym s)) ∙ here d (Some (with_names x (without_name name x.names) links)) g)
    (omega (arith, before, single)) freed

-- one of several
abbrev pub linked_by : ℕ → Vnode → Vnode
linked_by links y = record y { links = links }

own_linked : (k : VnodeKind) (links : ℕ) (y : Vnode) → (k ≡ a_directory → ⊥) → HasByKind k y → HasByKind k (linked_by links y)
own_linked a_file links y ne h = record { names = h.names; acl = h.acl }
own_linked a_link links y ne h = record { names = h.names; acl = h.acl }
own_linked a_directory links y ne h = absurd (ne refl)

many_names : (k : VnodeKind) (links n : ℕ) → (k ≡ a_directory → ⊥) → HasNames k links n → (n ≡ links) × (1 ≤ n)
many_names a_file links n ne h = h
many_names a_link links n ne h = h
many_names a_directory links n ne h = absurd (ne refl)

as_many : (k : VnodeKind) (links n : ℕ) → (k ≡ a_directory → ⊥) → n ≡ links → 1 ≤ n → HasNames k links n
as_many a_file links n ne e le = (e, le)
as_many a_link links n ne e le = (e, le)
as_many a_directory links n ne e le = absurd (ne refl)

pub loses : (d next links fewer : ℕ) (name : List ℕ) (m : Name) (x y : Vnode) (g : Map) → g d ≡ Some x → x.kind ≡ a_directory → named name x.names ≡ Some m → x.links ≡ links + one_if (names_directory m) → Held d m.vnode m.unique x y g → (m.vnode ≡ d → ⊥)
    → (y.kind ≡ a_directory → ⊥) → y.links ≡ fewer + 1 → 1 ≤ fewer → Sound next g → Sound next (put m.vnode (Some (linked_by fewer y)) (taken d x name links g))
loses d next links fewer name m x y g e dir found l k ne file less one h =
    let t = m.vnode in
    let u = m.unique in
    let out = takes d t u next links name m x g e dir found refl l (left_out d t u next x y g k h) in
    let there : taken d x name links g t ≡ Some y = other d (Some (with_names x (without_name name x.names) links)) g t ne ∙ k.there in
    let own = h.own t y k.there in
    let changed = changes t d u next y (linked_by fewer y) (taken d x name links g) there k.not_root refl refl refl (record { kind = own.kind; unique = own.unique; body = own_linked y.kind fewer y file own.body }) out in
    let before = left_count d next t u name m x g e dir found refl refl h in
    let many = many_names y.kind y.links (names_of t u x.names) file k.count in
    let all : names_of t u x.names ≡ y.links = many.0 in
    puts_back t d u next (linked_by fewer y) (with_names x (without_name name x.names) links) (put t (Some (linked_by fewer y)) (taken d x name links g)) (here t (Some (linked_by fewer y)) (taken d x name links g)) k.not_root k.unique k.parent
    (other t (Some (linked_by fewer y)) (taken d x name links g) d (λ s. ne (sym s)) ∙ here d (Some (with_names x (without_name name x.names) links)) g) dir k.parent_unique
    (as_many y.kind fewer (names_of t u (without_name name x.names)) file (omega (arith, before, all, less)) (omega (arith, before, all, less, one))) changed

-- ---- a name and a new vnode come

abbrev pub added : ℕ → Vnode → Name → ℕ → Map → Map
added d x m links g = put d (Some (with_names x (with_name m x.names) links)) g

pub later_own : (next n : ℕ) (x : Vnode) → Own next n x → Own (next + 1) n x
later_own next n x h = record { kind = h.kind; unique = (let a : x.unique < next = h.unique in omega arith); body = h.body }

pub later_next : (next : ℕ) (g : Map) → Sound next g → Sound (next + 1) g
later_next next g h = record { root = h.root; own = λ n x e. later_own next n x (h.own n x e); given = h.given; named = h.named }

unnamed_by : (b : Bool) (t u d unique : ℕ) (g : Map) (m : Name) → g t ≡ None → eqb m.vnode t ≡ b → Gives g d unique m → (b && nat_eq m.unique u) ≡ false
unnamed_by true t u d unique g m e b h = absurd (subst (λ (o : Option Vnode). GivesHeld d unique m.vnode o m) (ap g (eqb-true m.vnode t b) ∙ e) h)
unnamed_by false t u d unique g m e b h = refl

unnamed : (t u d next : ℕ) (x : Vnode) (g : Map) → g t ≡ None → g d ≡ Some x → Sound next g → names_of t u x.names ≡ 0
unnamed t u d next x g e is h = none_counted (names_it t u) x.names (each_map (Gives g d x.unique) (λ (m : Name). names_it t u m ≡ false) x.names (λ m gives. unnamed_by (eqb m.vnode t) t u d x.unique g m e refl gives) (h.given d x is))

one_more : (t u : ℕ) (m : Name) (x : Vnode) → m.vnode ≡ t → m.unique ≡ u → names_of t u (with_name m x.names) ≡ 1 + names_of t u x.names
one_more t u m x number unique =
    let a = count_with (names_it t u) m x.names in
    let b : one_if (names_it t u m) ≡ 1 = subst (λ (k : ℕ). one_if (names_it k u m) ≡ 1) number (subst (λ (k : ℕ). one_if (names_it m.vnode k m) ≡ 1) unique (is_it m)) in
    omega (arith, a, b)

root_is_there : (o : Option Vnode) → IsRoot o → o ≡ None → ⊥
root_is_there None h e = h
root_is_there (Some x) h e = absurd cc

none_but_there : (d t : ℕ) (x : Vnode) (g : Map) → g d ≡ Some x → g t ≡ None → t ≡ d → ⊥
none_but_there d t x g e none same = let z : None ≡ Some x = sym none ∙ (ap g same ∙ e) in absurd cc

pub comes : (d t next links : ℕ) (m : Name) (x y : Vnode) (g : Map) → g d ≡ Some x → x.kind ≡ a_directory → g t ≡ None → m.vnode ≡ t → m.unique ≡ next → add_refused m.name x.names ≡ None → links ≡ x.links + one_if (names_directory m)
    → y.unique ≡ next → y.parent ≡ d → y.parent_unique ≡ x.unique → y.names ≡ [] → Own (next + 1) t y → HasNames y.kind y.links 1 → Sound next g → Sound (next + 1) (put t (Some y) (added d x m links g))
comes d t next links m x y g e dir none number unique ok l own_unique parent parent_unique empty own single h =
    let ne : t ≡ d → ⊥ = none_but_there d t x g e none in
    let not_root : t ≡ 1 → ⊥ = λ s. root_is_there (g 1) h.root (ap g (sym s) ∙ none) in
    let out = adds d t next (next + 1) links m x g e dir number unique ok l (leave_new t d next (next + 1) g none (later_next next g h)) in
    let made = makes t d next (next + 1) y (added d x m links g) (other d (Some (with_names x (with_name m x.names) links)) g t ne ∙ none) not_root empty own out in
    let nothing = unnamed t next d next x g none e h in
    let one = one_more t next m x number unique in
    puts_back t d next (next + 1) y (with_names x (with_name m x.names) links) (put t (Some y) (added d x m links g)) (here t (Some y) (added d x m links g)) not_root own_unique parent
    (other t (Some y) (added d x m links g) d (λ s. ne (sym s)) ∙ here d (Some (with_names x (with_name m x.names) links)) g) dir (sym parent_unique)
    (subst (HasNames y.kind y.links) (let z : 1 ≡ names_of t next (with_name m x.names) = omega (arith, nothing, one) in z) single) made

-- ---- a further name

pub gains : (d t u next : ℕ) (m : Name) (x y : Vnode) (g : Map) → g d ≡ Some x → x.kind ≡ a_directory → m.vnode ≡ t → m.unique ≡ u → add_refused m.name x.names ≡ None → x.links ≡ x.links + one_if (names_directory m)
    → Held d t u x y g → (t ≡ d → ⊥) → (y.kind ≡ a_directory → ⊥) → Sound next g → Sound next (put t (Some (linked_by (y.links + 1) y)) (added d x m x.links g))
gains d t u next m x y g e dir number unique ok l k ne file h =
    let out = adds d t u next x.links m x g e dir number unique ok l (left_out d t u next x y g k h) in
    let there : added d x m x.links g t ≡ Some y = other d (Some (with_names x (with_name m x.names) x.links)) g t ne ∙ k.there in
    let own = h.own t y k.there in
    let changed = changes t d u next y (linked_by (y.links + 1) y) (added d x m x.links g) there k.not_root refl refl refl (record { kind = own.kind; unique = own.unique; body = own_linked y.kind (y.links + 1) y file own.body }) out in
    let many = many_names y.kind y.links (names_of t u x.names) file k.count in
    let all : names_of t u x.names ≡ y.links = many.0 in
    let one = one_more t u m x number unique in
    puts_back t d u next (linked_by (y.links + 1) y) (with_names x (with_name m x.names) x.links) (put t (Some (linked_by (y.links + 1) y)) (added d x m x.links g)) (here t (Some (linked_by (y.links + 1) y)) (added d x m x.links g)) k.not_root k.unique k.parent
    (other t (Some (linked_by (y.links + 1) y)) (added d x m x.links g) d (λ s. ne (sym s)) ∙ here d (Some (with_names x (with_name m x.names) x.links)) g) dir k.parent_unique
    (as_many y.kind (y.links + 1) (names_of t u (with_name m x.names)) file (omega (arith, one, all)) (omega (arith, one))) changed

-- ---- a name moves

abbrev pub renamed_to : List ℕ → Name → Name
renamed_to name m = record m { name = name }

pub shorter : (name : List ℕ) (m : Name) (names : List Name) → IsDirectory names → named name names ≡ Some m → length (without_name name names) + 1 ≡ length names
shorter name m names is found =
    let a = count_without (λ (n : Name). true) name [] m names is.ordered found in
    let b = count_all names in
    let c = count_all (without_name name names) in
    omega (arith, a, b, c)

pub room_for : (name : List ℕ) (names : List Name) → name_ok name ≡ true → named name names ≡ None → length names < most_names → add_refused name names ≡ None
room_for name names ok none room = rw (ok, none, lt-ltb (length names) most_names room) refl

abbrev pub within : ℕ → Vnode → List ℕ → List ℕ → Name → ℕ → Map → Map
within d x old new m links g = put d (Some (with_names x (with_name (renamed_to new m) (without_name old x.names)) links)) g

put_twice : (n k : ℕ) (a b : Option Vnode) (g : Map) → put n a (put n b g) k ≡ put n a g k
put_twice n k a b g = twice_by (eqb n k) a b (g k)
  where
    twice_by : (t : Bool) (a b c : Option Vnode) → cond t a (cond t b c) ≡ cond t a c
    twice_by true a b c = refl
    twice_by false a b c = refl

pub same_like : (a b : Option Vnode) → a ≡ b → AreLike a b
same_like a b e = subst (AreLike a) e (like_itself a)

pub moves_within : (d next : ℕ) (old new : List ℕ) (m : Name) (x y : Vnode) (g : Map) → g d ≡ Some x → x.kind ≡ a_directory → named old x.names ≡ Some m → name_ok new ≡ true → named new (without_name old x.names) ≡ None
    → Held d m.vnode m.unique x y g → (m.vnode ≡ d → ⊥) → Sound next g → Sound next (within d x old new m x.links g)
moves_within d next old new m x y g e dir found ok none k ne h =
    let t = m.vnode in
    let u = m.unique in
    let has = its_names next d x dir (h.own d x e) in
    let ns : List Name = without_name old x.names in
    let l : ℕ = 2 + subdirectories ns in
    let counted = count_without names_directory old [] m x.names has.names.ordered found in
    let mine = has.links in
    let short = has.names.few in
    let less = shorter old m x.names has.names found in
    let out = takes d t u next l old m x g e dir found refl (omega (arith, counted, mine)) (left_out d t u next x y g k h) in
    let at : put d (Some (with_names x ns l)) g d ≡ Some (with_names x ns l) = here d (Some (with_names x ns l)) g in
    let in_again = adds d t u next x.links (renamed_to new m) (with_names x ns l) (put d (Some (with_names x ns l)) g) at dir refl refl (room_for new ns ok none (omega (arith, short, less))) (omega (arith, counted, mine)) out in
    let two : Map = put d (Some (with_names x (with_name (renamed_to new m) ns) x.links)) (put d (Some (with_names x ns l)) g) in
    let before = left_count d next t u old m x g e dir found refl refl h in
    let after = one_more t u (renamed_to new m) (with_names x ns l) refl refl in
    let there : two t ≡ Some y = other d (Some (with_names x (with_name (renamed_to new m) ns) x.links)) (put d (Some (with_names x ns l)) g) t ne ∙ (other d (Some (with_names x ns l)) g t ne ∙ k.there) in
    let whole = puts_back t d u next y (with_names x (with_name (renamed_to new m) ns) x.links) two there k.not_root k.unique k.parent (here d (Some (with_names x (with_name (renamed_to new m) ns) x.links)) (put d (Some (with_names x ns l)) g)) dir k.parent_unique
    (subst (HasNames y.kind y.links) (let z : names_of t u x.names ≡ names_of t u (with_name (renamed_to new m) ns) = omega (arith, before, after) in z) k.count) in_again in
    as_like next two (within d x old new m x.links g) (λ n. same_like (two n) (within d x old new m x.links g n) (put_twice d n (Some (with_names x (with_name (renamed_to new m) ns) x.links)) (Some (with_names x ns l)) g)) (whole)

abbrev pub held_in : ℕ → ℕ → Vnode → Vnode
held_in parent unique y = record y { parent = parent; parent_unique = unique }

own_held : (k : VnodeKind) (parent unique : ℕ) (y : Vnode) → HasByKind k y → HasByKind k (held_in parent unique y)
own_held a_file parent unique y h = record { names = h.names; acl = h.acl }
own_held a_link parent unique y h = record { names = h.names; acl = h.acl }
own_held a_directory parent unique y h = record { names = h.names; acl = h.acl; contents = h.contents; links = h.links }

abbrev pub across : ℕ → ℕ → Vnode → Vnode → List ℕ → List ℕ → Name → Vnode → ℕ → ℕ → Map → Map
across d e x z old new m y less more g =
    put m.vnode (Some (held_in e z.unique y)) (put e (Some (with_names z (with_name (renamed_to new m) z.names) more)) (put d (Some (with_names x (without_name old x.names) less)) g))

-- no other directory than its own names a vnode
elsewhere : (b : Bool) (t u d e unique : ℕ) (y : Vnode) (g : Map) (n : Name) → ((g t ≡ Some y) × (y.parent ≡ d)) → (d ≡ e → ⊥) → eqb n.vnode t ≡ b → Gives g e unique n → (b && nat_eq n.unique u) ≡ false
elsewhere true t u d e unique y g n k apart b h =
    let held : GivesHeld e unique n.vnode (Some y) n = subst (λ (o : Option Vnode). GivesHeld e unique n.vnode o n) (ap g (eqb-true n.vnode t b) ∙ k.0) h in
    absurd (apart (sym k.1 ∙ held.1.1.0))
elsewhere false t u d e unique y g n k apart b h = refl

pub moves_across : (d e next less more : ℕ) (old new : List ℕ) (m : Name) (x z y : Vnode) (g : Map) → g d ≡ Some x → x.kind ≡ a_directory → g e ≡ Some z → z.kind ≡ a_directory → (d ≡ e → ⊥) → named old x.names ≡ Some m → add_refused new z.names ≡ None
    → x.links ≡ less + one_if (names_directory m) → more ≡ z.links + one_if (names_directory m) → Held d m.vnode m.unique x y g → (m.vnode ≡ d → ⊥) → (m.vnode ≡ e → ⊥) → names_of m.vnode m.unique x.names ≡ 1
    → HasNames y.kind y.links 1 → Sound next g → Sound next (across d e x z old new m y less more g)
moves_across d e next less more old new m x z y g at dir at_new new_dir apart found ok l n k not_old not_new single count h =
    let t = m.vnode in
    let u = m.unique in
    let out = takes d t u next less old m x g at dir found refl l (left_out d t u next x y g k h) in
    let g1 : Map = put d (Some (with_names x (without_name old x.names) less)) g in
    let before = left_count d next t u old m x g at dir found refl refl h in
    let pointed = repoints t d e u next (with_names x (without_name old x.names) less) g1 (here d (Some (with_names x (without_name old x.names) less)) g) (omega (arith, before, single)) out in
    let z_there : g1 e ≡ Some z = other d (Some (with_names x (without_name old x.names) less)) g e (λ s. apart (sym s)) ∙ at_new in
    let in_new = adds e t u next more (renamed_to new m) z g1 z_there new_dir refl refl ok n pointed in
    let g2 : Map = put e (Some (with_names z (with_name (renamed_to new m) z.names) more)) g1 in
    let there : g2 t ≡ Some y = other e (Some (with_names z (with_name (renamed_to new m) z.names) more)) g1 t not_new ∙ (other d (Some (with_names x (without_name old x.names) less)) g t not_old ∙ k.there) in
    let own = h.own t y k.there in
    let moved = changes t e u next y (held_in e z.unique y) g2 there k.not_root refl refl refl (record { kind = own.kind; unique = own.unique; body = own_held y.kind e z.unique y own.body }) in_new in
    let none : names_of t u z.names ≡ 0 = none_counted (names_it t u) z.names (each_map (Gives g e z.unique) (λ (n : Name). names_it t u n ≡ false) z.names (λ n gives. elsewhere (eqb n.vnode t) t u d e z.unique y g n (k.there, k.parent) apart refl gives) (h.given e z at_new)) in
    let one = one_more t u (renamed_to new m) z refl refl in
    puts_back t e u next (held_in e z.unique y) (with_names z (with_name (renamed_to new m) z.names) more) (put t (Some (held_in e z.unique y)) g2) (here t (Some (held_in e z.unique y)) g2) k.not_root k.unique refl
    (other t (Some (held_in e z.unique y)) g2 e (λ s. not_new (sym s)) ∙ here e (Some (with_names z (with_name (renamed_to new m) z.names) more)) g1) new_dir refl
    (subst (HasNames y.kind y.links) (let w : 1 ≡ names_of t u (with_name (renamed_to new m) z.names) = omega (arith, none, one) in w) count) moved
