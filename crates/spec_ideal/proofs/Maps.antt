-- Sound volumes, step by step: a volume is seen as a map from numbers, and while one vnode is taken out of a directory or put in
-- one, everything else stays sound.
use Rattle.std.proofs.Common.{◌≡◌, ℕ, ◌+◌, ◌<◌, ◌≤◌, ◌⊎◌, inl, inr, Bool, true, false, cond, eqb, List, [], ◌∷◌, Option, Some, None, refl, sym, ap, subst, ◌∙◌, arith, eq-eqb, eqb-true}
use Rattle.std.specs.Prelude.{⊤}
use Rattle.std.specs.List.{AllByRecursion}
use Rattle.afs_num.specs.declared.directories.Name.{Name}
use Rattle.spec_ideal.specs.Volumes.{VnodeKind, a_file, a_directory, a_link, Vnode}
use Rattle.spec_ideal.specs.AccessLists.{IsAccessList}
use Rattle.spec_ideal.specs.Directories.{IsDirectory}
use Rattle.spec_ideal.specs.Soundness.{subdirectories, names_it, names_of, GivesHeld, KindFits, HasNames, IsNamedIn, HasByKind, IsRoot}
use Rattle.spec_ideal.proofs.Basics.{some_of}
use Rattle.spec_ideal.proofs.Counts.{each_map, none_pass}

abbrev pub Map : Type 0
Map = ℕ → Option Vnode

abbrev pub put : ℕ → Option Vnode → Map → Map
put n o g m = cond (eqb n m) o (g m)

-- what a vnode has for itself
pub record Own (next n : ℕ) (x : Vnode) : Type 0 where
  pub kind : KindFits n x.kind
  pub unique : x.unique < next
  pub body : HasByKind x.kind x

abbrev pub Gives : Map → ℕ → ℕ → Name → Type 0
Gives g d unique m = GivesHeld d unique m.vnode (g m.vnode) m

-- a sound volume, but for the way from its vnodes to the root
pub record Sound (next : ℕ) (g : Map) : Type 0 where
  pub root : IsRoot (g 1)
  pub own : (n : ℕ) (x : Vnode) → g n ≡ Some x → Own next n x
  pub given : (d : ℕ) (x : Vnode) → g d ≡ Some x → AllByRecursion (Gives g d x.unique) x.names
  pub named : (n : ℕ) (x : Vnode) → g n ≡ Some x → (n ≡ 1 → ⊥) → IsNamedIn (g x.parent) n x

-- The same but for vnode t: whatever it is, its names stand in directory p alone, by this unique number.
abbrev pub GivesBut : ℕ → ℕ → ℕ → Map → ℕ → ℕ → Name → Type 0
GivesBut t p u g d unique m = ((m.vnode ≡ t) × ((d ≡ p) × (m.unique ≡ u))) ⊎ ((m.vnode ≡ t → ⊥) × Gives g d unique m)

pub record But (t p u next : ℕ) (g : Map) : Type 0 where
  pub root : IsRoot (g 1)
  pub own : (n : ℕ) (x : Vnode) → g n ≡ Some x → Own next n x
  pub given : (d : ℕ) (x : Vnode) → g d ≡ Some x → AllByRecursion (GivesBut t p u g d x.unique) x.names
  pub named : (n : ℕ) (x : Vnode) → g n ≡ Some x → (n ≡ 1 → ⊥) → (n ≡ t → ⊥) → IsNamedIn (g x.parent) n x

pub differ : (a b : ℕ) → eqb a b ≡ false → a ≡ b → ⊥
differ a b e same = let yes : eqb a b ≡ true = eq-eqb a b same in absurd cc

-- ---- the vnode is left out

leave_by : (b : Bool) (t next : ℕ) (y : Vnode) (g : Map) (d unique : ℕ) (m : Name) → g t ≡ Some y → eqb m.vnode t ≡ b → Gives g d unique m → GivesBut t y.parent y.unique g d unique m
leave_by true t next y g d unique m e b h =
    let is : g m.vnode ≡ Some y = ap g (eqb-true m.vnode t b) ∙ e in
    let held : GivesHeld d unique m.vnode (Some y) m = subst (λ (o : Option Vnode). GivesHeld d unique m.vnode o m) is h in
    inl (eqb-true m.vnode t b, (sym held.1.1.0, sym held.1.0))
leave_by false t next y g d unique m e b h = inr (λ z. differ m.vnode t b z, h)

pub leave : (t next : ℕ) (y : Vnode) (g : Map) → g t ≡ Some y → Sound next g → But t y.parent y.unique next g
leave t next y g e h = record {
  root = h.root;
  own = h.own;
  given = λ d x is. each_map (Gives g d x.unique) (GivesBut t y.parent y.unique g d x.unique) x.names (λ m gives. leave_by (eqb m.vnode t) t next y g d x.unique m e refl gives) (h.given d x is);
  named = λ n x is ne other. h.named n x is ne;
}

-- a number that no vnode has
new_by : (b : Bool) (t p u : ℕ) (g : Map) (d unique : ℕ) (m : Name) → g t ≡ None → eqb m.vnode t ≡ b → Gives g d unique m → GivesBut t p u g d unique m
new_by true t p u g d unique m e b h =
    let is : g m.vnode ≡ None = ap g (eqb-true m.vnode t b) ∙ e in
    absurd (subst (λ (o : Option Vnode). GivesHeld d unique m.vnode o m) is h)
new_by false t p u g d unique m e b h = inr (λ z. differ m.vnode t b z, h)

pub leave_new : (t p u next : ℕ) (g : Map) → g t ≡ None → Sound next g → But t p u next g
leave_new t p u next g e h = record {
  root = h.root;
  own = h.own;
  given = λ d x is. each_map (Gives g d x.unique) (GivesBut t p u g d x.unique) x.names (λ m gives. new_by (eqb m.vnode t) t p u g d x.unique m e refl gives) (h.given d x is);
  named = λ n x is ne other. h.named n x is ne;
}

-- ---- a directory gets other names, those of all others but t as before

-- what others see of a vnode that changes
pub record Alike (x y : Vnode) : Type 0 where
  pub unique : y.unique ≡ x.unique
  pub kind : y.kind ≡ x.kind
  pub parent : y.parent ≡ x.parent
  pub parent_unique : y.parent_unique ≡ x.parent_unique

gives_by : (b : Bool) (n : ℕ) (x y : Vnode) (g : Map) (d unique : ℕ) (m : Name) → g n ≡ Some x → Alike x y → eqb n m.vnode ≡ b → Gives g d unique m → GivesHeld d unique m.vnode (cond b (Some y) (g m.vnode)) m
gives_by true n x y g d unique m e a b h =
    let is : g m.vnode ≡ Some x = sym (ap g (eqb-true n m.vnode b)) ∙ e in
    let held : GivesHeld d unique m.vnode (Some x) m = subst (λ (o : Option Vnode). GivesHeld d unique m.vnode o m) is h in
    (held.0, (a.unique ∙ held.1.0, (a.parent ∙ held.1.1.0, a.parent_unique ∙ held.1.1.1)))
gives_by false n x y g d unique m e a b h = h

gives_but : (n t p u : ℕ) (x y : Vnode) (g : Map) (d unique : ℕ) (m : Name) → g n ≡ Some x → Alike x y → GivesBut t p u g d unique m → GivesBut t p u (put n (Some y) g) d unique m
gives_but n t p u x y g d unique m e a (inl h) = inl h
gives_but n t p u x y g d unique m e a (inr h) = inr (h.0, gives_by (eqb n m.vnode) n x y g d unique m e a refl h.1)

-- the root stays a root
root_by : (b : Bool) (n : ℕ) (x y : Vnode) (g : Map) → g n ≡ Some x → Alike x y → eqb n 1 ≡ b → IsRoot (g 1) → IsRoot (cond b (Some y) (g 1))
root_by true n x y g e a b h =
    let is : g 1 ≡ Some x = sym (ap g (eqb-true n 1 b)) ∙ e in
    let held : IsRoot (Some x) = subst IsRoot is h in
    (a.unique ∙ held.0, (a.kind ∙ held.1.0, (a.parent ∙ held.1.1.0, a.parent_unique ∙ held.1.1.1)))
root_by false n x y g e a b h = h

put_own : (b : Bool) (next n k : ℕ) (y z : Vnode) (g : Map) → eqb n k ≡ b → Own next n y → ((m : ℕ) (x : Vnode) → g m ≡ Some x → Own next m x) → cond b (Some y) (g k) ≡ Some z → Own next k z
put_own true next n k y z g b one h e = subst (λ (m : ℕ). Own next m z) (eqb-true n k b) (subst (Own next n) (some_of y z e) one)
put_own false next n k y z g b one h e = h k z e

-- a name counts for others as before
abbrev pub SameFor : ℕ → Vnode → Vnode → Type 0
SameFor t x y = (n unique : ℕ) → (n ≡ t → ⊥) → names_of n unique y.names ≡ names_of n unique x.names

-- in a directory that is changed
named_in_by : (b : Bool) (d t n : ℕ) (x y z : Vnode) (g : Map) → g d ≡ Some x → Alike x y → SameFor t x y → (n ≡ t → ⊥) → eqb d z.parent ≡ b → IsNamedIn (g z.parent) n z → IsNamedIn (cond b (Some y) (g z.parent)) n z
named_in_by true d t n x y z g e a same ne b h =
    let is : g z.parent ≡ Some x = sym (ap g (eqb-true d z.parent b)) ∙ e in
    let held : IsNamedIn (Some x) n z = subst (λ (o : Option Vnode). IsNamedIn o n z) is h in
    (a.kind ∙ held.0, (a.unique ∙ held.1.0, subst (HasNames z.kind z.links) (sym (same n z.unique ne)) held.1.1))
named_in_by false d t n x y z g e a same ne b h = h

-- the directory itself, seen from its parent
as_named : (k : VnodeKind) (n : ℕ) (x y : Vnode) (o : Option Vnode) → x.kind ≡ a_directory → Alike x y → IsNamedIn o n x → IsNamedIn o n y
as_named k n x y None dir a h = h
as_named k n x y (Some d) dir a h =
    let kind : y.kind ≡ a_directory = a.kind ∙ dir in
    let one : HasNames a_directory x.links (names_of n x.unique d.names) = subst (λ (c : VnodeKind). HasNames c x.links (names_of n x.unique d.names)) dir h.1.1 in
    let two : HasNames a_directory y.links (names_of n y.unique d.names) = subst (λ (u : ℕ). HasNames a_directory y.links (names_of n u d.names)) (sym a.unique) one in
    (h.0, (h.1.0 ∙ sym a.parent_unique, subst (λ (c : VnodeKind). HasNames c y.links (names_of n y.unique d.names)) (sym kind) two))

renamed_named : (b : Bool) (d t k : ℕ) (x y z : Vnode) (g : Map) → g d ≡ Some x → x.kind ≡ a_directory → Alike x y → SameFor t x y → (k ≡ 1 → ⊥) → (k ≡ t → ⊥)
    → ((n : ℕ) (w : Vnode) → g n ≡ Some w → (n ≡ 1 → ⊥) → (n ≡ t → ⊥) → IsNamedIn (g w.parent) n w) → eqb d k ≡ b → cond b (Some y) (g k) ≡ Some z → IsNamedIn (put d (Some y) g z.parent) k z
renamed_named true d t k x y z g e dir a same ne other h b is =
    let at : g k ≡ Some x = sym (ap g (eqb-true d k b)) ∙ e in
    let there : IsNamedIn (put d (Some y) g x.parent) k x = named_in_by (eqb d x.parent) d t k x y x g e a same other refl (h k x at ne other) in
    let mine : IsNamedIn (put d (Some y) g x.parent) k y = as_named x.kind k x y (put d (Some y) g x.parent) dir a there in
    subst (λ (w : Vnode). IsNamedIn (put d (Some y) g w.parent) k w) (some_of y z is) (subst (λ (q : ℕ). IsNamedIn (put d (Some y) g q) k y) (sym a.parent) mine)
renamed_named false d t k x y z g e dir a same ne other h b is = named_in_by (eqb d z.parent) d t k x y z g e a same other refl (h k z is ne other)

given_by : (b : Bool) (d t p u k : ℕ) (x y z : Vnode) (g : Map) → g d ≡ Some x → Alike x y → AllByRecursion (GivesBut t p u g d x.unique) y.names
    → ((n : ℕ) (w : Vnode) → g n ≡ Some w → AllByRecursion (GivesBut t p u g n w.unique) w.names) → eqb d k ≡ b → cond b (Some y) (g k) ≡ Some z → AllByRecursion (GivesBut t p u (put d (Some y) g) k z.unique) z.names
given_by true d t p u k x y z g e a mine h b is =
    let here : AllByRecursion (GivesBut t p u (put d (Some y) g) d x.unique) y.names = each_map (GivesBut t p u g d x.unique) (GivesBut t p u (put d (Some y) g) d x.unique) y.names (λ m. gives_but d t p u x y g d x.unique m e a) mine in
    subst (λ (w : Vnode). AllByRecursion (GivesBut t p u (put d (Some y) g) k w.unique) w.names) (some_of y z is)
    (subst (λ (n : ℕ). AllByRecursion (GivesBut t p u (put d (Some y) g) n y.unique) y.names) (eqb-true d k b) (subst (λ (n : ℕ). AllByRecursion (GivesBut t p u (put d (Some y) g) d n) y.names) (sym a.unique) here))
given_by false d t p u k x y z g e a mine h b is = each_map (GivesBut t p u g k z.unique) (GivesBut t p u (put d (Some y) g) k z.unique) z.names (λ m. gives_but d t p u x y g k z.unique m e a) (h k z is)

pub renames : (d t p u next : ℕ) (x y : Vnode) (g : Map) → g d ≡ Some x → x.kind ≡ a_directory → Alike x y → Own next d y → SameFor t x y → AllByRecursion (GivesBut t p u g d x.unique) y.names → But t p u next g → But t p u next (put d (Some y) g)
renames d t p u next x y g e dir a own same mine h = record {
  root = root_by (eqb d 1) d x y g e a refl h.root;
  own = λ k z is. put_own (eqb d k) next d k y z g refl own h.own is;
  given = λ k z is. given_by (eqb d k) d t p u k x y z g e a mine h.given refl is;
  named = λ k z is ne other. renamed_named (eqb d k) d t k x y z g e dir a same ne other h.named refl is;
}

-- ---- the vnode itself is changed, made or freed

aside : (b : Bool) (t : ℕ) (o : Option Vnode) (g : Map) (k : ℕ) → (k ≡ t → ⊥) → eqb t k ≡ b → cond b o (g k) ≡ g k
aside true t o g k ne b = absurd (ne (sym (eqb-true t k b)))
aside false t o g k ne b = refl

pub here : (t : ℕ) (o : Option Vnode) (g : Map) → put t o g t ≡ o
here t o g = rw (eq-eqb t t refl) refl

pub other : (t : ℕ) (o : Option Vnode) (g : Map) (k : ℕ) → (k ≡ t → ⊥) → put t o g k ≡ g k
other t o g k ne = aside (eqb t k) t o g k ne refl

gives_aside : (t p u : ℕ) (o : Option Vnode) (g : Map) (d unique : ℕ) (m : Name) → GivesBut t p u g d unique m → GivesBut t p u (put t o g) d unique m
gives_aside t p u o g d unique m (inl h) = inl h
gives_aside t p u o g d unique m (inr h) = inr (h.0, subst (λ (w : Option Vnode). GivesHeld d unique m.vnode w m) (sym (other t o g m.vnode h.0)) h.1)

given_aside : (b : Bool) (t p u k : ℕ) (o : Option Vnode) (z : Vnode) (g : Map) → ((w : Vnode) → o ≡ Some w → AllByRecursion (GivesBut t p u g t w.unique) w.names)
    → ((n : ℕ) (w : Vnode) → g n ≡ Some w → AllByRecursion (GivesBut t p u g n w.unique) w.names) → eqb t k ≡ b → cond b o (g k) ≡ Some z → AllByRecursion (GivesBut t p u (put t o g) k z.unique) z.names
given_aside true t p u k o z g mine h b is =
    subst (λ (n : ℕ). AllByRecursion (GivesBut t p u (put t o g) n z.unique) z.names) (eqb-true t k b) (each_map (GivesBut t p u g t z.unique) (GivesBut t p u (put t o g) t z.unique) z.names (λ m. gives_aside t p u o g t z.unique m) (mine z is))
given_aside false t p u k o z g mine h b is = each_map (GivesBut t p u g k z.unique) (GivesBut t p u (put t o g) k z.unique) z.names (λ m. gives_aside t p u o g k z.unique m) (h k z is)

-- what vnodes below the one that changes see of it
abbrev SeenBelow : Option Vnode → Option Vnode → Type 0
SeenBelow old new = (n : ℕ) (z : Vnode) → IsNamedIn old n z → IsNamedIn new n z

below_by : (b : Bool) (t k : ℕ) (o : Option Vnode) (z : Vnode) (g : Map) → SeenBelow (g t) o → eqb t z.parent ≡ b → IsNamedIn (g z.parent) k z → IsNamedIn (cond b o (g z.parent)) k z
below_by true t k o z g seen b h = seen k z (subst (λ (w : Option Vnode). IsNamedIn w k z) (sym (ap g (eqb-true t z.parent b))) h)
below_by false t k o z g seen b h = h

own_by : (b : Bool) (next t k : ℕ) (o : Option Vnode) (z : Vnode) (g : Map) → ((w : Vnode) → o ≡ Some w → Own next t w) → ((n : ℕ) (x : Vnode) → g n ≡ Some x → Own next n x) → eqb t k ≡ b → cond b o (g k) ≡ Some z → Own next k z
own_by true next t k o z g mine h b is = subst (λ (n : ℕ). Own next n z) (eqb-true t k b) (mine z is)
own_by false next t k o z g mine h b is = h k z is

puts : (t p u next : ℕ) (o : Option Vnode) (g : Map) → (t ≡ 1 → ⊥) → ((w : Vnode) → o ≡ Some w → Own next t w × AllByRecursion (GivesBut t p u g t w.unique) w.names) → SeenBelow (g t) o → But t p u next g → But t p u next (put t o g)
puts t p u next o g ne mine seen h = record {
  root = subst IsRoot (sym (other t o g 1 (λ e. ne (sym e)))) h.root;
  own = λ k z is. own_by (eqb t k) next t k o z g (λ w e. (mine w e).0) h.own refl is;
  given = λ k z is. given_aside (eqb t k) t p u k o z g (λ w e. (mine w e).1) h.given refl is;
  named = λ k z is not_root differs. below_by (eqb t z.parent) t k o z g seen refl (h.named k z (sym (other t o g k differs) ∙ is) not_root differs);
}

-- changed: names, kind and unique number as they were
seen_changed : (x y : Vnode) → y.unique ≡ x.unique → y.kind ≡ x.kind → y.names ≡ x.names → SeenBelow (Some x) (Some y)
seen_changed x y u k ns n z h = (k ∙ h.0, (u ∙ h.1.0, subst (λ (names : List Name). HasNames z.kind z.links (names_of n z.unique names)) (sym ns) h.1.1))

pub changes : (t p u next : ℕ) (x y : Vnode) (g : Map) → g t ≡ Some x → (t ≡ 1 → ⊥) → y.unique ≡ x.unique → y.kind ≡ x.kind → y.names ≡ x.names → Own next t y → But t p u next g → But t p u next (put t (Some y) g)
changes t p u next x y g e ne same_unique same_kind same_names own h =
    puts t p u next (Some y) g ne
    (λ w is. subst (λ (z : Vnode). Own next t z × AllByRecursion (GivesBut t p u g t z.unique) z.names) (some_of y w is)
    (own, subst (λ (n : ℕ). AllByRecursion (GivesBut t p u g t n) y.names) (sym same_unique) (subst (AllByRecursion (GivesBut t p u g t x.unique)) (sym same_names) (h.given t x e))))
    (subst (λ (o : Option Vnode). SeenBelow o (Some y)) (sym e) (seen_changed x y same_unique same_kind same_names)) h

-- made: without names
seen_new : (o : Option Vnode) → SeenBelow None o
seen_new o n z h = absurd h

pub makes : (t p u next : ℕ) (y : Vnode) (g : Map) → g t ≡ None → (t ≡ 1 → ⊥) → y.names ≡ [] → Own next t y → But t p u next g → But t p u next (put t (Some y) g)
makes t p u next y g e ne none own h =
    puts t p u next (Some y) g ne
    (λ w is. subst (λ (z : Vnode). Own next t z × AllByRecursion (GivesBut t p u g t z.unique) z.names) (some_of y w is)
    (own, subst (AllByRecursion (GivesBut t p u g t y.unique)) (sym none) tt))
    (subst (λ (o : Option Vnode). SeenBelow o (Some y)) (sym e) (seen_new (Some y))) h

-- freed: it had no names
has_none : (k : VnodeKind) (links : ℕ) → HasNames k links 0 → ⊥
has_none a_file links h = let a : 1 ≤ 0 = h.1 in absurd (omega arith)
has_none a_directory links h = absurd (omega arith)
has_none a_link links h = let a : 1 ≤ 0 = h.1 in absurd (omega arith)

seen_freed : (x : Vnode) (o : Option Vnode) → x.names ≡ [] → SeenBelow (Some x) o
seen_freed x o none n z h = absurd (has_none z.kind z.links (subst (λ (names : List Name). HasNames z.kind z.links (names_of n z.unique names)) none h.1.1))

pub frees : (t p u next : ℕ) (x : Vnode) (g : Map) → g t ≡ Some x → (t ≡ 1 → ⊥) → x.names ≡ [] → But t p u next g → But t p u next (put t None g)
frees t p u next x g e ne none h = puts t p u next None g ne (λ w is. absurd cc) (subst (λ (o : Option Vnode). SeenBelow o None) (sym e) (seen_freed x None none)) h

-- ---- the vnode is put back

back_by : (t p u : ℕ) (y d z : Vnode) (g : Map) (k : ℕ) (m : Name) → g t ≡ Some y → (t ≡ 1 → ⊥) → y.unique ≡ u → y.parent ≡ p → g p ≡ Some d → d.unique ≡ y.parent_unique → g k ≡ Some z → GivesBut t p u g k z.unique m → Gives g k z.unique m
back_by t p u y d z g k m at ne unique parent above up here (inr h) = h.1
back_by t p u y d z g k m at ne unique parent above up here (inl h) =
    let same : Some z ≡ Some d = sym here ∙ (ap g h.1.0 ∙ above) in
    let held : GivesHeld k z.unique t (Some y) m = (ne, (unique ∙ sym h.1.1, (parent ∙ sym h.1.0, sym up ∙ sym (ap (λ (w : Vnode). w.unique) (some_of z d same))))) in
    subst (λ (n : ℕ). GivesHeld k z.unique n (g n) m) (sym h.0) (subst (λ (o : Option Vnode). GivesHeld k z.unique t o m) (sym at) held)

named_by : (b : Bool) (t p u k next : ℕ) (y d z : Vnode) (g : Map) → g t ≡ Some y → y.unique ≡ u → y.parent ≡ p → g p ≡ Some d → d.kind ≡ a_directory → d.unique ≡ y.parent_unique → HasNames y.kind y.links (names_of t u d.names)
    → ((k ≡ t → ⊥) → IsNamedIn (g z.parent) k z) → eqb k t ≡ b → g k ≡ Some z → IsNamedIn (g z.parent) k z
named_by true t p u k next y d z g at unique parent above dir up count h b is =
    let number : k ≡ t = eqb-true k t b in
    let same : Some y ≡ Some z = sym at ∙ (ap g (sym number) ∙ is) in
    let mine : IsNamedIn (Some d) t y = (dir, (up, subst (λ (n : ℕ). HasNames y.kind y.links (names_of t n d.names)) (sym unique) count)) in
    subst (λ (n : ℕ). IsNamedIn (g z.parent) n z) (sym number) (subst (λ (w : Vnode). IsNamedIn (g w.parent) t w) (some_of y z same) (subst (λ (o : Option Vnode). IsNamedIn o t y) (sym (ap g parent ∙ above)) mine))
named_by false t p u k next y d z g at unique parent above dir up count h b is = h (differ k t b)

pub puts_back : (t p u next : ℕ) (y d : Vnode) (g : Map) → g t ≡ Some y → (t ≡ 1 → ⊥) → y.unique ≡ u → y.parent ≡ p → g p ≡ Some d → d.kind ≡ a_directory → d.unique ≡ y.parent_unique → HasNames y.kind y.links (names_of t u d.names) → But t p u next g → Sound next g
puts_back t p u next y d g at ne unique parent above dir up count h = record {
  root = h.root;
  own = h.own;
  given = λ k z is. each_map (GivesBut t p u g k z.unique) (Gives g k z.unique) z.names (λ m. back_by t p u y d z g k m at ne unique parent above up is) (h.given k z is);
  named = λ k z is not_root. named_by (eqb k t) t p u k next y d z g at unique parent above dir up count (λ differs. h.named k z is not_root differs) refl is;
}

-- ---- a vnode that no name gives

none_it : (t u : ℕ) (m : Name) → m.vnode ≡ t → m.unique ≡ u → names_it t u m ≡ false → ⊥
none_it t u m a b e = let yes : names_it t u m ≡ true = rw (eq-eqb m.vnode t a, eq-eqb m.unique u b) refl in absurd cc

cleared : (t p u k : ℕ) (d z : Vnode) (g : Map) (names : List Name) → g p ≡ Some d → g k ≡ Some z → ((k ≡ p) → AllByRecursion (λ (m : Name). names_it t u m ≡ false) names) → AllByRecursion (GivesBut t p u g k z.unique) names → AllByRecursion (λ (m : Name). (m.vnode ≡ t → ⊥) × Gives g k z.unique m) names
cleared t p u k d z g [] above is none h = tt
cleared t p u k d z g (m ∷ ms) above is none ((inr h), hs) = (h, cleared t p u k d z g ms above is (λ e. (none e).1) hs)
cleared t p u k d z g (m ∷ ms) above is none ((inl h), hs) = absurd (none_it t u m h.0 h.1.1 (none h.1.0).0)

clear : (t p u next : ℕ) (d : Vnode) (g : Map) → g p ≡ Some d → names_of t u d.names ≡ 0 → But t p u next g → (k : ℕ) (z : Vnode) → g k ≡ Some z → AllByRecursion (λ (m : Name). (m.vnode ≡ t → ⊥) × Gives g k z.unique m) z.names
clear t p u next d g above nil h k z is =
    cleared t p u k d z g z.names above is (λ e. subst (λ (w : Vnode). AllByRecursion (λ (m : Name). names_it t u m ≡ false) w.names) (some_of d z (sym above ∙ (ap g (sym e) ∙ is))) (none_pass (names_it t u) d.names nil)) (h.given k z is)

-- its names may come to stand in another directory
pub repoints : (t p q u next : ℕ) (d : Vnode) (g : Map) → g p ≡ Some d → names_of t u d.names ≡ 0 → But t p u next g → But t q u next g
repoints t p q u next d g above nil h = record {
  root = h.root;
  own = h.own;
  given = λ k z is. each_map (λ (m : Name). (m.vnode ≡ t → ⊥) × Gives g k z.unique m) (GivesBut t q u g k z.unique) z.names (λ m. inr) (clear t p u next d g above nil h k z is);
  named = h.named;
}

-- and it may be gone
pub stays_out : (t p u next : ℕ) (d : Vnode) (g : Map) → g t ≡ None → g p ≡ Some d → names_of t u d.names ≡ 0 → But t p u next g → Sound next g
stays_out t p u next d g gone above nil h = record {
  root = h.root;
  own = h.own;
  given = λ k z is. each_map (λ (m : Name). (m.vnode ≡ t → ⊥) × Gives g k z.unique m) (Gives g k z.unique) z.names (λ m both. both.1) (clear t p u next d g above nil h k z is);
  named = λ k z is not_root. h.named k z is not_root (λ e. let none : None ≡ Some z = sym gone ∙ (ap g (sym e) ∙ is) in absurd cc);
}

-- ---- maps of vnodes that look the same to each other

pub record Seen (x y : Vnode) : Type 0 where
  pub unique : y.unique ≡ x.unique
  pub kind : y.kind ≡ x.kind
  pub links : y.links ≡ x.links
  pub parent : y.parent ≡ x.parent
  pub parent_unique : y.parent_unique ≡ x.parent_unique
  pub names : y.names ≡ x.names

abbrev pub AreSeen : Option Vnode → Option Vnode → Type 0
AreSeen None None = ⊤
AreSeen (Some x) (Some y) = Seen x y
AreSeen a b = ⊥

pub seen_of : (o : Option Vnode) (y : Vnode) → AreSeen o (Some y) → (x : Vnode) × ((o ≡ Some x) × Seen x y)
seen_of None y h = absurd h
seen_of (Some x) y h = (x, (refl, h))

root_seen : (a b : Option Vnode) → AreSeen a b → IsRoot a → IsRoot b
root_seen None b l h = absurd h
root_seen (Some x) None l h = absurd l
root_seen (Some x) (Some y) l h = (l.unique ∙ h.0, (l.kind ∙ h.1.0, (l.parent ∙ h.1.1.0, l.parent_unique ∙ h.1.1.1)))

gives_seen : (d unique n : ℕ) (a b : Option Vnode) (m : Name) → AreSeen a b → GivesHeld d unique n a m → GivesHeld d unique n b m
gives_seen d unique n None b m l h = absurd h
gives_seen d unique n (Some x) None m l h = absurd l
gives_seen d unique n (Some x) (Some y) m l h = (h.0, (l.unique ∙ h.1.0, (l.parent ∙ h.1.1.0, l.parent_unique ∙ h.1.1.1)))

named_seen : (a b : Option Vnode) (n : ℕ) (x y : Vnode) → AreSeen a b → Seen x y → IsNamedIn a n x → IsNamedIn b n y
named_seen None b n x y l w h = absurd h
named_seen (Some d) None n x y l w h = absurd l
named_seen (Some d) (Some e) n x y l w h =
    let one : HasNames x.kind x.links (names_of n x.unique e.names) = subst (λ (ns : List Name). HasNames x.kind x.links (names_of n x.unique ns)) (sym l.names) h.1.1 in
    let two : HasNames x.kind y.links (names_of n x.unique e.names) = subst (λ (k : ℕ). HasNames x.kind k (names_of n x.unique e.names)) (sym w.links) one in
    let three : HasNames y.kind y.links (names_of n x.unique e.names) = subst (λ (k : VnodeKind). HasNames k y.links (names_of n x.unique e.names)) (sym w.kind) two in
    (l.kind ∙ h.0, (l.unique ∙ (h.1.0 ∙ sym w.parent_unique), subst (λ (u : ℕ). HasNames y.kind y.links (names_of n u e.names)) (sym w.unique) three))

pub as_seen : (next : ℕ) (g k : Map) → ((n : ℕ) → AreSeen (g n) (k n)) → ((n : ℕ) (x : Vnode) → k n ≡ Some x → Own next n x) → Sound next g → Sound next k
as_seen next g k l own h = record {
  root = root_seen (g 1) (k 1) (l 1) h.root;
  own = own;
  given = λ d y is. (let o = seen_of (g d) y (subst (AreSeen (g d)) is (l d)) in
      subst (λ (u : ℕ). AllByRecursion (Gives k d u) y.names) (sym o.1.1.unique) (subst (AllByRecursion (Gives k d o.0.unique)) (sym o.1.1.names)
      (each_map (Gives g d o.0.unique) (Gives k d o.0.unique) o.0.names (λ m. gives_seen d o.0.unique m.vnode (g m.vnode) (k m.vnode) m (l m.vnode)) (h.given d o.0 o.1.0))));
  named = λ n y is ne. (let o = seen_of (g n) y (subst (AreSeen (g n)) is (l n)) in
      subst (λ (q : ℕ). IsNamedIn (k q) n y) (sym o.1.1.parent) (named_seen (g o.0.parent) (k o.0.parent) n o.0 y (l o.0.parent) o.1.1 (h.named n o.0 o.1.0 ne)));
}

-- ---- and have the same contents and access lists

pub record Like (x y : Vnode) : Type 0 where
  pub seen : Seen x y
  pub contents : y.contents ≡ x.contents
  pub acl : y.acl ≡ x.acl

abbrev pub AreLike : Option Vnode → Option Vnode → Type 0
AreLike None None = ⊤
AreLike (Some x) (Some y) = Like x y
AreLike a b = ⊥

pub like_itself : (o : Option Vnode) → AreLike o o
like_itself None = tt
like_itself (Some x) = record { seen = record { unique = refl; kind = refl; links = refl; parent = refl; parent_unique = refl; names = refl }; contents = refl; acl = refl }

pub like_of : (o : Option Vnode) (y : Vnode) → AreLike o (Some y) → (x : Vnode) × ((o ≡ Some x) × Like x y)
like_of None y h = absurd h
like_of (Some x) y h = (x, (refl, h))

like_seen : (a b : Option Vnode) → AreLike a b → AreSeen a b
like_seen None None h = tt
like_seen None (Some y) h = absurd h
like_seen (Some x) None h = absurd h
like_seen (Some x) (Some y) h = h.seen

body_like : (k : VnodeKind) (x y : Vnode) → Like x y → HasByKind k x → HasByKind k y
body_like a_file x y l h = record { names = l.seen.names ∙ h.names; acl = l.acl ∙ h.acl }
body_like a_link x y l h = record { names = l.seen.names ∙ h.names; acl = l.acl ∙ h.acl }
body_like a_directory x y l h = record {
  names = subst IsDirectory (sym l.seen.names) h.names;
  acl = subst IsAccessList (sym l.acl) h.acl;
  contents = l.contents ∙ h.contents;
  links = l.seen.links ∙ (h.links ∙ ap (λ (ns : List Name). 2 + subdirectories ns) (sym l.seen.names));
}

own_like : (next n : ℕ) (x y : Vnode) → Like x y → Own next n x → Own next n y
own_like next n x y l h = record {
  kind = subst (KindFits n) (sym l.seen.kind) h.kind;
  unique = subst (λ (u : ℕ). u < next) (sym l.seen.unique) h.unique;
  body = subst (λ (k : VnodeKind). HasByKind k y) (sym l.seen.kind) (body_like x.kind x y l h.body);
}

pub as_like : (next : ℕ) (g k : Map) → ((n : ℕ) → AreLike (g n) (k n)) → Sound next g → Sound next k
as_like next g k l h = as_seen next g k (λ n. like_seen (g n) (k n) (l n)) (λ n y is. let o = like_of (g n) y (subst (AreLike (g n)) is (l n)) in own_like next n o.0 y o.1.1 (h.own n o.0 o.1.0)) h
