-- A sound volume passes the test.
use Rattle.std.proofs.Common.{◌≡◌, ℕ, ◌+◌, ◌%◌, Bool, true, false, not, List, [], ◌∷◌, Option, Some, None, nat_eq, nat_lt, if◌then◌else◌, refl, sym, ap, ◌∙◌, arith, lt-ltb, le-ltb, eq-eqb}
use Rattle.std.specs.Prelude.{◌||◌, ◌&&◌, ◌↔◌}
use Rattle.std.specs.List.{list_all, AllByRecursion}
use Rattle.std.proofs.lemmas.Bool.Decides.{nat_tests}
use Rattle.afs_num.specs.declared.directories.Name.{Name}
use Rattle.afs_num.specs.declared.acls.AccessList.{AccessList}
use Rattle.afs_num.specs.declared.acls.AclEntry.{AclEntry}
use Rattle.spec_ideal.specs.AccessLists.{no_acl, IsAccessList}
use Rattle.spec_ideal.specs.Directories.{IsDirectory}
use Rattle.spec_ideal.specs.Tables.{Table, get, AscendsFrom}
use Rattle.spec_ideal.specs.Volumes.{VnodeKind, a_file, a_directory, a_link, Vnode, Volume}
use Rattle.spec_ideal.specs.Operations.{is_kind, is_below}
use Rattle.spec_ideal.specs.Soundness.{names_of, subdirectories, IsHeldBy, GivesHeld, GivesOne, HasNames, IsNamedIn, IsPlaced, HasContents, HasByKind, IsSoundVnode, IsRoot, IsSound}
use Rattle.spec_ideal.proofs.Counts.{all_each, each_all}
use Rattle.spec_ideal.proofs.Tables.{get_below}
use Rattle.spec_records.specs.Laws.{IsRead}
use Rattle.spec_records.specs.Sound.{ascends_from, same_test, is_none, is_held_by, gives_held, gives_one, kind_is_right, has_names, is_named_in, is_placed, has_by_kind, is_sound_vnode, is_root, is_sound}

both_true : (a b : Bool) → a ≡ true → b ≡ true → (a && b) ≡ true
both_true true b p q = q
both_true false b p q = absurd cc

same_number : (a b : ℕ) → a ≡ b → nat_eq a b ≡ true
same_number a b e = eq-eqb a b e

-- ---- the table

ascends : {A : Type 0} (n : ℕ) (t : Table A) → AscendsFrom n t → ascends_from n t ≡ true
ascends {A} n [] up = refl
ascends {A} n (p ∷ ps) up = rw (le-ltb p.0 n up.0) (ascends (p.0 + 1) ps up.1)

missing : {A : Type 0} (x : A) → None ≡ Some x → ⊥
missing {A} x e = cc

later : (n : ℕ) (x : Vnode) (p : ℕ × Vnode) (ps : Table Vnode) (b : Bool) → nat_eq p.0 n ≡ b → AscendsFrom (p.0 + 1) ps → get n ps ≡ Some x → get n (p ∷ ps) ≡ Some x
later n x p ps true is up e = absurd (missing x (sym (get_below (p.0 + 1) n ps (grind (arith, nat_tests, is)) up) ∙ e))
later n x p ps false is up e = rw is e

all_pass : (P : ℕ → Vnode → Bool) (m : ℕ) (t : Table Vnode) → AscendsFrom m t → ((n : ℕ) (x : Vnode) → get n t ≡ Some x → P n x ≡ true) → list_all (λ (p : ℕ × Vnode). P p.0 p.1) t ≡ true
all_pass P m [] up h = refl
all_pass P m (p ∷ ps) up h =
    both_true (P p.0 p.1) (list_all (λ (q : ℕ × Vnode). P q.0 q.1) ps) (h p.0 p.1 (grind (arith, nat_tests)))
    (all_pass P (p.0 + 1) ps up.1 (λ n x e. h n x (later n x p ps (nat_eq p.0 n) refl up.1 e)))

-- ---- one vnode

held : (d u : ℕ) (x : Vnode) → IsHeldBy d u x → is_held_by d u x ≡ true
held d u x h = both_true (nat_eq x.parent d) (nat_eq x.parent_unique u) (same_number _ _ h.0) (same_number _ _ h.1)

not_one : (n : ℕ) (b : Bool) → nat_eq n 1 ≡ b → (n ≡ 1 → ⊥) → not b ≡ true
not_one n true is ne = absurd (ne (grind (arith, nat_tests, is)))
not_one n false is ne = refl

given : (d u n : ℕ) (o : Option Vnode) (name : Name) → GivesHeld d u n o name → gives_held d u n o name ≡ true
given d u n None name h = absurd h
given d u n (Some x) name h =
    both_true (not (nat_eq n 1)) (nat_eq x.unique name.unique && is_held_by d u x) (not_one n (nat_eq n 1) refl h.0)
    (both_true (nat_eq x.unique name.unique) (is_held_by d u x) (same_number _ _ h.1.0) (held d u x h.1.1))

all_given : (v : Volume) (d u : ℕ) (names : List Name) → AllByRecursion (GivesOne v d u) names → list_all (gives_one v d u) names ≡ true
all_given v d u [] h = refl
all_given v d u (n ∷ ns) h = both_true (gives_one v d u n) (list_all (gives_one v d u) ns) (given d u n.vnode (get n.vnode v.vnodes) n h.0) (all_given v d u ns h.1)

fits : (b : Bool) (m : ℕ) (c : Bool) → nat_eq m 1 ≡ c → ((b ≡ true) ↔ (m ≡ 1)) → same_test b c ≡ true
fits true m true is h = refl
fits true m false is h = let one : m ≡ 1 = h.0 refl in absurd (grind (arith, nat_tests, is, one))
fits false m true is h = let no : false ≡ true = h.1 (grind (arith, nat_tests, is)) in absurd cc
fits false m false is h = refl

named_count : (k : VnodeKind) (links count : ℕ) → HasNames k links count → has_names k links count ≡ true
named_count a_directory links count h = same_number _ _ h
named_count a_file links count h = both_true (nat_eq count links) (not (nat_eq count 0)) (same_number _ _ h.0) (grind (arith, nat_tests, h.1))
named_count a_link links count h = both_true (nat_eq count links) (not (nat_eq count 0)) (same_number _ _ h.0) (grind (arith, nat_tests, h.1))

named : (o : Option Vnode) (n : ℕ) (x : Vnode) → IsNamedIn o n x → is_named_in o n x ≡ true
named None n x h = absurd h
named (Some d) n x h = rw h.0 (both_true (nat_eq d.unique x.parent_unique) (has_names x.kind x.links (names_of n x.unique d.names)) (same_number _ _ h.1.0) (named_count x.kind x.links (names_of n x.unique d.names) h.1.1))

placed : (v : Volume) (n : ℕ) (x : Vnode) → IsPlaced v n x → is_placed v n x ≡ true
placed v n x h = both_true (is_named_in (get x.parent v.vnodes) n x) (is_below n 1 v) (named (get x.parent v.vnodes) n x h.named) h.reaches

root_or_placed : (v : Volume) (n : ℕ) (x : Vnode) (b : Bool) → nat_eq n 1 ≡ b → ((n ≡ 1 → ⊥) → IsPlaced v n x) → (b || is_placed v n x) ≡ true
root_or_placed v n x true is h = refl
root_or_placed v n x false is h = placed v n x (h (λ one. absurd (grind (arith, nat_tests, is, one))))

has_body : (k : VnodeKind) (x : Vnode) → HasByKind k x → has_by_kind k x ≡ true
has_body a_directory x h = rw h.contents (same_number _ _ h.links)
has_body a_file x h = rw (h.names, h.acl) refl
has_body a_link x h = rw (h.names, h.acl) refl

one_passes : (v : Volume) (n : ℕ) (x : Vnode) → IsSoundVnode v n x → is_sound_vnode v n x ≡ true
one_passes v n x h =
    both_true (kind_is_right n x.kind) _ (fits (is_kind x.kind a_directory) (n % 2) (nat_eq (n % 2) 1) refl h.kind)
    (both_true (nat_lt x.unique v.next) _ (lt-ltb x.unique v.next h.unique)
    (both_true (has_by_kind x.kind x) _ (has_body x.kind x h.body)
    (both_true (list_all (gives_one v n x.unique) x.names) _ (all_given v n x.unique x.names (all_each (GivesOne v n x.unique) x.names h.given)) (root_or_placed v n x (nat_eq n 1) refl h.placed))))

root_passes : (o : Option Vnode) → IsRoot o → is_root o ≡ true
root_passes None h = absurd h
root_passes (Some x) h = both_true (nat_eq x.unique 1) _ (same_number _ _ h.0) (rw h.1.0 (held 0 0 x h.1.1))

pub passes : (v : Volume) → IsSound v → is_sound v ≡ true
unfolding is_sound
passes v h =
    both_true (is_root (get 1 v.vnodes)) _ (root_passes (get 1 v.vnodes) h.root)
    (both_true (ascends_from 1 v.vnodes) _ (ascends 1 v.vnodes h.ascending)
    (all_pass (is_sound_vnode v) 1 v.vnodes h.ascending (λ n x e. one_passes v n x (h.vnodes n x e))))

-- ---- and what passes is sound, where names and access lists are those of directories

split : (a b : Bool) → (a && b) ≡ true → (a ≡ true) × (b ≡ true)
split true b e = (refl, e)
split false b e = absurd cc

numbers_same : (a b : ℕ) → nat_eq a b ≡ true → a ≡ b
numbers_same a b e = grind (arith, nat_tests, e)

ascends_so : {A : Type 0} (n : ℕ) (t : Table A) → ascends_from n t ≡ true → AscendsFrom n t
ascends_so {A} n [] h = tt
ascends_so {A} n (p ∷ ps) h = let both = split (not (nat_lt p.0 n)) (ascends_from (p.0 + 1) ps) h in (grind (arith, nat_tests, both.0), ascends_so (p.0 + 1) ps both.1)

some_is : {A : Type 0} (x y : A) → Some x ≡ Some y → x ≡ y
some_is {A} x y e = cc

passes_by : (P : ℕ → Vnode → Bool) (p : ℕ × Vnode) (n : ℕ) (x : Vnode) (b : Bool) (rest : Option Vnode) → nat_eq p.0 n ≡ b → P p.0 p.1 ≡ true → (rest ≡ Some x → P n x ≡ true) → (if b then Some p.1 else rest) ≡ Some x → P n x ≡ true
passes_by P p n x true rest is front h e = ap (λ (m : ℕ). P m x) (sym (numbers_same p.0 n is)) ∙ (ap (λ (y : Vnode). P p.0 y) (sym (some_is p.1 x e)) ∙ front)
passes_by P p n x false rest is front h e = h e

passes_at : (P : ℕ → Vnode → Bool) (t : Table Vnode) (n : ℕ) (x : Vnode) → list_all (λ (p : ℕ × Vnode). P p.0 p.1) t ≡ true → get n t ≡ Some x → P n x ≡ true
passes_at P [] n x h e = absurd (missing x e)
passes_at P (p ∷ ps) n x h e =
    let both = split (P p.0 p.1) (list_all (λ (q : ℕ × Vnode). P q.0 q.1) ps) h in
    passes_by P p n x (nat_eq p.0 n) (get n ps) refl both.0 (passes_at P ps n x both.1) e

held_so : (d u : ℕ) (x : Vnode) → is_held_by d u x ≡ true → IsHeldBy d u x
held_so d u x h = let both = split (nat_eq x.parent d) (nat_eq x.parent_unique u) h in (numbers_same _ _ both.0, numbers_same _ _ both.1)

not_first : (n : ℕ) → not (nat_eq n 1) ≡ true → n ≡ 1 → ⊥
not_first n h e = grind (arith, nat_tests, h, e)

given_so : (d u n : ℕ) (o : Option Vnode) (name : Name) → gives_held d u n o name ≡ true → GivesHeld d u n o name
given_so d u n None name h = absurd cc
given_so d u n (Some x) name h =
    let a = split (not (nat_eq n 1)) (nat_eq x.unique name.unique && is_held_by d u x) h in
    let b = split (nat_eq x.unique name.unique) (is_held_by d u x) a.1 in
    (not_first n a.0, (numbers_same _ _ b.0, held_so d u x b.1))

all_given_so : (v : Volume) (d u : ℕ) (names : List Name) → list_all (gives_one v d u) names ≡ true → AllByRecursion (GivesOne v d u) names
all_given_so v d u [] h = tt
all_given_so v d u (n ∷ ns) h = let both = split (gives_one v d u n) (list_all (gives_one v d u) ns) h in (given_so d u n.vnode (get n.vnode v.vnodes) n both.0, all_given_so v d u ns both.1)

fits_so : (b : Bool) (m : ℕ) (c : Bool) → nat_eq m 1 ≡ c → same_test b c ≡ true → ((b ≡ true) ↔ (m ≡ 1))
fits_so true m true is h = (λ e. numbers_same m 1 is, λ e. refl)
fits_so true m false is h = absurd cc
fits_so false m true is h = absurd cc
fits_so false m false is h = (λ e. absurd cc, λ e. absurd (grind (arith, nat_tests, is, e)))

count_so : (k : VnodeKind) (links count : ℕ) → has_names k links count ≡ true → HasNames k links count
count_so a_directory links count h = numbers_same _ _ h
count_so a_file links count h = let both = split (nat_eq count links) (not (nat_eq count 0)) h in (numbers_same _ _ both.0, grind (arith, nat_tests, both.1))
count_so a_link links count h = let both = split (nat_eq count links) (not (nat_eq count 0)) h in (numbers_same _ _ both.0, grind (arith, nat_tests, both.1))

is_directory : (k : VnodeKind) → is_kind k a_directory ≡ true → k ≡ a_directory
is_directory a_directory e = refl
is_directory a_file e = absurd cc
is_directory a_link e = absurd cc

named_so : (o : Option Vnode) (n : ℕ) (x : Vnode) → is_named_in o n x ≡ true → IsNamedIn o n x
named_so None n x h = absurd cc
named_so (Some d) n x h =
    let a = split (is_kind d.kind a_directory) (nat_eq d.unique x.parent_unique && has_names x.kind x.links (names_of n x.unique d.names)) h in
    let b = split (nat_eq d.unique x.parent_unique) (has_names x.kind x.links (names_of n x.unique d.names)) a.1 in
    (is_directory d.kind a.0, (numbers_same _ _ b.0, count_so x.kind x.links (names_of n x.unique d.names) b.1))

placed_so : (v : Volume) (n : ℕ) (x : Vnode) → is_placed v n x ≡ true → IsPlaced v n x
placed_so v n x h = let both = split (is_named_in (get x.parent v.vnodes) n x) (is_below n 1 v) h in record { named = named_so (get x.parent v.vnodes) n x both.0; reaches = both.1 }

below_root : (v : Volume) (n : ℕ) (x : Vnode) (b : Bool) → nat_eq n 1 ≡ b → (b || is_placed v n x) ≡ true → (n ≡ 1 → ⊥) → IsPlaced v n x
below_root v n x true is h ne = absurd (ne (numbers_same n 1 is))
below_root v n x false is h ne = placed_so v n x h

none_so : {A : Type 0} (xs : List A) → is_none xs ≡ true → xs ≡ []
none_so {A} [] h = refl
none_so {A} (x ∷ xs) h = absurd cc

list_of : List AclEntry → List AclEntry → AccessList
list_of p n = record { positive = p; negative = n }

no_entries : (a : AccessList) → a.positive ≡ [] → a.negative ≡ [] → a ≡ no_acl
unfolding list_of
no_entries a p q = ap (λ (es : List AclEntry). list_of es a.negative) p ∙ ap (λ (es : List AclEntry). list_of [] es) q

contents_so : (x : Vnode) → (is_none x.names && (is_none x.acl.positive && is_none x.acl.negative)) ≡ true → HasContents x
contents_so x h =
    let a = split (is_none x.names) _ h in
    let b = split (is_none x.acl.positive) (is_none x.acl.negative) a.1 in
    record { names = none_so x.names a.0; acl = no_entries x.acl (none_so x.acl.positive b.0) (none_so x.acl.negative b.1) }

body_so : (k : VnodeKind) (x : Vnode) → (k ≡ a_directory → IsDirectory x.names × IsAccessList x.acl) → has_by_kind k x ≡ true → HasByKind k x
body_so a_directory x known h =
    let both = split (is_none x.contents) (nat_eq x.links (2 + subdirectories x.names)) h in
    record { names = (known refl).0; acl = (known refl).1; contents = none_so x.contents both.0; links = numbers_same _ _ both.1 }
body_so a_file x known h = contents_so x h
body_so a_link x known h = contents_so x h

one_so : (v : Volume) (n : ℕ) (x : Vnode) → IsRead x → is_sound_vnode v n x ≡ true → IsSoundVnode v n x
one_so v n x known h =
    let a = split (kind_is_right n x.kind) _ h in
    let b = split (nat_lt x.unique v.next) _ a.1 in
    let c = split (has_by_kind x.kind x) _ b.1 in
    let d = split (list_all (gives_one v n x.unique) x.names) _ c.1 in
    record {
      kind = fits_so (is_kind x.kind a_directory) (n % 2) (nat_eq (n % 2) 1) refl a.0;
      unique = grind (arith, nat_tests, b.0);
      body = body_so x.kind x known c.0;
      given = each_all (GivesOne v n x.unique) x.names (all_given_so v n x.unique x.names d.0);
      placed = below_root v n x (nat_eq n 1) refl d.1;
    }

root_so : (o : Option Vnode) → is_root o ≡ true → IsRoot o
root_so None h = absurd cc
root_so (Some x) h =
    let a = split (nat_eq x.unique 1) (is_kind x.kind a_directory && is_held_by 0 0 x) h in
    let b = split (is_kind x.kind a_directory) (is_held_by 0 0 x) a.1 in
    (numbers_same _ _ a.0, (is_directory x.kind b.0, held_so 0 0 x b.1))

pub passed : (v : Volume) → ((n : ℕ) (x : Vnode) → get n v.vnodes ≡ Some x → IsRead x) → is_sound v ≡ true → IsSound v
unfolding is_sound
passed v known h =
    let a = split (is_root (get 1 v.vnodes)) (ascends_from 1 v.vnodes && list_all (λ (p : ℕ × Vnode). is_sound_vnode v p.0 p.1) v.vnodes) h in
    let b = split (ascends_from 1 v.vnodes) (list_all (λ (p : ℕ × Vnode). is_sound_vnode v p.0 p.1) v.vnodes) a.1 in
    record {
      root = root_so (get 1 v.vnodes) a.0;
      ascending = ascends_so 1 v.vnodes b.0;
      vnodes = λ n x e. one_so v n x (known n x e) (passes_at (is_sound_vnode v) v.vnodes n x b.1 e);
    }
