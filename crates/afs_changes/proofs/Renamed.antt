-- Names that are taken away and put in their place, and the way up from a directory.
use Rattle.std.proofs.Common.{◌≡◌, ◌<◌, ◌≤◌, ◌+◌, ℕ, List, [], ◌∷◌, ◌++◌, Option, Some, None, Bool, true, false, not, is_some, length, refl, ap, ◌∙◌, arith, nat_lt, if◌then◌else◌, nat_eq, eq-eqb}
use Rattle.std.specs.Prelude.{◌||◌, ◌&&◌}
use Rattle.afs_num.specs.Names.{name_ok}
use Rattle.afs_num.specs.declared.directories.Name.{Name}
use Rattle.spec_ideal.specs.Directories.{add_refused, is_named, most_names, named, without_name}
use Rattle.std.proofs.lemmas.Bool.{lt-ltb, ltb-true}
use Rattle.std.proofs.lemmas.Slice.Eq.{bytes_eq-Decides}
use Rattle.afs_num.specs.declared.calls.FsCall.TheVariants as calls
use Rattle.afs_num.specs.declared.types.Fid.{Fid}
use Rattle.spec_ideal.specs.Operations.{Caller, first_failing, is_directory, kinds_agree, tests, Tests, vnode_in}
use Rattle.spec_ideal.specs.Volumes.{Vnode, Volume, vnode_of}
use Rattle.afs_changes.specs.Planning.{move_tests, takes_place}
use Rattle.spec_ideal.proofs.Directories.{named-without_name, shorter-without_name}

nothing_by : (b : Bool) (name : List ℕ) (n : Name) (ns : List Name) → (named name ns ≡ None → without_name name ns ≡ ns) → ◌≡◌ {A = Option Name} (if b then Some n else named name ns) None → ◌≡◌ {A = List Name} (if not b then n ∷ without_name name ns else without_name name ns) (n ∷ ns)
nothing_by true name n ns later none = absurd cc
nothing_by false name n ns later none = ap (λ (t : List Name). n ∷ t) (later none)

-- a name that isn't there is not taken away
pub nothing_taken : (name : List ℕ) (names : List Name) → named name names ≡ None → without_name name names ≡ names
nothing_taken name [] none = refl
nothing_taken name (n ∷ ns) none = nothing_by (is_named name n) name n ns (λ h. nothing_taken name ns h) none

fewer_by : (b : Bool) (name : List ℕ) (n : Name) (ns : List Name) → (is_some (named name ns) ≡ true → length (without_name name ns) < length ns) → is_some (if b then Some n else named name ns) ≡ true → length (if not b then n ∷ without_name name ns else without_name name ns) < 1 + length ns
fewer_by true name n ns later there = omega (arith, shorter-without_name name ns)
fewer_by false name n ns later there = omega (arith, later there)

-- one that is there makes the names fewer
fewer : (name : List ℕ) (names : List Name) → is_some (named name names) ≡ true → length (without_name name names) < length names
fewer name [] there = absurd cc
fewer name (n ∷ ns) there = omega (arith, fewer_by (is_named name n) name n ns (λ h. fewer name ns h) there)

-- a name is put where one went
pub room_within : (old new : List ℕ) (names : List Name) → is_some (named old names) ≡ true → length names ≤ 1024 → length (without_name new (without_name old names)) < 1024
room_within old new names there few = omega (arith, fewer old names there, shorter-without_name new (without_name old names), few)

room_by : (b c : Bool) (new : List ℕ) (names : List Name) → is_some (named new names) ≡ b → nat_lt (length names) most_names ≡ c → (b || c) ≡ true → length names ≤ 1024 → length (without_name new names) < 1024
room_by true c new names there less room few = omega (arith, fewer new names there, few)
room_by false true new names there less room few = omega (arith, shorter-without_name new names, ltb-true (length names) most_names less)
room_by false false new names there less room few = absurd cc

-- or where there is room
pub room_across : (new : List ℕ) (names : List Name) → (is_some (named new names) || nat_lt (length names) most_names) ≡ true → length names ≤ 1024 → length (without_name new names) < 1024
room_across new names room few = room_by (is_some (named new names)) (nat_lt (length names) most_names) new names refl refl room few

-- a name that replaces another has room where one of them went
pub no_refusal : (new : List ℕ) (names rest : List Name) → rest ≡ without_name new names → name_ok new ≡ true → length rest < 1024 → add_refused new rest ≡ None
no_refusal new names rest is good room =
    let gone : named new rest ≡ None = ap (λ (ns : List Name). named new ns) is ∙ (named-without_name new new names ∙ rw ((bytes_eq-Decides new new).1 refl) refl) in
    let few : nat_lt (length rest) most_names ≡ true = lt-ltb (length rest) most_names room in
    rw (good, gone, few) refl

-- the kinds of what is renamed and of what is replaced are tested first
pub kinds_tested : (x y : Option Vnode) (ts : Tests) → first_failing (kinds_agree x y ++ ts) ≡ (if takes_place x y then (if takes_place y x then first_failing ts else Some 21) else Some 20)
kinds_tested None None ts = refl
kinds_tested None (Some y) ts = refl
kinds_tested (Some x) None ts = refl
kinds_tested (Some x) (Some y) ts = refl

tests_behind : (a b c w : Bool) (x y : Option Vnode) (ts : Tests) → a ≡ true → b ≡ true → c ≡ true → takes_place x y ≡ true → takes_place y x ≡ true → w ≡ true → first_failing ((a, 102) ∷ (b, 102) ∷ (c, 20) ∷ (kinds_agree x y ++ (w, 30) ∷ ts)) ≡ first_failing ts
tests_behind a b c w x y ts p q r k l s = rw (p, q, r, kinds_tested x y ((w, 30) ∷ ts), k, l, s) refl

-- where two directories of a volume, the kinds and the volume pass, the other tests are left
pub behind_kinds : (caller : Caller) (d e : Fid) (old new : List ℕ) (v : Volume) → e.volume ≡ d.volume → is_some (vnode_of d v) ≡ true → is_some (vnode_of e v) ≡ true → (is_directory (vnode_of d v) && is_directory (vnode_of e v)) ≡ true
    → takes_place (vnode_in d old v) (vnode_in e new v) ≡ true → takes_place (vnode_in e new v) (vnode_in d old v) ≡ true → nat_eq v.kind 0 ≡ true → first_failing (tests caller (calls.Rename d old e new) v) ≡ first_failing (move_tests caller d old e new v)
behind_kinds caller d e old new v within from to both k l w =
    rw (eq-eqb e.volume d.volume within) (tests_behind (is_some (vnode_of d v)) (is_some (vnode_of e v)) (is_directory (vnode_of d v) && is_directory (vnode_of e v)) (nat_eq v.kind 0) (vnode_in d old v) (vnode_in e new v) (move_tests caller d old e new v) from to both k l w)
