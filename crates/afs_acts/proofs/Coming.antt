-- A walk that has come so far goes on from there.
use Rattle.std.proofs.Common.{◌≡◌, ◌≤◌, ℕ, zero, suc, ◌+◌, ◌-◌, Bool, true, false, List, [], ◌∷◌, ◌++◌, length, take, drop, Option, Some, None, IsSome, Result, Ok, Err, refl, ap, sym, ◌∙◌, append_assoc, length-append, take-append-drop, arith}
use Rattle.std.proofs.lemmas.List.{take_more, take-append-le}
use Rattle.std.proofs.lemmas.Option.{get_or_from_slice_get}
use Rattle.spec_history.specs.declared.acts.Operand.{Operand}
use Rattle.spec_history.specs.declared.acts.Operand.TheVariants as operands
use Rattle.spec_history.specs.declared.acts.Path.{Path}
use Rattle.afs_num.specs.Fids.{same_fid}
use Rattle.afs_num.specs.declared.types.Fid.{Fid}
use Rattle.afs_num.specs.declared.histories.Body.{Body}
use Rattle.afs_num.specs.declared.histories.ReadBody.TheVariants as seen
use Rattle.spec_rows.specs.Going.{Need, ReadShown, TakenRead, parted, taken_body, first_body, looked_up}
use Rattle.afs_acts.specs.Walks.{At, then_on, body_by, entry_by, reached, along, walk_to, at_root, path_at, fid_at, within, parent_by, parent_at}
use Rattle.afs_acts.specs.Ways.{names_of, start_of, IsUnderway, Steps}

then_twice : {A B C : Type 0} (f : A → Result B Need) (g : B → Result C Need) (h : A → Result C Need) (r : Result A Need) → ((x : A) → h x ≡ then_on g (f x)) → then_on h r ≡ then_on g (then_on f r)
then_twice {A} {B} {C} f g h (Ok x) e = e x
then_twice {A} {B} {C} f g h (Err need) e = refl

-- along two lists of directories
in_two : (xs ys : List (List ℕ)) (a : At) → walk_to true (xs ++ ys) a ≡ then_on (walk_to true ys) (walk_to true xs a)
in_two [] ys a = refl
in_two (x ∷ xs) ys a = then_twice (walk_to true xs) (walk_to true ys) (walk_to true (xs ++ ys)) (along true x a) (in_two xs ys)

-- to an object: each name before the last is that of a directory
to_object : (count : ℕ) (names : List (List ℕ)) (a : At) → count ≤ length names - 1 → walk_to false names a ≡ then_on (walk_to false (drop count names)) (walk_to true (take count names) a)
to_object zero names a h = refl
to_object (suc count) [] a h = absurd (omega (arith, h))
to_object (suc count) (x ∷ []) a h = absurd (omega (arith, h))
to_object (suc count) (x ∷ y ∷ names) a h =
    then_twice (walk_to true (take count (y ∷ names))) (walk_to false (drop count (y ∷ names))) (walk_to false (y ∷ names)) (along true x a) (λ b. to_object count (y ∷ names) b (omega (arith, h)))

pub path_goes : (home : Option ℕ) (p : Path) (count : ℕ) (f : Fid) (behind rest : List ReadShown) (id : ℕ) → IsUnderway home (Some (operands.Path p)) count f behind → home ≡ Some id
    → walk_to false (drop count p.names) (record { fid = f; rest = rest }) ≡ path_at home p (behind ++ rest)
path_goes home p count f behind rest id way e =
    sym (ap (λ (h : Option ℕ). path_at h p (behind ++ rest)) e ∙ (to_object count p.names (at_root id (behind ++ rest)) way.inside ∙ ap (then_on (walk_to false (drop count p.names))) (way.walked id e rest)))

abbrev nothing : List (List ℕ)
nothing = []

none_taken : (count : ℕ) → take count nothing ≡ nothing
none_taken zero = refl
none_taken (suc count) = refl

pub fid_goes : (home : Option ℕ) (f : Fid) (count : ℕ) (g : Fid) (behind rest : List ReadShown) (id : ℕ) (at : At) → IsUnderway home (Some (operands.Fid f)) count g behind → home ≡ Some id → at ≡ record { fid = g; rest = rest }
    → Ok at ≡ fid_at home f (behind ++ rest)
fid_goes home f count g behind rest id at way e is =
    ap (λ (a : At). Ok a) is
    ∙ sym (ap (λ (h : Option ℕ). fid_at h f (behind ++ rest)) e ∙ (ap (λ (ns : List (List ℕ)). walk_to true ns (record { fid = f; rest = behind ++ rest })) (sym (none_taken count)) ∙ way.walked id e rest))

pub front_within : (home : Option ℕ) (p : Path) (front : List (List ℕ)) (last : List ℕ) (count : ℕ) (f : Fid) (behind : List ReadShown) → IsUnderway home (Some (operands.Path p)) count f behind → p.names ≡ front ++ last ∷ [] → count ≤ length front
front_within home p front last count f behind way split = omega (arith, way.inside, ap length split, length-append front (last ∷ []))

pub front_goes : (home : Option ℕ) (p : Path) (front : List (List ℕ)) (last : List ℕ) (count : ℕ) (f : Fid) (behind rest : List ReadShown) (id : ℕ) → IsUnderway home (Some (operands.Path p)) count f behind → p.names ≡ front ++ last ∷ [] → home ≡ Some id
    → walk_to true (drop count front) (record { fid = f; rest = rest }) ≡ walk_to true front (at_root id (behind ++ rest))
front_goes home p front last count f behind rest id way split e =
    let within = front_within home p front last count f behind way split in
    let same : take count p.names ≡ take count front = ap (take count) split ∙ take-append-le count front (last ∷ []) within in
    let taken : walk_to true (take count front) (at_root id (behind ++ rest)) ≡ Ok (record { fid = f; rest = rest }) = ap (λ (ns : List (List ℕ)). walk_to true ns (at_root id (behind ++ rest))) (sym same) ∙ way.walked id e rest in
    sym (ap (λ (ns : List (List ℕ)). walk_to true ns (at_root id (behind ++ rest))) (sym (take-append-drop count front)) ∙ (in_two (take count front) (drop count front) (at_root id (behind ++ rest)) ∙ ap (then_on (walk_to true (drop count front))) taken))

-- the last name in its directory
pub parent_goes : (home : Option ℕ) (p : Path) (front : List (List ℕ)) (last : List ℕ) (count : ℕ) (f : Fid) (behind rest : List ReadShown) (r : Result At Need) → IsUnderway home (Some (operands.Path p)) count f behind
    → p.names ≡ front ++ last ∷ [] → Some (record { front = front; last = last }) ≡ parted p.names → IsSome home → r ≡ walk_to true (drop count front) (record { fid = f; rest = rest }) → then_on (within last) r ≡ parent_at home p (behind ++ rest)
parent_goes None p front last count f behind rest r way split parts known is = absurd cc
parent_goes (Some id) p front last count f behind rest r way split parts known is =
    ap (then_on (within last)) (is ∙ front_goes (Some id) p front last count f behind rest id way split refl) ∙ ap (parent_by p (Some id) (behind ++ rest)) parts

-- what is read of the directory takes the walk on
pub entry_goes : (d : Fid) (name : List ℕ) (f : Fid) (body : Body) (next : Fid) → same_fid f d ≡ true → entry_by true d.volume (looked_up name body) ≡ Ok next → (rest : List ReadShown)
    → along true name (record { fid = d; rest = record { fid = f; body = seen.Contents body } ∷ rest }) ≡ Ok (record { fid = next; rest = rest })
entry_goes d name f body next same e rest =
    ap (λ (b : Bool). then_on (λ (t : TakenRead Body). reached t.rest (entry_by true d.volume (looked_up name t.found))) (body_by d (taken_body b (seen.Contents body) rest (first_body d rest)))) same ∙ ap (reached rest) e

-- one name further
pub steps_on : (home : Option ℕ) (o : Option Operand) (count : ℕ) (f : Fid) (behind ahead : List ReadShown) (shown : ReadShown) (next : Fid) → IsSome home → IsUnderway home o count f behind → Steps (names_of o) count f ahead shown next
    → IsUnderway home o (count + 1) next (behind ++ shown ∷ [])
steps_on None o count f behind ahead shown next known way step = absurd cc
steps_on (Some volume) o count f behind ahead shown next known way step =
    let names = names_of o in
    let taken : take (count + 1) names ≡ take count names ++ step.name ∷ [] =
    take_more names count step.name (omega (arith, step.inside)) ∙ ap (λ (n : List ℕ). take count names ++ n ∷ []) (get_or_from_slice_get names count step.name step.name step.named) in
    record {
      inside = omega (arith, step.inside);
      walked = λ id e rest.
          ap (λ (ns : List (List ℕ)). walk_to true ns (record { fid = start_of id o; rest = (behind ++ shown ∷ []) ++ rest })) taken
          ∙ (ap (λ (rs : List ReadShown). walk_to true (take count names ++ step.name ∷ []) (record { fid = start_of id o; rest = rs })) (append_assoc behind (shown ∷ []) rest)
          ∙ (in_two (take count names) (step.name ∷ []) (record { fid = start_of id o; rest = behind ++ (shown ∷ rest) })
          ∙ (ap (then_on (walk_to true (step.name ∷ []))) (way.walked id e (shown ∷ rest)) ∙ ap (then_on (walk_to true [])) (step.goes rest))));
      still = λ e. absurd cc;
    }

-- a volume becomes known: nothing was walked before
pub comes_known : (home : Option ℕ) (o : Option Operand) (count : ℕ) (f g : Fid) (behind : List ReadShown) (found : Option ℕ) → IsUnderway home o count f behind → home ≡ None → ((id : ℕ) → found ≡ Some id → g ≡ start_of id o)
    → IsUnderway found o count g behind
comes_known home o count f g behind found way none at =
    let still = way.still none in
    record {
      inside = way.inside;
      walked = λ id e rest.
          ap (λ (n : ℕ). walk_to true (take n (names_of o)) (record { fid = start_of id o; rest = behind ++ rest })) still.0
          ∙ (ap (λ (rs : List ReadShown). Ok (record { fid = start_of id o; rest = rs ++ rest })) still.1 ∙ ap (λ (h : Fid). Ok (record { fid = h; rest = rest })) (sym (at id e)));
      still = λ e. still;
    }
