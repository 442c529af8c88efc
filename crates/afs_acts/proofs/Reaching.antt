-- What is needed on the way to an object, and behind it. Whatever holds of each read and of each answer holds of what is needed on the way.
use Rattle.std.proofs.Common.{◌<◌, ℕ, Bool, true, false, cond, ◌||◌, ◌&&◌, not, List, [], ◌∷◌, Option, Some, None, Result, Ok, Err, arith}
use Rattle.std.specs.List.{All}
use Rattle.std.proofs.lemmas.List.Elements.{All-head, All-tail}
use Rattle.spec_history.specs.declared.acts.Operand.{Operand}
use Rattle.spec_history.specs.declared.acts.Operand.TheVariants as operands
use Rattle.spec_history.specs.declared.acts.Path.{Path}
use Rattle.afs_num.specs.declared.directories.Name.{Name}
use Rattle.afs_num.specs.declared.types.Fid.{Fid}
use Rattle.afs_num.specs.declared.histories.Body.{Body}
use Rattle.afs_num.specs.declared.histories.Body.TheVariants as bodies
use Rattle.spec_rows.specs.Going as going
use Rattle.spec_rows.specs.Going.{Need, ReadShown, TakenRead, Parted, parted, parted_on, first_body, looked_up, is_even, is_last_name, fid_of, by_kind}
use Rattle.afs_acts.specs.Walks.{At, Within, then_on, goes_to, body_by, body_at, entry_by, reached, along, walk_to, at_root, path_at, fid_at, object_at, within_by, within, parent_by, parent_at}

abbrev pub Any : {A : Type 0} → A → Type 0
Any x = Unit {0}

-- its name is so
abbrev pub IsWithinSo : (List ℕ → Type 0) → Within → Type 0
IsWithinSo S w = S w.name

module _ (P : Need → Type 0) (asks : (f : Fid) → P (going.reads f)) (told : (n : ℕ) → n < 2147483648 → P (going.answers n)) where
  -- what is reached is so, or what is needed before
  abbrev pub Reaches : {A : Type 0} → (A → Type 0) → Result A Need → Type 0
  Reaches S (Ok x) = S x
  Reaches S (Err need) = P need

  pub then_reaches : {A B : Type 0} (S : A → Type 0) (Q : B → Type 0) (f : A → Result B Need) (r : Result A Need) → Reaches S r → ((x : A) → S x → Reaches Q (f x)) → Reaches Q (then_on f r)
  then_reaches S Q f (Ok x) h k = k x h
  then_reaches S Q f (Err need) h k = h

  pub goes_fits : {A : Type 0} (S : A → Type 0) (f : A → Need) (r : Result A Need) → Reaches S r → ((x : A) → S x → P (f x)) → P (goes_to f r)
  goes_fits S f (Ok x) h k = k x h
  goes_fits S f (Err need) h k = h

  -- ---- walks

  pub body_reached : (f : Fid) (o : Option (TakenRead Body)) → Reaches (Any {A = TakenRead Body}) (body_by f o)
  body_reached f None = asks f
  body_reached f (Some t) = tt

  inner_reached : (b : Bool) (f : Fid) → Reaches (Any {A = Fid}) (cond b (Err (going.answers 20)) (Ok f))
  inner_reached true f = told 20 (omega arith)
  inner_reached false f = tt

  entry_reached : (inner : Bool) (volume : ℕ) (o : Option (Option Name)) → Reaches (Any {A = Fid}) (entry_by inner volume o)
  entry_reached inner volume None = told 20 (omega arith)
  entry_reached inner volume (Some None) = told 2 (omega arith)
  entry_reached inner volume (Some (Some n)) = inner_reached (inner && is_even n.vnode) (fid_of volume n)

  reached_on : (rest : List ReadShown) (r : Result Fid Need) → Reaches (Any {A = Fid}) r → Reaches (Any {A = At}) (reached rest r)
  reached_on rest (Ok f) h = tt
  reached_on rest (Err need) h = h

  along_reached : (inner : Bool) (name : List ℕ) (a : At) → Reaches (Any {A = At}) (along inner name a)
  along_reached inner name a =
      then_reaches Any Any (λ (t : TakenRead Body). reached t.rest (entry_by inner a.fid.volume (looked_up name t.found))) (body_at a) (body_reached a.fid (first_body a.fid a.rest))
      (λ t h. reached_on t.rest (entry_by inner a.fid.volume (looked_up name t.found)) (entry_reached inner a.fid.volume (looked_up name t.found)))

  walk_reached : (all : Bool) (names : List (List ℕ)) (a : At) → Reaches (Any {A = At}) (walk_to all names a)
  walk_reached all [] a = tt
  walk_reached all (name ∷ names) a =
      then_reaches Any Any (walk_to all names) (along (all || not (is_last_name names)) name a) (along_reached (all || not (is_last_name names)) name a) (λ x h. walk_reached all names x)

  pub path_reached : (home : Option ℕ) (p : Path) (rs : List ReadShown) → P (going.locates (operands.Path p)) → Reaches (Any {A = At}) (path_at home p rs)
  path_reached None p rs sought = sought
  path_reached (Some id) p rs sought = walk_reached false p.names (at_root id rs)

  fid_reached : (home : Option ℕ) (f : Fid) (rs : List ReadShown) → P (going.locates (operands.Fid f)) → Reaches (Any {A = At}) (fid_at home f rs)
  fid_reached None f rs sought = sought
  fid_reached (Some id) f rs sought = tt

  pub object_reached : (home : Option ℕ) (o : Operand) (rs : List ReadShown) → P (going.locates o) → Reaches (Any {A = At}) (object_at home o rs)
  object_reached home (operands.Fid f) rs sought = fid_reached home f rs sought
  object_reached home (operands.Path p) rs sought = path_reached home p rs sought

  -- ---- the last name is among the names

  module _ (S : List ℕ → Type 0) where
    last_so : (name : List ℕ) (names : List (List ℕ)) → All S (name ∷ names) → S (parted_on name names).last
    last_so name [] h = All-head S name [] h
    last_so name (other ∷ names) h = last_so other names (All-tail S name (other ∷ names) h)

    within_kind : (d : Fid) (name : List ℕ) (rest : List ReadShown) (b : Body) → S name → Reaches (IsWithinSo S) (within_by d name rest b)
    within_kind d name rest (bodies.Dir names) h = h
    within_kind d name rest (bodies.File c) h = told 20 (omega arith)
    within_kind d name rest (bodies.Link c) h = told 20 (omega arith)
    within_kind d name rest bodies.Gone h = told 20 (omega arith)

    within_reached : (name : List ℕ) (a : At) → S name → Reaches (IsWithinSo S) (within name a)
    within_reached name a h =
        then_reaches Any (IsWithinSo S) (λ (t : TakenRead Body). within_by a.fid name t.rest t.found) (body_at a) (body_reached a.fid (first_body a.fid a.rest)) (λ t k. within_kind a.fid name t.rest t.found h)

    parts_reached : (p : Path) (home : Option ℕ) (names : List (List ℕ)) (rs : List ReadShown) → All S names → P (going.locates (operands.Path p)) → Reaches (IsWithinSo S) (parent_by p home rs (parted names))
    parts_reached p home [] rs h sought = told 22 (omega arith)
    parts_reached p None (name ∷ names) rs h sought = sought
    parts_reached p (Some id) (name ∷ names) rs h sought =
        then_reaches Any (IsWithinSo S) (within (parted_on name names).last) (walk_to true (parted_on name names).front (at_root id rs)) (walk_reached true (parted_on name names).front (at_root id rs))
        (λ x k. within_reached (parted_on name names).last x (last_so name names h))

    pub parent_reached : (home : Option ℕ) (p : Path) (rs : List ReadShown) → All S p.names → P (going.locates (operands.Path p)) → Reaches (IsWithinSo S) (parent_at home p rs)
    parent_reached home p rs h sought = parts_reached p home p.names rs h sought

  -- ---- what is shown

  kind_fits : (file directory link : ℕ) (b : Body) → file < 2147483648 → directory < 2147483648 → link < 2147483648 → P (by_kind file directory link b)
  kind_fits file directory link (bodies.File c) p q r = told file p
  kind_fits file directory link (bodies.Dir c) p q r = told directory q
  kind_fits file directory link (bodies.Link c) p q r = told link r
  kind_fits file directory link bodies.Gone p q r = told link r

  pub shown_fits : (file directory link : ℕ) (home : Option ℕ) (o : Operand) (rs : List ReadShown) → P (going.locates o) → file < 2147483648 → directory < 2147483648 → link < 2147483648
      → P (goes_to (λ (t : TakenRead Body). by_kind file directory link t.found) (then_on body_at (object_at home o rs)))
  shown_fits file directory link home o rs sought p q r =
      goes_fits Any (λ (t : TakenRead Body). by_kind file directory link t.found) (then_on body_at (object_at home o rs))
      (then_reaches Any Any body_at (object_at home o rs) (object_reached home o rs sought) (λ a h. body_reached a.fid (first_body a.fid a.rest)))
      (λ t h. kind_fits file directory link t.found p q r)

  pub one_volume : (b : Bool) (need : Need) → P need → P (cond b need (going.answers 22))
  one_volume true need h = h
  one_volume false need h = told 22 (omega arith)

  pub root_or : (b : Bool) (need : Need) → P need → P (cond b (going.answers 22) need)
  root_or true need h = told 22 (omega arith)
  root_or false need h = h
