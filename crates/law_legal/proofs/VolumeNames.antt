-- The names of directories: what set-up and operations leave is read again from its bytes, and stands by its numbers.
use Rattle.std.proofs.Common.{◌-◌, ◌≡◌, ℕ, ◌+◌, ◌*◌, ◌<◌, ◌≤◌, ◌^◌, Bool, true, false, cond, eqb, ltb, nat_eq, nat_lt, not, List, [], ◌∷◌, ◌++◌, Option, Some, None, refl, sym, subst, ◌∙◌, arith, eq-eqb, eqb-true, ltb-true, ltb-false}
use Rattle.std.specs.Prelude as std_result
use Rattle.std.specs.Str.{bytes_eq}
use Rattle.std.specs.Prelude.{◌||◌, ◌&&◌, ⊤, Ok, Err, is_some, length}
use Rattle.std.specs.List.{AllByRecursion, list_all}
use Rattle.std.proofs.Math.Nat.{le_refl, le_trans}
use Rattle.afs_num.specs.Names.{name_ok}
use Rattle.afs_num.specs.declared.types.Fid.{Fid}
use Rattle.afs_num.specs.declared.directories.Name.{Name}
use Rattle.afs_num.specs.declared.calls.AfsStoreStatus.{AfsStoreStatus}
use Rattle.afs_num.specs.declared.calls.FsCall.{FsCall}
use Rattle.afs_num.specs.declared.calls.FsCall.TheVariants as calls
use Rattle.spec_history.specs.declared.scripts.SetupLine.{SetupLine}
use Rattle.spec_history.specs.declared.scripts.SetupLine.TheVariants as setup
use Rattle.spec_ideal.proofs.Counts.{each_with, each_without, each_named}
use Rattle.spec_ideal.proofs.Directories.{added_is_directory, removed_is_directory, named-without_name, shorter-without_name}
use Rattle.spec_ideal.proofs.Looks.{each_ascending}
use Rattle.spec_ideal.proofs.Scopes.{Accepted, accepted}
use Rattle.spec_ideal.proofs.Steps.{room_for}
use Rattle.spec_ideal.proofs.Tables.{ascends_set, ascends_unset, get_below, free_bound, free_from}
use Rattle.spec_ideal.specs.Directories.{IsDirectory, FitNames, FitsName, most_names, named, with_name, without_name}
use Rattle.spec_ideal.specs.Operations.{number_named, Caller, all_rights, Result, op, changes, volume_called, tests, effect, limits, edit_fits, is_last_count, last_count, no_amend, name_in, names_in, named_vnode, unlinks, renaming, renames_within, renames_across, renamed, creating, removing, linking, may_link, free_number, directory_name, new_file, new_directory, new_link, is_directory, links_of}
use Rattle.spec_ideal.specs.SetUp.{new_volume, new_root, called, laid_by, laid_in, laid_at, acl_laid, laid, laid_or, filled_by, empty_volume, first_volume, Laid, a_dir, a_link_to, led, parted, at_first, one_at_first, all_at_first, a_file_of, nothing_set, stores_all, new_fid}
use Rattle.spec_ideal.specs.Tables.{Table, get, set, unset, AscendsFrom}
use Rattle.spec_ideal.specs.VnodeImage.{most_acl, most_contents}
use Rattle.spec_ideal.specs.Volumes.{VnodeKind, a_file, a_link, a_directory, Vnode, Volume, Edit, Amend, amends, makes, frees, amended, fresh, amends_at, makes_at, frees_at, edited, edited_all, edit_number, counted, vnode_of, with_status, or_old, ascending}
use Rattle.law_legal.proofs.BaseLaws.{some_of, both}
use Rattle.law_legal.proofs.VolumeEdits.{get-set, get-unset}
use Rattle.law_legal.proofs.ServerDiskKeeps.{volume_put}
use Rattle.spec_rows.specs.States.{volume_in}
use Rattle.spec_records.specs.Durable.{Stored}
use Rattle.law_legal.proofs.BaseWords.{IsReadable, IsFine, AreFine}
use Rattle.law_legal.proofs.VolumeOperations.{AllHold, all_hold}
use Rattle.law_legal.proofs.ServerFinds.{own_found, own_unique}
use Rattle.spec_history.specs.Written.{bytes_in}
use Rattle.spec_ideal.specs.Operations as ops
use Rattle.std.specs.Option.{ok_or}
use Rattle.spec_shape.specs.Reading.{◌>>=◌}
use Rattle.spec_history.specs.declared.scripts.VolumeLine.{VolumeLine}

-- ---- edits that leave them so

abbrev pub FitsNames : Option (List Name) → Type 0
FitsNames None = ⊤
FitsNames (Some names) = IsDirectory names × FitNames names

-- a new vnode has no names, and a number that has a spelling, and so has the unique number that it will get
pub record FitsNew (next n : ℕ) (x : Vnode) : Type 0 where
  pub low : 1 ≤ n
  pub high : n < 2 ^ 32
  pub unique : next < 2 ^ 32
  pub names : x.names ≡ []

abbrev pub FitsEdit : ℕ → Edit → Type 0
FitsEdit next (amends n a) = FitsNames a.names
FitsEdit next (makes n x) = FitsNew next n x
FitsEdit next (frees n) = ⊤

-- the next unique number after an edit, at most
abbrev pub next_after : ℕ → Edit → ℕ
next_after next (makes n x) = next + 1
next_after next e = next

abbrev pub AllFit : ℕ → List Edit → Type 0
AllFit next [] = ⊤
AllFit next (e ∷ es) = FitsEdit next e × AllFit (next_after next e) es

-- what holds of what was put, and of what stood elsewhere
put_by : (P : ℕ → Vnode → Type 0) (t : Bool) (n m : ℕ) (x y : Vnode) (o : Option Vnode) → eqb n m ≡ t → P n x → (o ≡ Some y → P m y) → cond t (Some x) o ≡ Some y → P m y
put_by P true n m x y o t p q e = subst (λ (k : ℕ). P k y) (eqb-true n m t) (subst (P n) (some_of x y e) p)
put_by P false n m x y o t p q e = q e

at_set : (P : ℕ → Vnode → Type 0) (n : ℕ) (x : Vnode) (t : Table Vnode) → P n x → ((m : ℕ) (y : Vnode) → get m t ≡ Some y → P m y) → (m : ℕ) (y : Vnode) → get m (set n x t) ≡ Some y → P m y
at_set P n x t p q m y e = put_by P (eqb n m) n m x y (get m t) refl p (q m y) (sym (get-set n m x t) ∙ e)

gone_by : (P : ℕ → Vnode → Type 0) (t : Bool) (m : ℕ) (y : Vnode) (o : Option Vnode) → (o ≡ Some y → P m y) → cond t None o ≡ Some y → P m y
gone_by P true m y o q e = absurd cc
gone_by P false m y o q e = q e

at_unset : (P : ℕ → Vnode → Type 0) (n : ℕ) (t : Table Vnode) → ((m : ℕ) (y : Vnode) → get m t ≡ Some y → P m y) → (m : ℕ) (y : Vnode) → get m (unset n t) ≡ Some y → P m y
at_unset P n t q m y e = gone_by P (eqb n m) m y (get m t) (q m y) (sym (get-unset n m t) ∙ e)

low_by : (n : ℕ) (t : Table Vnode) (x : Vnode) (b : Bool) → ltb n 1 ≡ b → AscendsFrom 1 t → get n t ≡ Some x → 1 ≤ n
low_by n t x true b up e = let none = get_below 1 n t (ltb-true n 1 b) up in absurd cc
low_by n t x false b up e = ltb-false n 1 b

names_after : (a : Amend) (x : Vnode) → FitsNames a.names → IsDirectory x.names × FitNames x.names → IsDirectory (or_old a.names x.names) × FitNames (or_old a.names x.names)
names_after a x h k = names_by a.names x.names h k
  where
    names_by : (o : Option (List Name)) (old : List Name) → FitsNames o → IsDirectory old × FitNames old → IsDirectory (or_old o old) × FitNames (or_old o old)
    names_by None old h k = k
    names_by (Some names) old h k = h

amends_fine : (id n : ℕ) (a : Amend) (v : Volume) (o : Option Vnode) → get n v.vnodes ≡ o → FitsNames a.names → IsFine v → IsFine (amends_at id n a v o).volume
amends_fine id n a v None e h f = f
amends_fine id n a v (Some x) e h f =
    let r : IsReadable n x = f.readable n x e in
    let names = names_after a x h (r.names, r.fit) in
    record {
      ascends = ascends_set 1 n (amended (v.counter + 1) a x) v.vnodes (low_by n v.vnodes x (ltb n 1) refl f.ascends e) f.ascends;
      below = at_set (λ m y. y.unique < v.next) n (amended (v.counter + 1) a x) v.vnodes (f.below n x e) f.below;
      readable = at_set IsReadable n (amended (v.counter + 1) a x) v.vnodes (record { number = r.number; unique = r.unique; names = names.0; fit = names.1 }) f.readable;
      stays = f.stays;
    }

no_names : IsDirectory []
no_names = record { ordered = refl; few = omega arith }

makes_fine : (id n : ℕ) (x : Vnode) (v : Volume) (o : Option Vnode) (next : ℕ) → v.next ≤ next → FitsNew next n x → IsFine v → IsFine (makes_at id n x v o).volume
makes_fine id n x v (Some y) next le h f = f
makes_fine id n x v None next le h f =
    let new : Vnode = fresh (v.counter + 1) v.next x in
    let high : next < 2 ^ 32 = h.unique in
    record {
      ascends = ascends_set 1 n new v.vnodes h.low f.ascends;
      below = at_set (λ m y. y.unique < v.next + 1) n new v.vnodes (omega arith) (λ m y e. let l : y.unique < v.next = f.below m y e in omega arith);
      readable = at_set IsReadable n new v.vnodes (record { number = h.high; unique = small v.next next le high; names = subst IsDirectory (sym h.names) no_names; fit = subst FitNames (sym h.names) tt }) f.readable;
      stays = f.stays;
    }
  where
    small : (a b : ℕ) → a ≤ b → b < 2 ^ 32 → a < 2 ^ 32
    small a b x y = le_trans (omega arith) y

frees_fine : (id n : ℕ) (v : Volume) (o : Option Vnode) → IsFine v → IsFine (frees_at id n v o).volume
frees_fine id n v None f = f
frees_fine id n v (Some x) f = record { ascends = ascends_unset 1 n v.vnodes f.ascends; below = at_unset (λ m y. y.unique < v.next) n v.vnodes f.below; readable = at_unset IsReadable n v.vnodes f.readable; stays = f.stays }

edit_fine : (id : ℕ) (e : Edit) (v : Volume) (next : ℕ) → v.next ≤ next → FitsEdit next e → IsFine v → IsFine (edited id e v).volume
edit_fine id (amends n a) v next le h f = amends_fine id n a v (get n v.vnodes) refl h f
edit_fine id (makes n x) v next le h f = makes_fine id n x v (get n v.vnodes) next le h f
edit_fine id (frees n) v next le h f = frees_fine id n v (get n v.vnodes) f

amends_next : (id n : ℕ) (a : Amend) (v : Volume) (o : Option Vnode) → (amends_at id n a v o).volume.next ≡ v.next
amends_next id n a v None = refl
amends_next id n a v (Some x) = refl

makes_next : (id n : ℕ) (x : Vnode) (v : Volume) (o : Option Vnode) (next : ℕ) → v.next ≤ next → (makes_at id n x v o).volume.next ≤ next + 1
makes_next id n x v None next le = omega arith
makes_next id n x v (Some y) next le = omega arith

frees_next : (id n : ℕ) (v : Volume) (o : Option Vnode) → (frees_at id n v o).volume.next ≡ v.next
frees_next id n v None = refl
frees_next id n v (Some x) = refl

edit_next : (id : ℕ) (e : Edit) (v : Volume) (next : ℕ) → v.next ≤ next → (edited id e v).volume.next ≤ next_after next e
edit_next id (amends n a) v next le = subst (λ (k : ℕ). k ≤ next) (sym (amends_next id n a v (get n v.vnodes))) le
edit_next id (makes n x) v next le = makes_next id n x v (get n v.vnodes) next le
edit_next id (frees n) v next le = subst (λ (k : ℕ). k ≤ next) (sym (frees_next id n v (get n v.vnodes))) le

pub edits_fine : (id : ℕ) (es : List Edit) (v : Volume) (next : ℕ) → v.next ≤ next → AllFit next es → IsFine v → IsFine (edited_all id es v)
edits_fine id [] v next le h f = f
edits_fine id (e ∷ es) v next le h f = edits_fine id es (edited id e v).volume (next_after next e) (edit_next id e v next le) h.1 (edit_fine id e v next le h.0 f)

-- ---- orders of edits

-- edits that make nothing
abbrev MakesNone : Edit → Type 0
MakesNone (amends n a) = FitsNames a.names
MakesNone (makes n x) = ⊥
MakesNone (frees n) = ⊤

one_fits : (next : ℕ) (e : Edit) → MakesNone e → FitsEdit next e × (next_after next e ≡ next)
one_fits next (amends n a) h = (h, refl)
one_fits next (makes n x) h = absurd h
one_fits next (frees n) h = (tt, refl)

none_fit : (next : ℕ) (es : List Edit) → AllByRecursion MakesNone es → AllFit next es
none_fit next [] h = tt
none_fit next (e ∷ es) h = let q = one_fits next e h.0 in (q.0, subst (λ (k : ℕ). AllFit k es) (sym q.1) (none_fit next es h.1))

-- one that makes a vnode, and one that amends another
pair_fits : (b : Bool) (next n m : ℕ) (a : Amend) (x : Vnode) → FitsNames a.names → FitsNew next m x → AllFit next (cond b (makes m x ∷ amends n a ∷ []) (amends n a ∷ makes m x ∷ []))
pair_fits true next n m a x h k = (k, (h, tt))
pair_fits false next n m a x h k = (h, (k, tt))

-- ---- names

-- the names of a directory that is there
dir_by : (n : ℕ) (d : Fid) (v : Volume) (o : Option Vnode) → vnode_of d v ≡ o → is_some o ≡ true → IsFine v → IsDirectory (names_in o) × FitNames (names_in o)
dir_by n d v None e some f = absurd cc
dir_by n d v (Some x) e some f = let r : IsReadable d.vnode x = f.readable d.vnode x (own_found d.unique (get d.vnode v.vnodes) x e) in (r.names, r.fit)

dir_names : (d : Fid) (v : Volume) → is_some (vnode_of d v) ≡ true → IsFine v → IsDirectory (names_in (vnode_of d v)) × FitNames (names_in (vnode_of d v))
dir_names d v some f = dir_by 0 d v (vnode_of d v) refl some f

no_name : (o : Option Name) → not (is_some o) ≡ true → o ≡ None
no_name None e = refl
no_name (Some n) e = absurd cc

-- with one more name
added_fits : (n : Name) (names : List Name) → IsDirectory names × FitNames names → FitsName n → name_ok n.name ≡ true → named n.name names ≡ None → length names < most_names → IsDirectory (with_name n names) × FitNames (with_name n names)
added_fits n names h fit ok none room = (added_is_directory n names h.0 (room_for n.name names ok none room), each_with FitsName n names fit h.1)

-- with one less
removed_fits : (name : List ℕ) (names : List Name) → IsDirectory names × FitNames names → IsDirectory (without_name name names) × FitNames (without_name name names)
removed_fits name names h = (removed_is_directory name names h.0, each_without FitsName name names h.1)

pub bytes_itself : (a : List ℕ) → bytes_eq a a ≡ true
bytes_itself [] = refl
bytes_itself (x ∷ xs) = rw (eq-eqb x x refl, bytes_itself xs) refl

gone_named : (name : List ℕ) (names : List Name) → named name (without_name name names) ≡ None
gone_named name names = named-without_name name name names ∙ rw (bytes_itself name) refl

renamed_fits : (n : Name) (new : List ℕ) (names : List Name) → IsDirectory names × FitNames names → FitsName n → name_ok new ≡ true → length (without_name new names) < most_names → IsDirectory (renamed n new names) × FitNames (renamed n new names)
renamed_fits n new names h fit ok room = added_fits (record n { name = new }) (without_name new names) (removed_fits new names h) fit ok (gone_named new names) room

less_by : (b : Bool) (name : List ℕ) (n m : Name) (ns : List Name) → bytes_eq n.name name ≡ b → cond b (Some n) (named name ns) ≡ Some m → (named name ns ≡ Some m → length (without_name name ns) < length ns) → length (cond (not b) (n ∷ without_name name ns) (without_name name ns)) < length ns + 1
less_by true name n m ns e at h = let s = shorter-without_name name ns in omega arith
less_by false name n m ns e at h = let s = h at in omega arith

-- where a name is taken out that is there
without_less : (name : List ℕ) (m : Name) (names : List Name) → named name names ≡ Some m → length (without_name name names) < length names
without_less name m [] e = absurd cc
without_less name m (n ∷ ns) e = let h = less_by (bytes_eq n.name name) name n m ns refl e (without_less name m ns) in omega arith

-- ---- what each call makes of a fine volume

first_of_two : (p : Edit → Bool) (b : Bool) (e d : Edit) → list_all p (cond b (e ∷ d ∷ []) (d ∷ e ∷ [])) ≡ true → p e ≡ true
first_of_two p true e d h = (both (p e) _ h).0
first_of_two p false e d h = (both (p e) _ (both (p d) _ h).1).0

creates_fit : (d : Fid) (name : List ℕ) (st : AfsStoreStatus) (links : Option ℕ) (k x : ℕ) (new : Vnode) (v : Volume) → new.names ≡ [] → (2 ≤ free_number new.kind v) × (free_number new.kind v ≤ 3 + 2 * length v.vnodes) → is_some (vnode_of d v) ≡ true → name_ok name ≡ true → named name (names_in (vnode_of d v)) ≡ None → length (names_in (vnode_of d v)) < most_names
    → list_all (edit_fits v) (ascending (creating d name st links new v)) ≡ true → IsFine v → AllFit v.next (ascending (creating d name st links new v))
creates_fit d name st links k x new v none free some ok fresh room lim f =
    let m : ℕ = free_number new.kind v in
    let a : Amend = record no_amend { names = Some (with_name (directory_name name m v.next) (names_in (vnode_of d v))); links = links } in
    let l = first_of_two (edit_fits v) (nat_lt m d.vnode) (makes m (with_status (Some st) new)) (amends d.vnode a) lim in
    let q = both (nat_lt (length v.vnodes) 4096) (not (is_last_count v.next)) l in
    let short : length v.vnodes < 4096 = ltb-true (length v.vnodes) 4096 q.0 in
    let up : m ≤ 3 + 2 * length v.vnodes = free.1 in
    let low : 2 ≤ m = free.0 in
    let high : m < 2 ^ 32 = omega arith in
    let next : v.next < 2 ^ 32 = counted_small v.next (nat_lt v.next last_count) refl q.1 in
    pair_fits (nat_lt m d.vnode) v.next d.vnode m a (with_status (Some st) new) (added_fits (directory_name name m v.next) (names_in (vnode_of d v)) (dir_names d v some f) (high, next) ok fresh room) (record { low = omega arith; high = high; unique = next; names = none })
  where
    counted_small : (n : ℕ) (b : Bool) → nat_lt n last_count ≡ b → not (not b) ≡ true → n < 2 ^ 32
    counted_small n true e h = let l : n < 4294967295 = ltb-true n 4294967295 e in omega arith
    counted_small n false e h = absurd cc

unlinks_none : (n : ℕ) (o : Option Vnode) → AllByRecursion MakesNone (unlinks n o)
unlinks_none n None = tt
unlinks_none n (Some x) = unlink_by (not (ops.is_kind x.kind a_directory) && nat_lt 1 x.links) n x
  where
    unlink_by : (b : Bool) (n : ℕ) (x : Vnode) → AllByRecursion MakesNone (cond b (amends n (record no_amend { links = Some (x.links - 1) }) ∷ []) (frees n ∷ []))
    unlink_by true n x = (tt, tt)
    unlink_by false n x = (tt, tt)

each_both : (P : Edit → Type 0) (a b : List Edit) → AllByRecursion P a → AllByRecursion P b → AllByRecursion P (a ++ b)
each_both P [] b h k = k
each_both P (e ∷ a) b h k = (h.0, each_both P a b h.1 k)

removes_fit : (d : Fid) (name : List ℕ) (links : Option ℕ) (v : Volume) → is_some (vnode_of d v) ≡ true → IsFine v → AllFit v.next (ascending (removing d name links v))
removes_fit d name links v some f = none_fit v.next _ (each_ascending MakesNone (removing d name links v) (removed_fits name (names_in (vnode_of d v)) (dir_names d v some f), unlinks_none (number_named (name_in d name v)) (ops.vnode_in d name v)))

may_by : (d f : Fid) (v : Volume) (o : Option Vnode) → vnode_of f v ≡ o → may_link d o ≡ true → IsFine v → (f.vnode < 2 ^ 32) × (f.unique < 2 ^ 32)
may_by d f v None e h fine = absurd cc
may_by d f v (Some x) e h fine =
    let r : IsReadable f.vnode x = fine.readable f.vnode x (own_found f.unique (get f.vnode v.vnodes) x e) in
    (r.number, subst (λ (u : ℕ). u < 2 ^ 32) (own_unique f.unique (get f.vnode v.vnodes) x e) r.unique)

links_fit : (d : Fid) (name : List ℕ) (f : Fid) (v : Volume) → is_some (vnode_of d v) ≡ true → may_link d (vnode_of f v) ≡ true → name_ok name ≡ true → named name (names_in (vnode_of d v)) ≡ None → length (names_in (vnode_of d v)) < most_names → IsFine v → AllFit v.next (ascending (linking d name f v))
links_fit d name f v some may ok fresh room fine = none_fit v.next _ (each_ascending MakesNone (linking d name f v) (added_fits (directory_name name f.vnode f.unique) (names_in (vnode_of d v)) (dir_names d v some fine) (may_by d f v (vnode_of f v) refl may fine) ok fresh room, (tt, tt)))

room_by : (a : Bool) (name : List ℕ) (names : List Name) (o : Option Name) → named name names ≡ o → (is_some o || a) ≡ true → (a ≡ true → length names < most_names) → IsDirectory names → length (without_name name names) < most_names
room_by a name names None e h w is = let s = shorter-without_name name names in let l = w h in omega arith
room_by a name names (Some m) e h w is = let s = without_less name m names e in let few : length names ≤ most_names = is.few in omega arith

moves_by : (b : Bool) (d e : Fid) (old new : List ℕ) (n : Name) (v : Volume) → nat_eq d.vnode e.vnode ≡ b → name_in d old v ≡ Some n → is_some (vnode_of d v) ≡ true → is_some (vnode_of e v) ≡ true → name_ok new ≡ true
    → (b || (is_some (name_in e new v) || nat_lt (length (names_in (vnode_of e v))) most_names)) ≡ true → IsFine v
    → AllByRecursion MakesNone (cond b (renames_within d n old new (named_vnode v (name_in e new v)) v) (renames_across d e n old new (is_directory (named_vnode v (Some n))) (named_vnode v (name_in e new v)) v))
moves_by true d e old new n v same at some other ok room f =
    let h = dir_names d v some f in
    let one = each_named FitsName old n (names_in (vnode_of d v)) h.1 at in
    let s = without_less old n (names_in (vnode_of d v)) at in
    let few : length (names_in (vnode_of d v)) ≤ most_names = h.0.few in
    let less = shorter-without_name new (without_name old (names_in (vnode_of d v))) in
    (renamed_fits n new (without_name old (names_in (vnode_of d v))) (removed_fits old (names_in (vnode_of d v)) h) one ok (omega arith), tt)
moves_by false d e old new n v same at some other ok room f =
    let h = dir_names d v some f in
    let k = dir_names e v other f in
    let one = each_named FitsName old n (names_in (vnode_of d v)) h.1 at in
    (removed_fits old (names_in (vnode_of d v)) h, (renamed_fits n new (names_in (vnode_of e v)) k one ok (room_by (nat_lt (length (names_in (vnode_of e v))) most_names) new (names_in (vnode_of e v)) (name_in e new v) refl room (λ t. ltb-true (length (names_in (vnode_of e v))) most_names t) k.0), (tt, tt)))

renames_fit : (d e : Fid) (old new : List ℕ) (o : Option Name) (v : Volume) → name_in d old v ≡ o → is_some (vnode_of d v) ≡ true → is_some (vnode_of e v) ≡ true → name_ok new ≡ true
    → (nat_eq d.vnode e.vnode || (is_some (name_in e new v) || nat_lt (length (names_in (vnode_of e v))) most_names)) ≡ true → IsFine v → AllFit v.next (ascending (renaming d e old new o (name_in e new v) v))
renames_fit d e old new None v at some other ok room f = tt
renames_fit d e old new (Some n) v at some other ok room f = none_fit v.next _ (each_ascending MakesNone _ (each_both MakesNone _ _ (moves_by (nat_eq d.vnode e.vnode) d e old new n v refl at some other ok room f) (unlinks_none (number_named (name_in e new v)) (named_vnode v (name_in e new v)))))

-- the free numbers of each kind
free_by : (k : VnodeKind) (v : Volume) → (2 ≤ free_number k v) × (free_number k v ≤ 3 + 2 * length v.vnodes)
free_by a_directory v = let a = free_from 3 v.vnodes in let b = free_bound 3 v.vnodes in (omega arith, b)
free_by k v = let a = free_from 2 v.vnodes in let b = free_bound 2 v.vnodes in (a, omega arith)

-- a change fits, whatever call it is of
abbrev Fits : ℕ → Result → Type 0
Fits next (changes es n) = AllFit next es
Fits next r = ⊤

-- the limits of what an effect makes
abbrev IsLimited : ℕ → Volume → Result → Type 0
IsLimited id v (changes es n) = list_all (edit_fits v) es ≡ true
IsLimited id v r = ⊤

read_fits : (next : ℕ) (show : ops.Found → ops.Shown) (g : Fid) (o : Option Vnode) → Fits next (ops.read_by show g o)
read_fits next show g None = tt
read_fits next show g (Some x) = tt

-- the tests of a rename behind those of the kinds
abbrev last_tests : Caller → Fid → List ℕ → Fid → List ℕ → Volume → List (Bool × ℕ)
last_tests caller d old e new v =
    ops.is_read_write v ∷ (ops.rename_rights caller d e new v, 13)
    ∷ (name_ok new && (not (ops.is_same_name d old e new) && ops.may_move d e (name_in d old v) (name_in e new v) v (ops.vnode_in d old v)), 22)
    ∷ (is_some (name_in d old v), 2) ∷ (ops.has_no_names (ops.vnode_in e new v), 39) ∷ (ops.has_room_for d e new v, 27) ∷ []

last_fits : (caller : Caller) (d e : Fid) (old new : List ℕ) (v : Volume) → is_some (vnode_of d v) ≡ true → is_some (vnode_of e v) ≡ true → AllHold (last_tests caller d old e new v) → IsFine v → AllFit v.next (ascending (renaming d e old new (name_in d old v) (name_in e new v) v))
last_fits caller d e old new v a b q f = renames_fit d e old new (name_in d old v) v refl a b (both (name_ok new) _ q.1.1.0).0 q.1.1.1.1.1.0 f

kinds_hold : (a b : Option Vnode) (ts : List (Bool × ℕ)) → AllHold (ops.kinds_agree a b ++ ts) → AllHold ts
kinds_hold None b ts q = q
kinds_hold (Some x) None ts q = q
kinds_hold (Some x) (Some y) ts q = q.1.1

rename_by : (b : Bool) (caller : Caller) (d e : Fid) (old new : List ℕ) (v : Volume) → AllHold (cond b (ops.rename_tests caller d old e new v) (ops.rename_out_tests caller d v)) → IsFine v → AllFit v.next (ascending (renaming d e old new (name_in d old v) (name_in e new v) v))
rename_by false caller d e old new v k f = let z : false ≡ true = k.1.1.1.1.0 in absurd cc
rename_by true caller d e old new v k f = last_fits caller d e old new v k.0 k.1.0 (kinds_hold (ops.vnode_in d old v) (ops.vnode_in e new v) (last_tests caller d old e new v) k.1.1.1) f

call_fits : (id : ℕ) (caller : Caller) (call : FsCall) (v : Volume) → (volume_called call ≡ None → ⊥) → AllHold (tests caller call v) → IsLimited id v (effect caller call v) → IsFine v → Fits v.next (effect caller call v)
call_fits id caller (calls.FetchData g p w) v of h lim f = read_fits v.next ops.shows_body g (vnode_of g v)
call_fits id caller (calls.FetchAcl g) v of h lim f = read_fits v.next ops.shows_acl g (vnode_of g v)
call_fits id caller (calls.FetchStatus g) v of h lim f = read_fits v.next ops.shows_status g (vnode_of g v)
call_fits id caller (calls.StoreData g st p w l b) v of h lim f = (tt, tt)
call_fits id caller (calls.StoreAcl g acl) v of h lim f = (tt, tt)
call_fits id caller (calls.StoreStatus g st) v of h lim f = (tt, tt)
call_fits id caller (calls.RemoveFile d name) v of h lim f = removes_fit d name None v h.0 f
call_fits id caller (calls.CreateFile d name st) v of h lim f = creates_fit d name st None 0 0 (new_file d) v refl (free_by a_file v) h.0 (both _ _ h.1.1.1.1.0).1 (no_name _ h.1.1.1.1.1.0) (ltb-true _ _ h.1.1.1.1.1.1.0) lim f
call_fits id caller (calls.Rename d old e new) v of h lim f = rename_by (nat_eq e.volume d.volume) caller d e old new v h f
call_fits id caller (calls.Symlink d name target st) v of h lim f = creates_fit d name st None 0 0 (new_link d target) v refl (free_by a_link v) h.0 (both _ _ h.1.1.1.1.0).1 (no_name _ h.1.1.1.1.1.0) (ltb-true _ _ h.1.1.1.1.1.1.0) lim f
call_fits id caller (calls.Link d name g) v of h lim f =
    let q = both _ (name_ok name) h.1.1.1.1.1.0 in
    links_fit d name g v h.0 (both (nat_eq g.volume d.volume) (may_link d (vnode_of g v)) q.0).1 q.1 (no_name _ h.1.1.1.1.1.1.0) (ltb-true _ _ h.1.1.1.1.1.1.1.0) f
call_fits id caller (calls.MakeDir d name st) v of h lim f = creates_fit d name st (Some (links_of (vnode_of d v) + 1)) 0 0 (new_directory d (ops.acl_of (vnode_of d v))) v refl (free_by a_directory v) h.0 (both _ _ h.1.1.1.1.0).1 (no_name _ h.1.1.1.1.1.0) (ltb-true _ _ h.1.1.1.1.1.1.0) lim f
call_fits id caller (calls.RemoveDir d name) v of h lim f = removes_fit d name (Some (links_of (vnode_of d v) - 1)) v h.0 f
call_fits id caller (calls.GetVolumeStatus k) v of h lim f = tt
call_fits id caller call v of h lim f = absurd (of refl)

-- an operation leaves a fine volume fine
pub op_fine : (id : ℕ) (caller : Caller) (call : FsCall) (v : Volume) (es : List Edit) (n : ℕ) → (volume_called call ≡ None → ⊥) → op id caller call v ≡ changes es n → IsFine v → IsFine (counted (edited_all id es v))
op_fine id caller call v es n of e f =
    let a : Accepted id caller call v es n = accepted id caller call v es n e in
    let lim : list_all (edit_fits v) es ≡ true = (both (not (is_last_count v.counter)) _ (all_hold (limits id es v) a.fits).1.0).1 in
    let fits : AllFit v.next es = subst (Fits v.next) a.effected (call_fits id caller call v of (all_hold (tests caller call v) a.tested) (subst (IsLimited id v) (sym a.effected) lim) f) in
    let g : IsFine (edited_all id es v) = edits_fine id es v v.next (le_refl v.next) fits f in
    record { ascends = g.ascends; below = g.below; readable = g.readable; stays = g.stays }

-- ---- all volumes

one_by : (t : Bool) (new u : Volume) (o : Option Volume) → IsFine new → (o ≡ Some u → IsFine u) → cond t (Some new) o ≡ Some u → IsFine u
one_by true new u o f h e = subst IsFine (some_of new u e) f
one_by false new u o f h e = h e

pub fine_after : (id : ℕ) (caller : Caller) (call : FsCall) (v : Volume) (es : List Edit) (n : ℕ) (volumes : Table Stored) (x : Stored) → x.volume ≡ counted (edited_all id es v) → AreFine volumes → volume_called call ≡ Some id → volume_in id volumes ≡ Some v → op id caller call v ≡ changes es n → AreFine (set id x volumes)
fine_after id caller call v es n volumes x is h of at e i u found = one_by (eqb id i) (counted (edited_all id es v)) u (volume_in i volumes) (op_fine id caller call v es n (λ z. absurd cc) e (h id v at)) (h i u) (sym (volume_put id i x (counted (edited_all id es v)) volumes is) ∙ found)

-- ---- the set-up

one_first : (n : ℕ) (o : Option Vnode) (t : Table Vnode) (next : ℕ) → get n t ≡ o → AscendsFrom 1 t → ((m : ℕ) (x : Vnode) → get m t ≡ Some x → x.unique < next) → ((m : ℕ) (x : Vnode) → get m t ≡ Some x → IsReadable m x)
    → AscendsFrom 1 (one_at_first n o t) × (((m : ℕ) (x : Vnode) → get m (one_at_first n o t) ≡ Some x → x.unique < next) × ((m : ℕ) (x : Vnode) → get m (one_at_first n o t) ≡ Some x → IsReadable m x))
one_first n None t next e a b r = (a, (b, r))
one_first n (Some x) t next e a b r =
    let w : IsReadable n x = r n x e in (
      ascends_set 1 n (at_first x) t (low_by n t x (ltb n 1) refl a e) a,
      (at_set (λ m y. y.unique < next) n (at_first x) t (b n x e) b, at_set IsReadable n (at_first x) t (record { number = w.number; unique = w.unique; names = w.names; fit = w.fit }) r),
    )

all_first : (es : List Edit) (t : Table Vnode) (next : ℕ) → AscendsFrom 1 t → ((m : ℕ) (x : Vnode) → get m t ≡ Some x → x.unique < next) → ((m : ℕ) (x : Vnode) → get m t ≡ Some x → IsReadable m x)
    → AscendsFrom 1 (all_at_first es t) × (((m : ℕ) (x : Vnode) → get m (all_at_first es t) ≡ Some x → x.unique < next) × ((m : ℕ) (x : Vnode) → get m (all_at_first es t) ≡ Some x → IsReadable m x))
all_first [] t next a b r = (a, (b, r))
all_first (e ∷ es) t next a b r =
    let q = one_first (edit_number e) (get (edit_number e) t) t next refl a b r in
    all_first es (one_at_first (edit_number e) (get (edit_number e) t) t) next q.0 q.1.0 q.1.1

-- what was laid is fine
abbrev pub FineIn : std_result.Result Volume ℕ → Type 0
FineIn (Ok v) = IsFine v
FineIn (Err code) = ⊤

laid_fine_by : (id : ℕ) (call : FsCall) (v : Volume) (r : Result) → (volume_called call ≡ None → ⊥) → op id all_rights call v ≡ r → IsFine v → FineIn (laid_by id r v)
laid_fine_by id call v (ops.refused code) of e f = tt
laid_fine_by id call v (ops.reads shown) of e f = tt
laid_fine_by id call v ops.no_operation of e f = tt
laid_fine_by id call v (changes es n) of e f =
    let g : IsFine (counted (edited_all id es v)) = op_fine id all_rights call v es n of e f in
    let q = all_first es (counted (edited_all id es v)).vnodes (counted (edited_all id es v)).next g.ascends g.below g.readable in
    record { ascends = q.0; below = q.1.0; readable = q.1.1; stays = g.stays }

called_fine : (id : ℕ) (call : FsCall) (v : Volume) → (volume_called call ≡ None → ⊥) → IsFine v → FineIn (called id call v)
called_fine id call v of f = laid_fine_by id call v (op id all_rights call v) of refl f

then_fine : {A : Type 0} → (r : std_result.Result A ℕ) (next : A → std_result.Result Volume ℕ) → ((x : A) → r ≡ Ok x → FineIn (next x)) → FineIn (r >>= next)
then_fine {A} (Ok x) next h = h x refl
then_fine {A} (Err code) next h = tt

fine_of : (r : std_result.Result Volume ℕ) (w : Volume) → FineIn r → r ≡ Ok w → IsFine w
fine_of r w h e = subst FineIn e h

file_fine : (id : ℕ) (v : Volume) (d : Fid) (name bytes : List ℕ) → IsFine v → FineIn (laid_in id v d name (a_file_of bytes))
file_fine id v d name bytes f =
    then_fine (called id (calls.CreateFile d name nothing_set) v) (λ made. called id (stores_all (new_fid id v) bytes) made)
    (λ made e. called_fine id (stores_all (new_fid id v) bytes) made (λ z. absurd cc) (fine_of (called id (calls.CreateFile d name nothing_set) v) made (called_fine id (calls.CreateFile d name nothing_set) v (λ z. absurd cc) f) e))

in_fine : (id : ℕ) (v : Volume) (d : Fid) (name : List ℕ) (x : Laid) → IsFine v → FineIn (laid_in id v d name x)
in_fine id v d name a_dir f = called_fine id (calls.MakeDir d name nothing_set) v (λ z. absurd cc) f
in_fine id v d name (a_file_of bytes) f = file_fine id v d name bytes f
in_fine id v d name (a_link_to target) f = called_fine id (calls.Symlink d name target nothing_set) v (λ z. absurd cc) f

path_fine : (id : ℕ) (path : List (List ℕ)) (x : Laid) (v : Volume) → IsFine v → FineIn (laid_at id path x v)
unfolding laid_at
path_fine id path x v f =
    then_fine (ok_or (parted path) 22) (λ parts. led id v parts.0 >>= (λ at. laid_in id v at.fid parts.1 x))
    (λ parts e. then_fine (led id v parts.0) (λ at. laid_in id v at.fid parts.1 x) (λ at g. in_fine id v at.fid parts.1 x f))

list_fine : (id : ℕ) (path : List (List ℕ)) (text : List ℕ) (v : Volume) → IsFine v → FineIn (acl_laid id path text v)
unfolding acl_laid
list_fine id path text v f = then_fine (led id v path) (λ at. called id (calls.StoreAcl at.fid text) v) (λ at g. called_fine id (calls.StoreAcl at.fid text) v (λ z. absurd cc) f)

over_fine : (t : Bool) (r : std_result.Result Volume ℕ) → FineIn r → FineIn (cond t (Err 27) r)
over_fine true r h = tt
over_fine false r h = h

line_fine : (id : ℕ) (l : SetupLine) (v : Volume) → IsFine v → FineIn (laid id l v)
line_fine id (setup.Directory path) v f = path_fine id path a_dir v f
line_fine id (setup.File path contents) v f = path_fine id path (a_file_of (bytes_in contents)) v f
line_fine id (setup.Link path target) v f = over_fine (nat_lt most_contents (length (bytes_in target))) (laid_at id path (a_link_to (bytes_in target)) v) (path_fine id path (a_link_to (bytes_in target)) v f)
line_fine id (setup.AccessList path text) v f = over_fine (nat_lt most_acl (length (bytes_in text))) (acl_laid id path (bytes_in text) v) (list_fine id path (bytes_in text) v f)

or_fine : (v : Volume) (r : std_result.Result Volume ℕ) → FineIn r → IsFine v → IsFine (laid_or v r)
or_fine v (Ok w) h f = h
or_fine v (Err code) h f = f

all_fine : (id : ℕ) (ls : List SetupLine) (v : Volume) → IsFine v → IsFine (filled_by id ls v)
all_fine id [] v f = f
all_fine id (l ∷ ls) v f = all_fine id ls (laid_or v (laid id l v)) (or_fine v (laid id l v) (line_fine id l v f) f)

root_by : (P : ℕ → Vnode → Type 0) (t : Bool) (n : ℕ) (x : Vnode) → eqb 1 n ≡ t → P 1 new_root → cond t (Some new_root) None ≡ Some x → P n x
root_by P true n x t p e = subst (λ (k : ℕ). P k x) (eqb-true 1 n t) (subst (P 1) (some_of new_root x e) p)
root_by P false n x t p e = absurd cc

new_fine : (family : ℕ) (name : List ℕ) (kind quota : ℕ) → IsFine (new_volume family name kind 0 quota)
new_fine family name kind quota = record {
  ascends = (le_refl 1, tt);
  below = λ n x e. root_by (λ m y. y.unique < 2) (eqb 1 n) n x refl (omega arith) e;
  readable = λ n x e. root_by IsReadable (eqb 1 n) n x refl (record { number = omega arith; unique = omega arith; names = no_names; fit = tt }) e;
  stays = refl;
}

pub first_fine : (v : VolumeLine) → IsFine (first_volume v)
first_fine v = all_fine v.id v.lines (empty_volume v) (new_fine v.id v.name 0 v.quota)
