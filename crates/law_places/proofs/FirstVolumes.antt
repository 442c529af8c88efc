-- Set-up lays read-write volumes in service, and nothing else.
use Rattle.std.proofs.Common.{◌≡◌, ℕ, ◌+◌, Bool, true, false, cond, List, [], ◌∷◌, Option, Some, refl, sym, ap, ◌∙◌, arith}
use Rattle.std.specs.Prelude.{⊤, ◌&&◌, nat_eq, nat_lt, Result, Ok, Err, is_some, length}
use Rattle.std.specs.List.{AllByRecursion}
use Rattle.std.specs.Option.{ok_or}
use Rattle.afs_num.specs.declared.calls.FsCall.{FsCall}
use Rattle.afs_num.specs.declared.calls.FsCall.TheVariants as calls
use Rattle.afs_num.specs.declared.types.Fid.{Fid}
use Rattle.spec_history.specs.declared.scripts.SetupLine.{SetupLine}
use Rattle.spec_history.specs.declared.scripts.SetupLine.TheVariants as lines
use Rattle.spec_history.specs.declared.scripts.VolumeLine.{VolumeLine}
use Rattle.spec_history.specs.Written.{bytes_in}
use Rattle.spec_shape.specs.Reading.{◌>>=◌}
use Rattle.spec_ideal.specs.Operations as operations
use Rattle.spec_ideal.specs.Operations.{all_rights, op}
use Rattle.spec_ideal.specs.SetUp.{a_dir, a_file_of, a_link_to, acl_laid, called, empty_volume, filled_by, first_volume, laid, laid_at, laid_by, laid_in, laid_or, led, new_fid, nothing_set, parted, stores_all, Laid}
use Rattle.spec_ideal.specs.Tables.{get, set, AscendsFrom, Table}
use Rattle.spec_ideal.proofs.Tables.{ascends_set}
use Rattle.spec_ideal.specs.VnodeImage.{most_acl, most_contents}
use Rattle.spec_ideal.specs.Volumes.{Volume}
use Rattle.spec_records.specs.Changes.{at_set_up}
use Rattle.spec_records.specs.Durable.{Stored}
use Rattle.spec_records.proofs.Kept.{same_rest}
use Rattle.spec_rows.specs.Runs.{counts_later, first_stored, placed_at, first_volumes_at}
use Rattle.law_places.specs.Accepting.{is_in_service, has_in_service}

-- a read-write volume with flags 0
abbrev is_plain : Volume → Bool
is_plain v = nat_eq v.kind 0 && nat_eq v.flags 0

-- ---- lines of set-up leave kind and flags

KeepsService : Volume → Result Volume ℕ → Type 0
KeepsService v (Ok w) = is_plain w ≡ is_plain v
KeepsService v (Err code) = ⊤

by_laid : (id : ℕ) (r : operations.Result) (v : Volume) → KeepsService v (laid_by id r v)
unfolding KeepsService
by_laid id (operations.refused code) v = tt
by_laid id (operations.changes es n) v = ap is_plain (same_rest id es v)
by_laid id (operations.reads shown) v = tt
by_laid id operations.no_operation v = tt

called_keeps : (id : ℕ) (call : FsCall) (v : Volume) → KeepsService v (called id call v)
called_keeps id call v = by_laid id (op id all_rights call v) v

then_keeps : {A : Type 0} (v : Volume) (r : Result A ℕ) (f : A → Result Volume ℕ) → ((a : A) → KeepsService v (f a)) → KeepsService v (r >>= f)
unfolding KeepsService
then_keeps {A} v (Ok a) f h = h a
then_keeps {A} v (Err code) f h = tt

later_keeps : (v w : Volume) (r : Result Volume ℕ) → is_plain w ≡ is_plain v → KeepsService w r → KeepsService v r
unfolding KeepsService
later_keeps v w (Ok x) same h = h ∙ same
later_keeps v w (Err code) same h = tt

two_keep : (v : Volume) (r : Result Volume ℕ) (f : Volume → Result Volume ℕ) → KeepsService v r → ((w : Volume) → KeepsService w (f w)) → KeepsService v (r >>= f)
unfolding KeepsService
two_keep v (Ok w) f h k = later_keeps v w (f w) h (k w)
two_keep v (Err code) f h k = tt

in_keeps : (id : ℕ) (v : Volume) (d : Fid) (name : List ℕ) (x : Laid) → KeepsService v (laid_in id v d name x)
in_keeps id v d name a_dir = called_keeps id (calls.MakeDir d name nothing_set) v
in_keeps id v d name (a_link_to target) = called_keeps id (calls.Symlink d name target nothing_set) v
in_keeps id v d name (a_file_of bytes) =
    two_keep v (called id (calls.CreateFile d name nothing_set) v) (λ (made : Volume). called id (stores_all (new_fid id v) bytes) made) (called_keeps id (calls.CreateFile d name nothing_set) v)
    (λ made. called_keeps id (stores_all (new_fid id v) bytes) made)

at_keeps : (id : ℕ) (path : List (List ℕ)) (x : Laid) (v : Volume) → KeepsService v (laid_at id path x v)
unfolding laid_at
at_keeps id path x v = then_keeps v (ok_or (parted path) 22) _ (λ parts. then_keeps v (led id v parts.0) _ (λ at. in_keeps id v at.fid parts.1 x))

acl_keeps : (id : ℕ) (path : List (List ℕ)) (text : List ℕ) (v : Volume) → KeepsService v (acl_laid id path text v)
unfolding acl_laid
acl_keeps id path text v = then_keeps v (led id v path) _ (λ at. called_keeps id (calls.StoreAcl at.fid text) v)

unless_keeps : (b : Bool) (v : Volume) (r : Result Volume ℕ) → KeepsService v r → KeepsService v (cond b (Err 27) r)
unfolding KeepsService
unless_keeps true v r h = tt
unless_keeps false v r h = h

laid_keeps : (id : ℕ) (l : SetupLine) (v : Volume) → KeepsService v (laid id l v)
laid_keeps id (lines.Directory path) v = at_keeps id path a_dir v
laid_keeps id (lines.File path contents) v = at_keeps id path (a_file_of (bytes_in contents)) v
laid_keeps id (lines.Link path target) v = unless_keeps (nat_lt most_contents (length (bytes_in target))) v _ (at_keeps id path (a_link_to (bytes_in target)) v)
laid_keeps id (lines.AccessList path text) v = unless_keeps (nat_lt most_acl (length (bytes_in text))) v _ (acl_keeps id path (bytes_in text) v)

or_keeps : (v : Volume) (r : Result Volume ℕ) → KeepsService v r → is_plain (laid_or v r) ≡ is_plain v
unfolding KeepsService
or_keeps v (Ok w) h = h
or_keeps v (Err code) h = refl

filled_keeps : (id : ℕ) (ls : List SetupLine) (v : Volume) → is_plain (filled_by id ls v) ≡ is_plain v
filled_keeps id [] v = refl
filled_keeps id (l ∷ ls) v = filled_keeps id ls (laid_or v (laid id l v)) ∙ or_keeps v (laid id l v) (laid_keeps id l v)

-- ---- the volumes of a script

abbrev Plain : ℕ × Volume → Type 0
Plain p = is_plain p.1 ≡ true

set_by : (a b : Bool) (n : ℕ) (x : Volume) (p : ℕ × Volume) (ps later : Table Volume) → is_plain x ≡ true → Plain p → AllByRecursion Plain ps → AllByRecursion Plain later → AllByRecursion Plain (cond a ((n, x) ∷ ps) (cond b ((n, x) ∷ p ∷ ps) (p ∷ later)))
set_by true b n x p ps later h k all rest = (h, all)
set_by false true n x p ps later h k all rest = (h, (k, all))
set_by false false n x p ps later h k all rest = (k, rest)

all_set : (n : ℕ) (x : Volume) (t : Table Volume) → is_plain x ≡ true → AllByRecursion Plain t → AllByRecursion Plain (set n x t)
all_set n x [] h all = (h, tt)
all_set n x (p ∷ ps) h all = set_by (nat_eq p.0 n) (nat_lt n p.0) n x p ps (set n x ps) h all.0 all.1 (all_set n x ps h all.1)

placed_plain : (a b : Bool) (l : VolumeLine) (t : Table Volume) → AllByRecursion Plain t → AllByRecursion Plain (placed_at a b l.id (first_volume l) t)
placed_plain true b l t all = all
placed_plain false true l t all = all_set l.id (first_volume l) t (filled_keeps l.id l.lines (empty_volume l)) all
placed_plain false false l t all = all

all_plain : (i : ℕ) (ls : List VolumeLine) → AllByRecursion Plain (first_volumes_at i ls)
all_plain i [] = tt
all_plain i (l ∷ ls) = placed_plain (counts_later l.id ls) (nat_eq l.server i) l (first_volumes_at i ls) (all_plain i ls)

found_by : (b : Bool) (v : Volume) (o : Option Volume) (q : Option Stored) → is_plain v ≡ true → is_some o ≡ is_in_service q → is_some (cond b (Some v) o) ≡ is_in_service (cond b (Some (at_set_up v)) q)
found_by true v o q h k = sym h
found_by false v o q h k = k

stored_serves : (id : ℕ) (t : Table Volume) → AllByRecursion Plain t → is_some (get id t) ≡ has_in_service (first_stored t) id
stored_serves id [] all = refl
stored_serves id (p ∷ ps) all = found_by (nat_eq p.0 id) p.1 (get id ps) (get id (first_stored ps)) all.0 (stored_serves id ps all.1)

pub first_serves : (id i : ℕ) (ls : List VolumeLine) → is_some (get id (first_volumes_at i ls)) ≡ has_in_service (first_stored (first_volumes_at i ls)) id
first_serves id i ls = stored_serves id (first_volumes_at i ls) (all_plain i ls)

-- ---- by ascending numbers

placed_ascends : (a b : Bool) (id : ℕ) (v : Volume) (t : Table Volume) → AscendsFrom 0 t → AscendsFrom 0 (placed_at a b id v t)
placed_ascends true b id v t up = up
placed_ascends false true id v t up = ascends_set 0 id v t (omega arith) up
placed_ascends false false id v t up = up

all_ascend : (i : ℕ) (ls : List VolumeLine) → AscendsFrom 0 (first_volumes_at i ls)
all_ascend i [] = tt
all_ascend i (l ∷ ls) = placed_ascends (counts_later l.id ls) (nat_eq l.server i) l.id (first_volume l) (first_volumes_at i ls) (all_ascend i ls)

stored_ascend : (m : ℕ) (t : Table Volume) → AscendsFrom m t → AscendsFrom m (first_stored t)
stored_ascend m [] up = tt
stored_ascend m (p ∷ ps) up = (up.0, stored_ascend (p.0 + 1) ps up.1)

pub first_ascends : (i : ℕ) (ls : List VolumeLine) → AscendsFrom 0 (first_stored (first_volumes_at i ls))
first_ascends i ls = stored_ascend 0 (first_volumes_at i ls) (all_ascend i ls)
