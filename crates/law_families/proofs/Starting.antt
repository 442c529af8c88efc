-- Set-up lays volumes that are their families.
use Rattle.std.proofs.Common.{◌≡◌, ℕ, Bool, true, false, cond, List, [], ◌∷◌, refl, ap, ◌∙◌}
use Rattle.std.specs.Prelude.{⊤, nat_eq, nat_lt, Result, Ok, Err, length}
use Rattle.std.specs.List.{AllByRecursion}
use Rattle.std.specs.Option.{ok_or}
use Rattle.afs_num.specs.declared.calls.FsCall.{FsCall}
use Rattle.afs_num.specs.declared.calls.FsCall.TheVariants as calls
use Rattle.afs_num.specs.declared.types.Fid.{Fid}
use Rattle.spec_history.specs.declared.scripts.SetupLine.{SetupLine}
use Rattle.spec_history.specs.declared.scripts.SetupLine.TheVariants as lines
use Rattle.spec_history.specs.declared.scripts.VolumeLine.{VolumeLine}
use Rattle.spec_history.specs.Written.{bytes_in}
use Rattle.spec_shape.specs.Reading.{◌>>=◌}
use Rattle.spec_ideal.specs.Operations as operations
use Rattle.spec_ideal.specs.Operations.{all_rights, op}
use Rattle.spec_ideal.specs.SetUp.{a_dir, a_file_of, a_link_to, acl_laid, called, empty_volume, filled_by, first_volume, laid, laid_at, laid_by, laid_in, laid_or, led, new_fid, nothing_set, parted, stores_all, Laid}
use Rattle.spec_ideal.specs.Tables.{set, Table}
use Rattle.spec_ideal.specs.VnodeImage.{most_acl, most_contents}
use Rattle.spec_ideal.specs.Volumes.{Volume}
use Rattle.spec_records.proofs.Kept.{same_rest}
use Rattle.spec_rows.specs.Runs.{counts_later, first_stored, placed_at, first_volumes_at}
use Rattle.law_families.proofs.Volumes.{AreOwn}

-- ---- lines of set-up leave the family

KeepsFamily : Volume → Result Volume ℕ → Type 0
KeepsFamily v (Ok w) = w.family ≡ v.family
KeepsFamily v (Err code) = ⊤

by_laid : (id : ℕ) (r : operations.Result) (v : Volume) → KeepsFamily v (laid_by id r v)
unfolding KeepsFamily
by_laid id (operations.refused code) v = tt
by_laid id (operations.changes es n) v = ap (λ (w : Volume). w.family) (same_rest id es v)
by_laid id (operations.reads shown) v = tt
by_laid id operations.no_operation v = tt

called_keeps : (id : ℕ) (call : FsCall) (v : Volume) → KeepsFamily v (called id call v)
called_keeps id call v = by_laid id (op id all_rights call v) v

then_keeps : {A : Type 0} (v : Volume) (r : Result A ℕ) (f : A → Result Volume ℕ) → ((a : A) → KeepsFamily v (f a)) → KeepsFamily v (r >>= f)
unfolding KeepsFamily
then_keeps {A} v (Ok a) f h = h a
then_keeps {A} v (Err code) f h = tt

later_keeps : (v w : Volume) (r : Result Volume ℕ) → w.family ≡ v.family → KeepsFamily w r → KeepsFamily v r
unfolding KeepsFamily
later_keeps v w (Ok x) same h = h ∙ same
later_keeps v w (Err code) same h = tt

two_keep : (v : Volume) (r : Result Volume ℕ) (f : Volume → Result Volume ℕ) → KeepsFamily v r → ((w : Volume) → KeepsFamily w (f w)) → KeepsFamily v (r >>= f)
unfolding KeepsFamily
two_keep v (Ok w) f h k = later_keeps v w (f w) h (k w)
two_keep v (Err code) f h k = tt

in_keeps : (id : ℕ) (v : Volume) (d : Fid) (name : List ℕ) (x : Laid) → KeepsFamily v (laid_in id v d name x)
in_keeps id v d name a_dir = called_keeps id (calls.MakeDir d name nothing_set) v
in_keeps id v d name (a_link_to target) = called_keeps id (calls.Symlink d name target nothing_set) v
in_keeps id v d name (a_file_of bytes) =
    two_keep v (called id (calls.CreateFile d name nothing_set) v) (λ (made : Volume). called id (stores_all (new_fid id v) bytes) made) (called_keeps id (calls.CreateFile d name nothing_set) v)
    (λ made. called_keeps id (stores_all (new_fid id v) bytes) made)

at_keeps : (id : ℕ) (path : List (List ℕ)) (x : Laid) (v : Volume) → KeepsFamily v (laid_at id path x v)
unfolding laid_at
at_keeps id path x v = then_keeps v (ok_or (parted path) 22) _ (λ parts. then_keeps v (led id v parts.0) _ (λ at. in_keeps id v at.fid parts.1 x))

acl_keeps : (id : ℕ) (path : List (List ℕ)) (text : List ℕ) (v : Volume) → KeepsFamily v (acl_laid id path text v)
unfolding acl_laid
acl_keeps id path text v = then_keeps v (led id v path) _ (λ at. called_keeps id (calls.StoreAcl at.fid text) v)

unless_keeps : (b : Bool) (v : Volume) (r : Result Volume ℕ) → KeepsFamily v r → KeepsFamily v (cond b (Err 27) r)
unfolding KeepsFamily
unless_keeps true v r h = tt
unless_keeps false v r h = h

laid_keeps : (id : ℕ) (l : SetupLine) (v : Volume) → KeepsFamily v (laid id l v)
laid_keeps id (lines.Directory path) v = at_keeps id path a_dir v
laid_keeps id (lines.File path contents) v = at_keeps id path (a_file_of (bytes_in contents)) v
laid_keeps id (lines.Link path target) v = unless_keeps (nat_lt most_contents (length (bytes_in target))) v _ (at_keeps id path (a_link_to (bytes_in target)) v)
laid_keeps id (lines.AccessList path text) v = unless_keeps (nat_lt most_acl (length (bytes_in text))) v _ (acl_keeps id path (bytes_in text) v)

or_keeps : (v : Volume) (r : Result Volume ℕ) → KeepsFamily v r → (laid_or v r).family ≡ v.family
unfolding KeepsFamily
or_keeps v (Ok w) h = h
or_keeps v (Err code) h = refl

filled_keeps : (id : ℕ) (ls : List SetupLine) (v : Volume) → (filled_by id ls v).family ≡ v.family
filled_keeps id [] v = refl
filled_keeps id (l ∷ ls) v = filled_keeps id ls (laid_or v (laid id l v)) ∙ or_keeps v (laid id l v) (laid_keeps id l v)

-- ---- the volumes of a script

abbrev IsItsFamily : ℕ × Volume → Type 0
IsItsFamily p = p.1.family ≡ p.0

set_by : (a b : Bool) (n : ℕ) (x : Volume) (p : ℕ × Volume) (ps later : Table Volume) → x.family ≡ n → IsItsFamily p → AllByRecursion IsItsFamily ps → AllByRecursion IsItsFamily later → AllByRecursion IsItsFamily (cond a ((n, x) ∷ ps) (cond b ((n, x) ∷ p ∷ ps) (p ∷ later)))
set_by true b n x p ps later h k all rest = (h, all)
set_by false true n x p ps later h k all rest = (h, (k, all))
set_by false false n x p ps later h k all rest = (k, rest)

all_set : (n : ℕ) (x : Volume) (t : Table Volume) → x.family ≡ n → AllByRecursion IsItsFamily t → AllByRecursion IsItsFamily (set n x t)
all_set n x [] h all = (h, tt)
all_set n x (p ∷ ps) h all = set_by (nat_eq p.0 n) (nat_lt n p.0) n x p ps (set n x ps) h all.0 all.1 (all_set n x ps h all.1)

placed_all : (a b : Bool) (l : VolumeLine) (t : Table Volume) → AllByRecursion IsItsFamily t → AllByRecursion IsItsFamily (placed_at a b l.id (first_volume l) t)
placed_all true b l t all = all
placed_all false true l t all = all_set l.id (first_volume l) t (filled_keeps l.id l.lines (empty_volume l)) all
placed_all false false l t all = all

laid_all : (i : ℕ) (ls : List VolumeLine) → AllByRecursion IsItsFamily (first_volumes_at i ls)
laid_all i [] = tt
laid_all i (l ∷ ls) = placed_all (counts_later l.id ls) (nat_eq l.server i) l (first_volumes_at i ls) (laid_all i ls)

stored_own : (t : Table Volume) → AllByRecursion IsItsFamily t → AreOwn (first_stored t)
stored_own [] all = tt
stored_own (p ∷ ps) all = ((λ read_write. all.0), stored_own ps all.1)

pub first_own : (i : ℕ) (ls : List VolumeLine) → AreOwn (first_stored (first_volumes_at i ls))
first_own i ls = stored_own (first_volumes_at i ls) (laid_all i ls)
