-- The walks of acts, step by step: what is reached, with the reads behind it, or what is needed before.
use Rattle.std.specs.Prelude.{ℕ, ◌||◌, ◌&&◌, List, [], ◌∷◌, Bool, true, false, not, Option, Some, None, Result, Ok, Err, if◌then◌else◌}
use Rattle.spec_history.specs.declared.acts.Operand.{Operand}
use Rattle.spec_history.specs.declared.acts.Operand.TheVariants as operands
use Rattle.spec_history.specs.declared.acts.Path.{Path}
use Rattle.afs_num.specs.declared.directories.Name.{Name}
use Rattle.afs_num.specs.declared.types.Fid.{Fid}
use Rattle.afs_num.specs.declared.histories.Body.{Body}
use Rattle.afs_num.specs.declared.histories.Body.TheVariants as bodies
use Rattle.spec_rows.specs.Going as going
use Rattle.spec_rows.specs.Going.{Need, ReadShown, TakenRead, first_body, looked_up, is_even, is_last_name, fid_of, root_of, Parted, parted}
use Rattle.afs_acts.specs.declared.types.Need as needs
use Rattle.afs_acts.specs.declared.types.Need.TheVariants as told

-- what the program needs, in the words of the rows
abbrev pub need_of : needs.Need → Need
need_of (told.Body f) = going.reads f
need_of (told.Status f) = going.reads_status f
need_of (told.Statuses fs) = going.reads_statuses fs
need_of (told.Rights f) = going.reads_rights f
need_of (told.Call c) = going.asks_for c.value
need_of told.GiveBack = going.gives_back
need_of (told.Locate o) = going.locates o.value
need_of (told.Answer n) = going.answers n

abbrev pub then_on : {A B : Type 0} → (A → Result B Need) → Result A Need → Result B Need
then_on f (Ok x) = f x
then_on f (Err need) = Err need

abbrev pub goes_to : {A : Type 0} → (A → Need) → Result A Need → Need
goes_to more (Ok x) = more x
goes_to more (Err need) = need

-- a fid that was reached, and the reads behind it
pub record At : Type 0 where
  pub fid : Fid
  pub rest : List ReadShown

-- a directory in which a name is meant
pub record Within : Type 0 where
  pub directory : Fid
  pub name : List ℕ
  pub rest : List ReadShown

abbrev pub body_by : Fid → Option (TakenRead Body) → Result (TakenRead Body) Need
body_by f None = Err (going.reads f)
body_by f (Some t) = Ok t

-- the body of this fid
abbrev pub body_at : At → Result (TakenRead Body) Need
body_at a = body_by a.fid (first_body a.fid a.rest)

abbrev pub entry_by : Bool → ℕ → Option (Option Name) → Result Fid Need
entry_by inner volume None = Err (going.answers 20)
entry_by inner volume (Some None) = Err (going.answers 2)
entry_by inner volume (Some (Some n)) = if (inner && is_even n.vnode) then Err (going.answers 20) else Ok (fid_of volume n)

abbrev pub reached : List ReadShown → Result Fid Need → Result At Need
reached rest (Ok f) = Ok (record { fid = f; rest = rest })
reached rest (Err need) = Err need

-- one name along
abbrev pub along : Bool → List ℕ → At → Result At Need
along inner name a = then_on (λ t. reached t.rest (entry_by inner a.fid.volume (looked_up name t.found))) (body_at a)

abbrev pub walk_to : Bool → List (List ℕ) → At → Result At Need
walk_to all [] a = Ok a
walk_to all (name ∷ names) a = then_on (walk_to all names) (along (all || not (is_last_name names)) name a)

abbrev pub at_root : ℕ → List ReadShown → At
at_root id rs = record { fid = root_of id; rest = rs }

-- where the volume isn't known it is asked for first
abbrev pub path_at : Option ℕ → Path → List ReadShown → Result At Need
path_at None p rs = Err (going.locates (operands.Path p))
path_at (Some id) p rs = walk_to false p.names (at_root id rs)

abbrev pub fid_at : Option ℕ → Fid → List ReadShown → Result At Need
fid_at None f rs = Err (going.locates (operands.Fid f))
fid_at (Some id) f rs = Ok (record { fid = f; rest = rs })

abbrev pub object_at : Option ℕ → Operand → List ReadShown → Result At Need
object_at home (operands.Fid f) rs = fid_at home f rs
object_at home (operands.Path p) rs = path_at home p rs

abbrev pub within_by : Fid → List ℕ → List ReadShown → Body → Result Within Need
within_by d name rest (bodies.Dir names) = Ok (record { directory = d; name = name; rest = rest })
within_by d name rest b = Err (going.answers 20)

-- the name in this directory
abbrev pub within : List ℕ → At → Result Within Need
within name a = then_on (λ t. within_by a.fid name t.rest t.found) (body_at a)

abbrev pub parent_by : Path → Option ℕ → List ReadShown → Option Parted → Result Within Need
parent_by p home rs None = Err (going.answers 22)
parent_by p None rs (Some parts) = Err (going.locates (operands.Path p))
parent_by p (Some id) rs (Some parts) = then_on (within parts.last) (walk_to true parts.front (at_root id rs))

abbrev pub parent_at : Option ℕ → Path → List ReadShown → Result Within Need
parent_at home p rs = parent_by p home rs (parted p.names)
