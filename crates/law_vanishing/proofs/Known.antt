-- What acts know of their volumes, at each question of a run (law_one_server walks over it); and that volumes are in service where the database says.
use Rattle.std.proofs.Common.{◌≡◌, ◌⊎◌, ◌≤◌, inl, inr, List, [], ◌∷◌, ◌++◌, refl, sym, subst}
use Rattle.afs_num.specs.declared.messages.Message.{Message}
use Rattle.spec_history.specs.declared.scripts.Script.{Script}
use Rattle.spec_runs.specs.NodeRuns.{node_moved, node_start, CellInput, NodeCell}
use Rattle.law_places.specs.Accepting.{cell_behind}
use Rattle.law_courses.specs.Courses.{course_in, course_on, no_course, Course}
use Rattle.law_courses.proofs.Walk.{behind_more}
use Rattle.law_numbers.specs.Numbers.{IsNumbered}
use Rattle.law_stamps.specs.Told.{entries_in}
use Rattle.law_one_server.proofs.KnownWalk.{behind_all, AreNews, Inv, IsLeft}
use Rattle.law_one_server.proofs.DatabaseChanges.{changes, Changes}
use Rattle.law_one_server.proofs.NewsInRuns.{premised, Good}
use Rattle.law_one_server.proofs.DatabaseServes.{served_left}
use Rattle.law_one_server.proofs.NewsToldSo.{told_news}
use Rattle.law_one_server.proofs.NewsTold.{told_first, told_next, AreTold, Premises}

cell_more : (c : NodeCell) (xs : List CellInput) (x : CellInput) → cell_behind c (xs ++ x ∷ []) ≡ (node_moved (cell_behind c xs) x).cell
cell_more c [] x = refl
cell_more c (y ∷ xs) x = cell_more (node_moved c y).cell xs x

module _ (s : Script) (numbered : IsNumbered s) (servers : 1 ≤ s.servers) where
  abbrev pub Told : List CellInput → Type 0
  Told inputs = AreTold (course_in s inputs) (cell_behind (node_start s) inputs)

  abbrev pub Holds : List CellInput → Type 0
  Holds inputs = Inv s numbered Told inputs

  news : (inputs : List CellInput) → Holds inputs → AreNews s numbered Told inputs
  news inputs h n r run q w =
      let c : NodeCell = cell_behind (node_start s) inputs in
      told_news s inputs (course_in s inputs) h.told h.fenced n (c.admins n).epoch (c.admins n).last r (run, (refl, refl)) q w

  served : (done : List CellInput) (x : CellInput) → Holds done → (entries_in (node_moved (cell_behind (node_start s) done) x).cell ≡ entries_in (cell_behind (node_start s) done)) ⊎ IsLeft (course_in s done) (cell_behind (node_start s) done) (node_moved (cell_behind (node_start s) done) x).cell
  served done x h = by (changes s done x)
    where
      by : Changes (cell_behind (node_start s) done) (node_moved (cell_behind (node_start s) done) x).cell → (entries_in (node_moved (cell_behind (node_start s) done) x).cell ≡ entries_in (cell_behind (node_start s) done)) ⊎ IsLeft (course_in s done) (cell_behind (node_start s) done) (node_moved (cell_behind (node_start s) done) x).cell
      by (inl same) = inl same
      by (inr k) = inr (served_left s done numbered servers h.knows h.closed x k)

  -- what replies tell is left, and what is told now is so
  module _ (Good : List CellInput → Message → Type 0) (premises : (done : List CellInput) (x : CellInput) → Holds done → IsLeft (course_in s done) (cell_behind (node_start s) done) (node_moved (cell_behind (node_start s) done) x).cell → Premises s done x (course_in s done) (Good done)) where
    told_on : (done : List CellInput) (x : CellInput) → Holds done → IsLeft (course_in s done) (cell_behind (node_start s) done) (node_moved (cell_behind (node_start s) done) x).cell → Told (done ++ x ∷ [])
    told_on done x h left =
        let d : NodeCell = (node_moved (cell_behind (node_start s) done) x).cell in
        subst (λ (f : Course). AreTold f (cell_behind (node_start s) (done ++ x ∷ []))) (sym (behind_more no_course (node_start s) done (x ∷ [])))
        (subst (AreTold (course_on (course_in s done) d.admins)) (sym (cell_more (node_start s) done x)) (told_next s done x (course_in s done) (Good done) (premises done x h left) h.told))

    all_behind : (inputs : List CellInput) → Holds inputs
    all_behind inputs = behind_all s numbered Told news served (told_first s) told_on inputs

pub holds : (s : Script) (inputs : List CellInput) (numbered : IsNumbered s) (servers : 1 ≤ s.servers) → Holds s numbered servers inputs
holds s inputs numbered servers = all_behind s numbered servers (λ done. Good s done) (λ done x h left. premised s done numbered servers x h.knows h.closed left) inputs
