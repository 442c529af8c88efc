-- In every run acts know of their volumes what they need, at each question; and so where a recovery ends, the database names its server.
use Rattle.std.specs.Prelude.{take}
use Rattle.std.proofs.Common.{◌≡◌, ◌⊎◌, ◌≤◌, inl, inr, ℕ, List, [], ◌∷◌, ◌++◌, Some, refl, sym, subst}
use Rattle.afs_num.specs.declared.messages.Message.{Message}
use Rattle.spec_history.specs.declared.scripts.Script.{Script}
use Rattle.spec_runs.specs.NodeRuns.{node_moved, node_start, CellInput, NodeCell}
use Rattle.law_places.specs.Accepting.{cell_behind}
use Rattle.law_courses.specs.Courses.{course_in, course_on, no_course, Course}
use Rattle.law_courses.proofs.Walk.{behind_more}
use Rattle.law_numbers.specs.Numbers.{IsNumbered}
use Rattle.law_stamps.specs.Told.{entries_in}
use Rattle.law_one_server.specs.Knows.{listed_site, IsAt, IsOver, Knows}
use Rattle.law_one_server.proofs.KnownWalk.{behind_all, AreNews, Inv, IsLeft}
use Rattle.law_one_server.proofs.DatabaseChanges.{changes, Changes, IsChanged}
use Rattle.law_one_server.proofs.NewsInRuns.{premised, Good}
use Rattle.law_one_server.proofs.DatabaseServes.{served_left}
use Rattle.law_one_server.proofs.NewsToldSo.{told_news}
use Rattle.law_one_server.proofs.KnownGroundDatabase.{not_over}
use Rattle.law_one_server.proofs.NewsTold.{told_first, told_next, AreTold, Premises}
use Rattle.spec_adminrows.specs.declared.places.Mend.{Mend}
use Rattle.law_recovered.specs.Ends.{IsAlone, IsEnding, RecoveriesEndAlone}
use Rattle.law_recovered.proofs.Alone.{none_elsewhere}

cell_more : (c : NodeCell) (xs : List CellInput) (x : CellInput) → cell_behind c (xs ++ x ∷ []) ≡ (node_moved (cell_behind c xs) x).cell
cell_more c [] x = refl
cell_more c (y ∷ xs) x = cell_more (node_moved c y).cell xs x

module _ (s : Script) (numbered : IsNumbered s) (servers : 1 ≤ s.servers) where
  abbrev pub Told : List CellInput → Type 0
  Told inputs = AreTold (course_in s inputs) (cell_behind (node_start s) inputs)

  abbrev pub Holds : List CellInput → Type 0
  Holds inputs = Inv s numbered Told inputs

  news : (inputs : List CellInput) → Holds inputs → AreNews s numbered Told inputs
  news inputs h n r run q w =
      let c : NodeCell = cell_behind (node_start s) inputs in
      told_news s inputs (course_in s inputs) h.told h.fenced n (c.admins n).epoch (c.admins n).last r (run, (refl, refl)) q w

  served : (done : List CellInput) (x : CellInput) → Holds done → (entries_in (node_moved (cell_behind (node_start s) done) x).cell ≡ entries_in (cell_behind (node_start s) done)) ⊎ IsLeft (course_in s done) (cell_behind (node_start s) done) (node_moved (cell_behind (node_start s) done) x).cell
  served done x h = by (changes s done x)
    where
      by : Changes (cell_behind (node_start s) done) (node_moved (cell_behind (node_start s) done) x).cell → (entries_in (node_moved (cell_behind (node_start s) done) x).cell ≡ entries_in (cell_behind (node_start s) done)) ⊎ IsLeft (course_in s done) (cell_behind (node_start s) done) (node_moved (cell_behind (node_start s) done) x).cell
      by (inl same) = inl same
      by (inr k) = inr (served_left s done numbered servers h.knows h.closed x k)

  -- what replies tell is left, and what is told now is so
  module _ (Good : List CellInput → Message → Type 0) (premises : (done : List CellInput) (x : CellInput) → Holds done → IsLeft (course_in s done) (cell_behind (node_start s) done) (node_moved (cell_behind (node_start s) done) x).cell → Premises s done x (course_in s done) (Good done)) where
    told_on : (done : List CellInput) (x : CellInput) → Holds done → IsLeft (course_in s done) (cell_behind (node_start s) done) (node_moved (cell_behind (node_start s) done) x).cell → Told (done ++ x ∷ [])
    told_on done x h left =
        let d : NodeCell = (node_moved (cell_behind (node_start s) done) x).cell in
        subst (λ (f : Course). AreTold f (cell_behind (node_start s) (done ++ x ∷ []))) (sym (behind_more no_course (node_start s) done (x ∷ [])))
        (subst (AreTold (course_on (course_in s done) d.admins)) (sym (cell_more (node_start s) done x)) (told_next s done x (course_in s done) (Good done) (premises done x h left) h.told))

    pub knows_behind : (inputs : List CellInput) (n e k : ℕ) → Knows (cell_behind (node_start s) inputs) (course_in s inputs n e k).place
    knows_behind inputs = (behind_all s numbered Told news served (told_first s) told_on inputs).knows

pub knows : (s : Script) (inputs : List CellInput) → IsNumbered s → 1 ≤ s.servers → (n e k : ℕ) → Knows (cell_behind (node_start s) inputs) (course_in s inputs n e k).place
knows s inputs numbered servers = knows_behind s numbered servers (λ done. Good s done) (λ done x h left. premised s done numbered servers x h.knows h.closed left) inputs

-- ---- the end of a recovery

named_by : (c : NodeCell) (volume stamp server : ℕ) → IsAt c volume stamp server → (IsOver c volume stamp → ⊥) → listed_site c volume ≡ Some server
named_by c volume stamp server (inl named) never = named
named_by c volume stamp server (inr over) never = absurd (never over)

pub ends_alone : (s : Script) (inputs : List CellInput) (m : Mend) → IsNumbered s → 1 ≤ s.servers → IsEnding s inputs m → IsAlone (cell_behind (node_start s) inputs) m.volume m.named
ends_alone s inputs m numbered servers e =
    let c : NodeCell = cell_behind (node_start s) inputs in
    record {
      named = named_by c m.volume m.stamp m.named (subst (Knows c) e.asks (knows s inputs numbered servers e.n e.epoch e.number)) (not_over s inputs servers m.volume m.stamp e.locked);
      alone = λ i there has. none_elsewhere s inputs e.n e.epoch e.number m e.asks e.locked i there has;
    }

pub end_alone : RecoveriesEndAlone
end_alone s inputs numbered servers k m e = ends_alone s (take k inputs) m numbered servers e
