-- The places of what administrators asked: what the servers had as it was asked they have from then on.
use Rattle.std.proofs.Common.{◌≡◌, ℕ, List, Some}
use Rattle.std.specs.Prelude.{take}
use Rattle.spec_history.specs.declared.scripts.Script.{Script}
use Rattle.spec_runs.specs.NodeRuns.{node_moved, node_start, CellInput, NodeCell}
use Rattle.law_places.specs.Accepting.{cell_behind}
use Rattle.law_courses.specs.Courses.{course_in}
use Rattle.law_courses.proofs.Runs.{questions_are}
use Rattle.law_courses.proofs.Walk.{are_on_course}
use Rattle.law_stored_stamps.specs.Surveys.{IsSurveyed, SurveysAreStored}
use Rattle.law_stored_stamps.proofs.Knowing.{stays_surveyed}
use Rattle.law_stored_stamps.proofs.Rising.{same_count, stamps_rise}
use Rattle.law_stored_stamps.proofs.Surveying.{surveying}

pub places_are : (s : Script) (inputs : List CellInput) (n e k : ℕ) → IsSurveyed (cell_behind (node_start s) inputs) (course_in s inputs n e k).place
places_are s inputs = questions_are s IsSurveyed inputs (λ done. (surveying s done).acts)
    (λ done x p h. let c : NodeCell = cell_behind (node_start s) done in stays_surveyed c (node_moved c x).cell (stamps_rise s done x) (same_count c x) p h) tt

pub surveys_stored : SurveysAreStored
surveys_stored s inputs = record {
  acts = λ n a r is. (surveying s (take n inputs)).acts a r is;
  calls = λ n a place m user call at from is.
      let its = (are_on_course.on s (take n inputs)).calls place a m user call at from is in
      record { asks = its.asks; stamp = its.stamp; callee = its.callee; surveyed = places_are s (take n inputs) a m.head.epoch m.head.number };
}
