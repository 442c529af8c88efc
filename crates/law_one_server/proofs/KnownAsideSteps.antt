-- Behind each step that leaves the location database as it is, acts know what they knew, and volumes are in service where it says.
use Rattle.std.proofs.Common.{◌≡◌, ℕ, List}
use Rattle.spec_history.specs.declared.scripts.Script.{Script}
use Rattle.spec_runs.specs.NodeRuns.{node_moved, node_start, CellInput, NodeCell}
use Rattle.law_places.specs.Accepting.{cell_behind}
use Rattle.law_stamps.specs.Told.{entries_in}
use Rattle.law_courses.specs.Courses.{course_in, Course}
use Rattle.law_courses.proofs.Walk.{are_on_course}
use Rattle.law_locks.proofs.Walk.{grips_are_drawn}
use Rattle.law_numbers.specs.Numbers.{IsNumbered}
use Rattle.law_one_server.specs.Knows.{AreClosed, Knows}
use Rattle.law_one_server.proofs.KnownAside.{is_aside, rests_or_comes}
use Rattle.law_one_server.proofs.KnownInService.{behind_on, closed_on, knows_on, Grounds}
use Rattle.law_one_server.proofs.FencesRan.{KnowsBehind}
use Rattle.law_stored_stamps.proofs.Asked.{places_are}
use Rattle.law_one_server.proofs.KnownGroundServers.{asked, askers, sound, stamped}
use Rattle.law_one_server.proofs.StampsOfOneTask.{one, some}

module _ (s : Script) (inputs : List CellInput) (numbered : IsNumbered s) where
  abbrev cell : NodeCell
  cell = cell_behind (node_start s) inputs

  abbrev course : Course
  course = course_in s inputs

  module _ (knows : (n e k : ℕ) → Knows cell (course n e k).place) (closed : AreClosed cell) where
    pub grounds : Grounds course cell
    grounds = record {
      on = are_on_course.on s inputs;
      knows = knows;
      closed = closed;
      sound = sound s inputs numbered;
      surveyed = places_are s inputs;
      grips = grips_are_drawn s inputs;
      some = some s inputs;
      one = one s inputs;
      askers = askers s inputs;
      asked = asked s inputs;
      stamped = stamped s inputs;
    }

    module _ (x : CellInput) (same : entries_in (node_moved cell x).cell ≡ entries_in cell) where
      abbrev behind : NodeCell
      behind = (node_moved cell x).cell

      pub knows_aside : (n e k : ℕ) → Knows behind (course n e k).place
      knows_aside = knows_on course cell grounds behind (is_aside s inputs x same) (λ v j. rests_or_comes s inputs x j v)

      pub behind_aside : (n e k : ℕ) → KnowsBehind cell (course n e k).place → KnowsBehind behind (course n e k).place
      behind_aside = behind_on course cell grounds behind (is_aside s inputs x same) (λ v j. rests_or_comes s inputs x j v)

      pub closed_aside : AreClosed behind
      closed_aside = closed_on course cell grounds behind (is_aside s inputs x same) (λ v j. rests_or_comes s inputs x j v)
