use Rattle.law_courses.proofs.Walk.{are_on_course}
use Rattle.law_courses.proofs.laws.calls_are_on_course.Goals as goal

pub returns : goal.returns
returns c = are_on_course
