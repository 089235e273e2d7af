use Rattle.tap_runs.proofs.OneCourse.{one_course_holds}
use Rattle.tap_runs.proofs.law.same_course_law.Goals as goal

pub returns : goal.returns
returns c = one_course_holds
