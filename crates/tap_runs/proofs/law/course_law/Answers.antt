use Rattle.tap_runs.proofs.CourseGrows.{course_grows_holds}
use Rattle.tap_runs.proofs.law.course_law.Goals as goal

pub returns : goal.returns
returns c = course_grows_holds
