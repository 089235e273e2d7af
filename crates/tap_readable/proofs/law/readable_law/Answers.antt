use Rattle.tap_readable.proofs.ReadableCourses.{courses_are_readable}
use Rattle.tap_readable.proofs.law.readable_law.Goals as goal

pub returns : goal.returns
returns c = courses_are_readable
