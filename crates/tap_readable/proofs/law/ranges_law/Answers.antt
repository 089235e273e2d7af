use Rattle.tap_readable.proofs.RangeCourses.{numbers_in_range_holds}
use Rattle.tap_readable.proofs.law.ranges_law.Goals as goal

pub returns : goal.returns
returns c = numbers_in_range_holds
