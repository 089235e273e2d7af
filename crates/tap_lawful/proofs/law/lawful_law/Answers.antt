use Rattle.tap_lawful.specs.PlayedLaws.{PlayedGrows}
use Rattle.tap_lawful.proofs.Alike.{played_alike}
use Rattle.tap_lawful.proofs.Less.{less_left}
use Rattle.tap_lawful.proofs.Played.{played_course, played_more, played_starts}
use Rattle.tap_lawful.proofs.BegunSteps.{played_all, played_indices, played_steps}
use Rattle.tap_lawful.proofs.law.lawful_law.Goals as goal

played_grows_holds : PlayedGrows
played_grows_holds = record {
  starts = λ s valid. played_starts s;
  more = played_more;
  less = less_left;
  course = played_course;
  steps = played_steps;
  indices = played_indices;
  all = played_all;
  alike = played_alike;
}

pub returns : goal.returns
returns c = played_grows_holds
