use Rattle.tap_safety.proofs.Known.{core_kept, ended_kept, ends_frame, ends_start, few_join, few_kept, names_kept, spelled_frame, spelled_start, stamps_frame, stamps_join, stamps_start}
use Rattle.tap_safety.proofs.law.known_law.Goals as goal

pub returns-clause-names : goal.returns-clause-names
returns-clause-names c = names_kept

pub returns-clause-few : goal.returns-clause-few
returns-clause-few c = few_kept

pub returns-clause-one_more : goal.returns-clause-one_more
returns-clause-one_more c = few_join

pub returns-clause-spelled_frame : goal.returns-clause-spelled_frame
returns-clause-spelled_frame c = spelled_frame

pub returns-clause-spelled_start : goal.returns-clause-spelled_start
returns-clause-spelled_start c = spelled_start

pub returns-clause-ends_frame : goal.returns-clause-ends_frame
returns-clause-ends_frame c = ends_frame

pub returns-clause-ends_start : goal.returns-clause-ends_start
returns-clause-ends_start c = ends_start

pub returns-clause-core : goal.returns-clause-core
returns-clause-core c = core_kept

pub returns-clause-stamps_frame : goal.returns-clause-stamps_frame
returns-clause-stamps_frame c = stamps_frame

pub returns-clause-stamps_start : goal.returns-clause-stamps_start
returns-clause-stamps_start c = stamps_start

pub returns-clause-ended : goal.returns-clause-ended
returns-clause-ended c = ended_kept

pub returns-clause-stamps_join : goal.returns-clause-stamps_join
returns-clause-stamps_join c = stamps_join
