use Rattle.std.proofs.Common.{◌∙◌, codes}
use Rattle.clap.proofs.WalkLemmas.{first_value-rows}
use Rattle.clap.specs.Words.{found_of}
use Rattle.tap_host_line.proofs.asked.members_file.Goals as goal

pub returns-in-Some-clause-value : goal.returns-in-Some-clause-value
returns-in-Some-clause-value c =
    c.get_str.ensures ∙ first_value-rows (found_of c.in_ok-matches.matches) (codes "members") ∙ c.in_ok-matches.ensures.members
