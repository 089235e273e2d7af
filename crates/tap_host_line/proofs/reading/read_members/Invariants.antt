use Rattle.std.proofs.Common.{◌≡◌, ◌≤◌, All, [], length}
use Rattle.tap_name.specs.Name.{IsName}
use Rattle.tap_name.specs.Distinct.{AreDistinct}
use Rattle.tap_host_line.specs.Line.{members_line_of_words, most_line_members}
use Rattle.tap_host_line.proofs.reading.read_members.Given as goal

abbrev pub invariant-loop-word : goal.invariant-loop-word
invariant-loop-word l = record {
  rest : members_line_of_words l.settings l.names l.words ≡ members_line_of_words l.settings [] l.fn.words;
  each : All (IsName l.settings) l.names;
  distinct : AreDistinct l.names;
  few : length l.names ≤ most_line_members;
}

abbrev pub decreases-loop-word : goal.decreases-loop-word
decreases-loop-word l = length l.words
