use Rattle.tap_line.proofs.Exact.{lines_are_told}
use Rattle.tap_line.proofs.law.line_law.Goals as goal

pub returns : goal.returns
returns c = lines_are_told
