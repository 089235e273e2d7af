use Rattle.tap_line.proofs.Exact.{lines_are_read_back}
use Rattle.tap_line.proofs.law.reading_law.Goals as goal

pub returns : goal.returns
returns c = lines_are_read_back
