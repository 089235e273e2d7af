use Rattle.tap_line.proofs.Exact.{lines_are_read_back}
use Rattle.tap_line.proofs.reading.read_begin.Goals as goal

pub returns-clause-exact : goal.returns-clause-exact
returns-clause-exact c = λ begun. rw (c.begin_of_all.ensures, c.of.ensures) (lines_are_read_back.beginning c.args.text.now begun)
