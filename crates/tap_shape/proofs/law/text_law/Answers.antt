use Rattle.tap_shape.proofs.Exact.{never_both, one_log}
use Rattle.tap_shape.proofs.Unique.{at_most_next, one_refused}
use Rattle.tap_shape.proofs.law.text_law.Goals as goal

pub returns : goal.returns
returns c = record { one = one_log; first = one_refused; most = at_most_next; apart = never_both }
