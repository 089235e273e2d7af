-- What the surrogate's Hello gives its joiner.
-- Cited above: low_law
use Rattle.tap_safety.specs.KeptLaws.{LowOfNewJoiner}
use Rattle.tap_safety.proofs.SeekLow.{low_new}

pub low_law : LowOfNewJoiner
low_law p s s' x b g e core low = low_new p s s' x b g.before g.core g.joins g.greets e core low
