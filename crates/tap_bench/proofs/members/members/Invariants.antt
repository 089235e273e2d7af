use Rattle.std.proofs.Common.{All}
use Rattle.tap_name.specs.Name.{IsName}
use Rattle.tap_name.specs.Distinct.{AreDistinct}
use Rattle.tap_bench.specs.Settings.{measured}
use Rattle.tap_bench.proofs.members.members.Given as goal

abbrev pub invariant-loop-turn : goal.invariant-loop-turn
invariant-loop-turn l = record { names : All (IsName measured) l.members; distinct : AreDistinct l.members }
