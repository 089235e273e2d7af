use Rattle.std.proofs.Common.{All}
use Rattle.tap_name.specs.Name.{IsName}
use Rattle.tap_name.specs.Distinct.{AreDistinct}
use Rattle.tap_test_parts.proofs.surrogate.names_of.Given as goal

abbrev pub invariant-loop-text : goal.invariant-loop-text
invariant-loop-text g l = record { names : All (IsName l.settings) l.names; distinct : AreDistinct l.names }
