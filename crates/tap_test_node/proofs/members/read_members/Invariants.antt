use Rattle.std.proofs.Common.{All, ◌≤◌, length}
use Rattle.tap_name.specs.Name.{IsName}
use Rattle.tap_name.specs.Distinct.{AreDistinct}
use Rattle.tap_test_node.proofs.members.read_members.Given as goal

abbrev pub invariant-loop-word : goal.invariant-loop-word
invariant-loop-word l = record { names : All (IsName l.settings) l.members; distinct : AreDistinct l.members; few : length l.members ≤ 256 }
