use Rattle.std.proofs.Common.{arith}
use Rattle.tap_node_common.proofs.Rows.{length-empty_rows}
use Rattle.tap_node_common.proofs.strange.is_strange_to_ended.Goals as goal

pub is_strange_from_another-requires-clause-few : goal.is_strange_from_another-requires-clause-few
is_strange_from_another-requires-clause-few c = omega (arith, length-empty_rows c.args.settings.now c.args.name.now)
