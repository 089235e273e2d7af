use Rattle.tap_node.proofs.ByStatus.{is_core}
use Rattle.tap_node.proofs.state.State.find.Goals as goal

pub unreachable-requires : goal.unreachable-requires
unreachable-requires c = is_core c.args.sender.now.settings c.args.sender.now.name c.args.self.now c.requires.at c.in_default.not-Core
