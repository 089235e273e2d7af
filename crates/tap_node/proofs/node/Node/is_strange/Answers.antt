use Rattle.std.proofs.Common.{◌≡◌, true, false}
use Rattle.tap_node.specs.SeenNode.{node_value}
use Rattle.tap_node.proofs.node.Node.is_strange.Goals as goal

pub unreachable-requires : goal.unreachable-requires
unreachable-requires c =
    let runs : (node_value c.self.inside.sender.settings c.self.inside.sender.name c.self.inside.state).ended ≡ false =
    rw c.self.view_is c.requires.runs in
    let wrong : true ≡ false = rw c.in-Ended.is at runs in cc
