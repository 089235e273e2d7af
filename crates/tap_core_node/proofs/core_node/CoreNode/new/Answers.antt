use Rattle.tap_core_node.proofs.core_node.CoreNode.new.Goals as goal

pub returns : goal.returns
returns c = c.new.ensures c.args.core
