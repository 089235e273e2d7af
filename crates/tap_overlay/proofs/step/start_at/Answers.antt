use Rattle.std.proofs.Common.{sym, ◌∙◌}
use Rattle.tap_node.specs.Node.{NodeValue}
use Rattle.tap_node.specs.Outcome.{start_outcome}
use Rattle.tap_overlay.specs.Start.{rule_start}
use Rattle.tap_overlay.proofs.Found.{found_same}
use Rattle.tap_overlay.proofs.Stepped.{with_node, without_node}
use Rattle.tap_overlay.proofs.step.start_at.Goals as goal

pub start_if_room-requires : goal.start_if_room-requires
start_if_room-requires c =
    c.requires c.in-Some.node.now (sym (c.in-Some.ensures.value ∙ found_same c.args.nodes.now.entries c.args.name.now))

pub returns-in-Some : goal.returns-in-Some
returns-in-Some c =
    let after = c.start_if_room.new.node in
    with_node (λ (node : NodeValue). start_outcome node (rule_start c.args.start.now)) c.args.nodes.now (c.get_mut.follows.lender after)
    c.args.name.now c.in-Some.node.now after c.start_if_room.result (sym c.in-Some.ensures.value) (c.get_mut.follows.holds after)
    c.start_if_room.ensures

pub returns : goal.returns
returns c =
    without_node (λ (node : NodeValue). start_outcome node (rule_start c.args.start.now)) c.args.nodes.now
    c.get_mut.follows.lender-at-none c.args.name.now (sym c.in_default.ensures.value) c.get_mut.follows.holds-at-none
