use Rattle.std.proofs.Common.{sym, ◌∙◌}
use Rattle.tap_node.specs.Node.{NodeValue}
use Rattle.tap_node.specs.Outcome.{MayWant, take_outcome}
use Rattle.tap_overlay.proofs.Found.{found_same}
use Rattle.tap_overlay.proofs.Stepped.{of_found, with_node, without_node}
use Rattle.tap_overlay.proofs.step.take_at.Goals as goal

pub returns-in-Some-clause-step : goal.returns-in-Some-clause-step
returns-in-Some-clause-step c =
    let after = c.take_if_room.new.node in
    with_node (λ (node : NodeValue). take_outcome node c.args.bytes.now) c.args.nodes.now (c.get_mut.follows.lender after)
    c.args.name.now c.in-Some.node.now after c.take_if_room.result (sym c.in-Some.ensures.value) (c.get_mut.follows.holds after)
    c.take_if_room.ensures.step

pub returns-in-Some-clause-memory : goal.returns-in-Some-clause-memory
returns-in-Some-clause-memory c = λ refused other found.
    of_found (λ (node : NodeValue). MayWant node c.args.bytes.now) c.args.nodes.now.entries c.args.name.now c.in-Some.node.now other
    (sym (c.in-Some.ensures.value ∙ found_same c.args.nodes.now.entries c.args.name.now)) (c.take_if_room.ensures.memory refused) found

pub returns-clause-step : goal.returns-clause-step
returns-clause-step c =
    without_node (λ (node : NodeValue). take_outcome node c.args.bytes.now) c.args.nodes.now c.get_mut.follows.lender-at-none
    c.args.name.now (sym c.in_default.ensures.value) c.get_mut.follows.holds-at-none
