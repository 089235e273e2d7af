use Rattle.std.proofs.Common.{◌≡◌, ◌∙◌, false, Option, None, ap, sym, subst}
use Rattle.std.specs.Prelude.{true, if◌then◌else◌}
use Rattle.tap_node.specs.Node.{NodeValue, has_room_left}
use Rattle.tap_overlay.specs.Overlay.{node_at}
use Rattle.tap_readable.specs.Range.{IsInRange}
use Rattle.tap_engine.specs.KeptEngine.{AreKept, world_value}
use Rattle.tap_engine.specs.World.{WorldValue, node_of}
use Rattle.tap_world.proofs.Nodes.{in_range, lent_each, room_left}
use Rattle.tap_world.proofs.world.World.node.Goals as goal

pub returns-then-was_present-clause-room : goal.returns-then-was_present-clause-room
returns-then-was_present-clause-room c = λ runs.
    let w = c.self.inside in
    let goes : w.stopped ≡ false = ap (λ (x : WorldValue). x.stopped) c.self.view_is ∙ runs in
    let kept = subst (AreKept w.engine w.refused) goes c.self.invariant in
    let ever = sym c.was_present.ensures ∙ c.if-was_present.true in
    let found : node_of (world_value w.engine w.refused false) c.args.name ≡ node_at w.engine.overlay c.args.name =
    ap (λ b. if◌then◌else◌ {A = Option NodeValue} b (node_at w.engine.overlay c.args.name) None) ever in
    lent_each (λ node. has_room_left node ≡ true) c.node.result (node_of (world_value w.engine w.refused false) c.args.name)
    (c.node.ensures.value ∙ sym found) (room_left w.engine w.refused kept c.args.name)

pub returns-then-was_present-clause-range : goal.returns-then-was_present-clause-range
returns-then-was_present-clause-range c = λ runs.
    let w = c.self.inside in
    let goes : w.stopped ≡ false = ap (λ (x : WorldValue). x.stopped) c.self.view_is ∙ runs in
    let kept = subst (AreKept w.engine w.refused) goes c.self.invariant in
    let ever = sym c.was_present.ensures ∙ c.if-was_present.true in
    let found : node_of (world_value w.engine w.refused false) c.args.name ≡ node_at w.engine.overlay c.args.name =
    ap (λ b. if◌then◌else◌ {A = Option NodeValue} b (node_at w.engine.overlay c.args.name) None) ever in
    lent_each (λ node. IsInRange node.state) c.node.result (node_of (world_value w.engine w.refused false) c.args.name)
    (c.node.ensures.value ∙ sym found) (in_range w.engine w.refused kept c.args.name)
