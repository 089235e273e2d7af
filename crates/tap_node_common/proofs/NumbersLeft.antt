-- What follows from a node's being sound.
-- Cited above: hops-sound, numbers_left
use Rattle.std.proofs.Common.{◌≡◌, ◌<◌, true}
use Rattle.std.proofs.lemmas.Bool.{and_parts, ltb-true}
use Rattle.std.specs.Prelude.{◌&&◌, nat_lt}
use Rattle.tap_pointer.specs.Pointers.{held_or_laid_count}
use Rattle.tap_rule.specs.Node.{NodeState, settings_of}
use Rattle.tap_node_common.specs.SoundNode.{AreNamedHops, IsSoundNode, has_numbers_left}
use Rattle.tap_node_common.proofs.Pairs.{hops-laid}

-- its pairs are laid on to names
pub hops-sound : (node : NodeState) → IsSoundNode node → AreNamedHops (settings_of node) node.pointers
hops-sound node sound = hops-laid node.ties.table node.pointers sound.valid.ties.table sound.valid.pointers sound.pairs sound.laid

-- numbers are left for a step
pub record AreLeft (node : NodeState) : Type 0 where
  pub sessions : node.sessions.opened < 500000
  pub cast_sessions : node.cast_sessions.opened < 500001
  pub stamp : node.stamp < 4000000000
  pub pairs : held_or_laid_count node.pointers.pairs < 10000000

pub numbers_left : (node : NodeState) → has_numbers_left node ≡ true → AreLeft node
numbers_left node left =
    let joins = nat_lt node.sessions.opened 500000 in
    let casts = nat_lt node.cast_sessions.opened 500001 in
    let stamp = nat_lt node.stamp 4000000000 in
    let pairs = nat_lt (held_or_laid_count node.pointers.pairs) 10000000 in
    let three = and_parts (joins && casts && stamp) pairs left in
    let two = and_parts (joins && casts) stamp three.0 in
    let one = and_parts joins casts two.0 in
    record {
      sessions = ltb-true node.sessions.opened 500000 one.0;
      cast_sessions = ltb-true node.cast_sessions.opened 500001 one.1;
      stamp = ltb-true node.stamp 4000000000 two.1;
      pairs = ltb-true (held_or_laid_count node.pointers.pairs) 10000000 three.1;
    }
