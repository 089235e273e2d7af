use Rattle.tap_overlay.proofs.Systems.{rest_nodes, same_changes, same_walks}
use Rattle.tap_overlay.proofs.law.overlay_law.Goals as goal

pub returns : goal.returns
returns c = record { at_rest = rest_nodes; walks = same_walks; changes = same_changes }
