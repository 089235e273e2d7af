use Rattle.std.proofs.Common.{sym}
use Rattle.toml.specs.View.{table_view}
use Rattle.tap_scenario.proofs.Scripts.{IsScript-parts}
use Rattle.tap_scenario.proofs.document.read_table.Goals as goal

pub from_lists-requires : goal.from_lists-requires
from_lists-requires c =
    IsScript-parts (table_view c.args.table.now) c.in_ok-settings.settings c.in_ok-frames.frames c.in_ok-carrier.carrier
    c.in_ok-members.members c.in_ok-steps.steps
    (sym c.in_ok-settings.ensures) (sym c.in_ok-frames.ensures)
    c.in_ok-members.ensures c.in_ok-steps.ensures
