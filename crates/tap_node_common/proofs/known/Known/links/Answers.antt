use Rattle.std.proofs.Common.{sym}
use Rattle.tap_node_common.proofs.Rows.{length-empty_rows}
use Rattle.tap_node_common.proofs.known.Known.links.Goals as goal

pub returns-in-Nothing : goal.returns-in-Nothing
returns-in-Nothing c = rw c.in-Nothing.is (sym (length-empty_rows c.in-Nothing.settings.now c.in-Nothing.name.now))
