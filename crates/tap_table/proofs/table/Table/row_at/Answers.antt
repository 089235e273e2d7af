use Rattle.std.proofs.Common.{◌∙◌}
use Rattle.tap_table.proofs.table.Table.row_at.Goals as goal

pub returns : goal.returns
returns c = c.place_of_link-place.ensures.same ∙ c.row.ensures
