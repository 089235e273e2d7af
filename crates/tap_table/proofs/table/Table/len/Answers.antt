use Rattle.std.proofs.Common.{sym, ◌∙◌}
use Rattle.tap_table.proofs.RowLists.{length-rows_of_sets}
use Rattle.tap_table.proofs.table.Table.len.Goals as goal

pub returns : goal.returns
returns c =
    rw (← c.self.view_is)
    (c.links.ensures ∙ sym (length-rows_of_sets c.self.inside.settings.base 0 c.self.inside.sets))
