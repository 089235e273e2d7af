use Rattle.std.proofs.Common.{◌≡◌, [], get_or, arith}
use Rattle.tap_table.proofs.RowLists.{row_of_link, slot_is, slots_are, slots_len}
use Rattle.tap_table.proofs.table.Table.row.Goals as goal

pub returns : goal.returns
returns c =
    let t = c.args.self.now in
    let number = c.args.number in
    let sets = c.as_slice.result.now in
    let are = slots_are t c.self.inside.owner c.self.inside.settings c.self.inside.sets sets c.self.view_is c.as_slice.ensures in
    let here = slot_is t sets number c.index-as_slice-number.result are
    (omega (arith, c.requires.slot, slots_len t sets are)) c.index-as_slice-number.is in
    let base : c.base-base.result ≡ t.settings.base = rw (← c.self.view_is) c.base-base.ensures.value in
    rw base (row_of_link t.settings.base number (get_or t.slots number []) c.index-as_slice-number.result.links c.args.link
    c.target_at.result c.kind_at.result here c.requires.link c.target_at.ensures c.kind_at.ensures)
