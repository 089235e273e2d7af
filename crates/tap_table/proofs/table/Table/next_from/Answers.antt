use Rattle.std.proofs.Common.{◌≤◌, arith, sym, subst, ◌∙◌}
use Rattle.tap_table.specs.Table.{IsTable}
use Rattle.tap_table.proofs.EmptyLevels.{stays_where_empty}
use Rattle.tap_table.proofs.table.Table.next_from.Goals as goal

pub returns-then-not-may_have_links_from-clause-value : goal.returns-then-not-may_have_links_from-clause-value
returns-then-not-may_have_links_from-clause-value c =
    let t = c.args.self.now in
    let at = c.loop-at.at in
    let none = c.may_have_links_from.ensures c.if-not-may_have_links_from.true in
    let inside : at ≤ t.settings.digits = omega (arith, c.loop-at-test.true, c.len-at-end.ensures.value, c.requires.name.len) in
    sym (stays_where_empty t (subst IsTable c.self.view_is c.self.invariant.valid) at none c.args.object.now c.requires.name inside)
    ∙ c.loop-at.invariant
