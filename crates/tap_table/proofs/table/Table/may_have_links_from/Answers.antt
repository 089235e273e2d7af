use Rattle.std.proofs.Common.{◌*◌, arith, ap, subst}
use Rattle.std.proofs.lemmas.Bool.{ltb-false}
use Rattle.tap_table.specs.Table.{HasNoLinksFrom}
use Rattle.tap_table.proofs.EmptyLevels.{no_links_from}
use Rattle.tap_table.proofs.table.Table.may_have_links_from.Goals as goal

pub returns : goal.returns
returns c is =
    let p = c.self.inside.settings in
    let level = c.args.level in
    let first = ap (λ base. level * base) c.base.ensures.value in
    let past = ltb-false (level * c.base.result) c.empty_from.result is in
    subst (λ t. HasNoLinksFrom t level) c.self.view_is
    (no_links_from c.self.inside.owner p c.self.inside.sets c.empty_from.result level c.empty_from.ensures
    (omega (arith, past, first)))
