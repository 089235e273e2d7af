use Rattle.std.proofs.Common.{sym, ◌∙◌}
use Rattle.tap_depart.proofs.Above.{first_is_later, first_is_primary}
use Rattle.tap_depart.proofs.replacement.first_primary.Goals as goal

pub returns-then-is_some : goal.returns-then-is_some
returns-then-is_some c level below =
    let first = first_is_primary c.args.table.now c.requires.valid level c.args.range c.loop-digit.digit c.requires.end below
    c.loop-digit-test.true c.primary-primary.result c.primary-primary.ensures (sym c.is_some.ensures ∙ c.if-is_some.true) in
    sym first ∙ c.loop-digit.invariant level below

pub loop-digit-preserved : goal.loop-digit-preserved
loop-digit-preserved c level below =
    let later = first_is_later c.args.table.now c.requires.valid level c.args.range c.loop-digit.digit c.requires.end below
    c.loop-digit-test.true c.primary-primary.result c.primary-primary.ensures (sym c.is_some.ensures ∙ c.if-is_some.false) in
    sym later ∙ c.loop-digit.invariant level below
