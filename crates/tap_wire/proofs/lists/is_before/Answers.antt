use Rattle.std.proofs.Common.{◌∙◌, arith, sym, ap}
use Rattle.std.specs.Ordering.{is_lt}
use Rattle.std.proofs.lemmas.Bool.Decides.{nat_tests}
use Rattle.tap_wire.proofs.Links.{same_there, other_there, past_one}
use Rattle.tap_wire.proofs.lists.is_before.Goals as goal

pub returns-then-one-at : goal.returns-then-one-at
returns-then-one-at c =
    sym (other_there c.args.one.now c.args.other.now c.loop-at.at 0 (omega arith) (omega arith)
    (λ same. grind (arith, nat_tests, same, c.if-one-at.true))) ∙ ap is_lt c.loop-at.invariant

pub loop-at-preserved : goal.loop-at-preserved
loop-at-preserved c =
    same_there c.args.one.now c.args.other.now c.loop-at.at (omega arith) (omega arith) (grind (arith, nat_tests, c.if-one-at.false))
    ∙ c.loop-at.invariant

pub returns : goal.returns
returns c =
    sym (past_one c.args.one.now c.args.other.now c.loop-at.at (omega (arith, c.loop-at.auto.at-end))) ∙ ap is_lt c.loop-at.invariant
