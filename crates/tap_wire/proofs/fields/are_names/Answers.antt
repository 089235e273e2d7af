use Rattle.std.proofs.Common.{arith}
use Rattle.tap_wire.proofs.Pieces.{below_pair}
use Rattle.tap_wire.proofs.fields.are_names.Goals as goal

pub returns-then-digits-eq-USUAL_DIGITS-clause-sender : goal.returns-then-digits-eq-USUAL_DIGITS-clause-sender
returns-then-digits-eq-USUAL_DIGITS-clause-sender c =
    (below_pair c.are_below.result c.args.settings.now.base c.args.start _ c.args.settings.now.digits c.args.bytes.now
    (omega (arith, c.if-digits-eq-USUAL_DIGITS.true, c.digits-digits.ensures.value)) (rw c.base.ensures.value at c.are_below.ensures)).0

pub returns-then-digits-eq-USUAL_DIGITS-clause-receiver : goal.returns-then-digits-eq-USUAL_DIGITS-clause-receiver
returns-then-digits-eq-USUAL_DIGITS-clause-receiver c =
    (below_pair c.are_below.result c.args.settings.now.base c.args.start _ c.args.settings.now.digits c.args.bytes.now
    (omega (arith, c.if-digits-eq-USUAL_DIGITS.true, c.digits-digits.ensures.value)) (rw c.base.ensures.value at c.are_below.ensures)).1

pub returns-clause-sender : goal.returns-clause-sender
returns-clause-sender c =
    (below_pair c.are_below-2.result c.args.settings.now.base c.args.start _ c.args.settings.now.digits c.args.bytes.now
    (omega (arith, c.digits-digits.ensures.value)) (rw c.base-2.ensures.value at c.are_below-2.ensures)).0

pub returns-clause-receiver : goal.returns-clause-receiver
returns-clause-receiver c =
    (below_pair c.are_below-2.result c.args.settings.now.base c.args.start _ c.args.settings.now.digits c.args.bytes.now
    (omega (arith, c.digits-digits.ensures.value)) (rw c.base-2.ensures.value at c.are_below-2.ensures)).1
