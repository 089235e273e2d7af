use Rattle.std.proofs.Common.{arith}
use Rattle.tap_shape.proofs.Begins.{differs, same_front}
use Rattle.tap_shape.proofs.opening.begins_with.Goals as goal

pub returns-then-text-at : goal.returns-then-text-at
returns-then-text-at c = differs c.args.text.now c.args.word.now c.loop-at.at (omega (arith, c.loop-at-test.true)) c.if-text-at.true

pub returns : goal.returns
returns c =
    same_front c.args.text.now c.args.word.now c.loop-at.at (omega (arith, c.loop-at-test.false, c.loop-at.auto.at-end)) c.loop-at.invariant.front
