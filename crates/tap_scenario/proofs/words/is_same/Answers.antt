use Rattle.std.proofs.Common.{arith}
use Rattle.tap_scenario.proofs.Alike.{all_same}
use Rattle.tap_scenario.proofs.words.is_same.Goals as goal

pub returns : goal.returns
returns c =
    all_same c.args.one.now c.args.other.now c.loop-at.at (omega (arith, c.loop-at-test.false)) c.loop-at.invariant.long c.loop-at.invariant.front
