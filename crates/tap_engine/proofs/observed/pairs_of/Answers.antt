use Rattle.std.proofs.Common.{map}
use Rattle.tap_pointer.specs.Pointers.{pairs_held}
use Rattle.tap_runs.specs.Observed.{pair_line}
use Rattle.tap_engine.proofs.Mapped.{one_more}
use Rattle.tap_engine.proofs.observed.pairs_of.Goals as goal

pub loop-pair-preserved : goal.loop-pair-preserved
loop-pair-preserved c =
    one_more pair_line c.in-Some.pair c.loop-pair.pair-iterator c.next.new.self c.loop-pair.pairs c.push.new.self
    (map pair_line (pairs_held c.args.pointers.now)) c.in-Some.ensures.steps c.loop-pair.invariant
    (rw (← c.pair_line.ensures) c.in_ok-push.ensures.ok)
