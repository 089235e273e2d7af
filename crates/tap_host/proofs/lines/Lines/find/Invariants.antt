use Rattle.std.proofs.Common.{◌-◌, length}
use Rattle.tap_host.specs.Taking.{ReadsMore}
use Rattle.tap_host.proofs.lines.Lines.find.Given as goal

abbrev pub invariant-loop-len : goal.invariant-loop-len
invariant-loop-len g l = ReadsMore l.fn.self l.self (g.S.Source.state l.fn.source) (g.S.Source.state l.source)

abbrev pub decreases-loop-len : goal.decreases-loop-len
decreases-loop-len g l = 32769 - length l.self
