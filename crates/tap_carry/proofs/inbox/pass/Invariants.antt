use Rattle.tap_carry.specs.InboxKept.{ArePassed}
use Rattle.tap_carry.proofs.inbox.pass.Given as goal

abbrev pub invariant-loop-end : goal.invariant-loop-end
invariant-loop-end l = ArePassed l.initial.beyond.keys l.beyond.keys l.from l.seq l.end
