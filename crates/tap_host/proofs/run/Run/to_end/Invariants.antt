use Rattle.tap_host.specs.Host.{host_seen}
use Rattle.tap_host.proofs.Serving.{GoesOn}
use Rattle.tap_host.proofs.run.Run.to_end.Given as goal

abbrev pub invariant-loop-before : goal.invariant-loop-before
invariant-loop-before g l =
    GoesOn (host_seen l.fn.self.host) (g.S.Source.state l.fn.source) (g.S.Source.state l.source) (g.K.Sink.state l.fn.sink)
    (g.K.Sink.state l.sink) (host_seen l.self.host) l.self.lines l.before
