use Rattle.std.proofs.Common.{arith, rules}
use Rattle.tap_io.proofs.Buffering.{waits}
use Rattle.tap_io.proofs.buffered_sink.BufferedSinkSink.write.Goals as goal

pub returns : goal.returns
returns g c =
    waits (g.K.Sink.state c.args.self.now.inner.now) c.args.self.now.inner.ghost_name c.args.self.now.waiting.items
    c.extend_from_slice.new.self.items c.args.bytes.now (search rules) (omega arith)
