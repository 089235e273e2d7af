use Rattle.tap_io.proofs.Buffering.{handed_on}
use Rattle.tap_io.proofs.buffered_sink.BufferedSink.write_after_flush.Goals as goal

pub returns-then-bytes-capacity : goal.returns-then-bytes-capacity
returns-then-bytes-capacity g c =
    handed_on _ _ _ _ _ _ _ _ _ c.flush.ensures.same_reference (rw (← c.in-All.is) c.flush.ensures.flushes) c.write.ensures
