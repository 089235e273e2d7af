use Rattle.std.proofs.Common.{◌≡◌, ◌≤◌, ◌-◌, length, take}
use Rattle.std.specs.Io.KnownBytes.{Appends}
use Rattle.tap_io.specs.Sink.{IsAfterWrites, SinkState}
use Rattle.tap_io.proofs.buffered_sink.write_first.Given as goal

abbrev pub invariant-loop-count : goal.invariant-loop-count
invariant-loop-count g l =
    let old : SinkState = g.K.Sink.state l.fn.sink in
    let now : SinkState = g.K.Sink.state l.sink in
    record {
      within : l.count ≤ length l.bytes;
      appends : Appends old.held now.held (take l.count l.bytes);
      follows : IsAfterWrites old now;
      faults : now.faults ≡ old.faults;
    }

abbrev pub decreases-loop-count : goal.decreases-loop-count
decreases-loop-count g l = length l.bytes - l.count
