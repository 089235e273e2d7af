use Rattle.std.proofs.Common.{◌≡◌, ◌≤◌, ◌-◌, length, take}
use Rattle.std.specs.Io.KnownBytes.{Appends}
use Rattle.tap_io.specs.Sink.{IsAfterWrites}
use Rattle.tap_report.proofs.written.write_all.Given as goal

abbrev pub invariant-loop-done : goal.invariant-loop-done
invariant-loop-done g l =
    let old = g.K.Sink.state l.fn.sink in
    let new = g.K.Sink.state l.sink in
    record {
      within : l.done ≤ length l.text;
      appends : Appends old.held new.held (take l.done l.text);
      faults : new.faults ≡ old.faults;
      follows : IsAfterWrites old new;
    }

abbrev pub decreases-loop-done : goal.decreases-loop-done
decreases-loop-done g l = length l.text - l.done
