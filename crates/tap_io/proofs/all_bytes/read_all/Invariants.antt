use Rattle.std.proofs.Common.{◌≡◌, ◌≤◌, ◌-◌, vec_len}
use Rattle.std.specs.Io.KnownBytes.{Consumes}
use Rattle.tap_io.specs.Source.{SourceState}
use Rattle.tap_io.proofs.all_bytes.read_all.Given as goal

abbrev pub invariant-loop-bytes : goal.invariant-loop-bytes
invariant-loop-bytes g l =
    let old : SourceState = g.S.Source.state l.fn.source in
    let now : SourceState = g.S.Source.state l.source in
    record {
      within : vec_len l.bytes ≤ l.fn.most;
      consumes : Consumes old.left now.left l.bytes.items;
      faults : now.faults ≡ old.faults;
    }

abbrev pub decreases-loop-bytes : goal.decreases-loop-bytes
decreases-loop-bytes g l = l.fn.most - vec_len l.bytes
