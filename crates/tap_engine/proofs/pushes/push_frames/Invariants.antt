use Rattle.std.proofs.Common.{◌≡◌, ◌+◌, ◌≤◌, ◌++◌, length}
use Rattle.tap_log.specs.Counts.{sent_count}
use Rattle.tap_ledger.specs.Added.{CanAdd}
use Rattle.tap_engine.specs.SeenTurns.{bytes_records}
use Rattle.tap_engine.proofs.pushes.push_frames.Given as goal

abbrev pub invariant-loop-bytes : goal.invariant-loop-bytes
invariant-loop-bytes l = record {
  records : l.ledger.records ++ bytes_records (sent_count l.ledger.records) l.frames.items
      ≡ l.initial.ledger.records ++ bytes_records (sent_count l.initial.ledger.records) l.fn.frames.items;
  can_add : CanAdd l.ledger.records (bytes_records (sent_count l.ledger.records) l.frames.items);
  added : l.ledger.added ≡ l.initial.ledger.added;
  spare : l.ledger.spare + length l.fn.frames.items ≡ l.initial.ledger.spare + length l.frames.items;
  room : length l.frames.items ≤ l.ledger.spare;
}

abbrev pub decreases-loop-bytes : goal.decreases-loop-bytes
decreases-loop-bytes l = length l.frames.items
