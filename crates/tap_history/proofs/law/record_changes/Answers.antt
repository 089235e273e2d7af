use Rattle.tap_history.proofs.RecordChanges.{record_changes_hold}
use Rattle.tap_history.proofs.law.record_changes.Goals as goal

pub returns : goal.returns
returns c = record_changes_hold
