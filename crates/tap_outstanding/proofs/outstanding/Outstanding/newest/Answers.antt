use Rattle.std.proofs.Common.{length}
use Rattle.tap_outstanding.specs.Outstanding.{flights_from}
use Rattle.tap_outstanding.proofs.KeptMarks.{kept-count, newest-of}
use Rattle.tap_outstanding.proofs.outstanding.Outstanding.newest.Goals as goal

pub returns : goal.returns
returns c =
    rw (← c.self.view_is)
    (newest-of c.checked_sub.result c.self.inside.count (length (flights_from 0 c.self.inside.records.items c.self.inside.marks.items))
    (kept-count c.self.inside.records c.self.inside.marks c.self.inside.sums c.self.inside.count c.self.inside.room c.self.invariant.kept) c.checked_sub.ensures)
