use Rattle.std.proofs.Common.{sym}
use Rattle.std.specs.Vec.{vec_len}
use Rattle.tap_outstanding.proofs.Flights.{flights-outstanding}
use Rattle.tap_outstanding.proofs.KeptMarks.{kept-count}
use Rattle.tap_outstanding.proofs.outstanding.Outstanding.len.Goals as goal

pub returns-clause-count : goal.returns-clause-count
returns-clause-count c =
    rw (← c.self.view_is)
    (kept-count c.self.inside.records c.self.inside.marks c.self.inside.sums c.self.inside.count c.self.inside.room c.self.invariant.kept)

pub returns-clause-outstanding : goal.returns-clause-outstanding
returns-clause-outstanding c =
    rw (← c.self.view_is)
    (flights-outstanding (vec_len c.self.inside.records) c.self.inside.room c.self.inside.records.items c.self.inside.marks.items
    (sym c.self.inside.records.ok.0))
