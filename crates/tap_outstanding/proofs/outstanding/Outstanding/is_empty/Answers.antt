use Rattle.std.proofs.Common.{ℕ, ◌==◌, ap}
use Rattle.tap_outstanding.proofs.KeptMarks.{kept-count}
use Rattle.tap_outstanding.proofs.outstanding.Outstanding.is_empty.Goals as goal

pub returns : goal.returns
returns c =
    rw (← c.self.view_is)
    (ap (λ (n : ℕ). n == 0)
    (kept-count c.self.inside.records c.self.inside.marks c.self.inside.sums c.self.inside.count c.self.inside.room c.self.invariant.kept))
