use Rattle.std.proofs.Common.{◌∙◌, true, false, ap, sym}
use Rattle.tap_log.specs.Reduced.{reduced}
use Rattle.tap_history.specs.Departing.{departing_of}
use Rattle.tap_ledger.specs.Ledger.{LedgerValue}
use Rattle.tap_ledger.proofs.Asked.{departing_by}
use Rattle.tap_ledger.proofs.ledger.Ledger.departing.Goals as goal

pub returns-then-is_empty : goal.returns-then-is_empty
returns-then-is_empty c =
    let kept = c.self.invariant.kept in
    departing_by (reduced c.self.inside.log.records) c.self.inside.log.records c.self.inside.frames c.self.inside.leaver true kept.flights kept.leaves
    (sym c.if-is_empty.true ∙ c.is_empty.ensures)
    ∙ ap (λ (l : LedgerValue). departing_of l.records) c.self.view_is

pub returns-else-is_empty : goal.returns-else-is_empty
returns-else-is_empty c =
    let kept = c.self.invariant.kept in
    departing_by (reduced c.self.inside.log.records) c.self.inside.log.records c.self.inside.frames c.self.inside.leaver false kept.flights kept.leaves
    (sym c.if-is_empty.false ∙ c.is_empty.ensures)
    ∙ ap (λ (l : LedgerValue). departing_of l.records) c.self.view_is
