use Rattle.std.proofs.Common.{◌∙◌, ap, length, sym}
use Rattle.tap_log.specs.Reduced.{reduced}
use Rattle.tap_history.specs.Moments.{awaiting}
use Rattle.tap_ledger.specs.Ledger.{LedgerValue}
use Rattle.tap_ledger.proofs.Uncarried.{all_await}
use Rattle.tap_ledger.proofs.ledger.Ledger.awaiting.Goals as goal

pub returns : goal.returns
returns c =
    let kept = c.self.invariant.kept in
    c.sent.ensures.count ∙ kept.flights.sent ∙ sym (all_await (reduced c.self.inside.log.records) kept.begins.no_packets)
    ∙ ap (λ (l : LedgerValue). length (awaiting l.records)) c.self.view_is
