use Rattle.std.proofs.Common.{◌∙◌, ap, sym}
use Rattle.tap_log.specs.Reduced.{reduced}
use Rattle.tap_log.specs.Counts.{resent_count}
use Rattle.tap_ledger.specs.Ledger.{LedgerValue}
use Rattle.tap_ledger.proofs.Uncarried.{none_resent}
use Rattle.tap_ledger.proofs.ledger.Ledger.resent.Goals as goal

pub returns : goal.returns
returns c =
    sym (none_resent (reduced c.self.inside.log.records) c.self.invariant.kept.begins.no_packets)
    ∙ ap (λ (l : LedgerValue). resent_count l.records) c.self.view_is
