use Rattle.std.proofs.Common.{◌∙◌, nat_eq, ap}
use Rattle.std.specs.Prelude.{position}
use Rattle.tap_log.specs.Reduced.{reduced}
use Rattle.tap_history.specs.Moments.{outstanding}
use Rattle.tap_ledger.specs.Ledger.{LedgerValue}
use Rattle.tap_ledger.proofs.Asked.{place_is}
use Rattle.tap_ledger.proofs.ledger.Ledger.place_of.Goals as goal

pub returns : goal.returns
returns c =
    let number = c.args.number in
    c.place_of.ensures
    ∙ place_is (reduced c.self.inside.log.records) c.self.inside.log.records c.self.inside.frames number c.self.invariant.kept.flights
    ∙ ap (λ (l : LedgerValue). position (nat_eq number) (outstanding l.records)) c.self.view_is
