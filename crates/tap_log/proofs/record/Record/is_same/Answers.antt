use Rattle.std.proofs.Common.{◌≡◌, sym, ◌∙◌}
use Rattle.tap_log.specs.contracts.record.RecordPartialEq.TheImpl as recorded
use Rattle.tap_log.proofs.record.Record.is_same.Goals as goal
use Rattle.tap_log.proofs.Equality.{record_eq}

pub returns-clause-same : goal.returns-clause-same
returns-clause-same c = λ h.
    let is : c.eq.result ≡ (recorded.ghosts).eq c.args.self.now c.args.other.now = c.eq.ensures in
    (record_eq c.args.self.now c.args.other.now).0 (sym is ∙ h)

pub returns-clause-each : goal.returns-clause-each
returns-clause-each c = λ h.
    let is : c.eq.result ≡ (recorded.ghosts).eq c.args.self.now c.args.other.now = c.eq.ensures in
    is ∙ (record_eq c.args.self.now c.args.other.now).1 h
