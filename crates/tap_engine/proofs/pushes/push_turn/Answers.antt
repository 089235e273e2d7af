use Rattle.std.proofs.Common.{ap, sym, subst, ◌∙◌, ◌++◌}
use Rattle.tap_log.specs.Counts.{sent_count}
use Rattle.tap_ledger.specs.Added.{CanAdd}
use Rattle.tap_engine.specs.SeenTurns.{bytes_records}
use Rattle.tap_engine.proofs.Counting.{frames_alone}
use Rattle.tap_engine.proofs.pushes.push_turn.Goals as goal

pub push_frames-requires-clause-can_add : goal.push_frames-requires-clause-can_add
push_frames-requires-clause-can_add c =
    let log = c.args.ledger.now.records in
    subst (CanAdd log)
    (frames_alone (sent_count log) c.args.name.now (record { sent = c.args.sent; news = c.args.news.now }) c.in-Nothing.is ∙ ap (bytes_records (sent_count log)) (sym c.into_frames.ensures))
    c.requires.can_add

pub returns-in-Nothing-clause-records : goal.returns-in-Nothing-clause-records
returns-in-Nothing-clause-records c =
    let log = c.args.ledger.now.records in
    c.push_frames.ensures.records
    ∙ ap (λ l. log ++ l) (ap (bytes_records (sent_count log)) c.into_frames.ensures
    ∙ sym (frames_alone (sent_count log) c.args.name.now (record { sent = c.args.sent; news = c.args.news.now }) c.in-Nothing.is))
