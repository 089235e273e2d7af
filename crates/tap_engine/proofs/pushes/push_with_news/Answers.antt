use Rattle.std.proofs.Common.{◌≡◌, ℕ, ◌++◌, List, ap, sym, subst, ◌∙◌, append_assoc}
use Rattle.tap_log.specs.declared.record.Record.{Record}
use Rattle.tap_log.specs.Counts.{sent_count}
use Rattle.tap_log.specs.MoreRecords.{at_most_one}
use Rattle.tap_node_common.specs.declared.news.News.{News}
use Rattle.tap_ledger.specs.Added.{CanAdd}
use Rattle.tap_ledger.proofs.Adding.{can_first, can_rest}
use Rattle.tap_engine.specs.SeenTurns.{bytes_records, seen_after, seen_before}
use Rattle.tap_engine.proofs.Counting.{sent_as_before}
use Rattle.tap_engine.proofs.pushes.push_with_news.Goals as goal

-- after the news that stand before the frames, and the frames
bytes_added : (log with_news with_frames : List Record) (name : List ℕ) (news : News) (frames : List (List ℕ))
    → with_news ≡ log ++ seen_before name news
    → with_frames ≡ with_news ++ bytes_records (sent_count with_news) frames
    → with_frames ≡ (log ++ seen_before name news) ++ bytes_records (sent_count log) frames
bytes_added log with_news with_frames name news frames first added =
    added ∙ ap (λ l. l ++ bytes_records (sent_count l) frames) first
    ∙ ap (λ n. (log ++ seen_before name news) ++ bytes_records n frames) (sent_as_before log name news)

pub push_some-requires-clause-can_add : goal.push_some-requires-clause-can_add
push_some-requires-clause-can_add c =
    let log = c.args.ledger.now.records in
    subst (CanAdd log) (sym c.record_before.ensures)
    (can_first log (seen_before c.args.name.now c.args.news.now) (bytes_records (sent_count log) c.args.frames.items ++ seen_after c.args.news.now) c.requires.can_add)

pub push_frames-frames-requires-clause-can_add : goal.push_frames-frames-requires-clause-can_add
push_frames-frames-requires-clause-can_add c =
    let log = c.args.ledger.now.records in
    let before = seen_before c.args.name.now c.args.news.now in
    let bytes = bytes_records (sent_count log) c.args.frames.items in
    let can = can_first (log ++ before) bytes (seen_after c.args.news.now)
    (can_rest log before (bytes ++ seen_after c.args.news.now) c.requires.can_add) in
    let now : c.push_some.new.ledger.records ≡ log ++ before = c.push_some.ensures.records ∙ ap (λ l. log ++ l) c.record_before.ensures in
    let count : sent_count c.push_some.new.ledger.records ≡ sent_count log =
    ap sent_count now ∙ sent_as_before log c.args.name.now c.args.news.now in
    subst (λ n. CanAdd c.push_some.new.ledger.records (bytes_records n c.args.frames.items)) (sym count)
    (subst (λ l. CanAdd l bytes) (sym now) can)

pub push_some-requires-2-clause-can_add : goal.push_some-requires-2-clause-can_add
push_some-requires-2-clause-can_add c =
    let log = c.args.ledger.now.records in
    let before = seen_before c.args.name.now c.args.news.now in
    let bytes = bytes_records (sent_count log) c.args.frames.items in
    let can = can_rest (log ++ before) bytes (seen_after c.args.news.now)
    (can_rest log before (bytes ++ seen_after c.args.news.now) c.requires.can_add) in
    let first : c.push_some.new.ledger.records ≡ log ++ before = c.push_some.ensures.records ∙ ap (λ l. log ++ l) c.record_before.ensures in
    let now = bytes_added log c.push_some.new.ledger.records c.push_frames-frames.new.ledger.records c.args.name.now c.args.news.now
    c.args.frames.items first c.push_frames-frames.ensures.records in
    subst (λ l. CanAdd l (at_most_one c.record_after.result)) (sym now) (subst (CanAdd ((log ++ before) ++ bytes)) (sym c.record_after.ensures) can)

pub returns-clause-records : goal.returns-clause-records
returns-clause-records c =
    let log = c.args.ledger.now.records in
    let before = seen_before c.args.name.now c.args.news.now in
    let bytes = bytes_records (sent_count log) c.args.frames.items in
    let after = seen_after c.args.news.now in
    let first : c.push_some.new.ledger.records ≡ log ++ before = c.push_some.ensures.records ∙ ap (λ l. log ++ l) c.record_before.ensures in
    let now = bytes_added log c.push_some.new.ledger.records c.push_frames-frames.new.ledger.records c.args.name.now c.args.news.now
    c.args.frames.items first c.push_frames-frames.ensures.records in
    c.push_some-2.ensures.records ∙ ap (λ l. l ++ at_most_one c.record_after.result) now
    ∙ ap (λ l. ((log ++ before) ++ bytes) ++ l) c.record_after.ensures
    ∙ append_assoc (log ++ before) bytes after ∙ append_assoc log before (bytes ++ after)
