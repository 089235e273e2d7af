use Rattle.std.proofs.Common.{map, take, ap, subst, ◌∙◌}
use Rattle.std.specs.String.{string_bytes}
use Rattle.tap_io.specs.MemorySink.{sink_state}
use Rattle.tap_io.specs.MemorySource.{source_state}
use Rattle.tap_io.specs.Sink.{SinkState}
use Rattle.tap_words.specs.Words.{asked_by}
use Rattle.tap_top.specs.Ending.{HasWritten, log_of, mode_asked, text_of_run}
use Rattle.tap_page.proofs.Printing.{has_run, page_words_accepted}
use Rattle.tap_page.proofs.run.Goals as goal

pub returns-clause-ran : goal.returns-clause-ran
returns-clause-ran c =
    let ended = c.run-ended.result in
    let asked = asked_by (map string_bytes c.in_ok-words.words.items) in
    let sink = c.run-ended.new.sink in
    let text = text_of_run (mode_asked asked) (log_of ended.world) ended.before in
    let Wrote : SinkState → Type 0 = λ old. HasWritten old (sink_state sink) text ended.before ended.status in
    let accepted = ap asked_by c.in_ok-words.ensures ∙ page_words_accepted c.args.brief c.plain_words_law.ensures in
    has_run c.args.brief c.args.text.now (take c.hand_over.new.len c.hand_over.new.room) sink.held sink.calls.faults c.hand_over.result asked
    (source_state c.in_ok-source.source) (source_state c.run-ended.new.source) ended.world ended.before ended.status accepted
    (ap source_state c.in_ok-source.ensures) c.run-ended.ensures.cause c.run-ended.ensures.headline
    (subst Wrote (ap sink_state c.in_ok-sink.ensures) c.run-ended.ensures.written) (rw c.bytes.ensures at c.hand_over.ensures.printed)
