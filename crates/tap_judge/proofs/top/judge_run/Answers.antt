use Rattle.std.proofs.Common.{subst, sym}
use Rattle.tap_judge.specs.Ending.{HasReadSuch, SpeaksOfBytes}
use Rattle.tap_judge.specs.Status.{line_of_status}
use Rattle.tap_judge.proofs.Causes.{exactly, never_writing, read_for, such_of, usage_exactly, usage_untouched, with_headline, write_failed, written_so}
use Rattle.tap_judge.proofs.top.judge_run.Goals as goal

pub returns-clause-written : goal.returns-clause-written
returns-clause-written g c =
    rw c.with_writing.ensures
    (written_so (g.K.Sink.state c.args.sink.now) (g.K.Sink.state c.write_line-written.new.sink) (line_of_status c.judge_unless_words-before.result)
    c.judge_unless_words-before.result c.write_line-written.result c.write_line-written.ensures)

pub returns-clause-lawful : goal.returns-clause-lawful
returns-clause-lawful g c = λ records is.
    let old = g.S.Source.state c.args.source.now in
    let new = g.S.Source.state c.judge_unless_words-before.new.source in
    let before = c.judge_unless_words-before.result in
    with_headline old new records
    (subst (HasReadSuch old new) is
    (such_of old new c.args.words.now.items before c.judge_unless_words-before.ensures (subst SpeaksOfBytes (sym is) tt)))

pub returns-clause-unlawful : goal.returns-clause-unlawful
returns-clause-unlawful g c = λ k is.
    such_of (g.S.Source.state c.args.source.now) (g.S.Source.state c.judge_unless_words-before.new.source) c.args.words.now.items
    c.judge_unless_words-before.result c.judge_unless_words-before.ensures (subst SpeaksOfBytes (sym is) tt)

pub returns-clause-not_log : goal.returns-clause-not_log
returns-clause-not_log g c = λ line is.
    such_of (g.S.Source.state c.args.source.now) (g.S.Source.state c.judge_unless_words-before.new.source) c.args.words.now.items
    c.judge_unless_words-before.result c.judge_unless_words-before.ensures (subst SpeaksOfBytes (sym is) tt)

pub returns-clause-too_long : goal.returns-clause-too_long
returns-clause-too_long g c =
    (read_for (g.S.Source.state c.args.source.now) (g.S.Source.state c.judge_unless_words-before.new.source) c.args.words.now.items
    c.judge_unless_words-before.result c.judge_unless_words-before.ensures).too_long

pub returns-clause-usage : goal.returns-clause-usage
returns-clause-usage g c =
    usage_exactly (g.S.Source.state c.args.source.now) (g.S.Source.state c.judge_unless_words-before.new.source) c.args.words.now.items
    c.judge_unless_words-before.result c.judge_unless_words-before.ensures

pub returns-clause-read_fault : goal.returns-clause-read_fault
returns-clause-read_fault g c =
    (read_for (g.S.Source.state c.args.source.now) (g.S.Source.state c.judge_unless_words-before.new.source) c.args.words.now.items
    c.judge_unless_words-before.result c.judge_unless_words-before.ensures).failed

pub returns-clause-no_memory : goal.returns-clause-no_memory
returns-clause-no_memory g c =
    (read_for (g.S.Source.state c.args.source.now) (g.S.Source.state c.judge_unless_words-before.new.source) c.args.words.now.items
    c.judge_unless_words-before.result c.judge_unless_words-before.ensures).no_memory

pub returns-clause-write_fault : goal.returns-clause-write_fault
returns-clause-write_fault g c = λ is.
    write_failed (g.K.Sink.state c.args.sink.now) (g.K.Sink.state c.write_line-written.new.sink) (line_of_status c.judge_unless_words-before.result)
    c.judge_unless_words-before.result c.with_writing.result
    (rw c.with_writing.ensures
    (written_so (g.K.Sink.state c.args.sink.now) (g.K.Sink.state c.write_line-written.new.sink) (line_of_status c.judge_unless_words-before.result)
    c.judge_unless_words-before.result c.write_line-written.result c.write_line-written.ensures))
    (never_writing (g.S.Source.state c.args.source.now) (g.S.Source.state c.judge_unless_words-before.new.source) c.args.words.now.items
    c.judge_unless_words-before.result c.judge_unless_words-before.ensures)
    is

pub returns-clause-before : goal.returns-clause-before
returns-clause-before g c =
    never_writing (g.S.Source.state c.args.source.now) (g.S.Source.state c.judge_unless_words-before.new.source) c.args.words.now.items
    c.judge_unless_words-before.result c.judge_unless_words-before.ensures

pub returns-clause-exact : goal.returns-clause-exact
returns-clause-exact g c = λ bytes status is speaks said.
    exactly (g.S.Source.state c.args.source.now) (g.S.Source.state c.judge_unless_words-before.new.source) c.args.words.now.items
    c.judge_unless_words-before.result c.judge_unless_words-before.ensures bytes status is speaks said

pub returns-clause-read : goal.returns-clause-read
returns-clause-read g c =
    (read_for (g.S.Source.state c.args.source.now) (g.S.Source.state c.judge_unless_words-before.new.source) c.args.words.now.items
    c.judge_unless_words-before.result c.judge_unless_words-before.ensures).read

pub returns-clause-unfailed : goal.returns-clause-unfailed
returns-clause-unfailed g c =
    (read_for (g.S.Source.state c.args.source.now) (g.S.Source.state c.judge_unless_words-before.new.source) c.args.words.now.items
    c.judge_unless_words-before.result c.judge_unless_words-before.ensures).unfailed

pub returns-clause-source : goal.returns-clause-source
returns-clause-source g c =
    usage_untouched (g.S.Source.state c.args.source.now) (g.S.Source.state c.judge_unless_words-before.new.source) c.args.words.now.items
    c.judge_unless_words-before.result c.judge_unless_words-before.ensures
