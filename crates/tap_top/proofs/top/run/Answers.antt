use Rattle.std.proofs.Common.{map, subst}
use Rattle.std.specs.String.{string_bytes}
use Rattle.tap_words.specs.Words.{asked_by}
use Rattle.tap_top.specs.Ending.{HasCause, log_of}
use Rattle.tap_top.specs.declared.status.Status.{Status}
use Rattle.tap_top.proofs.Causes.{done_exactly, done_nodes, done_ran, log_asked, log_last, log_lawful, log_prints, source_untouched, spent_exactly, spent_ran}
use Rattle.tap_top.proofs.Consumed.{read_for}
use Rattle.tap_top.proofs.top.run.Goals as goal

pub returns-clause-done : goal.returns-clause-done
returns-clause-done g c = λ is.
    let asked = asked_by (map string_bytes c.args.words.now.items) in
    let old = g.S.Source.state c.args.source.now in
    let new = g.S.Source.state c.run_words.new.source in
    let world = c.run_words.result.world in
    let Caused : Status → Type 0 = HasCause asked old new world in
    done_ran asked old new world (subst Caused is (rw c.as_slice.ensures.value at c.run_words.ensures.cause))

pub returns-clause-nodes : goal.returns-clause-nodes
returns-clause-nodes g c = λ is.
    let asked = asked_by (map string_bytes c.args.words.now.items) in
    let old = g.S.Source.state c.args.source.now in
    let new = g.S.Source.state c.run_words.new.source in
    let world = c.run_words.result.world in
    let Caused : Status → Type 0 = HasCause asked old new world in
    done_nodes asked old new world (subst Caused is (rw c.as_slice.ensures.value at c.run_words.ensures.cause))

pub returns-clause-short : goal.returns-clause-short
returns-clause-short g c = λ is.
    let asked = asked_by (map string_bytes c.args.words.now.items) in
    let old = g.S.Source.state c.args.source.now in
    let new = g.S.Source.state c.run_words.new.source in
    let world = c.run_words.result.world in
    let Caused : Status → Type 0 = HasCause asked old new world in
    spent_ran asked old new world (subst Caused is (rw c.as_slice.ensures.value at c.run_words.ensures.cause))

pub returns-clause-source : goal.returns-clause-source
returns-clause-source g c =
    source_untouched (asked_by (map string_bytes c.args.words.now.items)) (g.S.Source.state c.args.source.now)
    (g.S.Source.state c.run_words.new.source) c.run_words.result.world c.run_words.result.before
    (rw c.as_slice.ensures.value at c.run_words.ensures.cause)

pub returns-clause-finished : goal.returns-clause-finished
returns-clause-finished g c =
    done_exactly c.run_words.result.before (log_of c.run_words.result.world)
    (log_last (asked_by (map string_bytes c.as_slice.result.now)) (g.S.Source.state c.args.source.now)
    (g.S.Source.state c.run_words.new.source) c.run_words.result.world c.run_words.result.before c.run_words.ensures.cause)

pub returns-clause-spent : goal.returns-clause-spent
returns-clause-spent g c =
    spent_exactly c.run_words.result.before (log_of c.run_words.result.world)
    (log_last (asked_by (map string_bytes c.as_slice.result.now)) (g.S.Source.state c.args.source.now)
    (g.S.Source.state c.run_words.new.source) c.run_words.result.world c.run_words.result.before c.run_words.ensures.cause)

pub returns-clause-printable : goal.returns-clause-printable
returns-clause-printable g c =
    log_prints (asked_by (map string_bytes c.as_slice.result.now)) (g.S.Source.state c.args.source.now)
    (g.S.Source.state c.run_words.new.source) c.run_words.result.world c.run_words.result.before c.run_words.ensures.cause

pub returns-clause-lawful : goal.returns-clause-lawful
returns-clause-lawful g c =
    log_lawful (asked_by (map string_bytes c.as_slice.result.now)) (g.S.Source.state c.args.source.now)
    (g.S.Source.state c.run_words.new.source) c.run_words.result.world c.run_words.result.before c.run_words.ensures.cause

pub returns-clause-headline : goal.returns-clause-headline
returns-clause-headline g c =
    log_asked (asked_by (map string_bytes c.args.words.now.items)) (g.S.Source.state c.args.source.now)
    (g.S.Source.state c.run_words.new.source) c.run_words.result.world c.run_words.result.before
    (rw c.as_slice.ensures.value at c.run_words.ensures.cause)

pub returns-clause-read_fault : goal.returns-clause-read_fault
returns-clause-read_fault g c =
    (read_for (asked_by (map string_bytes c.as_slice.result.now)) (g.S.Source.state c.args.source.now) (g.S.Source.state c.run_words.new.source)
    c.run_words.result.world c.run_words.result.before c.run_words.ensures.cause).failed

pub returns-clause-read : goal.returns-clause-read
returns-clause-read g c =
    (read_for (asked_by (map string_bytes c.as_slice.result.now)) (g.S.Source.state c.args.source.now) (g.S.Source.state c.run_words.new.source)
    c.run_words.result.world c.run_words.result.before c.run_words.ensures.cause).read

pub returns-clause-no_memory : goal.returns-clause-no_memory
returns-clause-no_memory g c =
    (read_for (asked_by (map string_bytes c.as_slice.result.now)) (g.S.Source.state c.args.source.now) (g.S.Source.state c.run_words.new.source)
    c.run_words.result.world c.run_words.result.before c.run_words.ensures.cause).no_memory

pub returns-clause-unfailed : goal.returns-clause-unfailed
returns-clause-unfailed g c =
    (read_for (asked_by (map string_bytes c.as_slice.result.now)) (g.S.Source.state c.args.source.now) (g.S.Source.state c.run_words.new.source)
    c.run_words.result.world c.run_words.result.before c.run_words.ensures.cause).unfailed
