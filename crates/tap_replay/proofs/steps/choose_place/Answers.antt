use Rattle.std.proofs.Common.{◌≡◌, ◌<◌, ◌≤◌, inr, Ok, Some, ap, sym, subst, ◌∙◌, length}
use Rattle.tap_scenario.specs.declared.step.Step.TheVariants.{Deliver}
use Rattle.tap_log.specs.declared.record.Refusal.TheVariants.{NoSuchFlight}
use Rattle.tap_history.specs.Moments.{outstanding}
use Rattle.tap_engine.specs.Outcome.{WorldAnswersAs, mark_outcome}
use Rattle.tap_replay.proofs.Stepping.{begun_last, deliver_chooses, deliver_refusable, has_marked, marked_count, mark_runs, noted_answers, place_missing, place_there}
use Rattle.tap_replay.proofs.steps.choose_place.Goals as goal

pub mark-requires-clause-kind : goal.mark-requires-clause-kind
mark-requires-clause-kind c = deliver_chooses c.args.place

pub returns-then-place-count : goal.returns-then-place-count
returns-then-place-count c =
    let w = c.args.world.now in
    let v = c.mark.new.self in
    let step = Deliver c.args.place in
    let marked = subst (λ r. WorldAnswersAs (mark_outcome w c.args.index step) w r v) c.in_ok-mark.was c.mark.ensures.answers in
    let begun = has_marked w v c.args.index step c.requires.may.runs marked in
    let there : c.args.place < length (outstanding w.log) =
    subst (λ n. c.args.place < n) (c.outstanding-count.ensures ∙ marked_count w v c.args.index step begun) c.if-place-count.true in
    subst (λ o. WorldAnswersAs o w (Ok tt) v)
    (mark_runs w c.requires.may c.args.index step (deliver_chooses c.args.place) (place_there w c.args.index c.args.place c.requires.may there)) marked

pub note-requires : goal.note-requires
note-requires c =
    let w = c.args.world.now in
    let v = c.mark.new.self in
    let step = Deliver c.args.place in
    let marked = subst (λ r. WorldAnswersAs (mark_outcome w c.args.index step) w r v) c.in_ok-mark.was c.mark.ensures.answers in
    let begun = has_marked w v c.args.index step c.requires.may.runs marked in
    record { step = step; last = begun_last w v c.args.index step begun; may = inr (deliver_refusable c.args.place) }

pub returns : goal.returns
returns c =
    let w = c.args.world.now in
    let v = c.mark.new.self in
    let step = Deliver c.args.place in
    let marked = subst (λ r. WorldAnswersAs (mark_outcome w c.args.index step) w r v) c.in_ok-mark.was c.mark.ensures.answers in
    let begun = has_marked w v c.args.index step c.requires.may.runs marked in
    let count : c.outstanding-count.result ≡ length (outstanding w.log) =
    c.outstanding-count.ensures ∙ marked_count w v c.args.index step begun in
    let past : length (outstanding w.log) ≤ c.args.place = subst (λ n. n ≤ c.args.place) count c.if-place-count.false in
    noted_answers w v c.args.index step begun c.note.new.self (NoSuchFlight c.outstanding-count.result) c.note.result c.requires.may
    (place_missing w c.args.index c.args.place c.requires.may past ∙ ap (λ n. Some (NoSuchFlight n)) (sym count)) c.note.ensures.memory
    c.note.ensures.answers
