use Rattle.std.proofs.Common.{ap, sym, subst, ◌∙◌}
use Rattle.tap_scenario.specs.declared.step.Step.TheVariants.{RootSet}
use Rattle.tap_log.specs.Reduced.{reduced}
use Rattle.tap_engine.specs.Outcome.{WorldAnswersAs, mark_outcome}
use Rattle.tap_root_sets.proofs.Asking.{is_marked, noted_so, told_so}
use Rattle.tap_root_sets.proofs.Marking.{chooses, may_go_on, may_note, roots_added}
use Rattle.tap_root_sets.proofs.Refusing.{asker_core}
use Rattle.tap_root_sets.proofs.root_sets.root_set.Goals as goal

pub mark-requires-clause-kind : goal.mark-requires-clause-kind
mark-requires-clause-kind c = chooses c.args.object c.args.asker

pub mark-requires-2-clause-kind : goal.mark-requires-2-clause-kind
mark-requires-2-clause-kind c = chooses c.args.object c.args.asker

pub note-requires : goal.note-requires
note-requires c =
    let w = c.args.world.now in
    let v = c.mark.new.self in
    let plain = ap reduced (sym c.log.ensures.records) ∙ c.log.ensures.reduced in
    let step = RootSet c.args.object c.args.asker in
    let answers = subst (λ r. WorldAnswersAs (mark_outcome w c.args.index step) w r v) c.in_ok-mark.was c.mark.ensures.answers in
    may_note w v c.args.index c.args.object c.args.asker
    (is_marked c.args.settings.now w c.requires.may c.requires.goes_on plain c.log.ensures.within c.args.index c.args.object c.args.asker v answers)
    c.in-Some.refusal

pub returns-in-Some : goal.returns-in-Some
returns-in-Some c =
    let w = c.args.world.now in
    let v = c.mark.new.self in
    let plain = ap reduced (sym c.log.ensures.records) ∙ c.log.ensures.reduced in
    let step = RootSet c.args.object c.args.asker in
    let answers = subst (λ r. WorldAnswersAs (mark_outcome w c.args.index step) w r v) c.in_ok-mark.was c.mark.ensures.answers in
    noted_so c.args.settings.now w c.requires.may c.requires.goes_on plain c.log.ensures.within c.args.index c.args.object c.args.asker v
    answers c.in-Some.refusal c.note.result c.note.new.self (sym (c.refusal_of.ensures c.args.object) ∙ c.in-Some.is) c.note.ensures.answers
    c.note.ensures.memory

pub roots_of-requires-clause-core : goal.roots_of-requires-clause-core
roots_of-requires-clause-core c =
    asker_core c.args.world.now.log c.args.object c.args.asker (sym c.in_default.is ∙ c.refusal_of.ensures c.args.object)

pub remark-requires-clause-goes_on : goal.remark-requires-clause-goes_on
remark-requires-clause-goes_on c =
    let w = c.args.world.now in
    let v = c.mark-2.new.self in
    let plain = ap reduced (sym c.log.ensures.records) ∙ c.log.ensures.reduced in
    let step = RootSet c.args.object c.args.asker in
    let answers = subst (λ r. WorldAnswersAs (mark_outcome w c.args.index step) w r v) c.in_ok-mark-2.was c.mark-2.ensures.answers in
    may_go_on w v c.args.index c.args.object c.args.asker
    (is_marked c.args.settings.now w c.requires.may c.requires.goes_on plain c.log.ensures.within c.args.index c.args.object c.args.asker v answers)

pub remark-requires-clause-kind : goal.remark-requires-clause-kind
remark-requires-clause-kind c = roots_added c.args.object c.args.asker c.in_ok-roots.roots

pub returns : goal.returns
returns c =
    let w = c.args.world.now in
    let v = c.mark-2.new.self in
    let plain = ap reduced (sym c.log.ensures.records) ∙ c.log.ensures.reduced in
    let step = RootSet c.args.object c.args.asker in
    let answers = subst (λ r. WorldAnswersAs (mark_outcome w c.args.index step) w r v) c.in_ok-mark-2.was c.mark-2.ensures.answers in
    told_so c.args.settings.now w c.requires.may c.requires.goes_on plain c.log.ensures.within c.args.index c.args.object c.args.asker v
    answers c.in_ok-roots.roots c.remark.result c.remark.new.self (sym (c.refusal_of.ensures c.args.object) ∙ c.in_default.is) c.in_ok-roots.ensures
    c.remark.ensures.remarks c.remark.ensures.roots
