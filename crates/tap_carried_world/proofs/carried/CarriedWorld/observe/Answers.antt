use Rattle.std.proofs.Common.{inl, false, Err, Ok, sym, subst}
use Rattle.tap_scenario.specs.Step.{IsStep}
use Rattle.tap_runs.specs.Beginning.{Beginning}
use Rattle.tap_engine.specs.Outcome.{WorldAnswersAs, step_outcome}
use Rattle.tap_engine.specs.declared.stop.Stop.TheVariants.{Ended, NoMemory, Spent}
use Rattle.tap_engine.proofs.AddedGroups.{at_none}
use Rattle.tap_carried_world.specs.Comes.{BeginsNext}
use Rattle.tap_carried_world.proofs.ActingSteps.{observed_call, refused_call, step_stops}
use Rattle.tap_carried_world.proofs.CarriedRunLaws.{laws}
use Rattle.tap_carried_world.proofs.Seen.{adds_seen, carries_both, plain_of, seen}
use Rattle.tap_carried_world.proofs.RunLogs.{next_of_scenario}
use Rattle.tap_carried_world.proofs.Worlds.{may_begin, may_go_on, observation_acts, observes_as_step, refused_may_note}
use Rattle.tap_carried_world.proofs.carried.CarriedWorld.observe.Goals as goal

pub observe-requires-clause-goes_on : goal.observe-requires-clause-goes_on
observe-requires-clause-goes_on c =
    let s = c.args.scenario.now in
    let w = c.self.inside.world in
    let d = c.self.inside.carrier in
    let of = carries_both w d c.args.self.now c.self.view_is s c.requires.carries in
    let plain = plain_of w c.log.result.now.records c.log.ensures.records c.log.ensures.reduced in
    may_go_on laws s of.script w of.goes_on plain

pub observe-requires-clause-next : goal.observe-requires-clause-next
observe-requires-clause-next c =
    let s = c.args.scenario.now in
    let w = c.self.inside.world in
    let d = c.self.inside.carrier in
    let of = carries_both w d c.args.self.now c.self.view_is s c.requires.carries in
    let plain = plain_of w c.log.result.now.records c.log.ensures.records c.log.ensures.reduced in
    let next = seen w d c.args.self.now c.self.view_is (λ x. BeginsNext s x.world c.args.index c.args.step.now) c.requires.next in
    may_begin laws s of.script w of.goes_on plain c.args.index c.args.step.now next.step_is next.index_is

pub observe-requires-clause-names : goal.observe-requires-clause-names
observe-requires-clause-names c =
    let s = c.args.scenario.now in
    let w = c.self.inside.world in
    let d = c.self.inside.carrier in
    let of = carries_both w d c.args.self.now c.self.view_is s c.requires.carries in
    let next = seen w d c.args.self.now c.self.view_is (λ x. BeginsNext s x.world c.args.index c.args.step.now) c.requires.next in
    subst (λ (b : Beginning). IsStep b.settings false c.args.step.now) (sym of.goes_on.beginning)
    (observes_as_step s.settings c.args.step.now c.requires.kind (next_of_scenario laws s of.script _ of.goes_on.played c.args.step.now next.step_is))

pub note-requires : goal.note-requires
note-requires c =
    refused_may_note c.self.inside.world c.observe.new.self c.args.index c.args.step.now c.in-Err-Refused.refusal c.log.ensures.within
    (subst (λ x. WorldAnswersAs (step_outcome c.self.inside.world c.args.index c.args.step.now) c.self.inside.world (Err x) c.observe.new.self)
    c.in-Err-Refused.field-0-is c.in-Err-Refused.ensures.answers)

pub returns-in-Err-Refused : goal.returns-in-Err-Refused
returns-in-Err-Refused c =
    let s = c.args.scenario.now in
    let w = c.self.inside.world in
    let d = c.self.inside.carrier in
    let of = carries_both w d c.args.self.now c.self.view_is s c.requires.carries in
    let plain = plain_of w c.log.result.now.records c.log.ensures.records c.log.ensures.reduced in
    let next = seen w d c.args.self.now c.self.view_is (λ x. BeginsNext s x.world c.args.index c.args.step.now) c.requires.next in
    adds_seen w d c.args.self.now c.self.view_is s c.note.result c.note.new.self c.begin.new.self
    (refused_call laws s w d of c.args.index c.args.step.now next (observation_acts c.args.step.now c.requires.kind) plain c.in-Err-Refused.refusal
    c.observe.new.self c.note.new.self c.begin.new.self c.begin.ensures c.log.ensures.within (subst (λ x. WorldAnswersAs (step_outcome c.self.inside.world c.args.index c.args.step.now) c.self.inside.world (Err x) c.observe.new.self)
    c.in-Err-Refused.field-0-is c.in-Err-Refused.ensures.answers) c.note.result
    c.note.ensures.answers c.note.ensures.memory)

pub returns-in-Err-Spent : goal.returns-in-Err-Spent
returns-in-Err-Spent c =
    let s = c.args.scenario.now in
    let w = c.self.inside.world in
    let d = c.self.inside.carrier in
    let of = carries_both w d c.args.self.now c.self.view_is s c.requires.carries in
    let plain = plain_of w c.log.result.now.records c.log.ensures.records c.log.ensures.reduced in
    let next = seen w d c.args.self.now c.self.view_is (λ x. BeginsNext s x.world c.args.index c.args.step.now) c.requires.next in
    adds_seen w d c.args.self.now c.self.view_is s (Err Spent) c.observe.new.self c.begin.new.self
    (step_stops laws s w d of c.args.index c.args.step.now next (observation_acts c.args.step.now c.requires.kind) plain Spent c.observe.new.self
    c.begin.new.self c.log.ensures.within (subst (λ x. WorldAnswersAs (step_outcome c.self.inside.world c.args.index c.args.step.now) c.self.inside.world (Err x) c.observe.new.self)
    c.in-Err-Spent.field-0-is c.in-Err-Spent.ensures.answers) (λ refusal same. cc))

pub returns-in-Err-NoMemory : goal.returns-in-Err-NoMemory
returns-in-Err-NoMemory c =
    let s = c.args.scenario.now in
    let w = c.self.inside.world in
    let d = c.self.inside.carrier in
    let of = carries_both w d c.args.self.now c.self.view_is s c.requires.carries in
    let plain = plain_of w c.log.result.now.records c.log.ensures.records c.log.ensures.reduced in
    let next = seen w d c.args.self.now c.self.view_is (λ x. BeginsNext s x.world c.args.index c.args.step.now) c.requires.next in
    adds_seen w d c.args.self.now c.self.view_is s (Err NoMemory) c.observe.new.self c.begin.new.self
    (step_stops laws s w d of c.args.index c.args.step.now next (observation_acts c.args.step.now c.requires.kind) plain NoMemory c.observe.new.self
    c.begin.new.self c.log.ensures.within (subst (λ x. WorldAnswersAs (step_outcome c.self.inside.world c.args.index c.args.step.now) c.self.inside.world (Err x) c.observe.new.self)
    c.in-Err-NoMemory.field-0-is c.in-Err-NoMemory.ensures.answers) (λ refusal same. cc))

pub returns-in-Err-Ended : goal.returns-in-Err-Ended
returns-in-Err-Ended c =
    let s = c.args.scenario.now in
    let w = c.self.inside.world in
    let d = c.self.inside.carrier in
    let of = carries_both w d c.args.self.now c.self.view_is s c.requires.carries in
    let plain = plain_of w c.log.result.now.records c.log.ensures.records c.log.ensures.reduced in
    let next = seen w d c.args.self.now c.self.view_is (λ x. BeginsNext s x.world c.args.index c.args.step.now) c.requires.next in
    adds_seen w d c.args.self.now c.self.view_is s (Err Ended) c.observe.new.self c.begin.new.self
    (step_stops laws s w d of c.args.index c.args.step.now next (observation_acts c.args.step.now c.requires.kind) plain Ended c.observe.new.self
    c.begin.new.self c.log.ensures.within (subst (λ x. WorldAnswersAs (step_outcome c.self.inside.world c.args.index c.args.step.now) c.self.inside.world (Err x) c.observe.new.self)
    c.in-Err-Ended.field-0-is c.in-Err-Ended.ensures.answers) (λ refusal same. cc))

pub returns-in-Ok : goal.returns-in-Ok
returns-in-Ok c =
    let s = c.args.scenario.now in
    let w = c.self.inside.world in
    let d = c.self.inside.carrier in
    let of = carries_both w d c.args.self.now c.self.view_is s c.requires.carries in
    let plain = plain_of w c.log.result.now.records c.log.ensures.records c.log.ensures.reduced in
    let next = seen w d c.args.self.now c.self.view_is (λ x. BeginsNext s x.world c.args.index c.args.step.now) c.requires.next in
    adds_seen w d c.args.self.now c.self.view_is s (Ok tt) c.observe.new.self c.begin.new.self
    (observed_call laws s w d of c.args.index c.args.step.now next (observation_acts c.args.step.now c.requires.kind) plain c.observe.new.self
    c.begin.new.self c.begin.ensures c.log.ensures.within c.in-Ok.ensures.answers (at_none c.args.step.now (inl c.requires.kind)))
