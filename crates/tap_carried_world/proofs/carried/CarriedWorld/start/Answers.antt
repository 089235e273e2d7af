use Rattle.std.proofs.Common.{◌≡◌, false, length, Err, ap, sym, subst, ◌∙◌}
use Rattle.tap_scenario.specs.Step.{IsStep}
use Rattle.tap_runs.specs.Beginning.{Beginning}
use Rattle.tap_engine.specs.Outcome.{WorldAnswersAs, step_outcome}
use Rattle.tap_engine.specs.declared.stop.Stop.TheVariants.{Ended, NoMemory, Spent}
use Rattle.tap_carrier.specs.Kept.{KeepsLog}
use Rattle.tap_engine.specs.World.{whole_log}
use Rattle.tap_carrier.specs.Sending.{IsToCarry, RemarksAll, packets_since}
use Rattle.tap_carried_world.specs.Comes.{BeginsNext}
use Rattle.tap_carried_world.proofs.ActingSteps.{refused_call, started_call, started_carries, started_goes, step_stops}
use Rattle.tap_carried_world.proofs.CarriedRunLaws.{laws}
use Rattle.tap_carried_world.proofs.Seen.{adds_seen, carries_both, plain_of, seen}
use Rattle.tap_carried_world.proofs.RunLogs.{next_of_scenario}
use Rattle.tap_carried_world.proofs.Worlds.{may_begin, may_go_on, refused_may_note, start_acts, starts_as_step}
use Rattle.tap_carried_world.proofs.carried.CarriedWorld.start.Goals as goal

pub start-requires-clause-goes_on : goal.start-requires-clause-goes_on
start-requires-clause-goes_on c =
    let s = c.args.scenario.now in
    let w = c.self.inside.world in
    let d = c.self.inside.carrier in
    let of = carries_both w d c.args.self.now c.self.view_is s c.requires.carries in
    let plain = plain_of w c.log.result.now.records c.log.ensures.records c.log.ensures.reduced in
    may_go_on laws s of.script w of.goes_on plain

pub start-requires-clause-next : goal.start-requires-clause-next
start-requires-clause-next c =
    let s = c.args.scenario.now in
    let w = c.self.inside.world in
    let d = c.self.inside.carrier in
    let of = carries_both w d c.args.self.now c.self.view_is s c.requires.carries in
    let plain = plain_of w c.log.result.now.records c.log.ensures.records c.log.ensures.reduced in
    let next = seen w d c.args.self.now c.self.view_is (λ x. BeginsNext s x.world c.args.index c.args.step.now) c.requires.next in
    may_begin laws s of.script w of.goes_on plain c.args.index c.args.step.now next.step_is next.index_is

pub start-requires-clause-names : goal.start-requires-clause-names
start-requires-clause-names c =
    let s = c.args.scenario.now in
    let w = c.self.inside.world in
    let d = c.self.inside.carrier in
    let of = carries_both w d c.args.self.now c.self.view_is s c.requires.carries in
    let next = seen w d c.args.self.now c.self.view_is (λ x. BeginsNext s x.world c.args.index c.args.step.now) c.requires.next in
    subst (λ (b : Beginning). IsStep b.settings false c.args.step.now) (sym of.goes_on.beginning)
    (starts_as_step s.settings c.args.step.now c.requires.kind (next_of_scenario laws s of.script _ of.goes_on.played c.args.step.now next.step_is))

pub note-requires : goal.note-requires
note-requires c =
    refused_may_note c.self.inside.world c.start.new.self c.args.index c.args.step.now c.in-Err-Refused.refusal c.log.ensures.within
    (subst (λ x. WorldAnswersAs (step_outcome c.self.inside.world c.args.index c.args.step.now) c.self.inside.world (Err x) c.start.new.self)
    c.in-Err-Refused.field-0-is c.in-Err-Refused.ensures.answers)

pub returns-in-Err-Refused : goal.returns-in-Err-Refused
returns-in-Err-Refused c =
    let s = c.args.scenario.now in
    let w = c.self.inside.world in
    let d = c.self.inside.carrier in
    let of = carries_both w d c.args.self.now c.self.view_is s c.requires.carries in
    let plain = plain_of w c.log.result.now.records c.log.ensures.records c.log.ensures.reduced in
    let next = seen w d c.args.self.now c.self.view_is (λ x. BeginsNext s x.world c.args.index c.args.step.now) c.requires.next in
    adds_seen w d c.args.self.now c.self.view_is s c.note.result c.note.new.self c.begin.new.self
    (refused_call laws s w d of c.args.index c.args.step.now next (start_acts c.args.step.now c.requires.kind) plain c.in-Err-Refused.refusal
    c.start.new.self c.note.new.self c.begin.new.self c.begin.ensures c.log.ensures.within (subst (λ x. WorldAnswersAs (step_outcome c.self.inside.world c.args.index c.args.step.now) c.self.inside.world (Err x) c.start.new.self)
    c.in-Err-Refused.field-0-is c.in-Err-Refused.ensures.answers) c.note.result
    c.note.ensures.answers c.note.ensures.memory)

pub returns-in-Err-Spent : goal.returns-in-Err-Spent
returns-in-Err-Spent c =
    let s = c.args.scenario.now in
    let w = c.self.inside.world in
    let d = c.self.inside.carrier in
    let of = carries_both w d c.args.self.now c.self.view_is s c.requires.carries in
    let plain = plain_of w c.log.result.now.records c.log.ensures.records c.log.ensures.reduced in
    let next = seen w d c.args.self.now c.self.view_is (λ x. BeginsNext s x.world c.args.index c.args.step.now) c.requires.next in
    adds_seen w d c.args.self.now c.self.view_is s (Err Spent) c.start.new.self c.begin.new.self
    (step_stops laws s w d of c.args.index c.args.step.now next (start_acts c.args.step.now c.requires.kind) plain Spent c.start.new.self
    c.begin.new.self c.log.ensures.within (subst (λ x. WorldAnswersAs (step_outcome c.self.inside.world c.args.index c.args.step.now) c.self.inside.world (Err x) c.start.new.self)
    c.in-Err-Spent.field-0-is c.in-Err-Spent.ensures.answers) (λ refusal same. cc))

pub returns-in-Err-NoMemory : goal.returns-in-Err-NoMemory
returns-in-Err-NoMemory c =
    let s = c.args.scenario.now in
    let w = c.self.inside.world in
    let d = c.self.inside.carrier in
    let of = carries_both w d c.args.self.now c.self.view_is s c.requires.carries in
    let plain = plain_of w c.log.result.now.records c.log.ensures.records c.log.ensures.reduced in
    let next = seen w d c.args.self.now c.self.view_is (λ x. BeginsNext s x.world c.args.index c.args.step.now) c.requires.next in
    adds_seen w d c.args.self.now c.self.view_is s (Err NoMemory) c.start.new.self c.begin.new.self
    (step_stops laws s w d of c.args.index c.args.step.now next (start_acts c.args.step.now c.requires.kind) plain NoMemory c.start.new.self
    c.begin.new.self c.log.ensures.within (subst (λ x. WorldAnswersAs (step_outcome c.self.inside.world c.args.index c.args.step.now) c.self.inside.world (Err x) c.start.new.self)
    c.in-Err-NoMemory.field-0-is c.in-Err-NoMemory.ensures.answers) (λ refusal same. cc))

pub returns-in-Err-Ended : goal.returns-in-Err-Ended
returns-in-Err-Ended c =
    let s = c.args.scenario.now in
    let w = c.self.inside.world in
    let d = c.self.inside.carrier in
    let of = carries_both w d c.args.self.now c.self.view_is s c.requires.carries in
    let plain = plain_of w c.log.result.now.records c.log.ensures.records c.log.ensures.reduced in
    let next = seen w d c.args.self.now c.self.view_is (λ x. BeginsNext s x.world c.args.index c.args.step.now) c.requires.next in
    adds_seen w d c.args.self.now c.self.view_is s (Err Ended) c.start.new.self c.begin.new.self
    (step_stops laws s w d of c.args.index c.args.step.now next (start_acts c.args.step.now c.requires.kind) plain Ended c.start.new.self
    c.begin.new.self c.log.ensures.within (subst (λ x. WorldAnswersAs (step_outcome c.self.inside.world c.args.index c.args.step.now) c.self.inside.world (Err x) c.start.new.self)
    c.in-Err-Ended.field-0-is c.in-Err-Ended.ensures.answers) (λ refusal same. cc))

pub carry_since-requires-clause-goes_on : goal.carry_since-requires-clause-goes_on
carry_since-requires-clause-goes_on c =
    let s = c.args.scenario.now in
    let w = c.self.inside.world in
    let d = c.self.inside.carrier in
    let of = carries_both w d c.args.self.now c.self.view_is s c.requires.carries in
    let plain = plain_of w c.log.result.now.records c.log.ensures.records c.log.ensures.reduced in
    let next = seen w d c.args.self.now c.self.view_is (λ x. BeginsNext s x.world c.args.index c.args.step.now) c.requires.next in
    started_goes laws s w d of c.args.index c.args.step.now next (start_acts c.args.step.now c.requires.kind) plain c.start.new.self
    c.log.ensures.within c.in-Ok.ensures.answers

pub carry_since-requires-clause-carry : goal.carry_since-requires-clause-carry
carry_since-requires-clause-carry c =
    let s = c.args.scenario.now in
    let w = c.self.inside.world in
    let d = c.self.inside.carrier in
    let of = carries_both w d c.args.self.now c.self.view_is s c.requires.carries in
    let plain = plain_of w c.log.result.now.records c.log.ensures.records c.log.ensures.reduced in
    let next = seen w d c.args.self.now c.self.view_is (λ x. BeginsNext s x.world c.args.index c.args.step.now) c.requires.next in
    let from : length (whole_log w) ≡ c.len-from.result = ap length (sym c.log.ensures.records) ∙ sym c.len-from.ensures in
    subst (λ p. IsToCarry p c.len-from.result c.start.new.self c.begin.new.self) (sym c.settings.ensures.value)
    (subst (λ n. IsToCarry s.settings n c.start.new.self c.begin.new.self) from
    (started_carries laws s w d of c.args.index c.args.step.now next (start_acts c.args.step.now c.requires.kind) plain c.start.new.self
    c.log.ensures.within c.in-Ok.ensures.answers c.begin.new.self c.begin.ensures))

pub returns-in-Ok : goal.returns-in-Ok
returns-in-Ok c =
    let s = c.args.scenario.now in
    let w = c.self.inside.world in
    let d = c.self.inside.carrier in
    let of = carries_both w d c.args.self.now c.self.view_is s c.requires.carries in
    let plain = plain_of w c.log.result.now.records c.log.ensures.records c.log.ensures.reduced in
    let next = seen w d c.args.self.now c.self.view_is (λ x. BeginsNext s x.world c.args.index c.args.step.now) c.requires.next in
    let v = c.start.new.self in
    let u = c.carry_since.new.world in
    let e = c.carry_since.new.self in
    let from : c.len-from.result ≡ length (whole_log w) = c.len-from.ensures ∙ ap length c.log.ensures.records in
    adds_seen w d c.args.self.now c.self.view_is s c.carry_since.result u e
    (started_call laws s w d of c.args.index c.args.step.now next (start_acts c.args.step.now c.requires.kind) plain v
    c.log.ensures.within c.in-Ok.ensures.answers c.carry_since.result u e
    (subst (λ n. RemarksAll (packets_since n v) (KeepsLog s.settings (whole_log u) e) v c.carry_since.result u) from
    (subst (λ p. RemarksAll (packets_since c.len-from.result v) (KeepsLog p (whole_log u) e) v c.carry_since.result u) c.settings.ensures.value
    c.carry_since.ensures)))
