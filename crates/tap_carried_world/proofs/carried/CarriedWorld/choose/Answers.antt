use Rattle.std.proofs.Common.{sym, subst, ◌∙◌}
use Rattle.tap_engine.specs.Outcome.{WorldAnswersAs, mark_outcome}
use Rattle.tap_engine.specs.World.{whole_log}
use Rattle.tap_carried_world.specs.Adds.{HasAdded}
use Rattle.tap_carried_world.specs.Comes.{BeginsNext}
use Rattle.tap_carried_world.proofs.Beginning.{carried_by}
use Rattle.tap_carried_world.proofs.CarriedRunLaws.{laws}
use Rattle.tap_carried_world.proofs.Chosen.{may_note}
use Rattle.tap_carried_world.proofs.ChosenCalls.{alone_group, carried_is, choice_goes, log_is, lose_call, lose_place, noted_choice, plain_choice, repeat_call, repeat_place, repeat_room}
use Rattle.tap_carried_world.proofs.Seen.{adds_seen, carries_both, plain_of, seen, world_is}
use Rattle.tap_carried_world.proofs.Worlds.{may_begin, may_go_on}
use Rattle.tap_carried_world.proofs.carried.CarriedWorld.choose.Goals as goal

pub mark-requires-clause-goes_on : goal.mark-requires-clause-goes_on
mark-requires-clause-goes_on c =
    let s = c.args.scenario.now in
    let w = c.self.inside.world in
    let d = c.self.inside.carrier in
    let of = carries_both w d c.args.self.now c.self.view_is s c.requires.carries in
    let plain = plain_of w c.log.result.now.records c.log.ensures.records c.log.ensures.reduced in
    may_go_on laws s of.script w of.goes_on plain

pub mark-requires-clause-next : goal.mark-requires-clause-next
mark-requires-clause-next c =
    let s = c.args.scenario.now in
    let w = c.self.inside.world in
    let d = c.self.inside.carrier in
    let of = carries_both w d c.args.self.now c.self.view_is s c.requires.carries in
    let next = seen w d c.args.self.now c.self.view_is (λ x. BeginsNext s x.world c.args.index c.args.step.now) c.requires.next in
    let plain = plain_of w c.log.result.now.records c.log.ensures.records c.log.ensures.reduced in
    may_begin laws s of.script w of.goes_on plain c.args.index c.args.step.now next.step_is next.index_is

pub note-requires : goal.note-requires
note-requires c =
    let s = c.args.scenario.now in
    let w = c.self.inside.world in
    let d = c.self.inside.carrier in
    let of = carries_both w d c.args.self.now c.self.view_is s c.requires.carries in
    let next = seen w d c.args.self.now c.self.view_is (λ x. BeginsNext s x.world c.args.index c.args.step.now) c.requires.next in
    let v = c.mark.new.self in
    let marked = subst (λ r. WorldAnswersAs (mark_outcome w c.args.index c.args.step.now) w r v) c.in_ok-mark.was c.mark.ensures.answers in
    let first = c.refusal-refusal.ensures s.settings (whole_log w) of.keeps
    (carried_by (whole_log w) _ _ of.goes_on.played.begins) in
    may_note (whole_log w) (carried_is laws s w d of c.args.index c.args.step.now next c.requires.kind v c.log.ensures.within marked) w v c.args.index c.args.step.now c.in-Some.refusal c.requires.kind c.requires.played
    (sym first ∙ c.in-Some.is) (log_is laws s w d of c.args.index c.args.step.now next c.requires.kind v c.log.ensures.within marked)

pub returns-in-Some : goal.returns-in-Some
returns-in-Some c =
    let s = c.args.scenario.now in
    let w = c.self.inside.world in
    let d = c.self.inside.carrier in
    let of = carries_both w d c.args.self.now c.self.view_is s c.requires.carries in
    let next = seen w d c.args.self.now c.self.view_is (λ x. BeginsNext s x.world c.args.index c.args.step.now) c.requires.next in
    let v = c.mark.new.self in
    let marked = subst (λ r. WorldAnswersAs (mark_outcome w c.args.index c.args.step.now) w r v) c.in_ok-mark.was c.mark.ensures.answers in
    let first = c.refusal-refusal.ensures s.settings (whole_log w) of.keeps
    (carried_by (whole_log w) _ _ of.goes_on.played.begins) in
    adds_seen w d c.args.self.now c.self.view_is s c.note.result c.note.new.self c.begin.new.self
    (noted_choice laws s w d of c.args.index c.args.step.now next c.requires.kind v c.log.ensures.within marked c.in-Some.refusal c.note.new.self c.begin.new.self c.begin.ensures (sym first ∙ c.in-Some.is) c.note.result
    c.note.ensures.answers c.note.ensures.memory)

pub lose-requires-clause-goes_on : goal.lose-requires-clause-goes_on
lose-requires-clause-goes_on c =
    let s = c.args.scenario.now in
    let w = c.self.inside.world in
    let d = c.self.inside.carrier in
    let of = carries_both w d c.args.self.now c.self.view_is s c.requires.carries in
    let next = seen w d c.args.self.now c.self.view_is (λ x. BeginsNext s x.world c.args.index c.args.step.now) c.requires.next in
    let v = c.mark.new.self in
    let marked = subst (λ r. WorldAnswersAs (mark_outcome w c.args.index c.args.step.now) w r v) c.in_ok-mark.was c.mark.ensures.answers in
    choice_goes laws s w d of c.args.index c.args.step.now next c.requires.kind v c.log.ensures.within marked

pub lose-requires-clause-there : goal.lose-requires-clause-there
lose-requires-clause-there c =
    let s = c.args.scenario.now in
    let w = c.self.inside.world in
    let d = c.self.inside.carrier in
    let of = carries_both w d c.args.self.now c.self.view_is s c.requires.carries in
    let next = seen w d c.args.self.now c.self.view_is (λ x. BeginsNext s x.world c.args.index c.args.step.now) c.requires.next in
    let first = c.refusal-refusal.ensures s.settings (whole_log w) of.keeps
    (carried_by (whole_log w) _ _ of.goes_on.played.begins) in
    lose_place laws s w d of c.args.index c.in-Lose.place w c.begin.new.self c.args.step.now c.in-Lose.is (sym first ∙ c.in_default.is)
    c.begin.ensures

pub repeat-requires-clause-goes_on : goal.repeat-requires-clause-goes_on
repeat-requires-clause-goes_on c =
    let s = c.args.scenario.now in
    let w = c.self.inside.world in
    let d = c.self.inside.carrier in
    let of = carries_both w d c.args.self.now c.self.view_is s c.requires.carries in
    let next = seen w d c.args.self.now c.self.view_is (λ x. BeginsNext s x.world c.args.index c.args.step.now) c.requires.next in
    let v = c.mark.new.self in
    let marked = subst (λ r. WorldAnswersAs (mark_outcome w c.args.index c.args.step.now) w r v) c.in_ok-mark.was c.mark.ensures.answers in
    choice_goes laws s w d of c.args.index c.args.step.now next c.requires.kind v c.log.ensures.within marked

pub repeat-requires-clause-there : goal.repeat-requires-clause-there
repeat-requires-clause-there c =
    let s = c.args.scenario.now in
    let w = c.self.inside.world in
    let d = c.self.inside.carrier in
    let of = carries_both w d c.args.self.now c.self.view_is s c.requires.carries in
    let next = seen w d c.args.self.now c.self.view_is (λ x. BeginsNext s x.world c.args.index c.args.step.now) c.requires.next in
    let first = c.refusal-refusal.ensures s.settings (whole_log w) of.keeps
    (carried_by (whole_log w) _ _ of.goes_on.played.begins) in
    repeat_place laws s w d of c.args.index c.in-Repeat.place w c.begin.new.self c.args.step.now c.in-Repeat.is (sym first ∙ c.in_default.is)
    c.begin.ensures

pub repeat-requires-clause-room : goal.repeat-requires-clause-room
repeat-requires-clause-room c =
    let s = c.args.scenario.now in
    let w = c.self.inside.world in
    let d = c.self.inside.carrier in
    let of = carries_both w d c.args.self.now c.self.view_is s c.requires.carries in
    repeat_room laws s w d of c.args.index c.in-Repeat.place w c.begin.new.self c.args.step.now c.begin.ensures

pub returns-in-Lose : goal.returns-in-Lose
returns-in-Lose c =
    let s = c.args.scenario.now in
    let w = c.self.inside.world in
    let d = c.self.inside.carrier in
    let of = carries_both w d c.args.self.now c.self.view_is s c.requires.carries in
    let next = seen w d c.args.self.now c.self.view_is (λ x. BeginsNext s x.world c.args.index c.args.step.now) c.requires.next in
    let v = c.mark.new.self in
    let marked = subst (λ r. WorldAnswersAs (mark_outcome w c.args.index c.args.step.now) w r v) c.in_ok-mark.was c.mark.ensures.answers in
    let first = c.refusal-refusal.ensures s.settings (whole_log w) of.keeps
    (carried_by (whole_log w) _ _ of.goes_on.played.begins) in
    adds_seen w d c.args.self.now c.self.view_is s c.lose.result c.lose.new.world c.lose.new.self
    (lose_call laws s w d of c.args.index c.in-Lose.place v c.begin.new.self c.log.ensures.within c.lose.result c.lose.new.world c.lose.new.self
    c.args.step.now c.in-Lose.is next c.requires.kind (sym first ∙ c.in_default.is) marked c.begin.ensures c.lose.ensures)

pub returns-in-Repeat : goal.returns-in-Repeat
returns-in-Repeat c =
    let s = c.args.scenario.now in
    let w = c.self.inside.world in
    let d = c.self.inside.carrier in
    let of = carries_both w d c.args.self.now c.self.view_is s c.requires.carries in
    let next = seen w d c.args.self.now c.self.view_is (λ x. BeginsNext s x.world c.args.index c.args.step.now) c.requires.next in
    let v = c.mark.new.self in
    let marked = subst (λ r. WorldAnswersAs (mark_outcome w c.args.index c.args.step.now) w r v) c.in_ok-mark.was c.mark.ensures.answers in
    let first = c.refusal-refusal.ensures s.settings (whole_log w) of.keeps
    (carried_by (whole_log w) _ _ of.goes_on.played.begins) in
    adds_seen w d c.args.self.now c.self.view_is s c.repeat.result c.repeat.new.world c.repeat.new.self
    (repeat_call laws s w d of c.args.index c.in-Repeat.place v c.begin.new.self c.log.ensures.within c.repeat.result c.repeat.new.world
    c.repeat.new.self c.args.step.now c.in-Repeat.is next c.requires.kind (sym first ∙ c.in_default.is) marked c.begin.ensures c.repeat.ensures)

pub returns-in_default-step : goal.returns-in_default-step
returns-in_default-step c =
    let s = c.args.scenario.now in
    let w = c.self.inside.world in
    let d = c.self.inside.carrier in
    let of = carries_both w d c.args.self.now c.self.view_is s c.requires.carries in
    let next = seen w d c.args.self.now c.self.view_is (λ x. BeginsNext s x.world c.args.index c.args.step.now) c.requires.next in
    let v = c.mark.new.self in
    let marked = subst (λ r. WorldAnswersAs (mark_outcome w c.args.index c.args.step.now) w r v) c.in_ok-mark.was c.mark.ensures.answers in
    let first = c.refusal-refusal.ensures s.settings (whole_log w) of.keeps
    (carried_by (whole_log w) _ _ of.goes_on.played.begins) in
    subst (λ x. HasAdded s x v c.begin.new.self) (world_is w d c.args.self.now c.self.view_is)
    (plain_choice laws s w d of c.args.index c.args.step.now next c.requires.kind v c.log.ensures.within marked c.begin.new.self c.begin.ensures (sym first ∙ c.in_default.is)
    (alone_group s.settings (whole_log w) c.args.index c.args.step.now c.requires.played c.in_default-step.not-Lose c.in_default-step.not-Repeat))
