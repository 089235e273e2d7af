use Rattle.std.proofs.Common.{◌≡◌, true, false, Some, refl, ap, sym, subst, ◌∙◌}
use Rattle.tap_engine.specs.World.{whole_log}
use Rattle.tap_lawful.specs.CarriedDue.{carried_choice, carried_due, is_stranded}
use Rattle.tap_lawful.specs.CarriedDue.Due.{TickDue}
use Rattle.tap_replay.specs.CarriedChosen.{AreChosen, as_chosen}
use Rattle.tap_replay.specs.Ticks.{due_by_ticks, ticks_left}
use Rattle.tap_replay.proofs.CarriedChoosing.{arrival, not_refused, nothing_due, tick}
use Rattle.tap_replay.proofs.CarriedGroups.{chosen_arrived, chosen_ticked, one_more_ticked}
use Rattle.tap_replay.proofs.CarriedRunning.{arrival_adds, tick_adds}
use Rattle.tap_replay.proofs.carried_run.CarriedRun.add_next.Goals as goal

pub arrive-requires-clause-next : goal.arrive-requires-clause-next
arrive-requires-clause-next c =
    let run = c.args.self.now in
    let s = c.args.scenario.now in
    let at = arrival (whole_log run.carried.world) run.choice run.ticks c.requires.chosen c.under_way.result
    (c.under_way.ensures s c.requires.carries) c.in-Some.place c.in-Some.ensures.place in
    record { line = at.line; there = at.there; due = at.due }

pub returns-in-Some : goal.returns-in-Some
returns-in-Some c =
    let run = c.args.self.now in
    let s = c.args.scenario.now in
    let log = whole_log run.carried.world in
    let all = c.under_way.ensures s c.requires.carries in
    let chosen = c.requires.chosen in
    let at = arrival log run.choice run.ticks chosen c.under_way.result all c.in-Some.place c.in-Some.ensures.place in
    let accepted = not_refused log run.choice run.ticks chosen c.under_way.result all c.in-Some.place c.in-Some.ensures.place in
    arrival_adds s run _ c.requires refl at.line at.due
    (chosen_arrived (carried_choice log) run.choice _ run.ticks chosen accepted
    (c.in-Some.ensures.next (as_chosen (carried_choice log)) (chosen.chosen accepted)))
    c.arrive.result c.arrive.ensures

pub tick-requires-clause-next : goal.tick-requires-clause-next
tick-requires-clause-next c =
    let run = c.args.self.now in
    let s = c.args.scenario.now in
    let log = whole_log run.carried.world in
    let due : due_by_ticks run.ticks (is_stranded log) ≡ true =
    ap (due_by_ticks run.ticks) (sym (c.is_stranded.ensures s c.requires.carries)) ∙ sym c.is_due.ensures ∙ c.if-is_due.true in
    tick log run.choice run.ticks c.requires.chosen c.under_way.result (c.under_way.ensures s c.requires.carries)
    (λ chosen of. sym c.in_default.is ∙ c.take.ensures.place chosen of) due

pub returns-then-is_due : goal.returns-then-is_due
returns-then-is_due c =
    let run = c.args.self.now in
    let s = c.args.scenario.now in
    let log = whole_log run.carried.world in
    let due : due_by_ticks run.ticks (is_stranded log) ≡ true =
    ap (due_by_ticks run.ticks) (sym (c.is_stranded.ensures s c.requires.carries)) ∙ sym c.is_due.ensures ∙ c.if-is_due.true in
    let ticks : carried_due log ≡ Some TickDue =
    tick log run.choice run.ticks c.requires.chosen c.under_way.result (c.under_way.ensures s c.requires.carries)
    (λ chosen of. sym c.in_default.is ∙ c.take.ensures.place chosen of) due in
    let next : AreChosen (one_more_ticked (carried_choice log)) run.choice (ticks_left run.ticks) =
    chosen_ticked (carried_choice log) run.choice run.ticks c.requires.chosen in
    tick_adds s run _ c.requires refl ticks
    (subst (λ choice. AreChosen (one_more_ticked (carried_choice log)) choice c.after_one-self.result) (sym (c.take.ensures.same c.in_default.is))
    (subst (λ t. AreChosen (one_more_ticked (carried_choice log)) run.choice t) (sym c.after_one-self.ensures) next))
    c.tick.result c.tick.ensures

pub add_step-requires-clause-none : goal.add_step-requires-clause-none
add_step-requires-clause-none c =
    let run = c.args.self.now in
    let s = c.args.scenario.now in
    let log = whole_log run.carried.world in
    let due : due_by_ticks run.ticks (is_stranded log) ≡ false =
    ap (due_by_ticks run.ticks) (sym (c.is_stranded.ensures s c.requires.carries)) ∙ sym c.is_due.ensures ∙ c.if-is_due.false in
    nothing_due log run.choice run.ticks c.requires.chosen c.under_way.result (c.under_way.ensures s c.requires.carries)
    (λ chosen of. sym c.in_default.is ∙ c.take.ensures.place chosen of) due
