use Rattle.std.proofs.Common.{◌≡◌, None, ap, sym, ◌∙◌, inl, inr, length}
use Rattle.tap_log.specs.MoreRecords.{first_of_both}
use Rattle.tap_history.specs.Refusals.{first_refusal}
use Rattle.tap_carrier.specs.Carrier.{CarrierValue}
use Rattle.tap_carrier.proofs.Refusing.{counted, deliver_refusal, first_if_some, lose_refusal, more_refusal, place_refusal, repeat_refusal, settles, tick_refusal}
use Rattle.tap_carrier.proofs.carrier.Carrier.refusal.Goals as goal

pub returns-in-None : goal.returns-in-None
returns-in-None c = λ p log keeps carried.
    let now = c.args.self.now in
    let count = length now.boxes.net.packets in
    let more = more_refusal now.resent 1 in
    let none : place_refusal count c.in-Repeat.place ≡ None = sym c.refuses_place.ensures ∙ c.in-None.is in
    c.refuses_more.ensures ∙ ap (λ o. first_of_both o more) (sym none)
    ∙ sym (repeat_refusal log count now.resent (counted p log now keeps carried) c.in-Repeat.place)
    ∙ ap (first_refusal log) (sym c.in-Repeat.is)

pub returns-in_default-refuses_place : goal.returns-in_default-refuses_place
returns-in_default-refuses_place c = λ p log keeps carried.
    let now = c.args.self.now in
    let count = length now.boxes.net.packets in
    let more = more_refusal now.resent 1 in
    first_if_some c.refuses_place.result more c.in_default-refuses_place.not-None ∙ ap (λ o. first_of_both o more) c.refuses_place.ensures
    ∙ sym (repeat_refusal log count now.resent (counted p log now keeps carried) c.in-Repeat.place)
    ∙ ap (first_refusal log) (sym c.in-Repeat.is)

pub returns-in-Tick : goal.returns-in-Tick
returns-in-Tick c = λ p log keeps carried.
    let now = c.args.self.now in
    c.refuses_more-in-Tick.ensures
    ∙ ap (more_refusal now.resent)
    (c.awaiting.ensures.count ∙ ap (λ (v : CarrierValue). v.boxes.outboxes.awaiting) c.self.view_is ∙ keeps.boxes.awaiting)
    ∙ sym (tick_refusal log (length now.boxes.net.packets) now.resent (counted p log now keeps carried)) ∙ ap (first_refusal log) (sym c.in-Tick.is)

pub returns-in_default : goal.returns-in_default
returns-in_default c = λ p log keeps carried.
    let now = c.args.self.now in
    let arm = c.in_default in
    settles log (length now.boxes.net.packets) now.resent (counted p log now keeps carried) c.args.step.now c.requires.choice c.requires.played
    arm.not-Deliver arm.not-Tick arm.not-Lose arm.not-Repeat

pub returns-in-Deliver : goal.returns-in-Deliver
returns-in-Deliver c = λ p log keeps carried.
    let now = c.args.self.now in
    let count = length now.boxes.net.packets in
    let are = counted p log now keeps carried in
    c.refuses_place-in-Deliver.ensures
    ∙ elim c.in-Deliver.is [
      | inl is ↦ sym (deliver_refusal log count now.resent are c.in-Deliver.place) ∙ ap (first_refusal log) (sym is)
      | inr is ↦ sym (lose_refusal log count now.resent are c.in-Deliver.place) ∙ ap (first_refusal log) (sym is)
    ]
