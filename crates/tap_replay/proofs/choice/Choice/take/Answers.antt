use Rattle.std.proofs.Common.{◌-◌, ◌%◌, Some, ◌∙◌, ap, subst}
use Rattle.tap_make.specs.Mixer.{high_half}
use Rattle.tap_replay.specs.Choice.{IsChoiceOf}
use Rattle.tap_replay.proofs.Choosing.{deliver_once, deliver_place, drawn_next, mixed_place, newest_place, oldest_place, place_is}
use Rattle.tap_replay.proofs.choice.Choice.take.Goals as goal

pub returns-in-Place-clause-place : goal.returns-in-Place-clause-place
returns-in-Place-clause-place c = λ chosen of.
    let count = c.args.count in
    let place = c.in-Place.place in
    place_is chosen count place c.is_due.result (deliver_place chosen place count (subst (IsChoiceOf chosen) c.in-Place.is of))
    c.if-not-is_due.false (c.is_due.ensures.due chosen of)

pub returns-in-Place-clause-next : goal.returns-in-Place-clause-next
returns-in-Place-clause-next c = λ chosen of count.
    deliver_once chosen c.in-Place.place count (subst (IsChoiceOf chosen) c.in-Place.is of)

pub returns-in-Oldest-clause-place : goal.returns-in-Oldest-clause-place
returns-in-Oldest-clause-place c = λ chosen of.
    let count = c.args.count in
    place_is chosen count 0 c.is_due.result (oldest_place chosen count (subst (IsChoiceOf chosen) c.in-Oldest.is of))
    c.if-not-is_due.false (c.is_due.ensures.due chosen of)

pub returns-in-Newest-clause-place : goal.returns-in-Newest-clause-place
returns-in-Newest-clause-place c = λ chosen of.
    let count = c.args.count in
    place_is chosen count (count - 1) c.is_due.result (newest_place chosen count (subst (IsChoiceOf chosen) c.in-Newest.is of))
    c.if-not-is_due.false (c.is_due.ensures.due chosen of)

pub returns-in-Mixed-clause-place : goal.returns-in-Mixed-clause-place
returns-in-Mixed-clause-place c = λ chosen of.
    let count = c.args.count in
    let mixed = subst (IsChoiceOf chosen) c.in-Mixed.is of in
    let number = c.next.ensures.value ∙ ap high_half c.next.ensures.state ∙ drawn_next mixed.0 chosen.taken c.in-Mixed.mixer mixed.2 in
    ap (λ n. Some (n % count)) number
    ∙ place_is chosen count _ c.is_due.result (mixed_place chosen count mixed.0 mixed.1) c.if-not-is_due.false (c.is_due.ensures.due chosen of)
