use Rattle.std.proofs.Common.{inl, inr, ◌∙◌, ap, sym, subst}
use Rattle.std.specs.Prelude.{is_some}
use Rattle.tap_make.specs.Mixer.{drawn}
use Rattle.tap_replay.specs.Choice.{IsChoiceOf}
use Rattle.tap_replay.proofs.Choosing.{deliver_place, mixed_due, mixed_place, newest_due, newest_place, oldest_due, oldest_place, some_place}
use Rattle.tap_replay.proofs.choice.Choice.is_due.Goals as goal

pub returns-in-Place-clause-due : goal.returns-in-Place-clause-due
returns-in-Place-clause-due c = λ chosen of.
    let count = c.args.count in
    let place = c.in-Place.place in
    sym (ap is_some (deliver_place chosen place count (subst (IsChoiceOf chosen) c.in-Place.is of)) ∙ some_place count place)

pub returns-in-Oldest-clause-due : goal.returns-in-Oldest-clause-due
returns-in-Oldest-clause-due c = λ chosen of.
    let count = c.args.count in
    elim c.in-Oldest.is [
      | inl oldest ↦ sym (ap is_some (oldest_place chosen count (subst (IsChoiceOf chosen) oldest of)) ∙ oldest_due count)
      | inr (inl newest) ↦ sym (ap is_some (newest_place chosen count (subst (IsChoiceOf chosen) newest of)) ∙ newest_due count)
      | inr (inr mixed) ↦
          let by = subst (IsChoiceOf chosen) mixed.1 of in
          sym (ap is_some (mixed_place chosen count by.0 by.1) ∙ mixed_due count (drawn by.0 chosen.taken))
    ]
