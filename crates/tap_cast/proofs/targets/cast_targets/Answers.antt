use Rattle.std.proofs.Common.{◌+◌, ◌*◌, ◌<◌, ◌++◌, arith, sym, ap, ◌∙◌}
use Rattle.tap_cast.specs.Targets.{cast_targets, slot_targets, targets_between}
use Rattle.tap_cast.proofs.Levels.{all_told, none_told}
use Rattle.tap_table.proofs.Stepping.{in_range, in_ranges, in_ranges-first}
use Rattle.tap_table.proofs.OneAdded.{added}
use Rattle.tap_cast.proofs.targets.cast_targets.Goals as goal
use Rattle.tap_cast.proofs.targets.cast_targets.Goals.{then-is_between+in_ok-push_range, else-is_between}

pub push_range-requires-clause-small : goal.push_range-requires-clause-small
push_range-requires-clause-small c =
    let digits = ap (λ p. p.digits) c.settings.ensures.value in
    omega (arith, c.range_by_name-range.ensures.level, c.settings.ensures.valid.limits.digits_to)

pub loop-i-preserved : goal.loop-i-preserved
loop-i-preserved c =
    let t = c.args.table.now in
    let from = c.args.from in
    let to = c.args.to in
    let i = c.loop-i.i in
    let done = c.loop-i.targets.items in
    let digits = c.digits.ensures.value ∙ ap (λ p. p.digits) c.settings.ensures.value in
    let inside : i < 2 * t.settings.digits = omega (arith, c.loop-i-test.true, digits) in
    let of_slot = targets_between t from to in
    let range = c.range_by_name-range.result in
    let rest = in_ranges of_slot t.settings t.owner (i + 1) in
    let parts = in_ranges-first of_slot t.settings t.owner i inside
    ∙ ap (λ r. in_range of_slot r ++ rest) (sym c.range_by_name-range.ensures.value) in
    elim c.if-is_between.branch [
      | then-is_between+in_ok-push_range w ↦
          let here = all_told t from to range (sym c.is_between.ensures ∙ w.if-is_between.true) in
          rw (w.targets-is, w.in_ok-push_range.ensures)
          (added done (in_range (slot_targets t) range) rest (in_ranges of_slot t.settings t.owner i) (cast_targets t from to)
          (parts ∙ ap (λ l. l ++ rest) here) c.loop-i.invariant)
      | else-is_between w ↦
          let here = none_told t from to range (sym c.is_between.ensures ∙ w.if-is_between.false) in
          rw w.targets-is (ap (λ l. done ++ l) (sym (parts ∙ ap (λ l. l ++ rest) here)) ∙ c.loop-i.invariant)
    ]
