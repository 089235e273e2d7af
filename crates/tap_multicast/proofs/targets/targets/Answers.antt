use Rattle.std.proofs.Common.{◌+◌, ◌*◌, ◌<◌, ◌++◌, arith, ap, sym, ◌∙◌}
use Rattle.tap_table.proofs.Stepping.{in_range, in_ranges, in_ranges-all, in_ranges-first}
use Rattle.tap_table.proofs.OneAdded.{added}
use Rattle.tap_multicast.specs.Slots.{told_in}
use Rattle.tap_multicast.specs.Targets.{targets}
use Rattle.tap_multicast.proofs.ToldBySlot.{none_told, targets_by_slot}
use Rattle.tap_multicast.proofs.targets.targets.Goals as goal
use Rattle.tap_multicast.proofs.targets.targets.Goals.{then-is_told_over+in_ok-push_range, else-is_told_over}

pub push_range-requires-clause-small : goal.push_range-requires-clause-small
push_range-requires-clause-small c =
    let digits = ap (λ p. p.digits) c.settings.ensures.value in
    omega (arith, c.range_by_name-range.ensures.level, c.settings.ensures.valid.limits.digits_to)

pub loop-i-init : goal.loop-i-init
loop-i-init c =
    let t = c.args.table.now in
    let cover = c.args.cover.now in
    rw c.new-targets.ensures.items
    (in_ranges-all (told_in t cover) t.settings t.owner ∙ targets_by_slot t c.settings.ensures.valid cover)

pub loop-i-preserved : goal.loop-i-preserved
loop-i-preserved c =
    let t = c.args.table.now in
    let cover = c.args.cover.now in
    let of_slot = told_in t cover in
    let i = c.loop-i.i in
    let done = c.loop-i.targets.items in
    let digits = c.digits.ensures.value ∙ ap (λ p. p.digits) c.settings.ensures.value in
    let inside : i < 2 * t.settings.digits = omega (arith, c.loop-i-test.true, digits) in
    let range = c.range_by_name-range.result in
    let rest = in_ranges of_slot t.settings t.owner (i + 1) in
    let parts = in_ranges-first of_slot t.settings t.owner i inside
    ∙ ap (λ r. in_range of_slot r ++ rest) (sym c.range_by_name-range.ensures.value) in
    elim c.if-is_told_over.branch [
      | then-is_told_over+in_ok-push_range w ↦
          rw (w.targets-is, w.in_ok-push_range.ensures)
          (added done (in_range of_slot range) rest (in_ranges of_slot t.settings t.owner i) (targets t cover) parts c.loop-i.invariant)
      | else-is_told_over w ↦
          let none = none_told t cover range (sym c.is_told_over.ensures ∙ w.if-is_told_over.false) in
          rw w.targets-is (ap (λ l. done ++ l) (sym (parts ∙ ap (λ l. l ++ rest) none)) ∙ c.loop-i.invariant)
    ]
