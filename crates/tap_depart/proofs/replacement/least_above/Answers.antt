use Rattle.std.proofs.Common.{◌≡◌, ◌*◌, ◌<◌, ◌≤◌, false, is_some, arith, sym, ap, ◌∙◌}
use Rattle.tap_depart.specs.Replacement.{first_above}
use Rattle.tap_depart.proofs.Above.{first_of_others, first_of_range, none_in_range}
use Rattle.tap_table.proofs.LinksByName.{links_in}
use Rattle.tap_depart.proofs.replacement.least_above.Goals as goal
use Rattle.tap_depart.proofs.replacement.least_above.Goals.{then-range-level+else-is_some, else-range-level}

pub returns-then-is_some : goal.returns-then-is_some
returns-then-is_some c =
    let t = c.args.table.now in
    let digits = c.digits.ensures.value ∙ ap (λ p. p.digits) c.settings.ensures.value in
    let inside : c.loop-i.i < 2 * t.settings.digits = omega (arith, c.loop-i-test.true, digits) in
    let found = c.first_primary-first.ensures c.args.level (omega (arith, c.if-range-level.true)) in
    let some = ap is_some (sym found) ∙ sym c.is_some.ensures ∙ c.if-is_some.true in
    found
    ∙ sym (first_of_range t c.settings.ensures.valid c.args.level c.loop-i.i inside c.range_by_name-range.result
    c.range_by_name-range.ensures.value some)
    ∙ c.loop-i.invariant

pub loop-i-preserved : goal.loop-i-preserved
loop-i-preserved c =
    let t = c.args.table.now in
    let level = c.args.level in
    let valid = c.settings.ensures.valid in
    let range = c.range_by_name-range.result in
    let digits = c.digits.ensures.value ∙ ap (λ p. p.digits) c.settings.ensures.value in
    let inside : c.loop-i.i < 2 * t.settings.digits = omega (arith, c.loop-i-test.true, digits) in
    let none : is_some (first_above t.owner level (links_in t range)) ≡ false = elim c.if-range-level.branch [
      | then-range-level+else-is_some w ↦
          let higher : level < range.level = omega (arith, w.if-range-level.true) in
          ap is_some (sym (w.first_primary-first.ensures level higher)) ∙ sym w.is_some.ensures ∙ w.if-is_some.false
      | else-range-level w ↦
          let lower : range.level ≤ level = omega (arith, w.if-range-level.false) in
          ap is_some (none_in_range t valid level range c.range_by_name-range.ensures.end lower)
    ] in
    sym (first_of_others t valid level c.loop-i.i inside range c.range_by_name-range.ensures.value none) ∙ c.loop-i.invariant
