use Rattle.std.proofs.Common.{◌≡◌, arith, sym, subst, ◌∙◌, ◌-◌, true, false, ◌+◌, ℕ}
use Rattle.tap_name.specs.Cyclic.{first_from}
use Rattle.tap_table.specs.Next.{can_take}
use Rattle.tap_table.proofs.DigitTaken.{taken_later, taken_now}
use Rattle.tap_table.proofs.table.Table.taken_digit.Goals as goal

pub loop-tried-preserved : goal.loop-tried-preserved
loop-tried-preserved c =
    let base = c.base-base.result in
    let p = can_take c.args.self.now c.args.level in
    let left = base - c.loop-tried._tried in
    let less = base - (c.loop-tried._tried + 1) in
    let fails : p c.loop-tried.digit ≡ false = sym c.can_take.ensures ∙ c.if-can_take.false in
    let later = taken_later base p left less c.loop-tried.digit (omega arith) fails in
    record {
      below = c.next_cyclic-digit.ensures.below;
      same = rw c.next_cyclic-digit.ensures.value (sym later ∙ c.loop-tried.invariant.same);
    }

pub returns-then-can_take-clause-value : goal.returns-then-can_take-clause-value
returns-then-can_take-clause-value c =
    let base = c.base-base.result in
    let p = can_take c.args.self.now c.args.level in
    let left = base - c.loop-tried._tried in
    let less = base - (c.loop-tried._tried + 1) in
    let passes : p c.loop-tried.digit ≡ true = sym c.can_take.ensures ∙ c.if-can_take.true in
    let now = taken_now base p left less c.loop-tried.digit (omega arith) passes in
    let same : base ≡ c.args.self.now.settings.base = rw (← c.self.view_is) c.base-base.ensures.value in
    let IsTaken : ℕ → Type 0 = λ b. c.loop-tried.digit ≡ first_from b p b c.args.wanted in
    subst IsTaken same (sym now ∙ c.loop-tried.invariant.same)
