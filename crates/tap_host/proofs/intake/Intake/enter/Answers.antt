use Rattle.std.proofs.Common.{◌≡◌, ◌∙◌, false, sym}
use Rattle.tap_carry.specs.Inbox.{has_arrived}
use Rattle.tap_host.proofs.Entering.{entered_again, entered_first, entered_kept, not_true}
use Rattle.tap_host.proofs.intake.Intake.enter.Goals as goal

pub returns-then-branch-clause-after : goal.returns-then-branch-clause-after
returns-then-branch-clause-after c =
    let new : has_arrived c.self.inside.inbox c.args.from c.args.seq ≡ false = not_true _ (sym c.if-branch.true ∙ c.in_ok-arrived.ensures.first) in
    rw (← c.self.view_is) (entered_first c.self.inside.inbox c.arrived.new.self c.self.inside.refused.keys c.args.from c.args.seq c.self.invariant
    c.in_ok-arrived.ensures.after.is new)

pub invariant_of-self-2 : goal.invariant_of-self-2
invariant_of-self-2 c =
    entered_kept c.self.inside.inbox c.arrived.new.self c.self.inside.refused.keys c.args.from c.args.seq c.swap_remove.new.self.keys
    c.in_ok-arrived.ensures.after.is (λ x k. c.swap_remove.ensures.updates.0 (x, k)) c.self.invariant

pub returns-clause-after : goal.returns-clause-after
returns-clause-after c =
    rw (← c.self.view_is) (entered_again c.self.inside.inbox c.arrived.new.self c.self.inside.refused.keys c.args.from c.args.seq
    c.swap_remove.new.self.keys c.in_ok-arrived.ensures.after.is (λ x k. c.swap_remove.ensures.updates.0 (x, k)))
