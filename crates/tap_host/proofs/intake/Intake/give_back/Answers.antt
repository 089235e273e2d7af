use Rattle.std.proofs.Common.{◌≡◌, true, subst, sym}
use Rattle.tap_host.specs.Intake.{IntakeValue, has_taken}
use Rattle.tap_host.proofs.Entering.{back_kept, given_back, taken_arrived}
use Rattle.tap_host.proofs.intake.Intake.give_back.Goals as goal

pub invariant_of-self-2 : goal.invariant_of-self-2
invariant_of-self-2 c =
    let taken : has_taken (record { inbox = c.self.inside.inbox; refused = c.self.inside.refused.keys }) c.args.from c.args.seq ≡ true =
    subst (λ (v : IntakeValue). has_taken v c.args.from c.args.seq ≡ true) (sym c.self.view_is) c.requires in
    back_kept c.self.inside.inbox c.self.inside.refused.keys c.insert.new.self.keys c.args.from c.args.seq
    (λ x k. c.in_ok-insert.ensures.updates.0 (x, k)) c.self.invariant (taken_arrived _ _ taken)

pub returns : goal.returns
returns c =
    rw (← c.self.view_is) (given_back c.self.inside.inbox c.self.inside.refused.keys c.insert.new.self.keys c.args.from c.args.seq
    (λ x k. c.in_ok-insert.ensures.updates.0 (x, k)))
