use Rattle.std.proofs.Common.{[], ◌∷◌, ap, arith, length}
use Rattle.tap_scenario.specs.declared.step.Step.TheVariants.{Depart, Settle}
use Rattle.tap_make.specs.MadeNames.{newcomer}
use Rattle.tap_make.proofs.LoopLists.{more_flat}
use Rattle.tap_make.proofs.Scripted.{newcomer_at, two_more}
use Rattle.tap_make.proofs.steps.add_departures.Goals as goal

pub loop-i-preserved : goal.loop-i-preserved
loop-i-preserved c =
    more_flat (λ number. Depart (newcomer c.args.seed number) ∷ Settle ∷ []) c.args.steps.now c.loop-i.steps c.push-in-loop-i.new.self
    (Depart c.at.result ∷ Settle ∷ []) c.loop-i.i c.loop-i.invariant
    (two_more c.loop-i.steps c.push.new.self c.push-in-loop-i.new.self (Depart c.at.result) Settle c.in_ok-push.ensures.ok
    c.in_ok-push-2.ensures.ok)
    (ap (λ x. Depart x ∷ Settle ∷ [])
    (newcomer_at (length c.args.names.now.newcomers) c.args.seed c.loop-i.i c.args.names.now.newcomers c.at.result
    c.requires.names.newcomers (omega arith) c.at.ensures))
