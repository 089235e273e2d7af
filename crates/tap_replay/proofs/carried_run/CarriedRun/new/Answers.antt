use Rattle.std.proofs.Common.{ap, sym, subst}
use Rattle.tap_lawful.specs.CarriedDue.{carried_choice, choice_after}
use Rattle.tap_lawful.specs.Next.{begun_count}
use Rattle.tap_replay.specs.CarriedChosen.{AreChosen}
use Rattle.tap_replay.specs.declared.choice.Choice.TheVariants.{Nothing}
use Rattle.tap_replay.specs.declared.ticks.Ticks.TheVariants.{Never}
use Rattle.tap_replay.proofs.CarriedGroups.{nothing_chosen_yet}
use Rattle.tap_replay.proofs.carried_run.CarriedRun.new.Goals as goal

pub returns-clause-run : goal.returns-clause-run
unfolding choice_after
returns-clause-run c = record {
  carries = c.in_ok-carried.ensures.begins;
  begun = sym (ap begun_count c.in_ok-carried.ensures.log);
  chosen = subst (λ l. AreChosen (carried_choice l) Nothing Never) (sym c.in_ok-carried.ensures.log) nothing_chosen_yet;
}
