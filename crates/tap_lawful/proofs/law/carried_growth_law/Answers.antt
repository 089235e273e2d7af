use Rattle.tap_lawful.specs.CarriedLaws.{CarriedGrows}
use Rattle.tap_lawful.proofs.CarriedAlike.{carried_alike}
use Rattle.tap_lawful.proofs.CarriedGrowth.{carried_all, carried_indices, carried_more, carried_starts, carried_steps}
use Rattle.tap_lawful.proofs.law.carried_growth_law.Goals as goal

carried_grows : CarriedGrows
carried_grows = record {
  starts = carried_starts;
  more = λ s log group script played comes within. carried_more s log group script played comes within;
  steps = λ s log script played. carried_steps s log script played;
  indices = λ s log script played. carried_indices s log script played;
  all = λ s log script played none. carried_all s log script played none;
  alike = carried_alike;
}

pub returns : goal.returns
returns c = carried_grows
