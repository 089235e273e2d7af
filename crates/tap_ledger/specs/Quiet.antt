-- Which records leave all that a ledger keeps as it is, but the frames and who departs.
use Rattle.std.specs.Prelude.{Bool, true, false, not, ◌&&◌, Option}
use Rattle.std.specs.Option.{option_map_or}
use Rattle.tap_scenario.specs.declared.step.Step.{Step}
use Rattle.tap_scenario.specs.declared.step.Step.TheVariants.{Join, Depart}
use Rattle.tap_log.specs.declared.record.Record.{Record}
use Rattle.tap_log.specs.declared.record.Record.TheVariants.{Step as StepRecord, Core, Gone, Abandoned, Published, Withdrawn, Asked, CastFrom}

-- the record tells of who takes part, of a pair, of a lookup or of a cast
unfoldable pub tells_more : Record → Bool
tells_more (Core name) = true
tells_more (Gone name) = true
tells_more (Abandoned name) = true
tells_more (Published object server) = true
tells_more (Withdrawn object server) = true
tells_more (Asked ticket object asker) = true
tells_more (CastFrom cast word level name) = true
tells_more other = false

-- the record tells of a publication, a withdrawal, a lookup or a cast
unfoldable pub tells_of_request : Record → Bool
tells_of_request (Published object server) = true
tells_of_request (Withdrawn object server) = true
tells_of_request (Asked ticket object asker) = true
tells_of_request (CastFrom cast word level name) = true
tells_of_request other = false

-- by the step a node is to join or to depart
unfoldable pub is_coming_or_going : Step → Bool
is_coming_or_going (Join name via) = true
is_coming_or_going (Depart name) = true
is_coming_or_going other = false

-- the record begins such a step
abbrev pub moves_node : Record → Bool
moves_node (StepRecord index step) = is_coming_or_going step
moves_node other = false

-- the record before begins such a step
abbrev pub is_moving_step : Option Record → Bool
is_moving_step last = option_map_or moves_node last false

-- The record is quiet after the last one: it tells of none of these, and accepts no such step.
abbrev pub is_quiet : Option Record → Record → Bool
is_quiet last item = not (tells_more item) && not (is_moving_step last)

-- the record tells of a request, and accepts no such step
abbrev pub is_request : Option Record → Record → Bool
is_request last item = tells_of_request item && not (is_moving_step last)
