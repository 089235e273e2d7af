-- What a step of a scenario has a node start, and what a log says of it first.
--
-- Rule: docs/FORMATS.md, "The course of a run".
use Rattle.std.specs.Prelude.{ℕ, ◌+◌, List, [], ◌∷◌, length, Option, None, Some}
use Rattle.tap_scenario.specs.declared.step.Step.{Step}
use Rattle.tap_scenario.specs.declared.step.Step.TheVariants.{Join, Depart, Publish, Withdraw, Find, Abandon, Cast}
use Rattle.tap_log.specs.declared.record.Record.{Record}
use Rattle.tap_log.specs.declared.record.Record.TheVariants.{Published, Withdrawn, Asked, Abandoned, CastFrom}
use Rattle.tap_log.specs.Counts.{cast_count, ticket_count}
use Rattle.tap_rule.specs.Event.{Start}
use Rattle.tap_rule.specs.Event.Start.{Join as StartJoin, Abandon as StartAbandon, Publish as StartPublish, Withdraw as StartWithdraw, Find as StartFind, Leave as StartLeave, Cast as StartCast}

-- the ticket of the next lookup, and the number of the next cast: both are counted from 1
abbrev pub next_ticket : List Record → ℕ
next_ticket before = ticket_count before + 1

abbrev pub next_cast : List Record → ℕ
next_cast before = cast_count before + 1

-- what the step has its actor start, after this log; none if it is no start
unfoldable pub start_of_step : List Record → Step → Option Start
start_of_step before (Join name via) = Some (StartJoin via)
start_of_step before (Depart name) = Some StartLeave
start_of_step before (Publish object server) = Some (StartPublish object)
start_of_step before (Withdraw object server) = Some (StartWithdraw object)
start_of_step before (Find object asker) = Some (StartFind (next_ticket before) object)
start_of_step before (Abandon name) = Some StartAbandon
start_of_step before (Cast word prefix asker) = Some (StartCast (next_cast before) (length prefix) word)
start_of_step before other = None

-- what the log says of an accepted start before it says what the node did
unfoldable pub announced : List Record → Step → List Record
announced before (Publish object server) = Published object server ∷ []
announced before (Withdraw object server) = Withdrawn object server ∷ []
announced before (Find object asker) = Asked (next_ticket before) object asker ∷ []
announced before (Abandon name) = Abandoned name ∷ []
announced before (Cast word prefix asker) = CastFrom (next_cast before) word (length prefix) asker ∷ []
announced before other = []
