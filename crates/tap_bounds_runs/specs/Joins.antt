-- How many frames are sent in all, if nothing but joins is started.
--
-- Rule: docs/PROTOCOL.md, "Joining".
use Rattle.std.specs.Prelude.{◌≡◌, ℕ, ◌+◌, ◌*◌, ◌≤◌, Bool, not, ◌&&◌, List, [], length, filter, is_some, Option, None, Some}
use Rattle.std.specs.List.{filter_map}
use Rattle.tap_name.specs.Settings.{SettingsValue}
use Rattle.tap_scenario.specs.declared.step.Step.{Step}
use Rattle.tap_log.specs.Counts.{sent_count}
use Rattle.tap_log.specs.declared.record.Record.{Record}
use Rattle.tap_history.specs.Core.{accepted_steps}
use Rattle.tap_history.specs.Names.{join_count, name_count}
use Rattle.tap_history.specs.StepAsks.{is_start, join_name}
use Rattle.tap_rule.specs.Event.Start.{Join}
use Rattle.tap_safety.specs.AtRest.{AreMembers, system_at_rest}
use Rattle.tap_safety.specs.Move.{Move}
use Rattle.tap_safety.specs.Move.Move.{Begins}
use Rattle.tap_safety_moves.specs.SoundMoves.{may_run}
use Rattle.tap_bounds.specs.FewSent.{traffic_of}
use Rattle.tap_bounds.specs.Traffic.{no_traffic}
use Rattle.tap_bounds.specs.OfJoins.{JoinsAlone}

-- how many frames so many joins send at most, if there are so many names
abbrev pub most_of_joins : SettingsValue → ℕ → ℕ → ℕ
most_of_joins p joins names = joins * (16 * (names + 1) * (names + 1) + p.digits + 2)

-- ---- moves

-- the name that a move has join
abbrev pub joined_by : Move → Option (List ℕ)
joined_by (Begins x (Join via)) = Some x
joined_by other = None

-- the names that these moves have join
abbrev pub joined_in : List Move → List (List ℕ)
joined_in moves = filter_map joined_by moves

-- In a run from members at rest in which nothing but joins is started few frames are sent, by the number of joins, and by that of the names
-- of members and joins.
abbrev pub RunJoinsSendFew : Type 0
RunJoinsSendFew = (p : SettingsValue) (members : List (List ℕ)) (moves : List Move) → AreMembers p members
    → may_run p (system_at_rest p members) moves → JoinsAlone moves
    → length (traffic_of p (system_at_rest p members) no_traffic moves).sent
    ≤ most_of_joins p (length (joined_in moves)) (length members + length (joined_in moves))

-- ---- logs

-- the step starts something, and no join
abbrev pub is_other_start : Step → Bool
is_other_start step = is_start step && not (is_some (join_name step))

-- none of the steps that are accepted is a publication, a withdrawal, a lookup, a departure, an abandonment or a cast
abbrev pub AcceptsJoinsAlone : List Record → Type 0
AcceptsJoinsAlone log = filter is_other_start (accepted_steps log) ≡ []

-- such a log has few `Sent` records, by how many joins were accepted and how many names were ever present
abbrev pub JoinsSendFew : SettingsValue → List Record → Type 0
JoinsSendFew p log = AcceptsJoinsAlone log → sent_count log ≤ most_of_joins p (join_count log) (name_count log)
