-- What is so of the nodes of a run at each moment: they have the whole invariant, and each frame that was taken was received.
--
-- Rule: docs/FORMATS.md, "The course of a run".
use Rattle.std.specs.Prelude.{List, ◌∷◌}
use Rattle.tap_name.specs.Settings.{SettingsValue}
use Rattle.tap_log.specs.declared.record.Record.{Record}
use Rattle.tap_log.specs.declared.record.Record.TheVariants.{Taken}
use Rattle.tap_history.specs.Groups.{EachGroup}
use Rattle.tap_runs.specs.Course.{system_of}
use Rattle.tap_safety_moves.specs.Sound.{Sound}
use Rattle.tap_safe_runs.specs.Taken.{IsReceived}

-- the whole invariant holds of the system that the log has come to
abbrev pub HasInvariant : SettingsValue → List Record → Type 0
HasInvariant p log = Sound p (system_of log)

-- A frame that is taken is under way to a node, to which it isn't strange, and the node acts by its rule. Of other groups nothing is said.
unfoldable pub IsTakenRight : SettingsValue → List Record → List Record → Type 0
IsTakenRight p before (Taken number ∷ items) = IsReceived p before (system_of before) number items
IsTakenRight p before other = Unit {0}

-- so each frame is that the log has as taken
abbrev pub FramesAreReceivedIn : SettingsValue → List Record → Type 0
FramesAreReceivedIn p log = EachGroup (IsTakenRight p) log
