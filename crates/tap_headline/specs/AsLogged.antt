-- What a log and the system that it has come to say alike.
--
-- Rule: docs/FORMATS.md, "The course of a run".
use Rattle.std.specs.Prelude.{List}
use Rattle.tap_name.specs.Settings.{SettingsValue}
use Rattle.tap_log.specs.declared.record.Record.{Record}
use Rattle.tap_runs.specs.Course.{system_of}
use Rattle.tap_runs.specs.CourseLaws.{FramesAgree, NodesAgree}

-- the frames under way in the system are those that the log has as outstanding, in their order, each with the bytes that the log has of it
abbrev pub FramesAreAsLogged : SettingsValue → List Record → Type 0
FramesAreAsLogged p log = FramesAgree p log (system_of log)

-- the nodes of the system that are core, present, gone and joining are those that the log says, and so are those that were ever there, and who
-- departs
abbrev pub NodesAreAsLogged : SettingsValue → List Record → Type 0
NodesAreAsLogged p log = NodesAgree log (system_of log)
