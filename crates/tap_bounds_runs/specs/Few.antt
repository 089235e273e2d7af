-- What is said of the frames of joins, in the words of the log of a run.
--
-- Rule: docs/FORMATS.md, "The course of a run".
use Rattle.std.specs.Prelude.{List}
use Rattle.tap_name.specs.Settings.{SettingsValue}
use Rattle.tap_log.specs.declared.record.Record.{Record}
use Rattle.tap_runs.specs.Course.{system_of}
use Rattle.tap_bounds.specs.Acks.{AcksAreFew}
use Rattle.tap_bounds.specs.Dones.{DonesAreFew}
use Rattle.tap_bounds.specs.Few.{FewAreSent}
use Rattle.tap_bounds.specs.Hellos.{HellosAreFew}
use Rattle.tap_bounds.specs.Taken.{AllAreKnown}
use Rattle.tap_bounds.specs.Tells.{TellsAreFew}
use Rattle.tap_bounds_runs.specs.Traffic.{TrafficAgrees, traffic_in}

-- The frames that were sent and taken are those that the log says were, and of whichever frames as many were sent as were taken and are
-- under way.
pub record FramesAreKnown (p : SettingsValue) (log : List Record) : Type 0 where
  pub agrees : TrafficAgrees p log (traffic_in log)
  pub all : AllAreKnown (system_of log) (traffic_in log)

-- Of these few are Seeks, Heards, Tells, Acks, Hellos and Dones: what is said of them of each joiner and of each two nodes holds.
pub record FramesAreFew (p : SettingsValue) (log : List Record) : Type 0 where
  pub few : FewAreSent p (system_of log) (traffic_in log)
  pub tells : TellsAreFew (system_of log) (traffic_in log)
  pub acks : AcksAreFew (system_of log) (traffic_in log)
  pub hellos : HellosAreFew (system_of log) (traffic_in log)
  pub dones : DonesAreFew (system_of log) (traffic_in log)
