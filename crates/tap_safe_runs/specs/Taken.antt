-- What a run says of a frame that is taken.
--
-- Rule: docs/FORMATS.md, "The course of a run".
use Rattle.std.specs.Prelude.{◌≡◌, ℕ, false, List, ◌∷◌, Some}
use Rattle.tap_name.specs.Settings.{SettingsValue}
use Rattle.tap_wire.specs.declared.frame.Frame.{Frame}
use Rattle.tap_log.specs.declared.record.Record.{Record}
use Rattle.tap_log.specs.declared.record.Record.TheVariants.{Taken}
use Rattle.tap_log.specs.Counts.{sent_count}
use Rattle.tap_rule.specs.Act.{act}
use Rattle.tap_rule.specs.Event.Event.{Takes}
use Rattle.tap_rule.specs.Node.{NodeState}
use Rattle.tap_rule.specs.Strange.{is_strange}
use Rattle.tap_safety.specs.System.{System, AmongFrames}
use Rattle.tap_runs.specs.Acts.{acted_records}
use Rattle.tap_runs.specs.Beginning.{Beginning}
use Rattle.tap_runs.specs.Course.{Follows, system_of}
use Rattle.tap_safe_runs.specs.Safe.{IsRun}

-- The frame of this number is under way to a node, to which it isn't strange; and the node acts by its rule.
pub record IsReceived (p : SettingsValue) (log : List Record) (s : System) (number : ℕ) (items : List Record) : Type 0 where
  pub frame : Frame
  pub node : NodeState
  pub among : AmongFrames number frame s.frames
  pub receiver : s.node frame.to ≡ Some node
  pub fits : is_strange node frame ≡ false
  pub acts : items ≡ acted_records p (sent_count log) frame.to (act node (Takes frame))

-- so it is of each frame that is taken
abbrev pub FramesAreReceived : Type 0
FramesAreReceived = (b : Beginning) (log : List Record) (number : ℕ) (items : List Record) → IsRun b log
    → Follows b log (Taken number ∷ items) → IsReceived b.settings log (system_of log) number items
