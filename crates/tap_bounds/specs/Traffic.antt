-- What is remembered of the frames of a system: all that were sent, and all that were taken.
use Rattle.std.specs.Prelude.{List, [], ◌∷◌, ◌++◌, Option, None, Some}
use Rattle.tap_name.specs.Settings.{SettingsValue}
use Rattle.tap_wire.specs.declared.frame.Frame.{Frame}
use Rattle.tap_rule.specs.Act.{act}
use Rattle.tap_rule.specs.Event.{Start}
use Rattle.tap_rule.specs.Event.Event.{Starts, Takes}
use Rattle.tap_rule.specs.Node.{NodeState}
use Rattle.tap_safety.specs.Move.{Move}
use Rattle.tap_safety.specs.Move.Move.{Begins, Delivers}
use Rattle.tap_safety.specs.Moved.{numbered_frame, starter}
use Rattle.tap_safety.specs.System.{System}

-- the frames that were sent so far, and those that were taken, oldest first
pub record Traffic : Type 0 where
  pub sent : List Frame
  pub taken : List Frame

-- no frame was sent
abbrev pub no_traffic : Traffic
no_traffic = record { sent = []; taken = [] }

-- ---- the frames of a move

abbrev pub sent_at_start : Start → Option NodeState → List Frame
sent_at_start start None = []
sent_at_start start (Some node) = (act node (Starts start)).sent

abbrev pub sent_at_frame : Frame → Option NodeState → List Frame
sent_at_frame frame None = []
sent_at_frame frame (Some node) = (act node (Takes frame)).sent

abbrev pub sent_at_delivery : System → Option Frame → List Frame
sent_at_delivery s None = []
sent_at_delivery s (Some frame) = sent_at_frame frame (s.node frame.to)

-- the frames that a move sends
unfoldable pub sent_by : SettingsValue → System → Move → List Frame
sent_by p s (Begins x start) = sent_at_start start (starter p s x start)
sent_by p s (Delivers number) = sent_at_delivery s (numbered_frame number s.frames)

abbrev pub one_or_none : Option Frame → List Frame
one_or_none None = []
one_or_none (Some frame) = frame ∷ []

-- the frame that it takes, if it takes one
unfoldable pub frames_taken_by : System → Move → List Frame
frames_taken_by s (Begins x start) = []
frames_taken_by s (Delivers number) = one_or_none (numbered_frame number s.frames)

-- ---- what is remembered after a move

abbrev pub traffic_after : SettingsValue → System → Traffic → Move → Traffic
traffic_after p s r move = record { sent = r.sent ++ sent_by p s move; taken = r.taken ++ frames_taken_by s move }
