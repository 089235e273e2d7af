-- the laws of reading and writing
use Rattle.std.specs.Prelude.{◌≡◌, ℕ, ◌<◌, List, All, Ok}
use Rattle.tap_name.specs.Settings.{SettingsValue, AreWithinLimits}
use Rattle.tap_wire.specs.declared.frame.Frame.{Frame}
use Rattle.tap_wire.specs.Reading.{head_of_frame, head_of, frame_of}
use Rattle.tap_wire.specs.Spelling.{IsFrame, IsTyped, spelling}

-- what a frame's spelling is read as: that frame
abbrev pub ReadsBack : Type 0
ReadsBack = (p : SettingsValue) (frame : Frame) → AreWithinLimits p → IsFrame p frame → IsTyped frame.body
    → frame_of p (spelling p frame) ≡ Ok frame

-- what is read as a frame: its spelling, and the frame keeps the rules
abbrev pub SpelledSo : Type 0
SpelledSo =
    (p : SettingsValue) (frame : Frame) (bytes : List ℕ) → AreWithinLimits p → All (λ b. b < 256) bytes → frame_of p bytes ≡ Ok frame
    → (bytes ≡ spelling p frame) × IsFrame p frame × IsTyped frame.body

-- what the head of a frame's spelling is read as: the frame's kind, sender and receiver
abbrev pub HeadReadsBack : Type 0
HeadReadsBack = (p : SettingsValue) (frame : Frame) → AreWithinLimits p → IsFrame p frame
    → head_of p (spelling p frame) ≡ Ok (head_of_frame frame)
