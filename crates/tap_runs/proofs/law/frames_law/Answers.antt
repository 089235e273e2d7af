use Rattle.tap_runs.proofs.Frames.{course_frames_holds}
use Rattle.tap_runs.proofs.law.frames_law.Goals as goal

pub returns : goal.returns
returns c = course_frames_holds
