-- Copies of a cast that are under way are no deeper than their levels.
use Rattle.std.specs.Prelude.{ℕ, ◌≤◌}
use Rattle.tap_wire.specs.declared.frame.Body.{Body}
use Rattle.tap_wire.specs.declared.frame.Body.TheVariants.{Cast}
use Rattle.tap_wire.specs.declared.frame.Frame.{Frame}
use Rattle.tap_safety.specs.System.{System, AmongFrames}

-- a body is no copy of a cast that is deeper than its level
abbrev pub IsShallow : Body → Type 0
IsShallow (Cast cast level session depth word) = depth ≤ level
IsShallow _ = Unit {0}

-- Each copy of a cast goes to a level above that of the copy from which it was made, and one deeper than it. So it is no deeper than its
-- level, which the digits bound; and so none comes to the greatest depth.
pub record AreShallow (s : System) : Type 0 where
  pub each : (number : ℕ) (frame : Frame) → AmongFrames number frame s.frames → IsShallow frame.body
