-- What the whole invariant says of a frame as it comes to its receiver, and of a system in which no frame is under way.
use Rattle.std.specs.Prelude.{◌≡◌, ℕ, false, List, [], Some}
use Rattle.tap_name.specs.Settings.{SettingsValue}
use Rattle.tap_session.specs.Session.{Session}
use Rattle.tap_wire.specs.declared.frame.Body.{Body}
use Rattle.tap_wire.specs.declared.frame.Frame.{Frame}
use Rattle.tap_rule.specs.Node.{NodeState, join_session_at}
use Rattle.tap_rule.specs.Strange.{is_strange}
use Rattle.tap_safety.specs.Rest.{Rest}
use Rattle.tap_safety.specs.System.{System, AmongFrames, IsUnderWay}
use Rattle.tap_safety_moves.specs.Sound.{Sound}

-- no frame is strange to its receiver
abbrev pub NoneIsStrange : Type 0
NoneIsStrange = (p : SettingsValue) (s : System) (number : ℕ) (frame : Frame) (node : NodeState) → Sound p s
    → AmongFrames number frame s.frames → s.node frame.to ≡ Some node → is_strange node frame ≡ false

-- an answer in a session comes to a node that keeps this session
abbrev pub AnswersHaveSession : (ℕ → Body) → Type 0
AnswersHaveSession body = (p : SettingsValue) (s : System) (from to : List ℕ) (session : ℕ) (node : NodeState) → Sound p s
    → IsUnderWay s from to (body session) → s.node to ≡ Some node → (kept : Session) × (join_session_at node session ≡ Some kept)

-- while no frame is under way nothing of joins and departures is left
abbrev pub NothingIsLeft : Type 0
NothingIsLeft = (p : SettingsValue) (s : System) → Sound p s → s.frames ≡ [] → Rest s
