-- How many frames a publication sends that starts at rest, if nothing else starts meanwhile.
use Rattle.std.specs.Prelude.{◌≡◌, ℕ, ◌≤◌, List, [], ◌∷◌, length}
use Rattle.tap_name.specs.Settings.{SettingsValue}
use Rattle.tap_rule.specs.Event.Start.{Publish}
use Rattle.tap_safety.specs.Move.{Move}
use Rattle.tap_safety.specs.Move.Move.{Begins}
use Rattle.tap_safety.specs.System.{System}
use Rattle.tap_safety_moves.specs.SoundMoves.{may_run}
use Rattle.tap_safety_moves.specs.Sound.{Sound}
use Rattle.tap_pointer_moves.specs.LaysTold.{PointersStand}
use Rattle.tap_bounds.specs.FewLookups.{AreDeliveries}
use Rattle.tap_bounds.specs.FewSent.{traffic_of}
use Rattle.tap_bounds.specs.Traffic.{no_traffic}

-- a publication that starts while no frame is under way, and all that is delivered after it: at most as many frames are sent as names have
-- digits
abbrev pub PublicationSendsFew : Type 0
PublicationSendsFew = (p : SettingsValue) (s : System) (x object : List ℕ) (moves : List Move) → Sound p s → PointersStand s → s.frames ≡ []
    → may_run p s (Begins x (Publish object) ∷ moves) → AreDeliveries moves
    → length (traffic_of p s no_traffic (Begins x (Publish object) ∷ moves)).sent ≤ p.digits
