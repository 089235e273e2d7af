-- How many frames a lookup sends that starts at rest, if nothing else starts meanwhile.
use Rattle.std.specs.Prelude.{◌≡◌, ℕ, ◌+◌, ◌≤◌, List, [], ◌∷◌, length}
use Rattle.tap_name.specs.Settings.{SettingsValue}
use Rattle.tap_rule.specs.Event.Start.{Find}
use Rattle.tap_safety.specs.Move.{Move}
use Rattle.tap_safety.specs.Move.Move.{Begins, Delivers}
use Rattle.tap_safety.specs.System.{System}
use Rattle.tap_safety_moves.specs.SoundMoves.{may_run}
use Rattle.tap_safety_moves.specs.Sound.{Sound}
use Rattle.tap_bounds.specs.FewSent.{traffic_of}
use Rattle.tap_bounds.specs.Traffic.{no_traffic}

-- frames alone are delivered: nothing starts
abbrev pub AreDeliveries : List Move → Type 0
AreDeliveries [] = Unit {0}
AreDeliveries (Begins x start ∷ moves) = ⊥
AreDeliveries (Delivers number ∷ moves) = AreDeliveries moves

-- a lookup that starts while no frame is under way, and all that is delivered after it: at most one frame more is sent than names have
-- digits
abbrev pub LookupSendsFew : Type 0
LookupSendsFew = (p : SettingsValue) (s : System) (x object : List ℕ) (ticket : ℕ) (moves : List Move) → Sound p s → s.frames ≡ []
    → may_run p s (Begins x (Find ticket object) ∷ moves) → AreDeliveries moves
    → length (traffic_of p s no_traffic (Begins x (Find ticket object) ∷ moves)).sent ≤ p.digits + 1
