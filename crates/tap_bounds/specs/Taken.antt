-- Each frame that was sent was taken, or is under way.
use Rattle.std.specs.Prelude.{◌≡◌, ℕ, ◌+◌, ◌≤◌, Bool, List, count_by}
use Rattle.tap_name.specs.Settings.{SettingsValue}
use Rattle.tap_wire.specs.declared.frame.Frame.{Frame}
use Rattle.tap_safety.specs.AtRest.{AreMembers, system_at_rest}
use Rattle.tap_safety.specs.Move.{Move, may_move}
use Rattle.tap_safety.specs.Moved.{moved}
use Rattle.tap_safety.specs.System.{System}
use Rattle.tap_safety_moves.specs.SoundMoves.{after_moves, may_run}
use Rattle.tap_safety_moves.specs.Sound.{Sound}
use Rattle.tap_bounds.specs.Few.{FewAreSent, is_heard_from, is_hello_to}
use Rattle.tap_bounds.specs.FewSent.{traffic_of}
use Rattle.tap_bounds.specs.Traffic.{Traffic, no_traffic, traffic_after}

-- Of whichever frames one counts, as many were sent as were taken and are under way.
pub record AllAreKnown (s : System) (r : Traffic) : Type 0 where
  pub each : (counts : Frame → Bool)
      → count_by counts r.sent ≡ count_by counts r.taken + count_by (λ (f : ℕ × Frame). counts f.1) s.frames

-- So a name has sent at most as many Heards as Hellos were sent to it.
abbrev pub HeardsByHellos : Type 0
HeardsByHellos = (p : SettingsValue) (s : System) (r : Traffic) (b : List ℕ) → AllAreKnown s r → FewAreSent p s r
    → count_by (is_heard_from b) r.sent ≤ count_by (is_hello_to b) r.sent

-- the members with which an overlay begins have sent none
abbrev pub KnownAtRest : Type 0
KnownAtRest = (p : SettingsValue) (members : List (List ℕ)) → AreMembers p members → AllAreKnown (system_at_rest p members) no_traffic

-- each possible move keeps it, if the whole invariant holds before it
abbrev pub MoveKeepsKnown : Type 0
MoveKeepsKnown = (p : SettingsValue) (s : System) (r : Traffic) (move : Move) → may_move p s move → Sound p s → AllAreKnown s r
    → AllAreKnown (moved p s move) (traffic_after p s r move)

-- So it holds at each moment of each run from members at rest.
abbrev pub RunKnowsAll : Type 0
RunKnowsAll = (p : SettingsValue) (members : List (List ℕ)) (moves : List Move) → AreMembers p members
    → may_run p (system_at_rest p members) moves
    → AllAreKnown (after_moves p (system_at_rest p members) moves) (traffic_of p (system_at_rest p members) no_traffic moves)
