-- The whole invariant of a system.
use Rattle.std.specs.Prelude.{ℕ, List}
use Rattle.tap_name.specs.Settings.{SettingsValue}
use Rattle.tap_safety.specs.AtRest.{AreMembers, system_at_rest}
use Rattle.tap_safety.specs.FewSessions.{SessionsAreFew}
use Rattle.tap_safety.specs.Invariant.{Basis, Invariant}
use Rattle.tap_safety.specs.System.{System}
use Rattle.tap_moves.specs.KnownNames.{AreNodes}
use Rattle.tap_moves.specs.EndMoves.{HaveAskers}
use Rattle.tap_safety_moves.specs.Shallow.{AreShallow}

-- The basis of the invariant, which says all but that tables have no holes, with what stands beside it.
pub record SoundBasis (p : SettingsValue) (s : System) : Type 0 where
  pub basis : Basis p s
  pub nodes : AreNodes p s
  pub askers : HaveAskers s
  pub few : SessionsAreFew p s
  pub shallow : AreShallow s

-- The invariant of joins, links and departures; each node keeps what nodes keep, under its own name, and has its pairs laid as wanted; who
-- asks for a lookup or a copy of a cast can be answered; each node has few sessions of one joiner open; and copies of casts are no deeper
-- than their levels.
pub record Sound (p : SettingsValue) (s : System) : Type 0 where
  pub invariant : Invariant p s
  pub nodes : AreNodes p s
  pub askers : HaveAskers s
  pub few : SessionsAreFew p s
  pub shallow : AreShallow s

-- the members with which an overlay begins have it
abbrev pub SoundAtRest : Type 0
SoundAtRest = (p : SettingsValue) (members : List (List ℕ)) → AreMembers p members → Sound p (system_at_rest p members)
