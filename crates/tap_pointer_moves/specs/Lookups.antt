-- Lookups that are under way: where their frames go.
use Rattle.std.specs.Prelude.{◌≡◌, ℕ, ◌<◌, List, Option}
use Rattle.tap_name.specs.Prefix.{lcp}
use Rattle.tap_name.specs.Settings.{SettingsValue}
use Rattle.tap_wire.specs.declared.frame.Body.TheVariants.{Answer, Find}
use Rattle.tap_safety.specs.AtRest.{AreMembers, system_at_rest}
use Rattle.tap_safety.specs.Move.{Move, may_move}
use Rattle.tap_safety.specs.Moved.{moved}
use Rattle.tap_safety.specs.System.{System, IsCoreNode, IsUnderWay}
use Rattle.tap_safety_moves.specs.Sound.{Sound}

-- a Find of this asker goes to a core node, which shares fewer digits with the asker than the level to which the Find has come; and the
-- asker is core
pub record IsFindDue (s : System) (to asker : List ℕ) (level : ℕ) : Type 0 where
  pub receiver : IsCoreNode s to
  pub asks : IsCoreNode s asker
  pub far : lcp to asker < level

-- so does each Find under way, and each Answer goes to a core node
pub record LookupsGoToCore (s : System) : Type 0 where
  pub finds : (from to : List ℕ) (ticket : ℕ) (object asker : List ℕ) (level : ℕ)
      → IsUnderWay s from to (Find ticket object asker level) → IsFindDue s to asker level
  pub answers : (from to : List ℕ) (ticket : ℕ) (server : Option (List ℕ)) → IsUnderWay s from to (Answer ticket server)
      → IsCoreNode s to

-- so it is with the members at rest
abbrev pub LookupsAtRest : Type 0
LookupsAtRest = (p : SettingsValue) (members : List (List ℕ)) → AreMembers p members → LookupsGoToCore (system_at_rest p members)

-- and after each possible move, if it was so before and the whole invariant of joins held
abbrev pub LookupsKept : Type 0
LookupsKept = (p : SettingsValue) (s : System) (move : Move) → may_move p s move → Sound p s → LookupsGoToCore s
    → LookupsGoToCore (moved p s move)

-- and then no Find comes back to its asker
abbrev pub NeverComesBack : Type 0
NeverComesBack = (p : SettingsValue) (s : System) (from to : List ℕ) (ticket : ℕ) (object asker : List ℕ) (level : ℕ) → Sound p s
    → LookupsGoToCore s → IsUnderWay s from to (Find ticket object asker level) → to ≡ asker → ⊥
