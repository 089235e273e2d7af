-- Where pairs are laid: each at the next hop of the level at which it is held, to a core node.
use Rattle.std.specs.Prelude.{◌≡◌, ℕ, ◌+◌, List, Some}
use Rattle.tap_name.specs.Prefix.{lcp}
use Rattle.tap_name.specs.Settings.{SettingsValue}
use Rattle.tap_pointer.specs.declared.hop.Hop.{Hop}
use Rattle.tap_pointer.specs.declared.pair.Pair.{Pair}
use Rattle.tap_pointer.specs.Due.{laid_at, wanted_at}
use Rattle.tap_rule.specs.Node.{IsRunning, NodeState}
use Rattle.tap_safety.specs.System.{System, IsCoreNode}
use Rattle.tap_safety_moves.specs.Sound.{Sound}
use Rattle.tap_pointer_moves.specs.Said.{laid_of}
use Rattle.tap_pointer_moves.specs.LaysTold.{KnowNothing}

-- Wanted: a node that runs has laid each pair where it is wanted: at the next hop of the level at which it holds the pair. A pair that it
-- doesn't hold, or of which it is the root, it has laid nowhere.
pub record AreWanted (s : System) : Type 0 where
  pub wanted : (x : List ℕ) (node : NodeState) (pair : Pair) → s.node x ≡ Some node → IsRunning node.status
      → laid_at node.pointers pair ≡ wanted_at node.ties.table node.pointers pair

-- a hop of x is to a core node, with which it shares one digit less than the hop's level
pub record IsCoreHop (s : System) (x : List ℕ) (hop : Hop) : Type 0 where
  pub core : IsCoreNode s hop.to
  pub shared : lcp x hop.to + 1 ≡ hop.level

-- so it is if the whole invariant of joins holds
abbrev pub WantedHolds : Type 0
WantedHolds = (p : SettingsValue) (s : System) → Sound p s → AreWanted s

abbrev pub LaidAtCore : Type 0
LaidAtCore = (p : SettingsValue) (s : System) → Sound p s → KnowNothing s → (x : List ℕ) (pair : Pair) (hop : Hop)
    → laid_of s x pair ≡ Some hop → IsCoreHop s x hop
