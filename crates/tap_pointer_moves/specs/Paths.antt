-- At rest pointers stand exactly on their paths.
use Rattle.std.specs.Prelude.{◌≡◌, ◌↔◌, true, List, [], ℕ, Some}
use Rattle.tap_name.specs.Names.{Among}
use Rattle.tap_name.specs.Settings.{SettingsValue}
use Rattle.tap_pointer.specs.declared.pair.Pair.{Pair}
use Rattle.tap_pointer.specs.Pointers.{is_held, state_of}
use Rattle.tap_surrogate.specs.Nodes.{core_links}
use Rattle.tap_surrogate.specs.Walk.{walk}
use Rattle.tap_runs.specs.Observed.{nodes_of}
use Rattle.tap_rule.specs.Node.{NodeState}
use Rattle.tap_safety.specs.System.{System}
use Rattle.tap_safety_moves.specs.Sound.{Sound}
use Rattle.tap_pointer_moves.specs.LaysTold.{PointersStand}

-- x holds a pair: it publishes the object as its server, or the register of a sender is on
pub record HoldsPair (s : System) (x : List ℕ) (pair : Pair) : Type 0 where
  pub state : NodeState
  pub is : s.node x ≡ Some state
  pub held : is_held (state_of state.pointers pair) ≡ true

-- the server of a pair publishes its object
pub record IsPublished (s : System) (pair : Pair) : Type 0 where
  pub state : NodeState
  pub is : s.node pair.server ≡ Some state
  pub published : (state_of state.pointers pair).published ≡ true

-- the path of a pair: the nodes of the walk of its object from its server
abbrev pub path_of : SettingsValue → System → Pair → List (List ℕ)
path_of p s pair = walk p.base (core_links (nodes_of s)) pair.server pair.object

-- while no frame is under way a node holds a pair exactly if the pair is published and the node is on its path
abbrev pub PointersOnPaths : Type 0
PointersOnPaths = (p : SettingsValue) (s : System) (x : List ℕ) (pair : Pair) → Sound p s → PointersStand s → s.frames ≡ []
    → HoldsPair s x pair ↔ (IsPublished s pair × Among x (path_of p s pair))
