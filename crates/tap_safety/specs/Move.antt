-- What may happen next in a system, and on which conditions.
use Rattle.std.specs.Prelude.{◌≡◌, ℕ, ◌≤◌, false, List, [], None, Some}
use Rattle.tap_name.specs.Name.{IsName}
use Rattle.tap_name.specs.Settings.{SettingsValue}
use Rattle.tap_name.specs.Word.{IsWord}
use Rattle.tap_rule.specs.Node.{NodeState, level_of_cast}
use Rattle.tap_wire.specs.declared.frame.Frame.{Frame}
use Rattle.tap_rule.specs.Node.Status.{Joining, Core}
use Rattle.tap_rule.specs.Event.{Start}
use Rattle.tap_rule.specs.Event.Start.{Abandon, Cast, Find, Join, Leave, Publish, Withdraw}
use Rattle.tap_safety.specs.System.{System, AmongFrames, IsCoreNode}
use Rattle.tap_safety.specs.Seeking.{HasNode}
use Rattle.tap_safety.specs.Spelled.{AreAtMost}

-- a node starts something, or the frame of this number is taken
pub data Move : Type 0 where
  Begins : List ℕ → Start → Move
  Delivers : ℕ → Move

-- a new name may join, by a core node, while nobody departs, if one more name has room
pub record MayJoin (p : SettingsValue) (s : System) (x via : List ℕ) : Type 0 where
  pub name : IsName p x
  pub fresh : s.node x ≡ None
  pub room : AreAtMost s 255
  pub core : IsCoreNode s via
  pub none_departs : s.departing ≡ None

-- a joining node may give its join up, once
pub record MayGiveUp (s : System) (x : List ℕ) : Type 0 where
  pub state : NodeState
  pub is : s.node x ≡ Some state
  pub joining : state.status ≡ Joining
  pub goes_on : state.abandoned ≡ false

-- a core node may publish, withdraw, look up or cast, while nobody departs
pub record MayAct (s : System) (x : List ℕ) : Type 0 where
  pub state : NodeState
  pub is : s.node x ≡ Some state
  pub core : state.status ≡ Core
  pub none_departs : s.departing ≡ None

-- what it publishes, withdraws or looks up is a name
pub record MayActOn (p : SettingsValue) (s : System) (x object : List ℕ) : Type 0 where
  pub acts : MayAct s x
  pub name : IsName p object

-- what it casts is a word, to no more digits than names have, under a number of which it has met no cast
pub record MayCast (p : SettingsValue) (s : System) (x : List ℕ) (cast level : ℕ) (word : List ℕ) : Type 0 where
  pub acts : MayAct s x
  pub is_word : IsWord word
  pub within : level ≤ p.digits
  pub unmet : level_of_cast acts.state.casts cast ≡ None

-- it may leave if no frame is under way, and another node is core
pub record MayLeave (s : System) (x : List ℕ) : Type 0 where
  pub acts : MayAct s x
  pub rest : s.frames ≡ []
  pub other : List ℕ
  pub apart : other ≡ x → ⊥
  pub stays : IsCoreNode s other

abbrev pub may_start : SettingsValue → System → List ℕ → Start → Type 0
may_start p s x (Join via) = MayJoin p s x via
may_start p s x Abandon = MayGiveUp s x
may_start p s x Leave = MayLeave s x
may_start p s x (Publish object) = MayActOn p s x object
may_start p s x (Withdraw object) = MayActOn p s x object
may_start p s x (Find ticket object) = MayActOn p s x object
may_start p s x (Cast cast level word) = MayCast p s x cast level word

-- a frame of this number is under way, and its receiver is a node
pub record MayArrive (s : System) (number : ℕ) : Type 0 where
  pub frame : Frame
  pub among : AmongFrames number frame s.frames
  pub receiver : HasNode s frame.to

-- the move is possible
abbrev pub may_move : SettingsValue → System → Move → Type 0
may_move p s (Begins x start) = may_start p s x start
may_move p s (Delivers number) = MayArrive s number
