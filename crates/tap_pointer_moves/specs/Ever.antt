-- Whatever is known of a pair, it was published once.
use Rattle.std.specs.Prelude.{◌≡◌, Bool, true, List, ℕ, Some}
use Rattle.tap_name.specs.Settings.{SettingsValue}
use Rattle.tap_pointer.specs.declared.hop.Hop.{Hop}
use Rattle.tap_pointer.specs.declared.pair.Pair.{Pair}
use Rattle.tap_pointer.specs.Pointers.{pair_of, state_of}
use Rattle.tap_rule.specs.Event.Start.{Publish}
use Rattle.tap_rule.specs.Node.{NodeState}
use Rattle.tap_safety.specs.AtRest.{AreMembers, system_at_rest}
use Rattle.tap_safety.specs.Move.{Move, may_move}
use Rattle.tap_safety.specs.Move.Move.{Begins}
use Rattle.tap_safety.specs.Moved.{moved}
use Rattle.tap_safety.specs.System.{System}
use Rattle.tap_safety.specs.Ties.{IsOnWay}
use Rattle.tap_safety_moves.specs.Sound.{Sound}
use Rattle.tap_pointer_moves.specs.Paths.{HoldsPair}
use Rattle.tap_pointer_moves.specs.Said.{LayWord, laid_of, lay_word_frame, pointer_register_of}
use Rattle.tap_pointer_moves.specs.LaysTold.{PointersStand}

-- Ever: of a pair that a node publishes, of which a register has a word, or of which a Lay is on its way, this was so
pub record AreOfPublished (was : Pair → Bool) (s : System) : Type 0 where
  pub published : (x : List ℕ) (node : NodeState) (pair : Pair) → s.node x ≡ Some node → (state_of node.pointers pair).published ≡ true
      → was pair ≡ true
  pub kept : (t x : List ℕ) (pair : Pair) (word : LayWord) → pointer_register_of s t pair x ≡ Some word → was pair ≡ true
  pub ways : (x t : List ℕ) (pair : Pair) (word : LayWord) → IsOnWay s (lay_word_frame x t pair word) → was pair ≡ true

-- so it is of the members at rest, of whatever pairs; and after each possible move, if it was so of a pair that is published with it
abbrev pub EverAtRest : Type 0
EverAtRest = (p : SettingsValue) (members : List (List ℕ)) (was : Pair → Bool) → AreMembers p members
    → AreOfPublished was (system_at_rest p members)

abbrev pub EverKept : Type 0
EverKept = (p : SettingsValue) (s : System) (move : Move) (was : Pair → Bool) → may_move p s move → Sound p s → PointersStand s
    → ((x object : List ℕ) → move ≡ Begins x (Publish object) → was (pair_of object x) ≡ true) → AreOfPublished was s
    → AreOfPublished was (moved p s move)

-- and then of each pair that is held or laid anywhere
abbrev pub HeldWasPublished : Type 0
HeldWasPublished = (s : System) (was : Pair → Bool) (x : List ℕ) (pair : Pair) → PointersStand s → AreOfPublished was s
    → HoldsPair s x pair → was pair ≡ true

abbrev pub LaidWasPublished : Type 0
LaidWasPublished = (p : SettingsValue) (s : System) (was : Pair → Bool) (x : List ℕ) (pair : Pair) (hop : Hop) → Sound p s → PointersStand s
    → AreOfPublished was s → laid_of s x pair ≡ Some hop → was pair ≡ true
