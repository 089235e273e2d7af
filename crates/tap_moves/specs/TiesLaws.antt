-- The laws of words: a Link that a node takes by its rule is one of which the laws of ties speak.
use Rattle.std.specs.Prelude.{◌≡◌, ◌⊎◌, ℕ, List, Some}
use Rattle.tap_pointer.specs.Reconcile.{AreLaid}
use Rattle.tap_wire.specs.declared.frame.Body.TheVariants.{Link}
use Rattle.tap_rule.specs.Node.{NodeState, name_of}
use Rattle.tap_safety.specs.Bookkeeping.{AreStamped}
use Rattle.tap_safety.specs.Ceased.{Ceased}
use Rattle.tap_safety.specs.Moved.{last_after}
use Rattle.tap_safety.specs.Remembered.{TieWord}
use Rattle.tap_safety.specs.Exchanges.{AreNumbered}
use Rattle.tap_safety.specs.System.{System}
use Rattle.tap_safety.specs.Ties.{TakesLink, TiesAreTold, Versions, hears_words}
use Rattle.tap_moves.specs.ByRule.{TakesByRule, taken_at}

-- the last words are remembered as the frames that a node has sent leave them
pub record RemembersWords (s s' : System) (node : NodeState) (from : List ℕ) (word : TieWord) : Type 0 where
  pub own : (t : List ℕ) → s'.last (name_of node) t
      ≡ last_after (taken_at node from (Link word.version word.on)).sent t (s.last (name_of node) t)
  pub others : (y t : List ℕ) → (y ≡ name_of node) ⊎ (s'.last y t ≡ s.last y t)

-- a Link at a node that hears words, and has its pairs laid as wanted
abbrev pub LinkIsMade : Type 0
LinkIsMade = (s s' : System) (number : ℕ) (node : NodeState) (from : List ℕ) (word : TieWord)
    → TakesByRule s s' number node from (Link word.version word.on) → RemembersWords s s' node from word → AreNumbered s → AreStamped s
    → hears_words (Some node.status) → AreLaid node.ties.table node.pointers → TakesLink s s' from (name_of node) word

-- the last words of links stand, and a Forget is to come wherever a pin is on a node that has ceased
pub record WordsStand (s : System) : Type 0 where
  pub ties : TiesAreTold s
  pub versions : Versions s
  pub ceased : Ceased s
