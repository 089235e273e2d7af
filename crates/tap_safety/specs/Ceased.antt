-- Pins on nodes that join or have ceased: they have said so, or will be told to forget it.
use Rattle.std.specs.Prelude.{◌≡◌, ℕ, true, List, ◌⊎◌, Some}
use Rattle.tap_rule.specs.Node.Status.{Joining, Core, Ceased as CeasedStatus}
use Rattle.tap_wire.specs.declared.frame.Body.TheVariants.{Forget}
use Rattle.tap_safety.specs.Remembered.{TieWord}
use Rattle.tap_safety.specs.System.{System, IsUnderWay}
use Rattle.tap_safety.specs.Regions.{Pins}
use Rattle.tap_safety.specs.Ties.{IsOnWay, word_frame, register_of, status_of}

-- x is core or joining
abbrev pub CoreOrJoining : System → List ℕ → Type 0
CoreOrJoining s x = (status_of s x ≡ Some Core) ⊎ (status_of s x ≡ Some Joining)

-- a word of x that it has a link to n is on its way
pub record SaysSo (s : System) (x n : List ℕ) : Type 0 where
  pub word : TieWord
  pub on : word.on ≡ true
  pub way : IsOnWay s (word_frame x n word)

-- the register of n has x on
pub record IsRegistered (s : System) (x n : List ℕ) : Type 0 where
  pub word : TieWord
  pub on : word.on ≡ true
  pub is : register_of s n x ≡ Some word

-- Ceased: of a pin of a core or joining node on a joining node, the register or a word on its way says so; on a ceased node, such a word or
-- a Forget is on its way; and a Forget comes from a ceased node.
pub record Ceased (s : System) : Type 0 where
  pub joining : (x n : List ℕ) → CoreOrJoining s x → Pins s x n → status_of s n ≡ Some Joining → IsRegistered s x n ⊎ SaysSo s x n
  pub ceased : (x n : List ℕ) → CoreOrJoining s x → Pins s x n → status_of s n ≡ Some CeasedStatus
      → SaysSo s x n ⊎ IsUnderWay s n x Forget
  pub forgets : (n x : List ℕ) → IsUnderWay s n x Forget → status_of s n ≡ Some CeasedStatus
