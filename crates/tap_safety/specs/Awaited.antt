-- What an open session awaits: each answer once, and no session that isn't there.
use Rattle.std.specs.Prelude.{◌≡◌, ℕ, List, [], ◌∷◌, Some}
use Rattle.tap_safety.specs.Remembered.{OpenSession, Token}
use Rattle.tap_safety.specs.Remembered.Token.{Child}
use Rattle.tap_safety.specs.System.{System}
use Rattle.tap_safety.specs.Sessions.{AmongTokens, Awaits, IsOpen}

-- these tokens differ from each other
abbrev pub AreApart : List Token → Type 0
AreApart [] = Unit
AreApart (token ∷ others) = (AmongTokens token others → ⊥) × AreApart others

-- the session of y with this number is open, and answers that of x with that one in the end
pub record IsChildOf (s : System) (y : List ℕ) (l : ℕ) (x : List ℕ) (k : ℕ) : Type 0 where
  pub child : OpenSession
  pub is : IsOpen s y l child
  pub parent : child.parent ≡ Some (x, k)

-- a session that is awaited is open, and answers the one that awaits it; and no session awaits one answer twice
pub record AreAwaitedOnce (s : System) : Type 0 where
  pub children : (x y : List ℕ) (k l : ℕ) → Awaits s x k (Child y l) → IsChildOf s y l x k
  pub apart : (x : List ℕ) (k : ℕ) (session : OpenSession) → IsOpen s x k session → AreApart session.awaits
