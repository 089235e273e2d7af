-- Whom a cast will reach.
use Rattle.std.specs.Prelude.{◌≡◌, ◌⊎◌, ℕ, ◌<◌, ◌≤◌, true, List, Some}
use Rattle.tap_name.specs.Prefix.{lcp}
use Rattle.tap_cast.specs.Casts.{level_of_cast}
use Rattle.tap_wire.specs.declared.frame.Body.TheVariants.{Cast}
use Rattle.tap_rule.specs.Node.{NodeState}
use Rattle.tap_safety.specs.System.{System, IsCoreNode, IsUnderWay}
use Rattle.tap_cast_moves.specs.Remembered.{CastMemory, CastRun}

-- a Cast at a level above this one is on its way to e, or to a core node that shares as many digits with e
pub record IsCastDue (s : System) (cast : ℕ) (e : List ℕ) (above : ℕ) : Type 0 where
  pub from : List ℕ
  pub to : List ℕ
  pub level : ℕ
  pub session : ℕ
  pub depth : ℕ
  pub word : List ℕ
  pub way : IsUnderWay s from to (Cast cast level session depth word)
  pub core : IsCoreNode s to
  pub higher : above < level
  pub shared : (to ≡ e) ⊎ (level ≤ lcp to e)

-- the cast has reached e, or will
abbrev pub IsCastServed : System → ℕ → CastRun → List ℕ → ℕ → Type 0
IsCastServed s cast run e above = (run.reached e ≡ true) ⊎ IsCastDue s cast e above

-- x keeps the cast at a level, and e is another name of its audience that shares as many digits with x
pub record IsCastClaim (s : System) (r : CastMemory) (x e : List ℕ) (cast level : ℕ) (run : CastRun) : Type 0 where
  pub state : NodeState
  pub is : s.node x ≡ Some state
  pub keeps : level_of_cast state.casts cast ≡ Some level
  pub started : r.cast cast ≡ Some run
  pub audience : run.audience e ≡ true
  pub apart : x ≡ e → ⊥
  pub reach : level ≤ lcp x e

-- Cast cover: such a name is reached, or a Cast that serves it is on its way, at a level above the digits that the two share.
pub record CastCover (s : System) (r : CastMemory) : Type 0 where
  pub served : (x e : List ℕ) (cast level : ℕ) (run : CastRun) → IsCastClaim s r x e cast level run
      → IsCastServed s cast run e (lcp x e)
