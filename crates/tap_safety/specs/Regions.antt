-- The words of the invariant: regions, and who is given a slot, served or met.
use Rattle.std.specs.Prelude.{ℕ, ◌<◌, ◌≤◌, List, [], ◌⊎◌}
use Rattle.std.specs.Option.{unwrap_or}
use Rattle.tap_name.specs.Prefix.{lcp}
use Rattle.tap_link.specs.declared.kind.Kind.{Kind}
use Rattle.tap_link.specs.declared.kind.Kind.TheVariants.{Pin}
use Rattle.tap_safety.specs.System.{System, IsCoreNode, HasLink, IsTold, HelloNames}

-- the surrogate of a joiner that was started
abbrev pub surrogate_of : System → List ℕ → List ℕ
surrogate_of s b = unwrap_or (s.surrogate b) []

-- how many digits a joiner shares with its surrogate
abbrev pub prefix_of : System → List ℕ → ℕ
prefix_of s b = lcp (surrogate_of s b) b

-- x is in the region of the joiner b: it shares b's prefix
pub record IsIn (s : System) (b x : List ℕ) : Type 0 where
  pub reach : prefix_of s b ≤ lcp x b

-- x pins y
abbrev pub Pins : System → List ℕ → List ℕ → Type 0
Pins s x y = HasLink s x y Pin

-- x has y: its table has a link to y
pub record Has (s : System) (x y : List ℕ) : Type 0 where
  pub kind : Kind
  pub link : HasLink s x y kind

-- b knows y: it has y, or a Hello on its way to b names it
pub record Knows (s : System) (b y : List ℕ) : Type 0 where
  pub known : Has s b y ⊎ ((w : List ℕ) × HelloNames s w b y)

-- b is given the slot of e: it knows a core node of that slot
pub record IsGiven (s : System) (b e : List ℕ) : Type 0 where
  pub by : List ℕ
  pub core : IsCoreNode s by
  pub near : lcp b e < lcp e by
  pub knows : Knows s b by

-- a Tell of b is on its way to a core node that shares its level with e, and the level is above this one
pub record IsReached (s : System) (b e : List ℕ) (above : ℕ) : Type 0 where
  pub to : List ℕ
  pub level : ℕ
  pub told : IsTold s b to level
  pub core : IsCoreNode s to
  pub higher : above < level
  pub shared : level ≤ lcp to e

-- b and e have met: e pins b, and b is given the slot of e
pub record HaveMet (s : System) (b e : List ℕ) : Type 0 where
  pub pin : Pins s e b
  pub given : IsGiven s b e

-- e is served of b: the two have met, or a Tell of b above this level will reach e
abbrev pub IsServed : System → List ℕ → List ℕ → ℕ → Type 0
IsServed s b e above = HaveMet s b e ⊎ IsReached s b e above
