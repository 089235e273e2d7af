-- The parts of the invariant that are about tables without holes.
use Rattle.std.specs.Prelude.{◌≡◌, ℕ, ◌<◌, ◌≤◌, List, ◌⊎◌}
use Rattle.tap_name.specs.Settings.{SettingsValue}
use Rattle.tap_name.specs.Prefix.{lcp}
use Rattle.tap_link.specs.declared.kind.Kind.{Kind}
use Rattle.tap_link.specs.declared.kind.Kind.TheVariants.{Settled}
use Rattle.tap_safety.specs.System.{System, IsCoreNode, IsJoiner, HasLink, CoversAt, IsTold, HelloNames}
use Rattle.tap_safety.specs.Regions.{surrogate_of, prefix_of, IsIn, Pins, Has, IsGiven, IsServed}

-- what is so if w covers the joiner b at a level
pub record CoverIs (p : SettingsValue) (s : System) (w b : List ℕ) (level : ℕ) : Type 0 where
  pub inside : IsIn s b w
  pub pin : Pins s w b
  pub from : prefix_of s b ≤ level
  pub to : level ≤ p.digits
  pub given : IsGiven s b w

-- Covered: each cover of a joiner by a core node is so; a joiner's surrogate is core and covers it at its prefix; and no joiner covers any.
pub record Covered (p : SettingsValue) (s : System) : Type 0 where
  pub each : (w b : List ℕ) (level : ℕ) → IsCoreNode s w → IsJoiner s b → CoversAt s w b level → CoverIs p s w b level
  pub surrogate : (b : List ℕ) → IsJoiner s b → IsCoreNode s (surrogate_of s b) × CoversAt s (surrogate_of s b) b (prefix_of s b)
  pub joiners : (x b : List ℕ) (level : ℕ) → IsJoiner s x → CoversAt s x b level → ⊥

-- y has x, or a Hello from w with x is on its way to y, or a Tell of x at a level above what w and y share
pub record IsMet (s : System) (w x y : List ℕ) : Type 0 where
  pub met : Has s y x ⊎ (HelloNames s w y x ⊎ ((level : ℕ) × IsTold s x y level × (lcp w y < level)))

-- w, in the regions of two joiners, covers b and pins e
pub record CoversAndPins (s : System) (w b e : List ℕ) : Type 0 where
  pub core : IsCoreNode s w
  pub joiner : IsJoiner s b
  pub other : IsJoiner s e
  pub apart : b ≡ e → ⊥
  pub in_first : IsIn s b w
  pub in_second : IsIn s e w
  pub level : ℕ
  pub covers : CoversAt s w b level
  pub pin : Pins s w e

-- Meet: whichever of the two is in the region of the other is made known there
pub record Meet (s : System) : Type 0 where
  pub first : (w b e : List ℕ) → CoversAndPins s w b e → IsIn s b e → IsMet s w b e
  pub second : (w b e : List ℕ) → CoversAndPins s w b e → IsIn s e b → IsMet s w e b

-- w covers the joiner b at a level, and e is another core node that shares as many digits with w
pub record IsClaim (p : SettingsValue) (s : System) (w b e : List ℕ) (level : ℕ) : Type 0 where
  pub core : IsCoreNode s w
  pub joiner : IsJoiner s b
  pub covers : CoversAt s w b level
  pub other : IsCoreNode s e
  pub reach : level ≤ lcp w e
  pub apart : lcp w e < p.digits

-- Cover: whom the cover of a joiner reaches is served of it, above the digits that the two share
pub record Cover (p : SettingsValue) (s : System) : Type 0 where
  pub served : (w b e : List ℕ) (level : ℕ) → IsClaim p s w b e level → IsServed s b e (lcp w e)

-- Low: a joiner is given the slot of each core node with which it shares at most its prefix
pub record Low (s : System) : Type 0 where
  pub given : (a b : List ℕ) → IsJoiner s a → IsCoreNode s b → lcp a b ≤ prefix_of s a → IsGiven s a b

-- x has a link of this kind to a core node of the slot of e
pub record HasNear (s : System) (x e : List ℕ) : Type 0 where
  pub to : List ℕ
  pub core : IsCoreNode s to
  pub near : lcp x e < lcp e to
  pub kind : Kind
  pub link : HasLink s x to kind

-- Hole-free: each core node has a link to a core node in the slot of each other one
pub record HoleFree (p : SettingsValue) (s : System) : Type 0 where
  pub filled : (x e : List ℕ) → IsCoreNode s x → IsCoreNode s e → lcp x e < p.digits → HasNear s x e

-- settled links: each is to a core node
pub record SettledCore (s : System) : Type 0 where
  pub settled : (x t : List ℕ) → HasLink s x t Settled → IsCoreNode s t
