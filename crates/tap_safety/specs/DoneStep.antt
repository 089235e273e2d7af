-- Done is taken at a joiner that isn't abandoned.
use Rattle.std.specs.Prelude.{◌≡◌, ℕ, ◌+◌, ◌<◌, List}
use Rattle.tap_name.specs.Settings.{SettingsValue}
use Rattle.tap_name.specs.Name.{IsName}
use Rattle.tap_name.specs.Prefix.{lcp}
use Rattle.tap_rule.specs.Node.{NodeState, level_kept, link_to}
use Rattle.tap_rule.specs.Node.Status.{Joining, Core}
use Rattle.tap_wire.specs.declared.frame.Frame.{Frame}
use Rattle.tap_wire.specs.declared.frame.Body.TheVariants.{Done}
use Rattle.tap_safety.specs.System.{System, IsCoreNode, IsJoiner, CoversAt, IsTold, HelloNames}
use Rattle.tap_safety.specs.Regions.{Pins, Has}
use Rattle.tap_safety.specs.Parts.{Covered, Meet, Cover, Low, HoleFree}
use Rattle.tap_safety.specs.Exchanges.{IsTaken, ChangesAt}

-- e was joining and is core
pub record TakesDone (s s' : System) (number : ℕ) (w e : List ℕ) : Type 0 where
  pub before : NodeState
  pub after : NodeState
  pub sent : List Frame
  pub taken : IsTaken s s' number (record { from = w; to = e; body = Done }) sent
  pub at : ChangesAt s s' e before after
  pub was : before.status ≡ Joining
  pub is : after.status ≡ Core
  pub links : (t : List ℕ) → link_to after t ≡ link_to before t
  pub covers : (b : List ℕ) → level_kept after.covers b ≡ level_kept before.covers b
  pub surrogate : (b : List ℕ) → s'.surrogate b ≡ s.surrogate b

-- the Tell of b on its way to x comes from a core node that covers b, at the level that it has for x
pub record IsSound (p : SettingsValue) (s : System) (b x : List ℕ) (level : ℕ) : Type 0 where
  pub from : List ℕ
  pub core : IsCoreNode s from
  pub cover : ℕ
  pub covers : CoversAt s from b cover
  pub level_is : level ≡ lcp from x + 1
  pub apart : lcp from x < p.digits

-- nothing of the joiner's own is under way
pub record NothingOnWay (s : System) (e : List ℕ) : Type 0 where
  pub joiner : IsJoiner s e
  pub tells : (x : List ℕ) (level : ℕ) → IsTold s e x level → ⊥
  pub hellos : (w x : List ℕ) → HelloNames s w e x → ⊥

-- what holds before
pub record BeforeDone (p : SettingsValue) (s : System) : Type 0 where
  pub core_names : (x : List ℕ) → IsCoreNode s x → IsName p x
  pub joiner_names : (x : List ℕ) → IsJoiner s x → IsName p x
  pub pinned : (x b : List ℕ) → IsJoiner s b → Has s x b → Pins s x b
  pub sound : (b x : List ℕ) (level : ℕ) → IsJoiner s b → IsTold s b x level → IsSound p s b x level
  pub covered : Covered p s
  pub meet : Meet s
  pub cover : Cover p s
  pub low : Low s
  pub hole_free : HoleFree p s

-- Done is taken at a joiner of whose own nothing is under way
pub record DoneIsTaken (p : SettingsValue) (s s' : System) : Type 0 where
  pub number : ℕ
  pub from : List ℕ
  pub to : List ℕ
  pub before : BeforeDone p s
  pub quiet : NothingOnWay s to
  pub step : TakesDone s s' number from to
