-- A core node takes a Tell at a level below the one at which it covers the joiner, if it does.
use Rattle.std.specs.Prelude.{◌≡◌, ℕ, ◌+◌, ◌<◌, ◌≤◌, List, ◌⊎◌, None, Some, true}
use Rattle.tap_name.specs.Name.{IsName}
use Rattle.tap_name.specs.Prefix.{lcp}
use Rattle.tap_name.specs.Settings.{SettingsValue}
use Rattle.tap_name.specs.declared.slot.Slot.{Slot}
use Rattle.tap_link.specs.declared.kind.Kind.TheVariants.{Pin, Settled, Leaving as LeavingKind}
use Rattle.tap_rule.specs.Node.{NodeState, level_kept, link_to}
use Rattle.tap_wire.specs.declared.frame.Frame.{Frame}
use Rattle.tap_wire.specs.declared.frame.TellFields.{TellFields}
use Rattle.tap_safety.specs.Frames.{HelloFields, hello_body, tell_body}
use Rattle.tap_safety.specs.System.{System, AmongOffered, HasLink, IsCoreNode, IsJoiner}
use Rattle.tap_safety.specs.Regions.{IsIn, prefix_of}
use Rattle.tap_safety.specs.Parts.{Cover, Covered, HoleFree, SettledCore}
use Rattle.tap_safety.specs.Exchanges.{ChangesAt, IsSent, IsTaken}

-- x tells t of b, at the level that it has for t
pub record Tells (sent : List Frame) (x b t : List ℕ) : Type 0 where
  pub fields : TellFields
  pub watch : List Slot
  pub sends : IsSent sent x t (tell_body fields watch)
  pub joiner : fields.joiner ≡ b
  pub level : fields.level ≡ lcp x t + 1

-- the level of t is one that the cover now reaches, and didn't before
pub record IsNewlyCovered (before : NodeState) (x b : List ℕ) (level : ℕ) (t : List ℕ) : Type 0 where
  pub from : level ≤ lcp x t
  pub to : (kept : ℕ) → level_kept before.covers b ≡ Some kept → lcp x t < kept

-- x has greeted b: with a Hello of a core node, which offers all its pins
pub record Greets (before : NodeState) (sent : List Frame) (x b : List ℕ) : Type 0 where
  pub fields : HelloFields
  pub sends : IsSent sent x b (hello_body fields)
  pub is_core : fields.is_core ≡ true
  pub pins : (t : List ℕ) → link_to before t ≡ Some Pin → (t ≡ b → ⊥) → AmongOffered t fields.links

-- a primary of the slot of t is told
pub record TellsPrimary (before : NodeState) (sent : List Frame) (x b t : List ℕ) : Type 0 where
  pub primary : List ℕ
  pub settled : link_to before primary ≡ Some Settled
  pub near : lcp x t < lcp t primary
  pub tells : Tells sent x b primary

-- A core node x covers b anew, at a level below the one before, if there was one: of its links and covers those of b alone
-- change, and b is pinned. Each pin and each slot's primary of the levels that are newly reached is told. If the cover is the
-- first, each pin from the prefix on is told too, and b is greeted.
pub record CoversAnew (before after : NodeState) (sent : List Frame) (x b : List ℕ) (prefix level : ℕ) : Type 0 where
  pub anew : (kept : ℕ) → level_kept before.covers b ≡ Some kept → level < kept
  pub status : after.status ≡ before.status
  pub pinned : link_to after b ≡ Some Pin
  pub linked : (link_to before b ≡ None) ⊎ (link_to before b ≡ Some Pin)
  pub links : (t : List ℕ) → (t ≡ b) ⊎ (link_to after t ≡ link_to before t)
  pub covered : level_kept after.covers b ≡ Some level
  pub covers : (d : List ℕ) → (d ≡ b) ⊎ (level_kept after.covers d ≡ level_kept before.covers d)
  pub pins : (t : List ℕ) → link_to before t ≡ Some Pin → (t ≡ b → ⊥) → IsNewlyCovered before x b level t → Tells sent x b t
  pub primaries : (t : List ℕ) → link_to before t ≡ Some Settled → IsNewlyCovered before x b level t
      → TellsPrimary before sent x b t
  pub introduces : level_kept before.covers b ≡ None → (t : List ℕ) → link_to before t ≡ Some Pin → (t ≡ b → ⊥)
      → prefix ≤ lcp x t → Tells sent x b t
  pub greets : level_kept before.covers b ≡ None → Greets before sent x b

-- a core node x takes a Tell of b, at a level below the one at which it covers b, if it does
pub record TakesTell (s s' : System) (number : ℕ) (w x : List ℕ) (tell : TellFields) (watch : List Slot) : Type 0 where
  pub before : NodeState
  pub after : NodeState
  pub sent : List Frame
  pub taken : IsTaken s s' number (record { from = w; to = x; body = tell_body tell watch }) sent
  pub at : ChangesAt s s' x before after
  pub covers : CoversAnew before after sent x tell.joiner tell.prefix tell.level
  pub surrogate : (b : List ℕ) → s'.surrogate b ≡ s.surrogate b

-- a core node x takes a Tell of b, which it covers at that level or a lesser one: it changes no link and no cover
pub record TakesKnownTell (s s' : System) (number : ℕ) (w x : List ℕ) (tell : TellFields) (watch : List Slot) : Type 0 where
  pub before : NodeState
  pub after : NodeState
  pub sent : List Frame
  pub taken : IsTaken s s' number (record { from = w; to = x; body = tell_body tell watch }) sent
  pub at : ChangesAt s s' x before after
  pub status : after.status ≡ before.status
  pub links : (t : List ℕ) → link_to after t ≡ link_to before t
  pub covers : (d : List ℕ) → level_kept after.covers d ≡ level_kept before.covers d
  pub kept : ℕ
  pub covered : level_kept before.covers tell.joiner ≡ Some kept
  pub most : kept ≤ tell.level
  pub surrogate : (b : List ℕ) → s'.surrogate b ≡ s.surrogate b

-- what holds before the step, of those that the law needs
pub record BeforeTell (p : SettingsValue) (s : System) : Type 0 where
  pub names : (x : List ℕ) → IsCoreNode s x → IsName p x
  pub settled : SettledCore s
  pub unmarked : (x t : List ℕ) → HasLink s x t LeavingKind → ⊥
  pub covered : Covered p s
  pub hole_free : HoleFree p s
  pub cover : Cover p s

-- what is known of the Tell that is taken
pub record IsTellOf (p : SettingsValue) (s : System) (x b : List ℕ) (prefix level : ℕ) : Type 0 where
  pub core : IsCoreNode s x
  pub joiner : IsJoiner s b
  pub apart : lcp x b < p.digits
  pub inside : IsIn s b x
  pub prefix_is : prefix ≡ prefix_of s b
  pub above : prefix < level
  pub most : level ≤ p.digits

-- a Tell is taken anew at a core node
pub record TellIsTaken (p : SettingsValue) (s s' : System) : Type 0 where
  pub number : ℕ
  pub from : List ℕ
  pub to : List ℕ
  pub tell : TellFields
  pub watch : List Slot
  pub before : BeforeTell p s
  pub is : IsTellOf p s to tell.joiner tell.prefix tell.level
  pub step : TakesTell s s' number from to tell watch

-- a Tell is taken at a core node that covers its joiner so already
pub record KnownTellIsTaken (p : SettingsValue) (s s' : System) : Type 0 where
  pub number : ℕ
  pub from : List ℕ
  pub to : List ℕ
  pub tell : TellFields
  pub watch : List Slot
  pub before : BeforeTell p s
  pub is : IsTellOf p s to tell.joiner tell.prefix tell.level
  pub step : TakesKnownTell s s' number from to tell watch
