-- A Seek is taken at the joiner's surrogate: what its Hello names.
use Rattle.std.specs.Prelude.{◌≡◌, ℕ, ◌<◌, ◌≤◌, List, ◌⊎◌, Some, true}
use Rattle.tap_name.specs.Name.{IsName}
use Rattle.tap_name.specs.Prefix.{lcp}
use Rattle.tap_name.specs.Settings.{SettingsValue}
use Rattle.tap_link.specs.declared.kind.Kind.TheVariants.{Pin, Settled, Leaving as LeavingKind}
use Rattle.tap_rule.specs.Node.{NodeState, link_to}
use Rattle.tap_safety.specs.Frames.{HelloFields, hello_body}
use Rattle.tap_safety.specs.Seeking.{IsSeeker, IsUnknown}
use Rattle.tap_safety.specs.Exchanges.{ChangesAt, IsTaken}
use Rattle.tap_safety.specs.System.{System, CoversAt, IsCoreNode, HasLink, IsUnderWay, AmongOffered}
use Rattle.tap_safety.specs.TellStep.{CoversAnew}
use Rattle.tap_wire.specs.declared.frame.Body.TheVariants.{Seek}
use Rattle.tap_wire.specs.declared.frame.Frame.{Frame}
use Rattle.tap_safety.specs.Parts.{HoleFree, SettledCore}

-- a Hello offers a settled link of the slot of t
pub record OffersPrimary (before : NodeState) (hello : HelloFields) (x t : List ℕ) : Type 0 where
  pub primary : List ℕ
  pub settled : link_to before primary ≡ Some Settled
  pub near : lcp x t < lcp t primary
  pub offered : AmongOffered primary hello.links

-- x, the surrogate of b, has greeted it: with all its pins, and with the primary of each slot up to the prefix
pub record IsGreeted (p : SettingsValue) (s s' : System) (x b : List ℕ) : Type 0 where
  pub before : NodeState
  pub was : s.node x ≡ Some before
  pub hello : HelloFields
  pub way : IsUnderWay s' x b (hello_body hello)
  pub is_core : hello.is_core ≡ true
  pub pins : (t : List ℕ) → link_to before t ≡ Some Pin → (t ≡ b → ⊥) → AmongOffered t hello.links
  pub primaries : (t : List ℕ) → link_to before t ≡ Some Settled → lcp x t ≤ lcp x b → OffersPrimary before hello x t
  pub cores : (y : List ℕ) → IsCoreNode s y → IsCoreNode s' y
  pub apart : lcp x b < p.digits

-- what holds before
pub record BeforeSeek (p : SettingsValue) (s : System) : Type 0 where
  pub names : (y : List ℕ) → IsCoreNode s y → IsName p y
  pub settled : SettledCore s
  pub unmarked : (y t : List ℕ) → HasLink s y t LeavingKind → ⊥
  pub hole_free : HoleFree p s

-- b is a new joiner: the core node x is its surrogate, and has greeted it
pub record JoinerIsGreeted (p : SettingsValue) (s s' : System) (x b : List ℕ) : Type 0 where
  pub before : BeforeSeek p s
  pub core : IsCoreNode s x
  pub joins : IsCoreNode s b → ⊥
  pub greets : IsGreeted p s s' x b

-- x becomes the surrogate of b: it covers it anew from their common prefix on, and greets it
pub record SeatsJoiner (p : SettingsValue) (s s' : System) (number : ℕ) (w x b : List ℕ) : Type 0 where
  pub before : NodeState
  pub after : NodeState
  pub sent : List Frame
  pub taken : IsTaken s s' number (record { from = w; to = x; body = Seek b }) sent
  pub at : ChangesAt s s' x before after
  pub covers : CoversAnew before after sent x b (lcp x b) (lcp x b)
  pub greets : IsGreeted p s s' x b
  pub seated : s'.surrogate b ≡ Some x
  pub others : (d : List ℕ) → (d ≡ b) ⊎ (s'.surrogate d ≡ s.surrogate d)

-- what holds before: nothing names b, which covers nobody
pub record BeforeSeat (p : SettingsValue) (s : System) (x b : List ℕ) : Type 0 where
  pub names : (y : List ℕ) → IsCoreNode s y → IsName p y
  pub settled : SettledCore s
  pub unmarked : (y t : List ℕ) → HasLink s y t LeavingKind → ⊥
  pub core : IsCoreNode s x
  pub seeker : IsSeeker s b
  pub unknown : IsUnknown s b
  pub idle : (d : List ℕ) (level : ℕ) → CoversAt s b d level → ⊥
