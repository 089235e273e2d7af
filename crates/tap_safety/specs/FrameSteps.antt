-- The steps at one node that make no node core, start no joiner and change no cover.
use Rattle.std.specs.Prelude.{◌≡◌, ℕ, ◌<◌, true, if◌then◌else◌, List, [], ◌∷◌, ◌⊎◌, None, Some}
use Rattle.tap_name.specs.Prefix.{lcp}
use Rattle.tap_name.specs.declared.slot.Offered.{Offered}
use Rattle.tap_name.specs.declared.slot.Slot.{Slot}
use Rattle.tap_link.specs.declared.kind.Kind.{Kind}
use Rattle.tap_link.specs.declared.kind.Kind.TheVariants.{Pin, Settled}
use Rattle.tap_rule.specs.Node.{NodeState, level_kept, link_to}
use Rattle.tap_table.specs.declared.tie.Tie.{Tie}
use Rattle.tap_wire.specs.declared.frame.Body.TheVariants.{Ack, Forget, Heard, Release}
use Rattle.tap_wire.specs.declared.frame.Frame.{Frame}
use Rattle.tap_wire.specs.declared.frame.TellFields.{TellFields}
use Rattle.tap_rule.specs.Node.Status.{Joining, Ceased}
use Rattle.tap_rule.specs.Reaction.{Message, message}
use Rattle.tap_rule.specs.Sent.{AreSent}
use Rattle.tap_rule.specs.Hellos.{joining_hello}
use Rattle.tap_safety.specs.Frames.{HelloFields, hello_body, tell_body}
use Rattle.tap_safety.specs.Soft.{Offers}
use Rattle.tap_safety.specs.System.{System}
use Rattle.tap_safety.specs.Exchanges.{ChangesAt, HasSent, IsTaken}

-- the node stays what it is, and covers as before
pub record StaysSo (before after : NodeState) : Type 0 where
  pub status : after.status ≡ before.status
  pub covers : (d : List ℕ) → level_kept after.covers d ≡ level_kept before.covers d

-- a frame is taken by its receiver, which stays what it is, and sends words of links, messages, and Lays
pub record TakesFrame (s s' : System) (number : ℕ) (frame : Frame) : Type 0 where
  pub before : NodeState
  pub after : NodeState
  pub words : List Tie
  pub messages : List Message
  pub sent : List Frame
  pub are : AreSent frame.to words messages sent
  pub taken : IsTaken s s' number frame sent
  pub at : ChangesAt s s' frame.to before after
  pub stays : StaysSo before after
  pub surrogate : (b : List ℕ) → s'.surrogate b ≡ s.surrogate b

-- a node has the links that it had, and no other
abbrev pub LinksStay : NodeState → NodeState → Type 0
LinksStay before after = (t : List ℕ) → link_to after t ≡ link_to before t

-- a frame that is neither a Tell nor a Hello, and whose taker keeps its links: a Heard, an Ack, a Link, a Seek that is forwarded, and
-- those of pointers and casts
pub record TakesPlainly (s s' : System) (number : ℕ) (frame : Frame) : Type 0 where
  pub step : TakesFrame s s' number frame
  pub links : LinksStay step.before step.after
  pub no_tell : (tell : TellFields) (watch : List Slot) → frame.body ≡ tell_body tell watch → ⊥
  pub no_hello : (hello : HelloFields) → frame.body ≡ hello_body hello → ⊥

-- a Tell at a node that has ceased: its links stay
pub record TakesTellCeased (s s' : System) (number : ℕ) (w x : List ℕ) (tell : TellFields) (watch : List Slot) : Type 0 where
  pub step : TakesFrame s s' number (record { from = w; to = x; body = tell_body tell watch })
  pub ceased : step.before.status ≡ Ceased
  pub links : LinksStay step.before step.after
  pub answers : step.messages ≡ message w (Ack tell.session) ∷ []

-- a Tell at a joining node: it pins the joiner, if it has no link to it, and greets it or answers
pub record TakesTellJoining (s s' : System) (number : ℕ) (w x : List ℕ) (tell : TellFields) (watch : List Slot) : Type 0 where
  pub step : TakesFrame s s' number (record { from = w; to = x; body = tell_body tell watch })
  pub joining : step.before.status ≡ Joining
  pub linked : (link_to step.before tell.joiner ≡ None) ⊎ (link_to step.before tell.joiner ≡ Some Pin)
  pub pinned : link_to step.after tell.joiner ≡ Some Pin
  pub links : (t : List ℕ) → (t ≡ tell.joiner) ⊎ (link_to step.after t ≡ link_to step.before t)
  pub answers : (step.messages ≡ message w (Ack tell.session) ∷ [])
      ⊎ ((session : ℕ) × (step.messages ≡ message tell.joiner (joining_hello session) ∷ []))

-- the node has a settled link in the slot of t
pub record HasSettledNear (node : NodeState) (x t : List ℕ) : Type 0 where
  pub to : List ℕ
  pub settled : link_to node to ≡ Some Settled
  pub near : lcp x t < lcp t to

-- the kind of the link that a name of a Hello is taken as
abbrev pub kind_offered : Offered → Kind
kind_offered offered = if offered.settled then Settled else Pin

-- a link comes from a name of the Hello
pub record ComesFrom (w : List ℕ) (hello : HelloFields) (t : List ℕ) (kind : Kind) : Type 0 where
  pub offered : Offered
  pub offers : Offers w hello offered
  pub name : offered.name ≡ t
  pub kind_is : kind ≡ kind_offered offered

-- a Hello at a joining node: it keeps its links, and has each name that is offered but its own, or of one that is said to be core a settled
-- link in its slot; and each new link is one of these
pub record TakesHello (s s' : System) (number : ℕ) (w b : List ℕ) (hello : HelloFields) : Type 0 where
  pub step : TakesFrame s s' number (record { from = w; to = b; body = hello_body hello })
  pub joining : step.before.status ≡ Joining
  pub kept : (t : List ℕ) (kind : Kind) → link_to step.before t ≡ Some kind → link_to step.after t ≡ Some kind
  pub had : (offered : Offered) → Offers w hello offered → (offered.name ≡ b → ⊥)
      → ((kind : Kind) × (link_to step.after offered.name ≡ Some kind))
      ⊎ ((offered.settled ≡ true) × HasSettledNear step.after b offered.name)
  pub new : (t : List ℕ) (kind : Kind) → link_to step.after t ≡ Some kind → (link_to step.before t ≡ Some kind) ⊎ ComesFrom w hello t kind
  pub answers : step.messages ≡ message w (Heard hello.session) ∷ []

-- a Release at a core or joining node: a pin on the sender is settled, or dropped if its slot has a settled link
pub record TakesRelease (s s' : System) (number : ℕ) (t x : List ℕ) : Type 0 where
  pub step : TakesFrame s s' number (record { from = t; to = x; body = Release })
  pub others : (u : List ℕ) → (u ≡ t) ⊎ (link_to step.after u ≡ link_to step.before u)
  pub released : (link_to step.after t ≡ link_to step.before t)
      ⊎ ((link_to step.before t ≡ Some Pin)
      × ((link_to step.after t ≡ Some Settled) ⊎ ((link_to step.after t ≡ None) × HasSettledNear step.after x t)))
  pub silent : step.messages ≡ []

-- a Forget at a core or joining node: a pin on the sender goes
pub record TakesForget (s s' : System) (number : ℕ) (n x : List ℕ) : Type 0 where
  pub step : TakesFrame s s' number (record { from = n; to = x; body = Forget })
  pub others : (u : List ℕ) → (u ≡ n) ⊎ (link_to step.after u ≡ link_to step.before u)
  pub forgotten : (link_to step.after n ≡ link_to step.before n)
      ⊎ ((link_to step.before n ≡ Some Pin) × (link_to step.after n ≡ None))
  pub silent : step.messages ≡ []

-- A node starts something that leaves it what it is, with its links and covers: a publication, a lookup, a cast, or giving up.
pub record StartsPlainly (s s' : System) (x : List ℕ) : Type 0 where
  pub before : NodeState
  pub after : NodeState
  pub words : List Tie
  pub messages : List Message
  pub sent : List Frame
  pub are : AreSent x words messages sent
  pub has_sent : HasSent s s' sent
  pub at : ChangesAt s s' x before after
  pub stays : StaysSo before after
  pub links : LinksStay before after
  pub surrogate : (b : List ℕ) → s'.surrogate b ≡ s.surrogate b

-- A new name starts to join: it has no link, and covers nobody.
pub record StartsJoin (s s' : System) (x : List ℕ) : Type 0 where
  pub fresh : s.node x ≡ None
  pub unstarted : s.surrogate x ≡ None
  pub after : NodeState
  pub words : List Tie
  pub messages : List Message
  pub sent : List Frame
  pub are : AreSent x words messages sent
  pub has_sent : HasSent s s' sent
  pub is : s'.node x ≡ Some after
  pub others : (y : List ℕ) → (y ≡ x) ⊎ (s'.node y ≡ s.node y)
  pub joining : after.status ≡ Joining
  pub links : (t : List ℕ) → link_to after t ≡ None
  pub covers : (d : List ℕ) → level_kept after.covers d ≡ None
  pub surrogate : (b : List ℕ) → s'.surrogate b ≡ s.surrogate b
