-- The pins rule: how a pin of a node's table goes.
use Rattle.std.specs.Prelude.{◌≡◌, ◌⊎◌, List, ℕ, Some}
use Rattle.tap_name.specs.Settings.{SettingsValue}
use Rattle.tap_link.specs.declared.kind.Kind.TheVariants.{Pin}
use Rattle.tap_wire.specs.Spelling.{IsFrame}
use Rattle.tap_wire.specs.declared.frame.Body.TheVariants.{Forget, Release}
use Rattle.tap_rule.specs.Act.{act}
use Rattle.tap_rule.specs.Event.{Event}
use Rattle.tap_rule.specs.Event.Event.{Starts, Takes}
use Rattle.tap_rule.specs.KeptNode.{IsNode}
use Rattle.tap_rule.specs.Node.{NodeState, Status, link_to, settings_of}
use Rattle.tap_rule.specs.Node.Status.{Ceased, Gone}

-- the event is a word of t that ends a pin on it: its Release, or its Forget
abbrev pub FreesPin : List ℕ → Event → Type 0
FreesPin t (Takes frame) = (frame.from ≡ t) × ((frame.body ≡ Release) ⊎ (frame.body ≡ Forget))
FreesPin t (Starts start) = ⊥

-- a node with this status has ended: it is gone, or has ceased
abbrev pub IsEndedStatus : Status → Type 0
IsEndedStatus status = (status ≡ Gone) ⊎ (status ≡ Ceased)

-- a frame that a node takes has a spelling
abbrev pub IsSpelledEvent : SettingsValue → Event → Type 0
IsSpelledEvent p (Takes frame) = IsFrame p frame
IsSpelledEvent p (Starts start) = Unit {0}

-- Whatever a node takes or starts, be it strange or not, and whatever its status: a pin stays, but at a Release or a Forget of its own
-- target, and if the node ends.
abbrev pub PinsStay : Type 0
PinsStay = (node : NodeState) (event : Event) (t : List ℕ) → IsNode node → IsSpelledEvent (settings_of node) event
    → link_to node t ≡ Some Pin
    → (link_to (act node event).state t ≡ Some Pin) ⊎ (FreesPin t event ⊎ IsEndedStatus (act node event).state.status)
