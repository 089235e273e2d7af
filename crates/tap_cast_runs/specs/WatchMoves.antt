-- What a cover hands on of a watch list: it strikes no slot but those of which it gives the joiner a core node.
use Rattle.std.specs.Prelude.{◌≡◌, ◌⊎◌, ℕ, true, false, List, Contains}
use Rattle.tap_name.specs.Name.{IsName}
use Rattle.tap_name.specs.Settings.{SettingsValue}
use Rattle.tap_name.specs.Slot.{Fits}
use Rattle.tap_name.specs.declared.slot.Slot.{Slot}
use Rattle.tap_join.specs.Seek.{sought}
use Rattle.tap_join.specs.declared.sought.Sought.TheVariants.{Surrogate}
use Rattle.tap_watch.specs.Level.{full_slots}
use Rattle.tap_watch.specs.Watch.{IsWatched}
use Rattle.tap_wire.specs.declared.frame.Body.TheVariants.{Seek}
use Rattle.tap_wire.specs.declared.frame.Frame.{Frame}
use Rattle.tap_wire.specs.declared.frame.TellFields.{TellFields}
use Rattle.tap_rule.specs.KeptNode.{IsNode}
use Rattle.tap_rule.specs.RuleLaws.{frame_to}
use Rattle.tap_rule.specs.Node.{NodeState, name_of, settings_of}
use Rattle.tap_rule.specs.Node.Status.{Core}
use Rattle.tap_rule.specs.Sent.{IsAmong}
use Rattle.tap_rule.specs.Strange.{is_strange}
use Rattle.tap_safety.specs.Frames.{HelloFields, hello_body, tell_body}
use Rattle.tap_safety.specs.Exchanges.{IsSent}
use Rattle.tap_moves.specs.ByRule.{taken_at}

-- a Hello from x names a core node that is by: x itself, or one that is offered as settled
abbrev pub NamesCore : HelloFields → List ℕ → List ℕ → Type 0
NamesCore hello x by = ((by ≡ x) × (hello.is_core ≡ true)) ⊎ IsAmong (record { name = by; settled = true }) hello.links

-- of this slot x gives b a core node, by a Hello
pub record GivesSlot (sent : List Frame) (x b : List ℕ) (slot : Slot) : Type 0 where
  pub by : List ℕ
  pub fits : Fits b by slot
  pub hello : HelloFields
  pub sends : IsSent sent x b (hello_body hello)
  pub named : NamesCore hello x by

-- each slot of this watch, of those that b may wait for, is in the watch of each Tell that x sends, or x gives b a core node of it
abbrev pub HandsWatchOn : SettingsValue → List Frame → List ℕ → List ℕ → ℕ → List Slot → Type 0
HandsWatchOn p sent x b prefix watch = (t : List ℕ) (tell : TellFields) (left : List Slot) → IsSent sent x t (tell_body tell left)
    → (slot : Slot) → IsWatched p b prefix slot → Contains watch slot → Contains left slot ⊎ GivesSlot sent x b slot

-- a Tell at a core node
abbrev pub TellHandsOn : Type 0
TellHandsOn = (node : NodeState) (from : List ℕ) (tell : TellFields) (watch : List Slot) → IsNode node
    → IsName (settings_of node) tell.joiner → node.status ≡ Core → is_strange node (frame_to node from (tell_body tell watch)) ≡ false
    → HandsWatchOn (settings_of node) (taken_at node from (tell_body tell watch)).sent (name_of node) tell.joiner tell.prefix watch

-- a Seek at the joiner's surrogate, with the full watch
abbrev pub SeekHandsOn : Type 0
SeekHandsOn = (node : NodeState) (from joiner : List ℕ) (prefix : ℕ) → IsNode node → IsName (settings_of node) joiner
    → node.status ≡ Core → is_strange node (frame_to node from (Seek joiner)) ≡ false → sought node.ties.table joiner ≡ Surrogate prefix
    → HandsWatchOn (settings_of node) (taken_at node from (Seek joiner)).sent (name_of node) joiner prefix
    (full_slots (settings_of node) joiner prefix)
