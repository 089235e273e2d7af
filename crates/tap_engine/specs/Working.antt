-- What the code of a world does between the steps of its nodes and the groups of its log.
--
-- Rule: docs/FORMATS.md, "The course of a run".
use Rattle.std.specs.Prelude.{◌≡◌, ◌≢◌, ℕ, ◌+◌, ◌≤◌, Bool, true, false, List, [], ◌∷◌, ◌++◌, length, slice_get, is_some, Some, Result, Ok, Err}
use Rattle.std.specs.Option.{option_map}
use Rattle.tap_name.specs.Name.{IsName}
use Rattle.tap_name.specs.Settings.{SettingsValue}
use Rattle.tap_name.specs.Word.{IsWord}
use Rattle.tap_scenario.specs.declared.step.Step.{Step}
use Rattle.tap_wire.specs.declared.fault.WireFault.{WireFault}
use Rattle.tap_wire.specs.declared.frame.Frame.{Frame}
use Rattle.tap_log.specs.declared.record.Record.{Record}
use Rattle.tap_log.specs.declared.record.Record.TheVariants.{Spent}
use Rattle.tap_log.specs.Counts.{sent_count}
use Rattle.tap_history.specs.Flights.{bytes_at}
use Rattle.tap_history.specs.Moments.{outstanding}
use Rattle.tap_history.specs.Refusals.{damaged}
use Rattle.tap_history.specs.StepAsks.{flight_place}
use Rattle.tap_rule.specs.Node.{NodeState}
use Rattle.tap_rule.specs.Event.{Event, Start as Begun}
use Rattle.tap_rule.specs.Event.Event.{Starts, Takes}
use Rattle.tap_rule.specs.Act.{act}
use Rattle.tap_rule.specs.Strange.{is_strange}
use Rattle.tap_node.specs.declared.fault.NodeFault.TheVariants.{Wire}
use Rattle.tap_node.specs.declared.status.NodeStatus.{NodeStatus}
use Rattle.tap_node.specs.declared.status.NodeStatus.TheVariants as status
use Rattle.tap_node.specs.Node.{has_room_left, node_status, running}
use Rattle.tap_node.specs.declared.turn.Turn.{Turn}
use Rattle.tap_node_common.specs.declared.news.News.TheVariants.{Nothing}
use Rattle.tap_node.specs.Outcome.{turn_made}
use Rattle.tap_safety.specs.Moved.{numbered_frame, starter}
use Rattle.tap_runs.specs.Course.{system_of}
use Rattle.tap_runs.specs.Group.{start_at}
use Rattle.tap_runs.specs.Starts.{next_cast}
use Rattle.tap_ledger.specs.Added.{CanAdd, most_ledger_frames}
use Rattle.tap_overlay.specs.declared.fault.OverlayFault.{OverlayFault}
use Rattle.tap_overlay.specs.declared.fault.OverlayFault.TheVariants.{Node as NodeFaults}
use Rattle.tap_overlay.specs.declared.start.Start.{Start}
use Rattle.tap_overlay.specs.declared.start.Start.TheVariants.{Abandon, Publish, Withdraw, Find, Leave, Cast}
use Rattle.tap_overlay.specs.Overlay.{ChangesOnly, OverlayValue, node_at}
use Rattle.tap_overlay.specs.Start.{MayStart}
use Rattle.tap_engine.specs.declared.stop.Stop.{Stop}
use Rattle.tap_engine.specs.declared.stop.Stop.TheVariants.{NoMemory}
use Rattle.tap_engine.specs.declared.engine.Acted.{Acted}
use Rattle.tap_engine.specs.declared.engine.Engine.{Engine}
use Rattle.tap_engine.specs.Outcome.{WorldOutcome}
use Rattle.tap_engine.specs.Damaged.{copy_damaged}
use Rattle.tap_engine.specs.SeenTurns.{turn_records}
use Rattle.tap_engine.specs.declared.damage.Damage.{Damage}

-- The node of this name has acted by its rule, and its turn says so; every other node is as it was.
pub record HasActed (before after : OverlayValue) (name : List ℕ) (node : NodeState) (event : Event) (acted : Acted) : Type 0 where
  pub name_is : acted.name ≡ name
  pub turn_is : acted.turn ≡ turn_made node (act node event)
  pub changes : ChangesOnly before.nodes after.nodes name (running (act node event).state)
  pub settings : after.settings ≡ before.settings

-- the node of this name did so, by the answer of the nodes
abbrev pub IsActed : List ℕ → Result Turn OverlayFault → Acted → Type 0
IsActed name answer acted = (acted.name ≡ name) × (answer ≡ Ok acted.turn)

-- these nodes have the settings that those have, and each of those is still there
pub record StillHas (before after : OverlayValue) : Type 0 where
  pub settings : after.settings ≡ before.settings
  pub there : (name : List ℕ) → is_some (node_at before name) ≡ true → is_some (node_at after name) ≡ true

-- ---- groups

-- the records of a turn may be added after these, unless too many frames would then have been sent; and `Spent` may be
pub record CanAddTurn (engine : Engine) (first : List Record) (acted : Acted) : Type 0 where
  pub group : sent_count engine.ledger.records + length acted.turn.sent ≤ engine.frames
      → CanAdd engine.ledger.records (first ++ turn_records (sent_count engine.ledger.records) acted.name acted.turn)
  pub spent : CanAdd engine.ledger.records (Spent engine.frames ∷ [])
  pub counts : sent_count (first ++ turn_records (sent_count engine.ledger.records) acted.name acted.turn) ≡ length acted.turn.sent
  pub few : engine.frames ≤ most_ledger_frames

-- The answer and the log are those of the outcome, with room for three more records unless the world is to stop; or memory was refused,
-- when the log stays. All else stays.
pub record LogsAs (outcome : WorldOutcome) (before : Engine) (given : Result (Unit {0}) Stop) (after : Engine) : Type 0 where
  pub answer : given ≢ Err NoMemory → given ≡ outcome.answer
  pub log : given ≢ Err NoMemory → after.ledger.records ≡ outcome.log
  pub room : given ≡ Ok tt → 3 ≤ after.ledger.spare
  pub short : given ≡ Err NoMemory → after.ledger.records ≡ before.ledger.records
  pub same : after ≡ record before { ledger = after.ledger }

-- ---- starts

-- a node of this status joins, and is core
abbrev pub is_seen_joining : NodeStatus → Bool
is_seen_joining status.Joining = true
is_seen_joining status.Core = false
is_seen_joining status.Leaving = false
is_seen_joining status.Gone = false
is_seen_joining status.Ceased = false
is_seen_joining status.Ended = false

abbrev pub is_seen_core : NodeStatus → Bool
is_seen_core status.Joining = false
is_seen_core status.Core = true
is_seen_core status.Leaving = false
is_seen_core status.Gone = false
is_seen_core status.Ceased = false
is_seen_core status.Ended = false

-- a node of this status may start this
abbrev pub suits : NodeStatus → Start → Bool
suits seen Abandon = is_seen_joining seen
suits seen (Publish object) = is_seen_core seen
suits seen (Withdraw object) = is_seen_core seen
suits seen (Find ticket object) = is_seen_core seen
suits seen Leave = is_seen_core seen
suits seen (Cast cast level word) = is_seen_core seen

-- what is started is about names of the settings, and a cast is the next one after this log, of a word
abbrev pub IsNextStart : SettingsValue → List Record → Start → Type 0
IsNextStart p log Abandon = Unit {0}
IsNextStart p log (Publish object) = IsName p object
IsNextStart p log (Withdraw object) = IsName p object
IsNextStart p log (Find ticket object) = IsName p object
IsNextStart p log Leave = Unit {0}
IsNextStart p log (Cast cast level word) = (cast ≡ next_cast log) × (level ≤ p.digits) × IsWord word.now

-- the node is there, runs in this state, and has room for a step; and if it has the status that this wants, it may start it
pub record CanBegin (o : OverlayValue) (name : List ℕ) (start : Start) : Type 0 where
  pub node : NodeState
  pub there : node_at o name ≡ Some (running node)
  pub room : has_room_left (running node) ≡ true
  pub may : suits (node_status (running node)) start ≡ true → MayStart o.settings start (running node)

-- the node of this name has done nothing
abbrev pub nothing_by : List ℕ → Acted
nothing_by name = record { name = name; turn = record { sent = []; news = Nothing } }

-- the node of this name, which was there, has started this
pub record HasBegunOf (before after : OverlayValue) (name : List ℕ) (start : Begun) (acted : Acted) : Type 0 where
  pub node : NodeState
  pub was : node_at before name ≡ Some (running node)
  pub acts : HasActed before after name node (Starts start) acted

-- the node of an accepted start has started it; one that joins has come
pub record HasBegunAt (before after : Engine) (step : Step) (acted : Acted) : Type 0 where
  pub name : List ℕ
  pub start : Begun
  pub node : NodeState
  pub at : start_at before.ledger.records step ≡ Some (name, start)
  pub was : starter before.settings (system_of before.ledger.records) name start ≡ Some node
  pub acts : HasActed before.overlay after.overlay name node (Starts start) acted

-- ---- damaged copies

-- the step copies the frame at this place, and damages the copy so
pub record CopiesAt (step : Step) (copies : ℕ × Damage) : Type 0 where
  pub place : flight_place step ≡ Some copies.0
  pub copy : (log : List Record) → damaged log step ≡ option_map (λ bytes. copy_damaged bytes copies.1) (bytes_at log copies.0)

-- a node has answered that the bytes are no frame, for this cause
pub record IsWire (answer : OverlayFault) : Type 0 where
  pub fault : WireFault
  pub is : answer ≡ NodeFaults (Wire fault)

-- ---- frames

-- the receiver is there, the frame isn't strange to it, and it has taken it
pub record HasHeeded (before after : Engine) (frame : Frame) (acted : Acted) : Type 0 where
  pub node : NodeState
  pub was : (system_of before.ledger.records).node frame.to ≡ Some node
  pub fits : is_strange node frame ≡ false
  pub acts : HasActed before.overlay after.overlay frame.to node (Takes frame) acted

-- the frame at this place of those outstanding has been taken by its receiver
pub record HasTakenAt (before after : Engine) (place : ℕ) (acted : Acted) : Type 0 where
  pub number : ℕ
  pub frame : Frame
  pub at : slice_get (outstanding before.ledger.records) place ≡ Some number
  pub is : numbered_frame number (system_of before.ledger.records).frames ≡ Some frame
  pub heeded : HasHeeded before after frame acted
