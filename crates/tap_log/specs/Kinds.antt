-- What the beginning of a log and single records say.
use Rattle.std.specs.Prelude.{ℕ, Bool, true, false, not, List, [], ◌∷◌, Option, None, Some}
use Rattle.tap_scenario.specs.declared.step.Step.{Step}
use Rattle.tap_log.specs.declared.record.Pair.{Pair}
use Rattle.tap_log.specs.declared.record.Record.{Record}
use Rattle.tap_log.specs.declared.record.Record.TheVariants.{Begin, Step as StepRecord, Sent, Taken, Core, Gone, Published, Withdrawn, Refused, Spent, Abandoned, Carrier, Packet, Arrived, Ticked, Lost, Asked, CastFrom}

-- the members of a `Begin` record
unfoldable pub begin_members : Record → List (List ℕ)
begin_members (Begin settings frames members) = members
begin_members other = []

-- a log is carried if `Carrier` stands after `Begin`
unfoldable pub is_carried : List Record → Bool
is_carried (Begin settings frames members ∷ Carrier ∷ items) = true
is_carried other = false

-- the step of a `Step` record
abbrev pub step_of : Record → Option Step
step_of (StepRecord index step) = Some step
step_of other = None

-- A group, which is what one step or one delivery did, begins with this record. In a carried log a delivery begins with the
-- arrival of a packet.
unfoldable pub begins_group : Bool → Record → Bool
begins_group carried (StepRecord index step) = true
begins_group carried (Taken number) = not carried
begins_group carried (Arrived packet) = carried
begins_group carried Ticked = carried
begins_group carried other = false

-- The first record after a step accepts it: it belongs to the step's group, and is neither `Refused` nor `Spent`.
unfoldable pub accepts : Bool → Record → Bool
accepts carried (Refused index refusal) = false
accepts carried (Spent limit) = false
accepts carried next = not (begins_group carried next)

-- the number of the frame that is sent
unfoldable pub sent_number : Record → Option ℕ
sent_number (Sent number bytes) = Some number
sent_number other = None

-- the number of the frame that is taken
unfoldable pub taken_number : Record → Option ℕ
taken_number (Taken number) = Some number
taken_number other = None

-- the number of the packet that is made
unfoldable pub packet_number : Record → Option ℕ
packet_number (Packet number frame ack) = Some number
packet_number other = None

-- the frame that a packet carries or acknowledges
unfoldable pub packet_frame : Record → Option ℕ
packet_frame (Packet number frame ack) = Some frame
packet_frame other = None

-- the number of the packet that arrives
unfoldable pub arrived_number : Record → Option ℕ
arrived_number (Arrived packet) = Some packet
arrived_number other = None

-- the number of the packet that arrives or is lost
unfoldable pub ended_number : Record → Option ℕ
ended_number (Arrived packet) = Some packet
ended_number (Lost packet) = Some packet
ended_number other = None

-- the name of a node that becomes core
unfoldable pub core_name : Record → Option (List ℕ)
core_name (Core name) = Some name
core_name other = None

-- the name of a node that is gone
unfoldable pub gone_name : Record → Option (List ℕ)
gone_name (Gone name) = Some name
gone_name other = None

-- the name of a node that is to give up joining
unfoldable pub abandoned_name : Record → Option (List ℕ)
abandoned_name (Abandoned name) = Some name
abandoned_name other = None

-- the pair of an object and its server that is published
unfoldable pub published_pair : Record → Option Pair
published_pair (Published object server) = Some (record { object = object; server = server })
published_pair other = None

-- the pair of an object and its server that is withdrawn
unfoldable pub withdrawn_pair : Record → Option Pair
withdrawn_pair (Withdrawn object server) = Some (record { object = object; server = server })
withdrawn_pair other = None

-- the number of a lookup that is asked
unfoldable pub asked_ticket : Record → Option ℕ
asked_ticket (Asked ticket object asker) = Some ticket
asked_ticket other = None

-- the number of a cast that begins
unfoldable pub begun_cast : Record → Option ℕ
begun_cast (CastFrom cast word level name) = Some cast
begun_cast other = None
