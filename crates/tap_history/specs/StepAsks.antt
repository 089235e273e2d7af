-- What single steps of a scenario ask for.
use Rattle.std.specs.Prelude.{ℕ, Bool, true, false, List, Option, None, Some, is_some}
use Rattle.tap_scenario.specs.declared.step.Step.{Step}
use Rattle.tap_scenario.specs.declared.step.Step.TheVariants.{Join, Depart, Publish, Withdraw, Find, Walk, Table, Pointers, Deliver, Garble, Cut, Abandon, Lose, Repeat, RootSet, Cast}
use Rattle.tap_log.specs.declared.record.Pair.{Pair}

-- The node at which a start acts: the one that joins, departs, becomes a server or is one no more, asks, gives up joining or
-- casts. Another step has none.
unfoldable pub actor_of : Step → Option (List ℕ)
actor_of (Join name via) = Some name
actor_of (Depart name) = Some name
actor_of (Publish object server) = Some server
actor_of (Withdraw object server) = Some server
actor_of (Find object asker) = Some asker
actor_of (Abandon name) = Some name
actor_of (Cast word prefix asker) = Some asker
actor_of other = None

-- a start is a step that acts at a node
abbrev pub is_start : Step → Bool
is_start step = is_some (actor_of step)

-- The node that has to be there for the step: the one that a newcomer asks, and else the one that the step is put to.
unfoldable pub asked_node : Step → Option (List ℕ)
asked_node (Join name via) = Some via
asked_node (Depart name) = Some name
asked_node (Publish object server) = Some server
asked_node (Withdraw object server) = Some server
asked_node (Find object asker) = Some asker
asked_node (Walk object asker) = Some asker
asked_node (Table name) = Some name
asked_node (Pointers name) = Some name
asked_node (Abandon name) = Some name
asked_node (RootSet object asker) = Some asker
asked_node (Cast word prefix asker) = Some asker
asked_node other = None

-- a node that is joining can answer the step
unfoldable pub suits_joining : Step → Bool
suits_joining (Table name) = true
suits_joining (Pointers name) = true
suits_joining (Abandon name) = true
suits_joining other = false

-- the step can be run while a node departs
unfoldable pub suits_departure : Step → Bool
suits_departure (Join name via) = false
suits_departure (Depart name) = false
suits_departure (Publish object server) = false
suits_departure (Withdraw object server) = false
suits_departure (Find object asker) = false
suits_departure (Cast word prefix asker) = false
suits_departure other = true

-- the pair that a step has published
unfoldable pub publish_pair : Step → Option Pair
publish_pair (Publish object server) = Some (record { object = object; server = server })
publish_pair other = None

-- the pair that a step has withdrawn
unfoldable pub withdraw_pair : Step → Option Pair
withdraw_pair (Withdraw object server) = Some (record { object = object; server = server })
withdraw_pair other = None

-- the name of the node that a step has give up joining
unfoldable pub abandon_name : Step → Option (List ℕ)
abandon_name (Abandon name) = Some name
abandon_name other = None

-- the place, among the frames or packets, of the one that the step takes, copies, loses or repeats
unfoldable pub flight_place : Step → Option ℕ
flight_place (Deliver place) = Some place
flight_place (Garble place at byte) = Some place
flight_place (Cut place bytes) = Some place
flight_place (Lose place) = Some place
flight_place (Repeat place) = Some place
flight_place other = None

-- the name of the node that a step has join
unfoldable pub join_name : Step → Option (List ℕ)
join_name (Join name via) = Some name
join_name other = None

-- the name of the node that a step has depart
unfoldable pub depart_name : Step → Option (List ℕ)
depart_name (Depart name) = Some name
depart_name other = None
