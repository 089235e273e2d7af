-- The law of the records of a turn.
use Rattle.std.specs.Prelude.{◌≡◌, ℕ, List}
use Rattle.tap_rule.specs.Event.{Acted}
use Rattle.tap_rule.specs.Node.{NodeState, settings_of}
use Rattle.tap_node.specs.Outcome.{turn_made}
use Rattle.tap_runs.specs.Acts.{acted_records}
use Rattle.tap_engine.specs.SeenTurns.{turn_records}

-- What the records of the turn of a node say is what a log says of what the node did.
abbrev pub TurnsAreTold : Type 0
TurnsAreTold = (node : NodeState) (acted : Acted) (number : ℕ) (name : List ℕ)
    → turn_records number name (turn_made node acted) ≡ acted_records (settings_of node) number name acted
