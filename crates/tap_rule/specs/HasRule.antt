-- Which events have a rule, by the status of the node: the table of all rules, without what they say.
--
-- Rule: docs/PROTOCOL.md, "Steps of a node".
use Rattle.std.specs.Prelude.{◌≡◌, List, [], ◌∷◌}
use Rattle.std.specs.List.{Contains}
use Rattle.tap_wire.specs.declared.frame.Body.{Body}
use Rattle.tap_wire.specs.declared.kind.Kind.{Kind}
use Rattle.tap_wire.specs.declared.kind.Kind.TheVariants.{Seek, Tell, Hello, Heard, Ack, Done, Release, Link, Lay, Find, Answer, Leave, Left, Gone, Forget, Cast, CastAck}
use Rattle.tap_wire.specs.Kind.{kind_of}
use Rattle.tap_rule.specs.Node.{Status}
use Rattle.tap_rule.specs.Node.Status.{Joining, Core, Leaving, Ceased}
use Rattle.tap_rule.specs.Event.{Start}
use Rattle.tap_rule.specs.Event.Start.{Join, Abandon, Publish, Withdraw, Find as StartFind, Leave as StartLeave, Cast as StartCast}

-- who takes a frame of each kind; a node that is gone takes none
unfoldable pub taken_by : Kind → List Status
taken_by Seek = Core ∷ []
taken_by Tell = Joining ∷ Core ∷ Ceased ∷ []
taken_by Hello = Joining ∷ []
taken_by Heard = Joining ∷ Core ∷ Ceased ∷ []
taken_by Ack = Joining ∷ Core ∷ Ceased ∷ []
taken_by Done = Joining ∷ []
taken_by Release = Joining ∷ Core ∷ []
taken_by Link = Joining ∷ Core ∷ Leaving ∷ Ceased ∷ []
taken_by Lay = Core ∷ Leaving ∷ []
taken_by Find = Core ∷ Leaving ∷ []
taken_by Answer = Core ∷ Leaving ∷ []
taken_by Leave = Core ∷ []
taken_by Left = Leaving ∷ []
taken_by Gone = Core ∷ []
taken_by Forget = Joining ∷ Core ∷ []
taken_by Cast = Joining ∷ Core ∷ Ceased ∷ []
taken_by CastAck = Core ∷ []

-- who makes each start
unfoldable pub made_by : Start → Status
made_by (Join via) = Joining
made_by Abandon = Joining
made_by (Publish object) = Core
made_by (Withdraw object) = Core
made_by (StartFind ticket object) = Core
made_by StartLeave = Core
made_by (StartCast cast level word) = Core

-- at a node of this status there is a rule for such a frame, and for such a start
abbrev pub HasRule : Status → Body → Type 0
HasRule status body = Contains (taken_by (kind_of body)) status

abbrev pub HasStartRule : Status → Start → Type 0
HasStartRule status start = status ≡ made_by start
