-- the faults of a head and of a body, as faults of the whole frame
use Rattle.tap_wire.specs.declared.fault.HeadFault.{HeadFault}
use Rattle.tap_wire.specs.declared.fault.HeadFault.TheVariants as head
use Rattle.tap_wire.specs.declared.fault.BodyFault.{BodyFault}
use Rattle.tap_wire.specs.declared.fault.BodyFault.TheVariants as body
use Rattle.tap_wire.specs.declared.fault.WireFault.{WireFault}
use Rattle.tap_wire.specs.declared.fault.WireFault.TheVariants.{Short, BadVersion, BadKind, BadLength, BadCount, Trailing, BadDigit, BadBody, NoMemory}

-- a fault of the head
abbrev pub fault_of_head : HeadFault → WireFault
fault_of_head (head.Short missing) = Short missing
fault_of_head (head.BadVersion version) = BadVersion version
fault_of_head (head.BadKind kind) = BadKind kind
fault_of_head (head.BadLength len) = BadLength len
fault_of_head (head.BadCount count) = BadCount count
fault_of_head (head.Trailing more) = Trailing more
fault_of_head (head.BadDigit at) = BadDigit at

-- a fault of the body: the place of its bad field
abbrev pub fault_of_body : BodyFault → WireFault
fault_of_body (body.Field broken) = BadBody broken.at
fault_of_body body.NoMemory = NoMemory
