pub mod SameTold
pub mod SameStarts
pub mod TurnGroups
pub mod TurnsKept
pub mod BeginningKept
pub mod SameNodes
mod SameRefusals
pub mod ReducedLogs
mod EndedLogs
pub mod PlainRecords
pub mod ReducedRuns
pub mod CarrierTurns
