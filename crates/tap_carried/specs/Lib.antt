pub mod LogTurns
pub mod ReducedLogs
pub mod EndedLogs
pub mod ReducedRuns
pub mod CarrierTurns
