mod RunMoves
mod Agreeing
mod Few
mod Sums
mod NamedRuns
mod ByKind
mod Sum
mod Accepts
pub mod JoinLogs
mod JoinsBegun
mod Enough
mod Since
pub mod AtRest
pub mod CarriedEnough
