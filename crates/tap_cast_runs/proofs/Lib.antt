mod Casts
mod Plain
mod ToldOnce
mod Once
mod CastsBegun
mod Said
pub mod ReachAll
pub mod Sessions
mod Aside
mod Spread
mod Asks
mod AnswersGrow
mod WatchesKept
mod Chains
mod Runs
mod Full
mod Joining
mod Follow
mod HeldSteps
mod HeldMoves
mod HeldAnew
mod Becomes
pub mod ChainsTold
pub mod Clause
mod HandedOn
