mod Hearing
pub mod PointerRules
mod RisingStamps
mod Turns
mod Hops
mod ActsKeep
pub mod Wanted
pub mod PointersKept
pub mod Levels
mod Chains
pub mod Paths
pub mod Publications
pub mod Ever
pub mod LookupRules
pub mod LookupActs
pub mod LookupsKept
mod Held
pub mod LookupAnswers
mod Rest
pub mod Alone
mod Emptied
mod AsAtRest
pub mod Walks
pub mod NoServer
mod LookupFramesSent
pub mod LookupFrames
