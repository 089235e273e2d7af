mod Cyclic
mod Nearest
mod Paths
pub mod Entering
mod CoreLinks
mod Standing
pub mod HoleFreePaths
mod AtRest
mod RestTables
mod Least
mod NextHops
pub mod Chains
mod SettledAtRest
mod HoleFreeLinks
mod EmptyLevels
