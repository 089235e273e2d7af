pub mod Slots
mod SetChanges
mod Counted
mod WithPrimaries
mod DigitTaken
mod RowLists
pub mod Holders
pub mod Near
pub mod Found
mod Listed
pub mod KeptTable
pub mod LookUps
pub mod Sizes
pub mod Primaries
pub mod TiesKept
pub mod HoldersFound
pub mod Hops
pub mod Fitting
mod SettledOn
pub mod Holding
pub mod Least
mod LeastShared
pub mod AtRest
pub mod Held
pub mod Flat
pub mod ByName
pub mod OneAdded
pub mod Stepping
pub mod LinksByName
pub mod Targets
mod EmptyLevels
pub mod OffTies
pub mod NewLinks
