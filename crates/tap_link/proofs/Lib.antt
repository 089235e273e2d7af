mod Present
mod Search
mod KeptLinks
pub mod Least
mod LookUps
mod Counts
pub mod Targets
pub mod TargetKinds
pub mod Valid
pub mod Sizes
pub mod Primaries
