pub mod Fronts
mod NextGroups
mod Logs
mod Own
mod Tails
mod Carries
pub mod OwnScripts
mod Stops
pub mod Judging
