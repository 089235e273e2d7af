pub mod GivenUp
mod There
mod Accepted
pub mod ToldCore
mod Distinct
mod Groups
pub mod Possible
pub mod Safe
pub mod Moments
mod Departed
mod Leavers
mod Printed
pub mod Received
pub mod Each
pub mod NeverAlone
pub mod Ended
pub mod SafeLogs
pub mod Lawful
pub mod Splits
pub mod GroupKinds
pub mod Starting
