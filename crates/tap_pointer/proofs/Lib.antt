pub mod Due
pub mod Entries
pub mod Known
pub mod Laws
pub mod Layings
pub mod Beside
mod Least
pub mod Levels
pub mod Lookups
mod Lowest
pub mod NamesHeld
pub mod OnePair
mod Relaying
mod Telling
mod Ways
