mod Levels
mod Pins
pub mod KeptLevels
pub mod Casting
mod Thinned
mod Ascending
