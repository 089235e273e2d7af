mod Laid
mod Followed
mod Covers
mod Spreads
mod CastSteps
mod CoreSteps
mod Pins
mod Asked
