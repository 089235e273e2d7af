pub mod Woven
mod Conditions
mod Less
pub mod Accepted
mod Published
mod Departing
mod Frames
mod Keeping
mod Keys
mod Uncarried
pub mod Adding
mod LedgerBegun
mod Asked
mod Staying
mod Sending
