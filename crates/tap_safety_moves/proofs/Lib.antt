mod ShallowRules
mod Shallow
pub mod Members
mod Lost
mod LostWords
mod Together
mod Ignored
pub mod SoundMoves
pub mod Consequences
pub mod Delivered
pub mod Walks
mod Takers
mod FewLinked
mod NotStrange
mod Arrivals
