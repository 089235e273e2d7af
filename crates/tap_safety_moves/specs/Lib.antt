pub mod Shallow
pub mod Sound
pub mod Ignored
pub mod SoundMoves
pub mod Consequences
pub mod Walks
pub mod Arrivals
