pub mod Watch
pub mod Level
