pub mod Buffering
pub mod Following
mod Reading
pub mod Writing
