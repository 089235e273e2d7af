pub mod Session
pub mod Awaited
pub mod Sessions
