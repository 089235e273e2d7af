pub mod Primaries
pub mod Requests
pub mod State
