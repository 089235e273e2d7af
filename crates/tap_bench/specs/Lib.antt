pub mod Settings
pub mod Settled
