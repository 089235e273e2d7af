pub mod Value
pub mod Comes
pub mod Adds
pub mod Taking
