pub mod Targets
pub mod Casts
