pub mod Law
pub mod Overlay
pub mod Start
pub mod Step
