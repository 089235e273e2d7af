pub mod Targets
pub mod Offer
pub mod Slots
pub mod Covers
