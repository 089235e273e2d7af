mod Picked
mod Links
pub mod Linked
mod Answering
mod ToldBySlot
mod Offering
pub mod KeptLevels
pub mod Telling
pub mod Offers
pub mod Regions
mod Unlinked
