pub mod OneMoreGroup
pub mod RecordChanges
pub mod Instants
pub mod Less
mod Acknowledging
pub mod Stepwise
pub mod Parts
pub mod Numbering
pub mod Telling
pub mod Ends
