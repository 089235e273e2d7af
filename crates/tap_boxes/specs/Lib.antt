pub mod Boxes
pub mod Kept
pub mod Changes
