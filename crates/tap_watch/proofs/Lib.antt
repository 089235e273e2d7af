mod Order
pub mod Levels
pub mod Watches
