pub mod Carrier
pub mod Kept
pub mod Sending
