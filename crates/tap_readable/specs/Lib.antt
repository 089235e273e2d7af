pub mod Readable
pub mod Range
pub mod Ranges
