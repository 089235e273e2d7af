pub mod Gathering
mod Equality
pub mod MoreRecords
