pub mod Log
pub mod Kinds
pub mod Asked
pub mod Frames
pub mod Counts
pub mod Reduced
pub mod MoreRecords
