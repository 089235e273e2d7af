pub mod Limits
pub mod Status
pub mod Verdict
pub mod Comparing
pub mod Expected
pub mod Ending
