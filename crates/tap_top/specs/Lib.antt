pub mod Limits
pub mod Status
pub mod FaultLine
pub mod Reading
pub mod Wanted
pub mod Ending
pub mod AskedLog
