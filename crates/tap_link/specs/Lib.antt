pub mod Entry
pub mod SettledLink
pub mod Link
pub mod LinkSet
pub mod Places
