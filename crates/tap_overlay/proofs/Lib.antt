mod AtRest
mod Delivered
mod Found
mod Joined
mod Nodes
pub mod Stepped
pub mod Systems
