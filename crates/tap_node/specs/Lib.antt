pub mod Node
pub mod Outcome
pub mod SeenNode
