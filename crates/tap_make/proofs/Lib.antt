mod LoopLists
mod Naming
mod Scripted
mod Marked
pub mod Limits
