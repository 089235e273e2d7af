pub mod Transitions
mod Entries
