mod Stable
mod ByReceiver
pub mod OneSent
pub mod Spellings
mod OfRule
pub mod Sending
pub mod Pairs
pub mod Lays
pub mod Parents
pub mod ReactionSteps
pub mod NumbersLeft
mod Finds
mod QuietStep
pub mod Followed
pub mod Ending
pub mod Rows
mod Counting
