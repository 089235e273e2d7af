pub mod Appending
mod Codes
pub mod ReadingSteps
mod Numbers
pub mod Pieces
mod Slots
mod Links
mod TakesParts
mod ShortBodies
mod LongBodies
mod ListBodies
mod Bodies
mod Lengths
pub mod Openings
mod RightHeads
pub mod Frames
mod Loops
