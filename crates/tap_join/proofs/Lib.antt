pub mod Hellos
mod NewKinds
mod Greetings
mod Words
pub mod Seeking
pub mod TellsNew
