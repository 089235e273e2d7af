pub mod Command
pub mod Line
pub mod Room
pub mod Texts
pub mod Words
