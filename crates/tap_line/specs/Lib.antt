pub mod Line
pub mod Front
pub mod Hexadecimal
pub mod Kind
pub mod Fault
pub mod Refusal
pub mod Reading
pub mod Laws
