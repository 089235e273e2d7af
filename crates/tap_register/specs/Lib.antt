pub mod Registers
pub mod Stamp
