pub mod Levels
pub mod Outstanding
pub mod KeptMarks
