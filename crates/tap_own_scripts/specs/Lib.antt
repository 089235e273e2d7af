pub mod Own
pub mod OwnLaws
pub mod Stops
pub mod Judging
