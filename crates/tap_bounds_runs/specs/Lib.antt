pub mod Traffic
pub mod Few
pub mod Joins
pub mod Enough
pub mod AtRest
