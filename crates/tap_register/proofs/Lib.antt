pub mod Orderings
pub mod Lists
pub mod Places
mod Written
pub mod Applied
