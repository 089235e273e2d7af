pub mod Replacement
pub mod Leaving
pub mod ToldLeave
pub mod Lending
