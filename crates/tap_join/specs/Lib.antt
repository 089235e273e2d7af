pub mod Hello
pub mod Joining
pub mod Seek
pub mod Lending
