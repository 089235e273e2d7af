mod Halves
pub mod Digests
mod Roots
pub mod SaltLaws
