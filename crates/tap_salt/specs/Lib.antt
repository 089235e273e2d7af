pub mod Salt
pub mod SaltLaws
