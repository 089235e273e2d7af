pub mod Shape
pub mod Text
pub mod Reader
pub mod Opening
pub mod Laws
