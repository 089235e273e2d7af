-- names that are all different
pub use Rattle.tap_name.specs.Names.{AreDistinct}
