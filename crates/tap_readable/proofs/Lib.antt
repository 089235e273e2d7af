mod Typed
mod TypedRules
mod ReadableActs
mod ReadableMoves
mod Members
mod Own
pub mod ReadableCourses
mod RangeRules
mod RangeActs
mod RangeMoves
mod RangeRecords
pub mod RangeCourses
