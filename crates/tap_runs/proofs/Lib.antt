pub mod Within
pub mod CourseGrows
pub mod Frames
pub mod Status
pub mod Nodes
pub mod Departing
mod OneCourse
pub mod StepNames
