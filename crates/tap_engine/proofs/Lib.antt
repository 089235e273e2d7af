pub mod Indices
pub mod NamedSteps
pub mod Courses
pub mod AddedGroups
pub mod WorldLogs
pub mod WholeLogs
pub mod Endings
pub mod HeadlineOfWorld
pub mod StandingAlone
pub mod Addable
mod Deliveries
pub mod Keeping
mod Roots
mod SoundCourse
mod Taking
mod Starting
pub mod Leading
pub mod Counting
mod QuietGroups
mod Seeing
mod Damaging
mod Mapped
mod TurnRecords
pub mod NumberPlaces
