mod Printing
mod Feeds
mod Texts
mod Lines
mod Order
mod Distinct
mod Valid
mod Kept
mod Completes
mod Accepts
mod Taking
mod Accepted
pub mod Exact
pub mod Unique
mod Begins
mod Openings
