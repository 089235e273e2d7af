mod Above
pub mod Replacements
pub mod Departures
pub mod Notices
