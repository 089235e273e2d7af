pub mod Mixer
pub mod Draws
pub mod MadeNames
pub mod MadeSteps
pub mod Made
pub mod WellMade
