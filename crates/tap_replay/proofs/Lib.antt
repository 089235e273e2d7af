mod Choosing
mod Stepping
pub mod Running
mod Roots
mod Adding
mod Alike
mod Turning
pub mod Growing
mod Lawfulness
mod CarriedChoosing
mod CarriedGroups
mod CarriedSteps
mod CarriedRunning
mod CarriedTurning
mod CarriedFronts
mod CarriedLawfulness
mod CarriedAlike
pub mod ByCarrier
pub mod Left
