pub mod Coming
pub mod Played
pub mod Less
pub mod BegunSteps
pub mod Alike
pub mod OneLog
pub mod Choosing
pub mod Choices
pub mod CarriedComing
pub mod CarriedTurns
pub mod CarriedWhole
pub mod CarriedChoosing
mod CarriedMoves
mod CarriedTicks
pub mod CarriedReduction
pub mod CarriedRunMoves
pub mod CarriedGrowth
pub mod CarriedAlike
pub mod SameGroups
pub mod Uncarried
pub mod UncarriedLogs
pub mod CarriedOneLog
pub mod Runs
