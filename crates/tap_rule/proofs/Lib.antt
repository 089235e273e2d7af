pub mod Among
pub mod ByReceiver
pub mod CarriedOut
pub mod Completed
pub mod OneName
pub mod LinkSteps
pub mod AnswerSteps
pub mod JoinSteps
pub mod CoverSteps
pub mod KeptNode
pub mod EndSteps
pub mod QuietSteps
pub mod Laid
pub mod StartSteps
pub mod CastSteps
pub mod PointerSteps
mod CeasedSteps
pub mod Fit
mod HasRule
pub mod Said
mod Begins
pub mod Cases
pub mod EachRule
pub mod Named
pub mod EachAct
