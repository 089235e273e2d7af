pub mod Names
pub mod Moved
pub mod KeptParts
pub mod UnderWay
mod KeepsAll
pub mod Calm
mod KeepsNear
pub mod TellKeeps
pub mod FrameKeeps
pub mod LinkKeeps
pub mod StartKeeps
mod CoverStep
pub mod CoverKept
mod MeetKept
mod KnownTell
mod TellLaws
mod DoneKept
mod DoneCover
mod DoneLaws
mod SeekLow
pub mod SeekLaws
pub mod Chains
mod Quiet
pub mod Exchange
mod Turns
pub mod SessionsKept
pub mod Said
pub mod SessionLaws
pub mod Apart
mod AwaitedKept
mod TiesKept
mod VersionsKept
pub mod TiesLaws
pub mod WordsKept
pub mod SoftKept
pub mod JoinsKept
pub mod JoinSteps
pub mod SeekingKept
pub mod FrameSeeking
pub mod PlacesKept
pub mod SoftSteps
mod DoneCalm
pub mod Exchanged
pub mod FrameWords
mod SeekFilled
mod TellFilled
mod RootSteps
pub mod SeatSoft
mod SeekOn
pub mod CountedKept
pub mod AtRest
pub mod FewSessions
pub mod Rest
pub mod Known
pub mod Peace
pub mod NoticesKept
pub mod CoverSeeking
mod FromInvariant
mod JoinSeeking
pub mod StepLaws
