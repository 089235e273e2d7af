pub mod Counting
mod PlainRules
mod Sent
mod SeekMoves
pub mod FewSent
mod OneWay
mod PairLays
pub mod Publications
pub mod Lookups
mod TellRules
mod TellSteps
pub mod TellMoves
mod HelloRules
mod Greeted
mod HelloSteps
pub mod HelloMoves
pub mod KnownTaken
mod AckRules
mod AckSteps
pub mod AckMoves
mod DoneRules
pub mod Dones
mod Depths
mod OpenRules
mod OpenSteps
mod OpenActs
mod Openings
mod JoinRules
pub mod Made
pub mod JoinsKept
pub mod OfJoins
mod Words
mod Links
mod LinkSteps
mod LinkMoves
mod Releases
mod ReleaseMoves
mod NamedFew
pub mod LinkRuns
