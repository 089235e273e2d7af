pub mod Got
pub mod Nearness
pub mod CoverMade
mod Made
mod SeekMade
mod Counts
pub mod InSession
pub mod Exchanged
pub mod Plain
mod FramesMade
pub mod SessionsMade
mod AnswersMade
mod OutsideMade
mod LinkMade
pub mod MovesMade
mod WordsMade
mod SoftMade
mod StartsMade
pub mod InvariantMoves
pub mod SessionMoves
pub mod CountMoves
pub mod SeekGoesOn
pub mod CalmMoves
pub mod DeeperMoves
pub mod EndedMoves
pub mod Spelled
pub mod FewLinks
pub mod SpelledJoins
pub mod SpelledRules
pub mod PartsMade
mod CoverSent
mod CoverSound
mod CoverPeace
pub mod CoverMoves
mod Silent
mod Freed
mod LinkEnds
mod AsBefore
pub mod WordsAnew
pub mod WordMoves
mod Stamped
pub mod StampMoves
pub mod GivenUp
pub mod GivenUpWords
mod Starts
pub mod LeavesJoins
mod SentFor
pub mod JoinMoves
mod StartMoves
pub mod Depths
pub mod FewMoves
mod PinsRule
mod Receivers
mod RulesSend
mod StepSends
pub mod EndMoves
pub mod NoticeMoves
mod StartKinds
mod SoftStarts
mod SeekStarts
mod WordStarts
mod SessionStarts
mod PeaceStarts
pub mod WholeStarts
mod Alike
mod Aside
mod AsideMade
pub mod DepartingMoves
mod NobodyJoins
mod WordsKept
mod WordsSaid
mod GoneKept
mod LeaveMade
mod OneFrame
mod LeaveKept
mod LeftKept
mod HasLeft
mod StartKept
mod Holders
mod DepartureMoves
mod LeaveStarts
mod PartMoves
mod LeaveStamps
mod LeaveWords
pub mod AllParts
