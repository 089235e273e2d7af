pub mod SameWays
mod SequenceNumbers
mod NumbersInRows
pub mod KeptForms
mod MoreUnderWay
pub mod KeptPackets
pub mod RecordsCome
pub mod GroupsCome
pub mod ActedRecords
pub mod TakenOnce
pub mod StableWays
mod WaysOfBytes
mod NetMatching
mod InboxesMatching
pub mod AwaitsFrom
mod OutboxesMatching
pub mod BoxesBegin
pub mod BoxesByRecord
pub mod GatheredAwaits
pub mod OneRecord
mod LinesCounted
mod GroupsTell
mod StrandedFrames
mod MoveEffects
mod MeasureFalls
mod ClockTurns
pub mod RunsEnd
mod LostPacket
