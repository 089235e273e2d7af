mod LastRecord
mod Scripts
mod PrintedRecords
mod Groups
mod Printable
mod Starts
mod Departing
pub mod Ended
mod Memory
mod KeptByEnds
mod Stays
mod FewStay
pub mod Headline
mod HasInvariant
mod AsLogged
mod Openings
mod EachMoment
mod CarriedEnds
mod CarriedMoments
mod CarriedTaken
mod FewPackets
mod RootSets
mod RootSetLogs
mod CarriedHeadline
mod UncarriedHeadline
mod CarriedPrinted
pub mod Runs
