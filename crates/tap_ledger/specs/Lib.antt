pub mod Woven
pub mod Ledger
pub mod Added
pub mod NameLists
pub mod Pairs
pub mod Flights
pub mod KeptLedger
pub mod Quiet
