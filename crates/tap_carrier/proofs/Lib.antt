mod ReadHeads
mod Remarking
mod LogPlaces
mod DataPackets
pub mod KeptCarrier
mod Putting
mod Beginnings
mod Carrying
mod Ticking
pub mod Refusing
