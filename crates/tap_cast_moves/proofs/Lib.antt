mod Made
mod Turning
pub mod View
pub mod AsideRules
mod AsideKept
mod CastsQuiet
pub mod AsideMade
mod Noted
mod CastTurns
mod Targets
mod CastSent
mod CastPlaces
mod CastMade
mod CastTaken
mod AckTaken
mod StartTaken
mod CastKept
mod CastDelivered
mod AckDelivered
mod StartDelivered
pub mod SoundCasts
