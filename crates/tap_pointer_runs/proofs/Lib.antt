mod Pairs
mod Unpaired
mod ServersGrow
pub mod Runs
pub mod Unanswered
mod LookupsGrow
pub mod RunAnswers
mod Starting
pub mod Alone
mod Moments
mod Tickets
mod Failing
mod AtOnce
pub mod NoServer
pub mod Endings
mod LookupsCounted
pub mod AnsweredOnce
