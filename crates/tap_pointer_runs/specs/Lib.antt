pub mod Paths
pub mod LookupAnswers
pub mod Alone
pub mod NoServer
pub mod AnsweredOnce
