pub mod Actor
pub mod Host
pub mod Intake
pub mod Laws
pub mod Mail
pub mod Run
pub mod Status
pub mod Taking
