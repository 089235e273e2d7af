pub mod Names
pub mod Outbox
pub mod OutboxKept
pub mod Inbox
pub mod InboxKept
pub mod Arrivals
pub mod Net
pub mod NetKept
