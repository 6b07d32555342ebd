pub mod Faults
pub mod Inbox
pub mod Outbox
pub mod Sides
pub mod Steps
pub mod Turns
