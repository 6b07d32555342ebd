pub mod Causes
pub mod Ending
pub mod Lines
pub mod Notes
pub mod Serves
pub mod Tails
pub mod Unread
pub mod Verified
