pub mod Agree
pub mod Elements
pub mod Roles
pub mod Commands
pub mod Statuses
pub mod Tags
pub mod Uids
pub mod Titles
