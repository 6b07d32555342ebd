pub mod Lists
pub mod Beginnings
pub mod Steps
pub mod Orders
pub mod Kept
pub mod Places
pub mod Premises
pub mod Takings
