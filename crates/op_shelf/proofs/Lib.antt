mod Back
mod Changes
mod Damages
mod Deletes
mod Digits
mod Groups
mod Keeps
pub mod Loads
mod Made
mod Migrated
mod Olders
mod Ops
mod Orders
mod Puts
mod Queries
mod Recordings
mod Schemas
mod Texts
mod Walks
pub mod Whys
