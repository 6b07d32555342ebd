pub mod Association
pub mod Deeds
pub mod Telling
