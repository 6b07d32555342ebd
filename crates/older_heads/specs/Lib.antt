pub mod Gates
pub mod Groups
pub mod Log
pub mod Renewing
