pub mod WildCards
pub mod Runs
pub mod Parts
pub mod Listed
