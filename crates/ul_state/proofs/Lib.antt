pub mod Lawful
pub mod Openings
pub mod Runs
pub mod Spaces
pub mod Handing
