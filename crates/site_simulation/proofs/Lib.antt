pub mod Told
pub mod Played
pub mod Lined
