pub mod Lists
pub mod Chunks
pub mod Frames
pub mod Outcomes
pub mod Writings
