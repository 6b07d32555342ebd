pub mod State
pub mod Texts
pub mod Script
pub mod Output
pub mod Lines
pub mod Played
pub mod Simulation
