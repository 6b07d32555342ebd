pub mod Nodes
pub mod Sums
pub mod Ranges
pub mod Steps
pub mod Premise
pub mod Taking
