pub mod Fault
pub mod Notes
