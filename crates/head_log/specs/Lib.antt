pub mod Fault
pub mod Gates
pub mod Groups
pub mod Log
pub mod Reads
