pub mod Fault
pub mod Lasts
pub mod Log
