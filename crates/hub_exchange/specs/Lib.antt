pub mod Fault
pub mod Lines
pub mod Onward
pub mod Putting
pub mod Rules
