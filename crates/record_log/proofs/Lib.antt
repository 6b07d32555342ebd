pub mod Cutting
pub mod Keeping
pub mod Starting
pub mod Waiting
pub mod Walking
